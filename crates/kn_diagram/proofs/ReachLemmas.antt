-- A walk that meets each node that is reached, once.
use Rattle.std.proofs.Common.{ℕ, zero, suc, ◌≡◌, ◌+◌, ◌<◌, ◌≤◌, ◌==◌, ◌⊎◌, inl, inr, Bool, true, false, if◌then◌else◌, List, [], ◌∷◌, ◌++◌, length, slice_get, slice_index, Some, None, All, nat_lt, nat_eq, refl, sym, ap, subst, ◌∙◌, arith, true≢false}
use Rattle.std.specs.List.{AllByRecursion, IsDistinct, list_any}
use Rattle.std.specs.Set.{is_member}
use Rattle.std.proofs.lemmas.List.{get_or_append_left, length-append}
use Rattle.std.proofs.lemmas.List.Folds.{list_any-append}
use Rattle.std.proofs.lemmas.Map.Steps.{length-le_from_distinct_below}
use Rattle.std.proofs.lemmas.Option.{slice_get_within, slice_get-get_or, get_or_from_slice_get}
use Rattle.std.proofs.lemmas.Grind.{get_or_default_zero}
use Rattle.std.proofs.lemmas.Bool.{eqb-true, eqb-false, eq-eqb, ne_eqb, cond-true, cond-false, or_cases, or_parts, or_left, or_right, cases_eq, cases_lt, cases_Bool, lt-ltb, le-ltb}
use Rattle.indexmap.specs.IndexSet.{insert_key}
use Rattle.kn_diagram.specs.Diagrams.{Table, IsNode, high_of, low_of, IsTable}
use Rattle.kn_diagram.specs.Widths.{reaches, of_depth, width_at}
use Rattle.kn_diagram.proofs.CountLemmas.{of_depth-width}
use Rattle.kn_diagram.proofs.WidthLemmas.{reaches-self, reaches-down, reaches-cases, reaches-through, by-high, by-low, older-high}

-- A list has grown at its end.
record Grown (old new : List ℕ) : Type 0 where
  keeps : (q : ℕ) → is_member nat_eq old q ≡ true → is_member nat_eq new q ≡ true
  same : (k : ℕ) → k < length old → slice_index new k ≡ slice_index old k
  longer : length old ≤ length new

Grown-along : (a b c : List ℕ) → Grown a b → Grown b c → Grown a c
Grown-along a b c g h = record {
  keeps = λ q m. h.keeps q (g.keeps q m);
  same = λ k l. h.same k (omega (arith, g.longer)) ∙ g.same k l;
  longer = omega (arith, g.longer, h.longer);
}

-- A node has joined a list, if it was not there.
record Inserts (old : List ℕ) (node : ℕ) (new : List ℕ) : Type 0 where
  grown : Grown old new
  has : is_member nat_eq new node ≡ true
  only : (q : ℕ) → is_member nat_eq new q ≡ true → (is_member nat_eq old q ≡ true) ⊎ (q ≡ node)
  distinct : IsDistinct nat_eq old → IsDistinct nat_eq new

apart-last : (x node : ℕ) (ns : List ℕ) → (x == node) ≡ false → AllByRecursion (λ y. nat_eq x y ≡ false) ns → AllByRecursion (λ y. nat_eq x y ≡ false) (ns ++ node ∷ [])
apart-last x node [] e a = (e, tt)
apart-last x node (y ∷ ns) e a = (a.0, apart-last x node ns e a.1)

pub distinct-last : (node : ℕ) (ns : List ℕ) → is_member nat_eq ns node ≡ false → IsDistinct nat_eq ns → IsDistinct nat_eq (ns ++ node ∷ [])
unfolding IsDistinct
distinct-last node [] m d = (tt, tt)
distinct-last node (x ∷ ns) m d =
    let p = or_parts (nat_eq node x) (list_any (nat_eq node) ns) m in
    (apart-last x node ns (ne_eqb x node (λ e. eqb-false node x p.0 (sym e))) d.0, distinct-last node ns p.1 d.1)

inserts : (old : List ℕ) (node : ℕ) → Inserts old node (insert_key nat_eq old node)
inserts old node = by (is_member nat_eq old node) refl
  where
    by : (b : Bool) → is_member nat_eq old node ≡ b → Inserts old node (if b then old else old ++ node ∷ [])
    by true e = record {
      grown = record { keeps = λ q m. m; same = λ k l. refl; longer = omega arith };
      has = e;
      only = λ q m. inl m;
      distinct = λ d. d;
    }
    by false e = record {
      grown = record {
        keeps = λ q m. list_any-append (nat_eq q) old (node ∷ []) ∙ or_left (list_any (nat_eq q) old) (list_any (nat_eq q) (node ∷ [])) m;
        same = λ k l. get_or_append_left old (node ∷ []) 0 k l;
        longer = omega (arith, length-append old (node ∷ []));
      };
      has = list_any-append (nat_eq node) old (node ∷ []) ∙ or_right (list_any (nat_eq node) old) (list_any (nat_eq node) (node ∷ [])) (or_left (nat_eq node node) false (eq-eqb node node refl));
      only = λ q m. which q (or_cases (list_any (nat_eq q) old) (list_any (nat_eq q) (node ∷ [])) (sym (list_any-append (nat_eq q) old (node ∷ [])) ∙ m));
      distinct = distinct-last node old e;
    }
      where
        last : (q : ℕ) → ((nat_eq q node ≡ true) ⊎ (false ≡ true)) → (is_member nat_eq old q ≡ true) ⊎ (q ≡ node)
        last q (inl s) = inr (eqb-true q node s)
        last q (inr s) = absurd (true≢false (sym s))

        which : (q : ℕ) → (list_any (nat_eq q) old ≡ true) ⊎ (list_any (nat_eq q) (node ∷ []) ≡ true) → (is_member nat_eq old q ≡ true) ⊎ (q ≡ node)
        which q (inl s) = inl s
        which q (inr s) = last q (or_cases (nat_eq q node) false s)

-- the nodes below this one are there, if it has any
abbrev pub HasBelow : Table → List ℕ → ℕ → Type 0
HasBelow d ns node = 2 ≤ node → (is_member nat_eq ns (high_of d node) ≡ true) × (is_member nat_eq ns (low_of d node) ≡ true)

-- The nodes that a walk has met, once those before a place have had their turn.
pub record Walk (d : Table) (from place : ℕ) (ns : List ℕ) : Type 0 where
  pub first : is_member nat_eq ns from ≡ true
  pub sound : (q : ℕ) → is_member nat_eq ns q ≡ true → reaches d from q ≡ true
  pub passed : (k : ℕ) → k < place → HasBelow d ns (slice_index ns k)
  pub within : place ≤ length ns
  pub distinct : IsDistinct nat_eq ns

pub walk-first : (d : Table) (from : ℕ) → IsTable d → IsNode d from → Walk d from 0 (insert_key nat_eq [] from)
unfolding IsDistinct
walk-first d from ok h = record {
  first = or_left (nat_eq from from) false (eq-eqb from from refl);
  sound = λ q m. by q (or_cases (nat_eq q from) false m);
  passed = λ k l. absurd (omega arith);
  within = omega arith;
  distinct = (tt, tt);
}
  where
    by : (q : ℕ) → ((nat_eq q from ≡ true) ⊎ (false ≡ true)) → reaches d from q ≡ true
    by q (inl s) = subst (λ x. reaches d from x ≡ true) (sym (eqb-true q from s)) (reaches-self d from ok h)
    by q (inr s) = absurd (true≢false (sym s))

-- what a list is once the nodes below a node have joined it
abbrev pub with_below : Table → List ℕ → ℕ → List ℕ
with_below d ns node = if nat_lt node 2 then ns else insert_key nat_eq (insert_key nat_eq ns (high_of d node)) (low_of d node)

member-place : (ns : List ℕ) (q : ℕ) → is_member nat_eq ns q ≡ true → (k : ℕ) × (k < length ns) × (slice_index ns k ≡ q)
member-place [] q m = absurd (true≢false (sym m))
member-place (n ∷ ns) q m = by (or_cases (nat_eq q n) (list_any (nat_eq q) ns) m) (member-place ns q)
  where
    by : (nat_eq q n ≡ true) ⊎ (list_any (nat_eq q) ns ≡ true) → (is_member nat_eq ns q ≡ true → (k : ℕ) × (k < length ns) × (slice_index ns k ≡ q))
        → (k : ℕ) × (k < length (n ∷ ns)) × (slice_index (n ∷ ns) k ≡ q)
    by (inl s) rest = (0, omega arith, sym (eqb-true q n s))
    by (inr s) rest = next (rest s)
      where
        next : (k : ℕ) × (k < length ns) × (slice_index ns k ≡ q) → (k : ℕ) × (k < length (n ∷ ns)) × (slice_index (n ∷ ns) k ≡ q)
        next (k, l, e) = (suc k, omega arith, e)

pub place-member : (ns : List ℕ) (k : ℕ) → k < length ns → is_member nat_eq ns (slice_index ns k) ≡ true
place-member [] k l = absurd (omega arith)
place-member (n ∷ ns) zero l = or_left (nat_eq n n) (list_any (nat_eq n) ns) (eq-eqb n n refl)
place-member (n ∷ ns) (suc k) l =
    or_right (nat_eq (slice_index ns k) n) (list_any (nat_eq (slice_index ns k)) ns) (place-member ns k (omega arith))

-- each node that was met is a node
pub walk-there : (d : Table) (from place node : ℕ) (ns : List ℕ) → IsTable d → IsNode d from → Walk d from place ns → Some node ≡ slice_get ns place → IsNode d node
walk-there d from place node ns ok h w e =
    let l = slice_get_within ns place node (sym e) in
    let at : slice_index ns place ≡ node = get_or_from_slice_get ns place node 0 (sym e) in
    omega (arith, reaches-down d from node ok h (w.sound node (ap (is_member nat_eq ns) (sym at) ∙ place-member ns place l)))

-- one node more has had its turn
pub walk-step : (d : Table) (from place node : ℕ) (ns new : List ℕ) → IsTable d → IsNode d from → Walk d from place ns → Some node ≡ slice_get ns place → new ≡ with_below d ns node
    → Walk d from (place + 1) new
walk-step d from place node ns new ok h w e grown = subst (Walk d from (place + 1)) (sym grown) (by (cases_lt node 2))
  where
    l : place < length ns
    l = slice_get_within ns place node (sym e)

    at : slice_index ns place ≡ node
    at = get_or_from_slice_get ns place node 0 (sym e)

    self : reaches d from node ≡ true
    self = w.sound node (ap (is_member nat_eq ns) (sym at) ∙ place-member ns place l)

    stays : node < 2 → Walk d from (place + 1) ns
    stays low = record {
      first = w.first;
      sound = w.sound;
      passed = λ k a. past k a (cases_eq k place);
      within = omega (arith, l);
      distinct = w.distinct;
    }
      where
        past : (k : ℕ) → k < place + 1 → ((k ≡ place) ⊎ (k ≡ place → ⊥)) → HasBelow d ns (slice_index ns k)
        past k a (inl s) = λ two. let b : slice_index ns k ≡ node = ap (slice_index ns) s ∙ at in absurd (omega (arith, two))
        past k a (inr x) = w.passed k (omega arith)

    joins : 2 ≤ node → Walk d from (place + 1) (insert_key nat_eq (insert_key nat_eq ns (high_of d node)) (low_of d node))
    joins two = record {
      first = all.keeps from w.first;
      sound = λ q m. sound q (low.only q m);
      passed = λ k a. past k a (cases_eq k place);
      within = omega (arith, l, all.longer);
      distinct = low.distinct (high.distinct w.distinct);
    }
      where
        some : List ℕ
        some = insert_key nat_eq ns (high_of d node)

        new-ns : List ℕ
        new-ns = insert_key nat_eq some (low_of d node)

        high : Inserts ns (high_of d node) some
        high = inserts ns (high_of d node)

        low : Inserts some (low_of d node) new-ns
        low = inserts some (low_of d node)

        all : Grown ns new-ns
        all = Grown-along ns some new-ns high.grown low.grown

        there : IsNode d node
        there = omega (arith, reaches-down d from node ok h self)

        older : (high_of d node < node) × (low_of d node < node)
        older = older-high d node ok there two

        sound-high : (q : ℕ) → (is_member nat_eq ns q ≡ true) ⊎ (q ≡ high_of d node) → reaches d from q ≡ true
        sound-high q (inl m) = w.sound q m
        sound-high q (inr s) = subst (λ x. reaches d from x ≡ true) (sym s)
            (reaches-through d from node (high_of d node) ok h self (by-high d node (high_of d node) ok there two (reaches-self d (high_of d node) ok (omega (arith, older.0, there)))))

        sound : (q : ℕ) → (is_member nat_eq some q ≡ true) ⊎ (q ≡ low_of d node) → reaches d from q ≡ true
        sound q (inl m) = sound-high q (high.only q m)
        sound q (inr s) = subst (λ x. reaches d from x ≡ true) (sym s)
            (reaches-through d from node (low_of d node) ok h self (by-low d node (low_of d node) ok there two (reaches-self d (low_of d node) ok (omega (arith, older.1, there)))))

        past : (k : ℕ) → k < place + 1 → ((k ≡ place) ⊎ (k ≡ place → ⊥)) → HasBelow d new-ns (slice_index new-ns k)
        past k a (inl s) = subst (HasBelow d new-ns) (sym (all.same k (omega (arith, l)) ∙ ap (slice_index ns) s ∙ at)) (λ b. (low.grown.keeps (high_of d node) high.has, low.has))
        past k a (inr x) = subst (HasBelow d new-ns) (sym (all.same k (omega (arith, l))))
            (λ b. let p = w.passed k (omega arith) b in (all.keeps (high_of d (slice_index ns k)) p.0, all.keeps (low_of d (slice_index ns k)) p.1))

    by : ((node < 2) ⊎ (2 ≤ node)) → Walk d from (place + 1) (with_below d ns node)
    by (inl low) = subst (Walk d from (place + 1)) (sym (cond-true (nat_lt node 2) ns (insert_key nat_eq (insert_key nat_eq ns (high_of d node)) (low_of d node)) (lt-ltb node 2 low))) (stays low)
    by (inr two) = subst (Walk d from (place + 1)) (sym (cond-false (nat_lt node 2) ns (insert_key nat_eq (insert_key nat_eq ns (high_of d node)) (low_of d node)) (le-ltb node 2 two))) (joins two)

closed-below : (n : ℕ) (d : Table) (ns : List ℕ) (a q : ℕ) → IsTable d → ((m : ℕ) → is_member nat_eq ns m ≡ true → IsNode d m × HasBelow d ns m)
    → a < n → is_member nat_eq ns a ≡ true → reaches d a q ≡ true → is_member nat_eq ns q ≡ true
closed-below zero d ns a q ok closed less m r = absurd (omega arith)
closed-below (suc n) d ns a q ok closed less m r =
    by (reaches-cases d a q ok (closed a m).0 r) (λ x l k s. closed-below n d ns x q ok closed l k s)
  where
    by : (a ≡ q) ⊎ ((2 ≤ a) × ((reaches d (high_of d a) q ≡ true) ⊎ (reaches d (low_of d a) q ≡ true)))
        → ((x : ℕ) → x < n → is_member nat_eq ns x ≡ true → reaches d x q ≡ true → is_member nat_eq ns q ≡ true) → is_member nat_eq ns q ≡ true
    by (inl s) below = subst (λ x. is_member nat_eq ns x ≡ true) s m
    by (inr (two, inl s)) below = let o = older-high d a ok (closed a m).0 two in below (high_of d a) (omega (arith, o.0)) ((closed a m).1 two).0 s
    by (inr (two, inr s)) below = let o = older-high d a ok (closed a m).0 two in below (low_of d a) (omega (arith, o.1)) ((closed a m).1 two).1 s

-- once all have had their turn, what was met is what is reached
walk-last : (d : Table) (from place : ℕ) (ns : List ℕ) → IsTable d → IsNode d from → Walk d from place ns → length ns ≤ place
    → (q : ℕ) → is_member nat_eq ns q ≡ reaches d from q
walk-last d from place ns ok h w end q = by (cases_Bool (is_member nat_eq ns q)) (cases_Bool (reaches d from q))
  where
    closed : (m : ℕ) → is_member nat_eq ns m ≡ true → IsNode d m × HasBelow d ns m
    closed m has = (omega (arith, reaches-down d from m ok h (w.sound m has)), at (member-place ns m has))
      where
        at : (k : ℕ) × (k < length ns) × (slice_index ns k ≡ m) → HasBelow d ns m
        at (k, l, e) = subst (HasBelow d ns) e (w.passed k (omega arith))

    by : ((is_member nat_eq ns q ≡ true) ⊎ (is_member nat_eq ns q ≡ false)) → ((reaches d from q ≡ true) ⊎ (reaches d from q ≡ false)) → is_member nat_eq ns q ≡ reaches d from q
    by (inl a) b = a ∙ sym (w.sound q a)
    by (inr a) (inl b) = closed-below (suc from) d ns from q ok closed (omega arith) w.first b ∙ sym b
    by (inr a) (inr b) = a ∙ sym b

-- a walk meets no more nodes than there are up to the first
pub walk-length : (d : Table) (from place : ℕ) (ns : List ℕ) → IsTable d → IsNode d from → Walk d from place ns → length ns ≤ from + 1
walk-length d from place ns ok h w =
    length-le_from_distinct_below ns (from + 1) w.distinct (λ q m. let le = reaches-down d from q ok h (w.sound q m) in omega arith)

pub past-end : (ns : List ℕ) (i : ℕ) → slice_get ns i ≡ None → length ns ≤ i
past-end ns i e = by (cases_lt i (length ns))
  where
    by : ((i < length ns) ⊎ (length ns ≤ i)) → length ns ≤ i
    by (inl l) = let s : Some (slice_index ns i) ≡ None = sym (slice_get-get_or ns i 0 l) ∙ e in absurd (cc)
    by (inr l) = l

-- all that was met are nodes
pub walk-nodes : (d : Table) (from place : ℕ) (ns : List ℕ) → IsTable d → IsNode d from → Walk d from place ns → All (IsNode d) ns
walk-nodes d from place ns ok h w k default l =
    let r = w.sound (slice_index ns k) (place-member ns k l) in
    omega (arith, reaches-down d from (slice_index ns k) ok h r, get_or_default_zero ns k default l)

-- the nodes that were met are as many of each variable as are reached
pub walk-widths : (d : Table) (from place : ℕ) (ns : List ℕ) → IsTable d → IsNode d from → Walk d from place ns → length ns ≤ place
    → (k : ℕ) → of_depth d k ns ≡ width_at d from k
walk-widths d from place ns ok h w end k = of_depth-width d from k ns ok h w.distinct (walk-last d from place ns ok h w end)
