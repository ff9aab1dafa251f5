-- The live constraints of a log, and an engine that is given them one after another.
use Rattle.std.proofs.Common.{ℕ, zero, suc, ◌≡◌, ◌+◌, ◌-◌, ◌≤◌, ◌<◌, ◌==◌, Bool, true, false, cond, eqb, List, [], ◌∷◌, ◌++◌, length, get_or, Option, None, Some, refl, sym, ap, ap₂, subst, ◌∙◌, arith}
use Rattle.std.specs.Prelude.{take, slice_get, option_and_then}
use Rattle.std.specs.List.{AllByRecursion}
use Rattle.std.proofs.lemmas.Bool.{cond-true, cond-false, eq-eqb, ne_eqb, eqb-true, eqb-false}
use Rattle.std.proofs.lemmas.List.{append_assoc, length-append, length-map, take_more, take_all}
use Rattle.std.proofs.lemmas.List.Elements.{All-from_recursion}
use Rattle.std.proofs.lemmas.Option.{same_Some}
use Rattle.kn_logic.specs.Constraints.{Bounded, IsWithin}
use Rattle.kn_rules.specs.declared.given.Given.{Given}
use Rattle.kn_rules.specs.States.{given_at, live_at}
use Rattle.kn_rules.specs.Searching.{is_searched}
use Rattle.kn_store.specs.Stores.{Numbered, constraint_at, ids_of, constraints_of}
use Rattle.kn_store.proofs.Public.{Rises, from-map}
use Rattle.kn_opening.specs.Openings.{numbered_before, live_behind}
use Rattle.kn_propagate.specs.Engines.{Live, live_in, constraints, IsAdded}
use Rattle.kn_search.specs.Mirrors.{Mirrors}

-- ---- the ids rise

before-all : (P : Numbered → Type 0) (t : Bool) (id : ℕ) (o : Option Bounded) (ps : List Numbered) → ((c : Bounded) → t ≡ true → o ≡ Some c → P (record { id = id; constraint = c })) → AllByRecursion P ps → AllByRecursion P (numbered_before t id o ps)
before-all P true id (Some c) ps own h = (own c refl refl, h)
before-all P true id None ps own h = h
before-all P false id (Some c) ps own h = h
before-all P false id None ps own h = h

above : (m last : ℕ) (given : List Given) → m ≤ last → AllByRecursion (λ p. m < p.id) (live_behind last given)
above m last [] le = tt
above m last (x ∷ given) le = before-all (λ p. m < p.id) (is_searched x.origin) (last + 1) x.live (live_behind (last + 1) given) (λ c t o. omega (arith, le)) (above m (last + 1) given (omega (arith, le)))

to-ids : (m : ℕ) (ps : List Numbered) → AllByRecursion (λ p. m < p.id) ps → AllByRecursion (λ id. m < id) (ids_of ps)
to-ids m [] h = tt
to-ids m (p ∷ ps) h = (h.0, to-ids m ps h.1)

before-rises : (t : Bool) (last : ℕ) (o : Option Bounded) (ps : List Numbered) → AllByRecursion (λ p. last + 1 < p.id) ps → Rises (ids_of ps) → Rises (ids_of (numbered_before t (last + 1) o ps))
before-rises true last (Some c) ps h r = (to-ids (last + 1) ps h, r)
before-rises true last None ps h r = r
before-rises false last (Some c) ps h r = r
before-rises false last None ps h r = r

pub live-rises : (last : ℕ) (given : List Given) → Rises (ids_of (live_behind last given))
live-rises last [] = tt
live-rises last (x ∷ given) = before-rises (is_searched x.origin) last x.live (live_behind (last + 1) given) (above (last + 1) (last + 1) given (omega arith)) (live-rises (last + 1) given)

-- ---- each of them is live in the log

abbrev pub IsHeld : List Given → Numbered → Type 0
IsHeld given p = (entry : Given) × (given_at given p.id ≡ Some entry) × (is_searched entry.origin ≡ true) × (entry.live ≡ Some p.constraint)

given-next : (given : List Given) (k : ℕ) → given_at given (k + 1) ≡ slice_get given k
given-next given k = cond-false (k + 1 == 0) None (slice_get given (k + 1 - 1)) (ne_eqb (k + 1) 0 (λ e. omega (arith, e))) ∙ ap (slice_get given) (less k)
  where
    less : (k : ℕ) → k + 1 - 1 ≡ k
    less k = omega arith

last-at : (front given : List Given) (x : Given) → slice_get (front ++ x ∷ given) (length front) ≡ Some x
last-at [] given x = refl
last-at (y ∷ front) given x = last-at front given x

pub held : (front given : List Given) → AllByRecursion (IsHeld (front ++ given)) (live_behind (length front) given)
held front [] = tt
held front (x ∷ given) =
    before-all (IsHeld (front ++ x ∷ given)) (is_searched x.origin) (length front + 1) x.live (live_behind (length front + 1) given)
    (λ c t o. (x, given-next (front ++ x ∷ given) (length front) ∙ last-at front given x, t, o))
    (subst (λ z. AllByRecursion (IsHeld z) (live_behind (length front + 1) given)) (append_assoc front (x ∷ []) given)
    (subst (λ n. AllByRecursion (IsHeld ((front ++ x ∷ []) ++ given)) (live_behind n given)) (length-append front (x ∷ [])) (held (front ++ x ∷ []) given)))

pub held-live : (given : List Given) (p : Numbered) → IsHeld given p → live_at given p.id ≡ Some p.constraint
held-live given p h = ap (λ o. option_and_then (λ entry. entry.live) o) h.1 ∙ h.3

-- ---- each that is live is one of them

before-other : (t : Bool) (id j : ℕ) (o : Option Bounded) (ps : List Numbered) → (id == j) ≡ false → constraint_at (numbered_before t id o ps) j ≡ constraint_at ps j
before-other true id j (Some c) ps e = cond-false (id == j) (Some c) (constraint_at ps j) e
before-other true id j None ps e = refl
before-other false id j (Some c) ps e = refl
before-other false id j None ps e = refl

found-at : (last k : ℕ) (given : List Given) (entry : Given) (c : Bounded) → slice_get given k ≡ Some entry → is_searched entry.origin ≡ true → entry.live ≡ Some c → constraint_at (live_behind last given) (last + k + 1) ≡ Some c
found-at last k [] entry c e s l = absurd cc
found-at last zero (x ∷ given) entry c e s l =
    let is : x ≡ entry = same_Some x entry e in
    ap₂ (λ (t : Bool) (o : Option Bounded). constraint_at (numbered_before t (last + 1) o (live_behind (last + 1) given)) (last + 0 + 1)) (ap (λ z. is_searched z.origin) is ∙ s) (ap (λ z. z.live) is ∙ l)
    ∙ cond-true (last + 1 == last + 0 + 1) (Some c) (constraint_at (live_behind (last + 1) given) (last + 0 + 1)) (eq-eqb (last + 1) (last + 0 + 1) (omega arith))
found-at last (suc k) (x ∷ given) entry c e s l =
    before-other (is_searched x.origin) (last + 1) (last + suc k + 1) x.live (live_behind (last + 1) given) (ne_eqb (last + 1) (last + suc k + 1) (λ h. omega (arith, h)))
    ∙ ap (constraint_at (live_behind (last + 1) given)) (turn last k) ∙ found-at (last + 1) k given entry c e s l
  where
    turn : (m n : ℕ) → m + suc n + 1 ≡ m + 1 + n + 1
    turn m n = omega arith

pub found-live : (given : List Given) (id : ℕ) (entry : Given) (c : Bounded) → given_at given id ≡ Some entry → is_searched entry.origin ≡ true → entry.live ≡ Some c → constraint_at (live_behind 0 given) id ≡ Some c
found-live given zero entry c e s l = absurd cc
found-live given (suc k) entry c e s l =
    ap (constraint_at (live_behind 0 given)) (turn k) ∙ found-at 0 k given entry c (sym (given-next given k) ∙ ap (given_at given) (one k) ∙ e) s l
  where
    turn : (n : ℕ) → suc n ≡ 0 + n + 1
    turn n = omega arith

    one : (n : ℕ) → n + 1 ≡ suc n
    one n = omega arith

pub found-in : (P : Numbered → Type 0) (ps : List Numbered) (id : ℕ) (c : Bounded) → AllByRecursion P ps → constraint_at ps id ≡ Some c → P (record { id = id; constraint = c })
found-in P [] id c h e = absurd cc
found-in P (p ∷ ps) id c h e = by (λ k. found-in P ps id c h.1 k) (p.id == id) refl
  where
    one : (i j : ℕ) (a b : Bounded) → i ≡ j → a ≡ b → ◌≡◌ {A = Numbered} (record { id = i; constraint = a }) (record { id = j; constraint = b })
    one i j a b s t = cc

    by : (constraint_at ps id ≡ Some c → P (record { id = id; constraint = c })) → (t : Bool) → (p.id == id) ≡ t → P (record { id = id; constraint = c })
    by more true s = subst P (one p.id id p.constraint c (eqb-true p.id id s) (same_Some p.constraint c (sym (cond-true (p.id == id) (Some p.constraint) (constraint_at ps id) s) ∙ e))) h.0
    by more false s = more (sym (cond-false (p.id == id) (Some p.constraint) (constraint_at ps id) s) ∙ e)

-- ---- a constraint added somewhere

added-here : (front back : List Live) (id : ℕ) (c : Bounded) → live_in (front ++ back) id ≡ None → live_in (front ++ record { id = id; constraint = c } ∷ back) id ≡ Some c
added-here [] back id c h = cond-true (eqb id id) (Some c) (live_in back id) (eq-eqb id id refl)
added-here (x ∷ front) back id c h = behind (eqb x.id id) h (added-here front back id c)
  where
    behind : (b : Bool) → cond b (Some x.constraint) (live_in (front ++ back) id) ≡ None → (live_in (front ++ back) id ≡ None → live_in (front ++ record { id = id; constraint = c } ∷ back) id ≡ Some c) → cond b (Some x.constraint) (live_in (front ++ record { id = id; constraint = c } ∷ back) id) ≡ Some c
    behind true h ih = absurd cc
    behind false h ih = ih h

added-there : (front back : List Live) (id j : ℕ) (c : Bounded) → (id ≡ j → ⊥) → live_in (front ++ record { id = id; constraint = c } ∷ back) j ≡ live_in (front ++ back) j
added-there [] back id j c d = cond-false (eqb id j) (Some c) (live_in back j) (ne_eqb id j d)
added-there (x ∷ front) back id j c d = ap (λ (o : Option Bounded). cond (eqb x.id j) (Some x.constraint) o) (added-there front back id j c d)

added-found : (live new : List Live) (id : ℕ) (c : Bounded) → live_in live id ≡ None → IsAdded live id c new → live_in new id ≡ Some c
added-found live new id c none (front, back, is, made) =
    subst (λ (xs : List Live). live_in xs id ≡ Some c) (sym made) (added-here front back id c (subst (λ (xs : List Live). live_in xs id ≡ None) is none))

added-other : (live new : List Live) (id j : ℕ) (c : Bounded) → IsAdded live id c new → (id ≡ j → ⊥) → live_in new j ≡ live_in live j
added-other live new id j c (front, back, is, made) d =
    ap (λ (xs : List Live). live_in xs j) made ∙ added-there front back id j c d ∙ ap (λ (xs : List Live). live_in xs j) (sym is)

pub live-all : (P : Bounded → Type 0) (live : List Live) (id : ℕ) (c : Bounded) → AllByRecursion P (constraints live) → live_in live id ≡ Some c → P c
live-all P [] id c h e = absurd cc
live-all P (x ∷ live) id c h e = at P x live id c h (eqb x.id id) e (live-all P live id c h.1)
  where
    at : (P : Bounded → Type 0) (x : Live) (live : List Live) (id : ℕ) (c : Bounded) → AllByRecursion P (constraints (x ∷ live)) → (b : Bool) → cond b (Some x.constraint) (live_in live id) ≡ Some c → (live_in live id ≡ Some c → P c) → P c
    at P x live id c h true e ih = subst P (same_Some x.constraint c e) h.0
    at P x live id c h false e ih = ih e

-- ---- one after another

abbrev pub AreLoaded : List Live → List Numbered → Type 0
AreLoaded live ps = (id : ℕ) → live_in live id ≡ constraint_at ps id

none-at : (ps : List Numbered) (j : ℕ) → AllByRecursion (λ p. p.id < j) ps → constraint_at ps j ≡ None
none-at [] j h = refl
none-at (p ∷ ps) j h = cond-false (p.id == j) (Some p.constraint) (constraint_at ps j) (ne_eqb p.id j (λ e. omega (arith, e, h.0))) ∙ none-at ps j h.1

abbrev or-else : Option Bounded → Option Bounded → Option Bounded
or-else None o = o
or-else (Some c) o = Some c

at-append : (xs ys : List Numbered) (j : ℕ) → constraint_at (xs ++ ys) j ≡ or-else (constraint_at xs j) (constraint_at ys j)
at-append [] ys j = refl
at-append (p ∷ xs) ys j = by (at-append xs ys j) (p.id == j) refl
  where
    by : constraint_at (xs ++ ys) j ≡ or-else (constraint_at xs j) (constraint_at ys j) → (t : Bool) → (p.id == j) ≡ t
        → cond (p.id == j) (Some p.constraint) (constraint_at (xs ++ ys) j) ≡ or-else (cond (p.id == j) (Some p.constraint) (constraint_at xs j)) (constraint_at ys j)
    by ih true e = cond-true (p.id == j) (Some p.constraint) (constraint_at (xs ++ ys) j) e ∙ sym (ap (λ o. or-else o (constraint_at ys j)) (cond-true (p.id == j) (Some p.constraint) (constraint_at xs j) e))
    by ih false e = cond-false (p.id == j) (Some p.constraint) (constraint_at (xs ++ ys) j) e ∙ ih ∙ sym (ap (λ o. or-else o (constraint_at ys j)) (cond-false (p.id == j) (Some p.constraint) (constraint_at xs j) e))

below-at : (ps : List Numbered) (k : ℕ) (d : Numbered) → Rises (ids_of ps) → k < length ps → AllByRecursion (λ p. p.id < (get_or ps k d).id) (take k ps)
below-at [] k d h less = absurd (omega (arith, less))
below-at (p ∷ ps) zero d h less = tt
below-at (p ∷ ps) (suc k) d h less =
    (All-from_recursion (λ q. p.id < q.id) ps (from-map (λ q. q.id) (λ i. p.id < i) ps h.0) k d (omega (arith, less)), below-at ps k d h.1 (omega (arith, less)))

get-id : (ps : List Numbered) (k : ℕ) (d : Numbered) → k < length ps → get_or (ids_of ps) k 0 ≡ (get_or ps k d).id
get-id [] k d less = absurd (omega (arith, less))
get-id (p ∷ ps) zero d less = refl
get-id (p ∷ ps) (suc k) d less = get-id ps k d (omega (arith, less))

-- the k-th of them: its id, and that it is live
pub record IsNext (given : List Given) (ids : List ℕ) (k id : ℕ) : Type 0 where
  pub entry : Numbered
  pub less : k < length (live_behind 0 given)
  pub is : entry ≡ get_or (live_behind 0 given) k entry
  pub id_is : id ≡ entry.id
  pub live : live_at given id ≡ Some entry.constraint

pub next-of : (given : List Given) (ids : List ℕ) (k id : ℕ) → ids_of (live_behind 0 given) ≡ ids → k < length ids → id ≡ get_or ids k 0 → IsNext given ids k id
next-of given ids k id are less is =
    let ps = live_behind 0 given in
    let d : Numbered = record { id = 0; constraint = record { guard = None; bound = 0; lits = [] } } in
    let p = get_or ps k d in
    let inside : k < length ps = (let n = ap (λ (z : List ℕ). length z) are in let m = length-map ps (λ q. q.id) in omega (arith, less, n, m)) in
    let same : id ≡ p.id = is ∙ ap (λ z. get_or z k 0) (sym are) ∙ get-id ps k d inside in
    record {
      entry = p;
      less = inside;
      is = whichever ps k d inside;
      id_is = same;
      live = ap (live_at given) same ∙ held-live given p (All-from_recursion (IsHeld given) ps (held [] given) k d inside);
    }
  where
    whichever : (ps : List Numbered) (k : ℕ) (d : Numbered) → k < length ps → get_or ps k d ≡ get_or ps k (get_or ps k d)
    whichever [] k d less = absurd (omega (arith, less))
    whichever (p ∷ ps) zero d less = refl
    whichever (p ∷ ps) (suc k) d less = whichever ps k d (omega (arith, less))

pub next-fresh : (live : List Live) (given : List Given) (ids : List ℕ) (k id : ℕ) → IsNext given ids k id → AreLoaded live (take k (live_behind 0 given)) → live_in live id ≡ None
next-fresh live given ids k id next loaded =
    let below = below-at (live_behind 0 given) k next.entry (live-rises 0 given) next.less in
    loaded id ∙ none-at (take k (live_behind 0 given)) id (subst (λ j. AllByRecursion (λ p. p.id < j) (take k (live_behind 0 given))) (sym (next.id_is ∙ ap (λ p. p.id) next.is)) below)

pub next-loaded : (live new : List Live) (given : List Given) (ids : List ℕ) (k id : ℕ) (c : Bounded) → IsNext given ids k id → live_at given id ≡ Some c → AreLoaded live (take k (live_behind 0 given))
    → IsAdded live id c new → AreLoaded new (take (k + 1) (live_behind 0 given))
next-loaded live new given ids k id c next is loaded added j =
    let ps = live_behind 0 given in
    let p = next.entry in
    let fresh = next-fresh live given ids k id next loaded in
    let same : c ≡ p.constraint = same_Some c p.constraint (sym is ∙ next.live) in
    by p (take k ps) fresh same next.id_is (id == j) refl ∙ sym (ap (λ z. constraint_at z j) (take_more ps k p next.less ∙ ap (λ q. take k ps ++ q ∷ []) (sym next.is)))
  where
    by : (p : Numbered) (xs : List Numbered) → live_in live id ≡ None → c ≡ p.constraint → id ≡ p.id → (t : Bool) → (id == j) ≡ t → live_in new j ≡ constraint_at (take k (live_behind 0 given) ++ p ∷ []) j
    by p xs fresh same one true e =
        let here : id ≡ j = eqb-true id j e in
        ap (live_in new) (sym here) ∙ added-found live new id c fresh added ∙ ap (λ (z : Bounded). Some z) same
        ∙ sym (at-append (take k (live_behind 0 given)) (p ∷ []) j ∙ ap₂ or-else (ap (constraint_at (take k (live_behind 0 given))) (sym here) ∙ sym (loaded id) ∙ fresh) (cond-true (p.id == j) (Some p.constraint) None (eq-eqb p.id j (sym one ∙ here))))
    by p xs fresh same one false e =
        added-other live new id j c added (eqb-false id j e) ∙ loaded j
        ∙ sym (at-append (take k (live_behind 0 given)) (p ∷ []) j ∙ ap (or-else (constraint_at (take k (live_behind 0 given)) j)) (cond-false (p.id == j) (Some p.constraint) None (ne_eqb p.id j (λ h. eqb-false id j e (one ∙ h)))) ∙ or-none (constraint_at (take k (live_behind 0 given)) j))
      where
        or-none : (o : Option Bounded) → or-else o None ≡ o
        or-none None = refl
        or-none (Some x) = refl

pub all-loaded : (live : List Live) (given : List Given) (k : ℕ) → length (live_behind 0 given) ≤ k → AreLoaded live (take k (live_behind 0 given)) → Mirrors live given
all-loaded live given k le loaded =
    let ps = live_behind 0 given in
    let whole : take k ps ≡ ps = take_all k ps le in
    record {
      in_engine = λ id entry c e s l. loaded id ∙ ap (λ z. constraint_at z id) whole ∙ found-live given id entry c e s l;
      in_log = λ id c e.
          let h = found-in (IsHeld given) ps id c (held [] given) (sym (loaded id ∙ ap (λ z. constraint_at z id) whole) ∙ e) in (h.0, h.1, h.2, h.3);
    }

-- what holds of all constraints of the engine holds of all that are live
pub all-live : (P : Bounded → Type 0) (live : List Live) (given : List Given) → Mirrors live given → AllByRecursion P (constraints live) → AllByRecursion P (constraints_of (live_behind 0 given))
all-live P live given m all = each (live_behind 0 given) (held [] given)
  where
    each : (ps : List Numbered) → AllByRecursion (IsHeld given) ps → AllByRecursion P (constraints_of ps)
    each [] h = tt
    each (p ∷ ps) h = (live-all P live p.id p.constraint all (m.in_engine p.id h.0.0 p.constraint h.0.1 h.0.2 h.0.3), each ps h.1)

pub none-some : {c : Bounded} → ◌≡◌ {A = Option Bounded} None (Some c) → ⊥
none-some e = cc

pub next-within : (vars : ℕ) (given : List Given) (ids : List ℕ) (k id : ℕ) (c : Bounded) → IsNext given ids k id → live_at given id ≡ Some c → AllByRecursion (IsWithin vars) (constraints_of (live_behind 0 given)) → IsWithin vars c
next-within vars given ids k id c next is h =
    let ps = live_behind 0 given in
    let same : c ≡ next.entry.constraint = same_Some c next.entry.constraint (sym is ∙ next.live) in
    subst (IsWithin vars) (sym (same ∙ ap (λ p. p.constraint) next.is)) (All-from_recursion (λ p. IsWithin vars p.constraint) ps (from-map (λ p. p.constraint) (IsWithin vars) ps h) k next.entry next.less)
