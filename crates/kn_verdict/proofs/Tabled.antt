-- What the table of a group of few variables tells of its verdict.
use Rattle.std.proofs.Common.{◌≡◌, ℕ, zero, suc, ◌+◌, ◌-◌, ◌^◌, ◌≤◌, ◌<◌, ◌==◌, ◌⊎◌, ◌||◌, ◌↔◌, inl, inr, Bool, true, false, not, if◌then◌else◌, List, [], ◌∷◌, ◌++◌, length, map, reverse, replicate, drop, nat_eq, nat_lt, slice_index, get_or, refl, sym, ap, ◌∙◌, subst, arith, length-append}
use Rattle.std.specs.Prelude.{count_by, nat_le}
use Rattle.std.specs.List.{AllByRecursion, IsDistinct, range_with_len}
use Rattle.std.proofs.lemmas.Bool.{cases_Bool, cases_lt, cases_eq, cond-true, cond-false, eqb-true, eq-eqb, ne_eqb, leb-true, le-leb, lt-leb, lt-ltb, le-ltb, or_cases, or_parts, or_left, or_right, false_from_ne_true, true≢false}
use Rattle.std.proofs.lemmas.List.{length-map, same_lists, get_or-append_right, get_or_append_left, reverse-reverse, drop_all}
use Rattle.std.proofs.Math.Nat.{pow-le-pow_right}
use Rattle.std.proofs.Math.Seq.{drop-cons}
use Rattle.std.proofs.lemmas.List.FromFn.{length-map-range_with_len, get_or-map-range_with_len}
use Rattle.std.proofs.lemmas.List.Folds.{list_any-append, list_any_at}
use Rattle.std.proofs.lemmas.List.Sorted.{IsPermutation-reverse}
use Rattle.std.proofs.lemmas.Map.Keys.{IsDistinct-IsPermutation}
use Rattle.kn_logic.specs.Literals.{Literal, places, has, names, is_same}
use Rattle.kn_logic.specs.Constraints.{Bounded}
use Rattle.kn_logic.proofs.Public.{same-refl, has-names}
use Rattle.kn_logic.specs.Groups.{Gathered, IsGroup, IsCovered, is_among}
use Rattle.kn_tables.specs.Indices.{has_bit, index_with}
use Rattle.kn_tables.specs.Tables.{Truth, IsTable, value_at, some_value_at, is_true_at, IsFirstDifference}
use Rattle.kn_tables.proofs.Public.{with-below}
use Rattle.kn_diagram.specs.Diagrams.{with_value, is_true_by, depth_in}
use Rattle.kn_quant.specs.Runs.{AgreeBut, CanHold, order_of, clause_function}
use Rattle.kn_quant.proofs.Public.{order-distinct}
use Rattle.kn_verdict.specs.Cardinals.{IsCardinal, CanStart, DiffersAt}
use Rattle.kn_verdict.specs.Numbered.{variables_of, numbered, AreAmong, conjunction, Gives, CanHoldBy, Tells, index_of, first_values}
use Rattle.kn_verdict.proofs.Counts.{own-value, other-value}
use Rattle.kn_verdict.proofs.Values.{first_truths}
use Rattle.kn_verdict.proofs.Indices.{has_bit-index_of, index-below, index-gives, index-within, at_index, gives-own, gives-with, count-at, all-at}

-- ---- the variables of a group

flips : (x y : ℕ) → nat_eq x y ≡ nat_eq y x
flips x y = by (cases_eq x y)
  where
    by : ((x ≡ y) ⊎ (x ≡ y → ⊥)) → nat_eq x y ≡ nat_eq y x
    by (inl e) = eq-eqb x y e ∙ sym (eq-eqb y x (sym e))
    by (inr ne) = ne_eqb x y ne ∙ sym (ne_eqb y x (λ e. ne (sym e)))

pub distinct : (g : Gathered) → IsGroup g → IsDistinct nat_eq (variables_of g)
distinct g h =
    subst (IsDistinct nat_eq) (reverse-reverse (variables_of g))
    (IsDistinct-IsPermutation nat_eq flips (order_of g) (reverse (order_of g)) (IsPermutation-reverse (order_of g)) (order-distinct g h))

pub long : (g : Gathered) → length (variables_of g) ≡ length g.border + length g.aux
long g = length-append (map (λ l. l.variable) g.border) g.aux ∙ ap (λ n. n + length g.aux) (length-map g.border (λ (l : Literal). l.variable))

among-within : (xs : List ℕ) (x : ℕ) → is_among xs x ≡ true → depth_in xs x < length xs
among-within [] x e = absurd (true≢false (sym e))
among-within (y ∷ ys) x e = by (cases_eq x y) (among-within ys x)
  where
    by : ((x ≡ y) ⊎ (x ≡ y → ⊥)) → (is_among ys x ≡ true → depth_in ys x < length ys) → (if x == y then 0 else 1 + depth_in ys x) < length (y ∷ ys)
    by (inl s) rest = let t = cond-true (x == y) 0 (1 + depth_in ys x) (eq-eqb x y s) in omega (arith, t)
    by (inr ne) rest =
        let t = cond-false (x == y) 0 (1 + depth_in ys x) (ne_eqb x y ne) in
        let there = later (or_cases (y == x) (is_among ys x) e) in
        omega (arith, t, rest there)
      where
        later : ((y == x) ≡ true) ⊎ (is_among ys x ≡ true) → is_among ys x ≡ true
        later (inl s) = absurd (ne (sym (eqb-true y x s)))
        later (inr s) = s

named-among : (ls : List Literal) (v : ℕ) → is_among (map (λ k. k.variable) ls) v ≡ names ls v
named-among [] v = refl
named-among (k ∷ ls) v = ap (λ b. (k.variable == v) || b) (named-among ls v)

has-variable : (ls : List Literal) (l : Literal) → has ls l ≡ true → is_among (map (λ k. k.variable) ls) l.variable ≡ true
has-variable ls l e = named-among ls l.variable ∙ has-names ls l e

covered-among : (g : Gathered) (ls : List Literal) → AllByRecursion (IsCovered g) ls → AreAmong (variables_of g) ls
covered-among g [] h = tt
covered-among g (l ∷ ls) h = (
  among-within (variables_of g) l.variable (list_any-append (λ v. v == l.variable) (map (λ k. k.variable) g.border) g.aux ∙ by (or_cases (is_among g.aux l.variable) (has g.border l) h.0)),
  covered-among g ls h.1,
)
  where
    by : (is_among g.aux l.variable ≡ true) ⊎ (has g.border l ≡ true) → (is_among (map (λ k. k.variable) g.border) l.variable || is_among g.aux l.variable) ≡ true
    by (inl s) = or_right (is_among (map (λ k. k.variable) g.border) l.variable) (is_among g.aux l.variable) s
    by (inr s) = or_left (is_among (map (λ k. k.variable) g.border) l.variable) (is_among g.aux l.variable) (has-variable g.border l s)

pub taken-among : (g : Gathered) (cs : List Bounded) → AllByRecursion (λ c. AllByRecursion (IsCovered g) c.lits) cs → AllByRecursion (λ c. AreAmong (variables_of g) c.lits) cs
taken-among g [] h = tt
taken-among g (c ∷ cs) h = (covered-among g c.lits h.0, taken-among g cs h.1)

-- the variable at a place of the border, and that of an auxiliary one
border-at : (g : Gathered) (k : ℕ) → k < length g.border → slice_index (variables_of g) k ≡ get_or (map (λ l. l.variable) g.border) k 0
border-at g k h = get_or_append_left (map (λ (l : Literal). l.variable) g.border) g.aux 0 k (omega (arith, h, length-map g.border (λ (l : Literal). l.variable)))

pub aux-at : (g : Gathered) (k : ℕ) → length g.border ≤ k → slice_index (variables_of g) k ≡ get_or g.aux (k - length g.border) 0
aux-at g k h = get_or-append_right (map (λ (l : Literal). l.variable) g.border) g.aux (length g.border) k 0 (length-map g.border (λ (l : Literal). l.variable)) h

border-within : (g : Gathered) (ls : List Literal) → ((l : Literal) → has ls l ≡ true → has g.border l ≡ true) → AreAmong (variables_of g) ls
border-within g [] h = tt
border-within g (l ∷ ls) h = (
  among-within (variables_of g) l.variable (list_any-append (λ v. v == l.variable) (map (λ k. k.variable) g.border) g.aux
      ∙ or_left (is_among (map (λ k. k.variable) g.border) l.variable) (is_among g.aux l.variable) (has-variable g.border l (h l (or_left (is_same l l) (has ls l) (same-refl l))))),
  border-within g ls (λ x t. h x (or_right (is_same x l) (has ls x) t)),
)

pub border-among : (g : Gathered) → AreAmong (variables_of g) g.border
border-among g = border-within g g.border (λ l t. t)

pub All-item : {X : Type 0} (P : X → Type 0) (xs : List X) (k : ℕ) (x : X) → AllByRecursion P xs → k < length xs → x ≡ get_or xs k x → P x
All-item P [] k x all low e = absurd (omega (arith, low))
All-item P (y ∷ xs) zero x all low e = subst P (sym e) all.0
All-item P (y ∷ xs) (suc k) x all low e = All-item P xs k x all.1 (omega (arith, low)) e

-- ---- the table of all clauses, and of "for some value of a variable"

pub tells-all : (g : Gathered) (t : Truth) → IsGroup g → IsTable (length (variables_of g)) (conjunction (variables_of g) g.taken) t → Tells g [] t
tells-all g t group h = record { vars = h.vars; each = each }
  where
    each : (i : ℕ) (v : ℕ → Bool) → i < 2 ^ length (variables_of g) → Gives (variables_of g) i v → (value_at t i ≡ true) ↔ CanHoldBy [] g.taken v
    each i v low gives = (let both = all-at (variables_of g) i v gives g.taken (taken-among g g.taken group.covered) in (
      λ e. (v, (λ x out. refl), both.0 (sym (h.each i low) ∙ e)),
      λ (w, agree, all). h.each i low ∙ both.1 (same w agree all),
    ))
      where
        same : (w : ℕ → Bool) → AgreeBut [] v w → AllByRecursion (λ c. clause_function c w ≡ true) g.taken → AllByRecursion (λ c. clause_function c v ≡ true) g.taken
        same w agree all = subst (λ u. AllByRecursion (λ c. clause_function c u ≡ true) g.taken) (λ i x. agree x refl i) all

pub tells-more : (g : Gathered) (ys : List ℕ) (j : ℕ) (t new : Truth) → IsGroup g → Tells g ys t → j < length (variables_of g) → IsTable t.vars (some_value_at j (value_at t)) new
    → Tells g (ys ++ slice_index (variables_of g) j ∷ []) new
tells-more g ys j t new group h within made = record { vars = made.vars ∙ h.vars; each = each }
  where
    xs : List ℕ
    xs = variables_of g

    y : ℕ
    y = slice_index xs j

    other : (x : ℕ) → is_among (ys ++ y ∷ []) x ≡ false → (is_among ys x ≡ false) × ((x == y) ≡ false)
    other x out = (let parts = or_parts (is_among ys x) (is_among (y ∷ []) x) (sym (list_any-append (λ v. v == x) ys (y ∷ [])) ∙ out) in
        (parts.0, ne_eqb x y (λ e. true≢false (sym (eq-eqb y x (sym e)) ∙ (or_parts (y == x) false parts.1).0))))

    kept : (x : ℕ) → is_among ys x ≡ false → (x == y) ≡ false → is_among (ys ++ y ∷ []) x ≡ false
    kept x out ne = list_any-append (λ v. v == x) ys (y ∷ []) ∙ false_from_ne_true (is_among ys x || is_among (y ∷ []) x) (λ t. by (or_cases (is_among ys x) (is_among (y ∷ []) x) t))
      where
        by : ((is_among ys x ≡ true) ⊎ (is_among (y ∷ []) x ≡ true)) → ⊥
        by (inl s) = true≢false (sym s ∙ out)
        by (inr s) = last (or_cases (y == x) false s)
          where
            last : (((y == x) ≡ true) ⊎ (false ≡ true)) → ⊥
            last (inl s) = true≢false (sym (eq-eqb x y (sym (eqb-true y x s))) ∙ ne)
            last (inr s) = true≢false (sym s)

    forth : (i : ℕ) (v : ℕ → Bool) (b : Bool) → i < 2 ^ length xs → Gives xs i v → value_at t (index_with i j b) ≡ true → CanHoldBy (ys ++ y ∷ []) g.taken v
    forth i v b low gives e =
        let (w, agree, all) = (h.each (index_with i j b) (with_value v y b) (with-below i j (length xs) b low within) (gives-with xs i j b v (distinct g group) within gives)).0 e in
        (w, (λ x out. agree x (other x out).0 ∙ other-value v y x b (other x out).1), all)

    back : (i : ℕ) (v : ℕ → Bool) → i < 2 ^ length xs → Gives xs i v → CanHoldBy (ys ++ y ∷ []) g.taken v → some_value_at j (value_at t) i ≡ true
    back i v low gives (w, agree, all) = by (w y) refl
      where
        agrees : (x : ℕ) → is_among ys x ≡ false → w x ≡ with_value v y (w y) x
        agrees x out = by (cases_eq x y)
          where
            by : ((x ≡ y) ⊎ (x ≡ y → ⊥)) → w x ≡ with_value v y (w y) x
            by (inl e) = ap w e ∙ sym (own-value v y (w y)) ∙ ap (with_value v y (w y)) (sym e)
            by (inr ne) = agree x (kept x out (ne_eqb x y ne)) ∙ sym (other-value v y x (w y) (ne_eqb x y ne))

        own : value_at t (index_with i j (w y)) ≡ true
        own = (h.each (index_with i j (w y)) (with_value v y (w y)) (with-below i j (length xs) (w y) low within) (gives-with xs i j (w y) v (distinct g group) within gives)).1
            (w, agrees, all)

        by : (b : Bool) → w y ≡ b → (value_at t (index_with i j true) || value_at t (index_with i j false)) ≡ true
        by true e = or_left (value_at t (index_with i j true)) (value_at t (index_with i j false)) (ap (λ b. value_at t (index_with i j b)) (sym e) ∙ own)
        by false e = or_right (value_at t (index_with i j true)) (value_at t (index_with i j false)) (ap (λ b. value_at t (index_with i j b)) (sym e) ∙ own)

    each : (i : ℕ) (v : ℕ → Bool) → i < 2 ^ length xs → Gives xs i v → (value_at new i ≡ true) ↔ CanHoldBy (ys ++ y ∷ []) g.taken v
    each i v low gives = (
      λ e. by (or_cases (value_at t (index_with i j true)) (value_at t (index_with i j false)) (sym (made.each i (subst (λ n. i < 2 ^ n) (sym h.vars) low)) ∙ e)),
      λ can. made.each i (subst (λ n. i < 2 ^ n) (sym h.vars) low) ∙ back i v low gives can,
    )
      where
        by : ((value_at t (index_with i j true) ≡ true) ⊎ (value_at t (index_with i j false) ≡ true)) → CanHoldBy (ys ++ y ∷ []) g.taken v
        by (inl s) = forth i v true low gives s
        by (inr s) = forth i v false low gives s

-- ---- where exactly the first literals are true

first-none : (n : ℕ) → first_truths (suc n) 0 ≡ false ∷ first_truths n 0
first-none n = ap (λ m. replicate m false) {x = suc n - 0} {y = suc n} (omega arith) ∙ ap (λ m. false ∷ replicate m false) {x = n} {y = n - 0} (omega arith)

first-more : (n first : ℕ) → first_truths (suc n) (suc first) ≡ true ∷ first_truths n first
first-more n first = ap (λ m. true ∷ (replicate first true ++ replicate m false)) {x = suc n - suc first} {y = n - first} (omega arith)

truths-first : (lits : List Literal) (first : ℕ) (v : ℕ → Bool) → first ≤ length lits
    → ((k : ℕ) → k < length lits → v (get_or (map (λ l. l.variable) lits) k 0) ≡ get_or (first_values lits first) k false)
    → map (is_true_by v) lits ≡ first_truths (length lits) first
truths-first [] zero v h e = refl
truths-first [] (suc first) v h e = absurd (omega (arith, h))
truths-first (l ∷ lits) zero v h e =
    (λ i. signed l.positive (v l.variable) (e 0 (omega arith)) i ∷ truths-first lits zero v (omega arith) (λ k low. e (suc k) (omega (arith, low))) i)
    ∙ sym (first-none (length lits))
  where
    signed : (p b : Bool) → b ≡ not p → (if p then b else not b) ≡ false
    signed true b s = s
    signed false b s = ap not s
truths-first (l ∷ lits) (suc first) v h e =
    (λ i. signed l.positive (v l.variable) (e 0 (omega arith)) i ∷ truths-first lits first v (omega (arith, h)) (λ k low. e (suc k) (omega (arith, low))) i)
    ∙ sym (first-more (length lits) first)
  where
    signed : (p b : Bool) → b ≡ p → (if p then b else not b) ≡ true
    signed true b s = s
    signed false b s = ap not s

head_same : (a b : Bool) (xs ys : List Bool) → a ∷ xs ≡ b ∷ ys → a ≡ b
head_same a b xs ys e = cc

tail_same : (a b : Bool) (xs ys : List Bool) → a ∷ xs ≡ b ∷ ys → xs ≡ ys
tail_same a b xs ys e = cc

values-first : (lits : List Literal) (first : ℕ) (v : ℕ → Bool) → first ≤ length lits → map (is_true_by v) lits ≡ first_truths (length lits) first
    → (k : ℕ) → k < length lits → v (get_or (map (λ l. l.variable) lits) k 0) ≡ get_or (first_values lits first) k false
values-first [] first v h e = λ k low. absurd (omega (arith, low))
values-first (l ∷ lits) zero v h e = by (e ∙ first-none (length lits)) (values-first lits zero v (omega arith))
  where
    signed : (p b : Bool) → (if p then b else not b) ≡ false → b ≡ not p
    signed true b s = s
    signed false true s = refl
    signed false false s = absurd (true≢false s)

    by : is_true_by v l ∷ map (is_true_by v) lits ≡ false ∷ first_truths (length lits) 0
        → (map (is_true_by v) lits ≡ first_truths (length lits) 0 → (k : ℕ) → k < length lits → v (get_or (map (λ x. x.variable) lits) k 0) ≡ get_or (first_values lits 0) k false)
        → (k : ℕ) → k < length (l ∷ lits) → v (get_or (map (λ x. x.variable) (l ∷ lits)) k 0) ≡ get_or (first_values (l ∷ lits) 0) k false
    by s rest zero low = signed l.positive (v l.variable) (head_same _ _ _ _ s)
    by s rest (suc k) low = rest (tail_same _ _ _ _ s) k (omega (arith, low))
values-first (l ∷ lits) (suc first) v h e = by (e ∙ first-more (length lits) first) (values-first lits first v (omega (arith, h)))
  where
    signed : (p b : Bool) → (if p then b else not b) ≡ true → b ≡ p
    signed true b s = s
    signed false true s = absurd (true≢false (sym s))
    signed false false s = refl

    by : is_true_by v l ∷ map (is_true_by v) lits ≡ true ∷ first_truths (length lits) first
        → (map (is_true_by v) lits ≡ first_truths (length lits) first → (k : ℕ) → k < length lits → v (get_or (map (λ x. x.variable) lits) k 0) ≡ get_or (first_values lits first) k false)
        → (k : ℕ) → k < length (l ∷ lits) → v (get_or (map (λ x. x.variable) (l ∷ lits)) k 0) ≡ get_or (first_values (l ∷ lits) (suc first)) k false
    by s rest zero low = signed l.positive (v l.variable) (head_same _ _ _ _ s)
    by s rest (suc k) low = rest (tail_same _ _ _ _ s) k (omega (arith, low))

length-first_values : (lits : List Literal) (first : ℕ) → length (first_values lits first) ≡ length lits
length-first_values [] first = refl
length-first_values (l ∷ lits) zero = ap suc (length-first_values lits zero)
length-first_values (l ∷ lits) (suc first) = ap suc (length-first_values lits first)

-- from the last on
pub drop-last : (lits : List Literal) (first : ℕ) → drop (length lits - 0) (first_values lits first) ≡ []
drop-last lits first = drop_all (length lits - 0) (first_values lits first) (omega (arith, length-first_values lits first))

first-at : (lits : List Literal) (first k : ℕ) (l : Literal) → k < length lits → l ≡ get_or lits k l → get_or (first_values lits first) k false ≡ (if nat_lt k first then l.positive else not l.positive)
first-at [] first k l low e = absurd (omega (arith, low))
first-at (x ∷ lits) zero zero l low e = ap (λ y. not y.positive) (sym e)
first-at (x ∷ lits) (suc first) zero l low e = ap (λ y. y.positive) (sym e) ∙ sym (cond-true (nat_lt 0 (suc first)) l.positive (not l.positive) (lt-ltb 0 (suc first) (omega arith)))
first-at (x ∷ lits) zero (suc k) l low e =
    first-at lits zero k l (omega (arith, low)) e ∙ cond-false (nat_lt k 0) l.positive (not l.positive) (le-ltb k 0 (omega arith))
    ∙ sym (cond-false (nat_lt (suc k) 0) l.positive (not l.positive) (le-ltb (suc k) 0 (omega arith)))
first-at (x ∷ lits) (suc first) (suc k) l low e = first-at lits first k l (omega (arith, low)) e ∙ ap (λ b. if b then l.positive else not l.positive) (shift (cases_lt k first))
  where
    shift : ((k < first) ⊎ (first ≤ k)) → nat_lt k first ≡ nat_lt (suc k) (suc first)
    shift (inl less) = lt-ltb k first less ∙ sym (lt-ltb (suc k) (suc first) (omega (arith, less)))
    shift (inr more) = le-ltb k first more ∙ sym (le-ltb (suc k) (suc first) (omega (arith, more)))

pub first-item : (lits : List Literal) (first behind : ℕ) (l : Literal) → behind < length lits → l ≡ get_or lits (length lits - 1 - behind) l
    → drop (length lits - (behind + 1)) (first_values lits first) ≡ (if nat_lt (length lits - 1 - behind) first then l.positive else not l.positive) ∷ drop (length lits - behind) (first_values lits first)
first-item lits first behind l low e =
    let place = length lits - 1 - behind in
    ap (λ n. drop n (first_values lits first)) {x = length lits - (behind + 1)} {y = place} (omega (arith, low))
    ∙ drop-cons (first_values lits first) place false (omega (arith, low, length-first_values lits first))
    ∙ ap (λ b. b ∷ drop (suc place) (first_values lits first)) (first-at lits first place l (omega (arith, low)) e)
    ∙ ap (λ n. (if nat_lt place first then l.positive else not l.positive) ∷ drop n (first_values lits first)) {x = suc place} {y = length lits - behind} (omega (arith, low))

pow-more : (a b n : ℕ) → n < 2 ^ a → a ≤ b → n < 2 ^ b
pow-more a b n low h = omega (arith, low, pow-le-pow_right {n = 2} (omega arith) {i = a} {j = b} h)

pub first-within : (g : Gathered) (first : ℕ) → index_of (first_values g.border first) < 2 ^ length (variables_of g)
first-within g first =
    pow-more (length g.border) (length (variables_of g)) (index_of (first_values g.border first))
    (subst (λ n. index_of (first_values g.border first) < 2 ^ n) (length-first_values g.border first) (index-below (first_values g.border first)))
    (omega (arith, long g))

-- where the clauses can be satisfied whatever the auxiliary variables are
can-hold-kept : (g : Gathered) (v w : ℕ → Bool) → AgreeBut g.aux v w → CanHold g v → CanHold g w
can-hold-kept g v w agree (u, own, all) = (u, (λ x out. own x out ∙ sym (agree x out)), all)

pub starts : (g : Gathered) (t : Truth) (first : ℕ) → IsGroup g → Tells g g.aux t → first ≤ length g.border → (value_at t (index_of (first_values g.border first)) ≡ true) ↔ CanStart g first
starts g t first group h within = (forth, back)
  where
    xs : List ℕ
    xs = variables_of g

    i : ℕ
    i = index_of (first_values g.border first)

    bits : (v : ℕ → Bool) → Gives xs i v → (k : ℕ) → k < length g.border → v (get_or (map (λ l. l.variable) g.border) k 0) ≡ get_or (first_values g.border first) k false
    bits v gives k low = ap v (sym (border-at g k low)) ∙ sym (gives k (omega (arith, low, long g))) ∙ has_bit-index_of (first_values g.border first) k

    forth : value_at t i ≡ true → CanStart g first
    forth e =
        let v = at_index xs i in
        let gives = gives-own xs i (distinct g group) in
        (v, truths-first g.border first v within (bits v gives), (h.each i v (first-within g first) gives).0 e)

    back : CanStart g first → value_at t i ≡ true
    back (v, e, can) = (h.each i w (first-within g first) gives).1 (can-hold-kept g v w (λ x out. cond-false (is_among g.aux x) (at_index xs i x) (v x) out) can)
      where
        w : ℕ → Bool
        w x = if is_among g.aux x then at_index xs i x else v x

        gives : Gives xs i w
        gives k low = by (cases_lt k (length g.border))
          where
            by : ((k < length g.border) ⊎ (length g.border ≤ k)) → has_bit i k ≡ w (slice_index xs k)
            by (inl few) =
                has_bit-index_of (first_values g.border first) k ∙ sym (values-first g.border first v within e k few) ∙ ap v (sym (border-at g k few))
                ∙ sym (cond-false (is_among g.aux (slice_index xs k)) (at_index xs i (slice_index xs k)) (v (slice_index xs k)) (ap (is_among g.aux) (border-at g k few) ∙ apart-at g.border group.apart k few))
              where
                apart-at : (ls : List Literal) → AllByRecursion (λ l. is_among g.aux l.variable ≡ false) ls → (k : ℕ) → k < length ls → is_among g.aux (get_or (map (λ l. l.variable) ls) k 0) ≡ false
                apart-at [] a k low = absurd (omega (arith, low))
                apart-at (l ∷ ls) a zero low = a.0
                apart-at (l ∷ ls) a (suc k) low = apart-at ls a.1 k (omega (arith, low))
            by (inr more) =
                gives-own xs i (distinct g group) k low
                ∙ sym (cond-true (is_among g.aux (slice_index xs k)) (at_index xs i (slice_index xs k)) (v (slice_index xs k))
                (list_any_at (λ v. v == slice_index xs k) g.aux (k - length g.border) 0 (omega (arith, low, more, long g)) (eq-eqb (get_or g.aux (k - length g.border) 0) (slice_index xs k) (sym (aux-at g k more)))))

-- ---- the table against that of the count

abbrev pub count_table : Gathered → ℕ → ℕ → Bool
count_table g bound i = nat_le bound (count_by (is_true_at i) (map (numbered (variables_of g)) g.border))

count-value : (g : Gathered) (bound : ℕ) (u : Truth) (i : ℕ) (v : ℕ → Bool) → IsTable (length (variables_of g)) (count_table g bound) u → i < 2 ^ length (variables_of g) → Gives (variables_of g) i v
    → value_at u i ≡ nat_le bound (places (is_true_by v) g.border)
count-value g bound u i v made low gives = made.each i low ∙ ap (nat_le bound) (count-at (variables_of g) i v gives g.border (border-among g))

pub cardinal-by_table : (g : Gathered) (bound : ℕ) (t u : Truth) → Tells g g.aux t → IsTable (length (variables_of g)) (count_table g bound) u → t ≡ u → bound ≤ length g.border + 1 → IsCardinal g bound
cardinal-by_table g bound t u h made same within = record { within = within; counts = counts }
  where
    counts : (v : ℕ → Bool) → CanHold g v ↔ (bound ≤ places (is_true_by v) g.border)
    counts v =
        let xs = variables_of g in
        let i = index_of (map v xs) in
        let low = index-within xs v in
        let gives = index-gives xs v in
        let value : value_at t i ≡ nat_le bound (places (is_true_by v) g.border) = ap (λ a. value_at a i) same ∙ count-value g bound u i v made low gives in (
          λ can. leb-true bound (places (is_true_by v) g.border) (sym value ∙ (h.each i v low gives).1 can),
          λ many. (h.each i v low gives).0 (value ∙ le-leb bound (places (is_true_by v) g.border) many),
        )

pub differs-by_table : (g : Gathered) (bound i : ℕ) (t u : Truth) (values : List Bool) → IsGroup g → Tells g g.aux t → IsTable (length (variables_of g)) (count_table g bound) u → IsFirstDifference t u i
    → values ≡ map (has_bit i) (range_with_len 0 (length g.border)) → DiffersAt g bound values
differs-by_table g bound i t u values group h made first e = record { all = v; are = are; differs = by (cases_Bool (value_at t i)) (cases_lt (places (is_true_by v) g.border) bound) }
  where
    xs : List ℕ
    xs = variables_of g

    v : ℕ → Bool
    v = at_index xs i

    gives : Gives xs i v
    gives = gives-own xs i (distinct g group)

    low : i < 2 ^ length xs
    low = subst (λ n. i < 2 ^ n) h.vars first.within

    value : value_at u i ≡ nat_le bound (places (is_true_by v) g.border)
    value = count-value g bound u i v made low gives

    are : map (λ l. v l.variable) g.border ≡ values
    are = same_lists (map (λ l. v l.variable) g.border) (map (has_bit i) (range_with_len 0 (length g.border)))
        (length-map g.border (λ (l : Literal). v l.variable) ∙ sym (length-map-range_with_len (has_bit i) 0 (length g.border)))
        (λ k d within. each k d (omega (arith, within, length-map g.border (λ (l : Literal). v l.variable))))
        ∙ sym e
      where
        twice : (ls : List Literal) (k : ℕ) (d : Bool) → k < length ls → get_or (map (λ l. v l.variable) ls) k d ≡ v (get_or (map (λ l. l.variable) ls) k 0)
        twice [] k d few = absurd (omega (arith, few))
        twice (l ∷ ls) zero d few = refl
        twice (l ∷ ls) (suc k) d few = twice ls k d (omega (arith, few))

        each : (k : ℕ) (d : Bool) → k < length g.border → get_or (map (λ l. v l.variable) g.border) k d ≡ get_or (map (has_bit i) (range_with_len 0 (length g.border))) k d
        each k d few =
            twice g.border k d few ∙ ap v (sym (border-at g k few)) ∙ sym (gives k (omega (arith, few, long g)))
            ∙ sym (get_or-map-range_with_len (has_bit i) 0 (length g.border) k k d few (omega arith))

    by : ((value_at t i ≡ true) ⊎ (value_at t i ≡ false)) → ((places (is_true_by v) g.border < bound) ⊎ (bound ≤ places (is_true_by v) g.border))
        → (CanHold g v × (places (is_true_by v) g.border < bound)) ⊎ ((CanHold g v → ⊥) × (bound ≤ places (is_true_by v) g.border))
    by (inl yes_) (inl less) = inl ((h.each i v low gives).0 yes_, less)
    by (inl yes_) (inr many) = absurd (first.differs (yes_ ∙ sym (value ∙ le-leb bound (places (is_true_by v) g.border) many)))
    by (inr none) (inl less) = absurd (first.differs (none ∙ sym (value ∙ lt-leb bound (places (is_true_by v) g.border) less)))
    by (inr none) (inr many) = inr ((λ can. true≢false (sym ((h.each i v low gives).1 can) ∙ none)), many)
