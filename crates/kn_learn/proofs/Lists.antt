-- Lists of places.
use Rattle.std.proofs.Common.{◌∙◌, ◌≡◌, ℕ, zero, suc, ◌+◌, ◌≤◌, ◌<◌, ◌⊎◌, ◌++◌, Bool, true, false, cond, eqb, List, [], ◌∷◌, length, take, get_or, refl, sym, ap, subst, inl, inr, arith}
use Rattle.std.specs.List.{AllByRecursion, filter}
use Rattle.std.specs.List.Sorted.{IsPermutation, IsNonDecreasing}
use Rattle.std.proofs.lemmas.Bool.{or_cases, or_left, or_right, or_parts, eqb-true, eq-eqb, cases_Bool, cases_lt}
use Rattle.std.proofs.lemmas.List.{take_more}
use Rattle.std.proofs.lemmas.List.Elements.{All-from_recursion, recursion_from_All}
use Rattle.std.proofs.lemmas.List.Sorted.{All-permutation, IsPermutation-sym}
use Rattle.kn_learn.specs.Reasons.{contains, IsAscending}
use Rattle.kn_learn.specs.Analyses.{AreOnce}

pub contains-push : (ps : List ℕ) (p q : ℕ) → contains ps q ≡ true → contains (ps ++ p ∷ []) q ≡ true
contains-push [] p q h = absurd cc
contains-push (x ∷ ps) p q h = elim (or_cases (eqb x q) (contains ps q) h) [ inl s ↦ or_left (eqb x q) (contains (ps ++ p ∷ []) q) s | inr s ↦ or_right (eqb x q) (contains (ps ++ p ∷ []) q) (contains-push ps p q s) ]

pub contains-last : (ps : List ℕ) (p : ℕ) → contains (ps ++ p ∷ []) p ≡ true
contains-last [] p = or_left (eqb p p) false (eq-eqb p p refl)
contains-last (x ∷ ps) p = or_right (eqb x p) (contains (ps ++ p ∷ []) p) (contains-last ps p)

pub contains-front : (ps : List ℕ) (p q : ℕ) → contains (ps ++ p ∷ []) q ≡ true → (contains ps q ≡ true) ⊎ (p ≡ q)
contains-front [] p q h = elim (or_cases (eqb p q) false h) [ inl e ↦ inr (eqb-true p q e) | inr e ↦ absurd cc ]
contains-front (x ∷ ps) p q h =
    elim (or_cases (eqb x q) (contains (ps ++ p ∷ []) q) h) [
      | inl e ↦ inl (or_left (eqb x q) (contains ps q) e)
      | inr e ↦ elim (contains-front ps p q e) [ inl s ↦ inl (or_right (eqb x q) (contains ps q) s) | inr s ↦ inr s ]
    ]

-- the places before one more
pub contains-next : (ps : List ℕ) (k q : ℕ) → k < length ps → contains (take (k + 1) ps) q ≡ true → (contains (take k ps) q ≡ true) ⊎ (get_or ps k 0 ≡ q)
contains-next ps k q less h = contains-front (take k ps) (get_or ps k 0) q (subst (λ (xs : List ℕ). contains xs q ≡ true) (take_more ps k 0 less) h)

pub all-contains : (P : ℕ → Type 0) (ps : List ℕ) (q : ℕ) → AllByRecursion P ps → contains ps q ≡ true → P q
all-contains P [] q h k = absurd cc
all-contains P (p ∷ ps) q h k = elim (or_cases (eqb p q) (contains ps q) k) [ inl s ↦ subst P (eqb-true p q s) h.0 | inr s ↦ all-contains P ps q h.1 s ]

all-themselves : (ps : List ℕ) → AllByRecursion (λ q. contains ps q ≡ true) ps
all-themselves ps = every ps ps (λ q h. h)
  where
    every : (all ps : List ℕ) → ((q : ℕ) → contains ps q ≡ true → contains all q ≡ true) → AllByRecursion (λ q. contains all q ≡ true) ps
    every all [] h = tt
    every all (p ∷ ps) h = (h p (or_left (eqb p p) (contains ps p) (eq-eqb p p refl)), every all ps (λ q k. h q (or_right (eqb p q) (contains ps q) k)))

pub all-permuted : (P : ℕ → Type 0) (xs ys : List ℕ) → IsPermutation xs ys → AllByRecursion P xs → AllByRecursion P ys
all-permuted P xs ys s h = recursion_from_All P ys (All-permutation P xs ys s (All-from_recursion P xs h))

pub permuted-has : (xs ys : List ℕ) → IsPermutation xs ys → (q : ℕ) → contains xs q ≡ true → contains ys q ≡ true
permuted-has xs ys s q h = all-contains (λ r. contains ys r ≡ true) xs q (all-permuted (λ r. contains ys r ≡ true) ys xs (IsPermutation-sym xs ys s) (all-themselves ys)) h

pub all-at : (P : ℕ → Type 0) (ps : List ℕ) (k d : ℕ) → AllByRecursion P ps → k < length ps → P (get_or ps k d)
all-at P [] k d h less = absurd (omega (arith, less))
all-at P (x ∷ ps) zero d h less = h.0
all-at P (x ∷ ps) (suc k) d h less = all-at P ps k d h.1 (omega (arith, less))

-- what holds of each place holds of one that is read of the same places
pub at-same : (P : ℕ → Type 0) (old new : List ℕ) (k x : ℕ) → new ≡ old → k < length old → x ≡ get_or new k x → AllByRecursion P old → P x
at-same P old new k x same less is h = subst P (sym (is ∙ ap (λ (ps : List ℕ). get_or ps k x) same)) (all-at P old k x h less)

pub all-more : (P Q : ℕ → Type 0) (ps : List ℕ) → ((q : ℕ) → P q → Q q) → AllByRecursion P ps → AllByRecursion Q ps
all-more P Q [] h all = tt
all-more P Q (p ∷ ps) h all = (h p all.0, all-more P Q ps h all.1)

-- places that stand there once
pub once-last : (ps : List ℕ) (p : ℕ) → AreOnce ps → contains ps p ≡ false → AreOnce (ps ++ p ∷ [])
once-last [] p h k = (refl, tt)
once-last (x ∷ ps) p h k =
    let parts = or_parts (eqb x p) (contains ps p) k in
    (none-last x p ps h.0 parts.0, once-last ps p h.1 parts.1)
  where
    none-last : (x p : ℕ) (ps : List ℕ) → contains ps x ≡ false → eqb x p ≡ false → contains (ps ++ p ∷ []) x ≡ false
    none-last x p [] h d = elim (cases_Bool (eqb p x)) [ inl s ↦ (let e : eqb x p ≡ true = eq-eqb x p (sym (eqb-true p x s)) in absurd cc) | inr s ↦ rw s refl ]
    none-last x p (y ∷ ps) h d = let parts = or_parts (eqb y x) (contains ps x) h in rw parts.0 (none-last x p ps parts.1 d)

kept-none : (x y : ℕ) (ps : List ℕ) (b : Bool) → eqb y x ≡ false → contains ps x ≡ false → contains (cond b (y ∷ ps) ps) x ≡ false
kept-none x y ps true d h = rw d h
kept-none x y ps false d h = h

filter-none : (test : ℕ → Bool) (ps : List ℕ) (x : ℕ) → contains ps x ≡ false → contains (filter test ps) x ≡ false
filter-none test [] x h = refl
filter-none test (y ∷ ps) x h = let parts = or_parts (eqb y x) (contains ps x) h in kept-none x y (filter test ps) (test y) parts.0 (filter-none test ps x parts.1)

once-kept : (x : ℕ) (ps : List ℕ) (b : Bool) → contains ps x ≡ false → AreOnce ps → AreOnce (cond b (x ∷ ps) ps)
once-kept x ps true n h = (n, h)
once-kept x ps false n h = h

pub once-filter : (test : ℕ → Bool) (ps : List ℕ) → AreOnce ps → AreOnce (filter test ps)
once-filter test [] h = tt
once-filter test (x ∷ ps) h = once-kept x (filter test ps) (test x) (filter-none test ps x h.0) (once-filter test ps h.1)

all-kept : (P : ℕ → Type 0) (x : ℕ) (ps : List ℕ) (b : Bool) → P x → AllByRecursion P ps → AllByRecursion P (cond b (x ∷ ps) ps)
all-kept P x ps true p h = (p, h)
all-kept P x ps false p h = h

pub all-filter : (P : ℕ → Type 0) (test : ℕ → Bool) (ps : List ℕ) → AllByRecursion P ps → AllByRecursion P (filter test ps)
all-filter P test [] h = tt
all-filter P test (x ∷ ps) h = all-kept P x (filter test ps) (test x) h.0 (all-filter P test ps h.1)

kept-first : (x q : ℕ) (ps : List ℕ) (b : Bool) → eqb x q ≡ true → b ≡ true → contains (cond b (x ∷ ps) ps) q ≡ true
kept-first x q ps true e t = or_left (eqb x q) (contains ps q) e
kept-first x q ps false e t = absurd cc

kept-behind : (x q : ℕ) (ps : List ℕ) (b : Bool) → contains ps q ≡ true → contains (cond b (x ∷ ps) ps) q ≡ true
kept-behind x q ps true h = or_right (eqb x q) (contains ps q) h
kept-behind x q ps false h = h

pub contains-filter : (test : ℕ → Bool) (ps : List ℕ) (q : ℕ) → contains ps q ≡ true → test q ≡ true → contains (filter test ps) q ≡ true
contains-filter test [] q h t = absurd cc
contains-filter test (x ∷ ps) q h t =
    elim (or_cases (eqb x q) (contains ps q) h) [
      | inl e ↦ kept-first x q (filter test ps) (test x) e (subst (λ (n : ℕ). test n ≡ true) (sym (eqb-true x q e)) t)
      | inr s ↦ kept-behind x q (filter test ps) (test x) (contains-filter test ps q s t)
    ]

pub filter-last : (test : ℕ → Bool) (ps : List ℕ) (p : ℕ) → filter test (ps ++ p ∷ []) ≡ filter test ps ++ cond (test p) (p ∷ []) []
filter-last test [] p = refl
filter-last test (x ∷ ps) p = split (test x) x (filter test (ps ++ p ∷ [])) (filter test ps) (cond (test p) (p ∷ []) []) (filter-last test ps p)
  where
    split : (b : Bool) (x : ℕ) (whole front last : List ℕ) → whole ≡ front ++ last → cond b (x ∷ whole) whole ≡ cond b (x ∷ front) front ++ last
    split true x whole front last e = ap (λ (xs : List ℕ). x ∷ xs) e
    split false x whole front last e = e

-- places in order
pub ascending-from : (ps : List ℕ) → IsNonDecreasing ps → IsAscending ps
ascending-from [] h = tt
ascending-from (p ∷ ps) h = (first p ps ps (λ k less. h 0 (suc k) p (omega arith) (omega (arith, less))), ascending-from ps (λ i j d le less. h (suc i) (suc j) d (omega (arith, le)) (omega (arith, less))))
  where
    first : (p : ℕ) (all ps : List ℕ) → ((k : ℕ) → k < length ps → p ≤ get_or ps k p) → AllByRecursion (λ q. p ≤ q) ps
    first p all [] h = tt
    first p all (q ∷ ps) h = (h 0 (omega arith), first p all ps (λ k less. h (suc k) (omega (arith, less))))

-- a place of the list has a number there
pub number-of : (ps : List ℕ) (q : ℕ) → contains ps q ≡ true → (k : ℕ) × (k < length ps) × (get_or ps k 0 ≡ q)
number-of [] q h = absurd cc
number-of (x ∷ ps) q h = elim (or_cases (eqb x q) (contains ps q) h) [
  | inl e ↦ (0, omega arith, eqb-true x q e)
  | inr s ↦ (let (k, less, same) = number-of ps q s in (suc k, omega (arith, less), same))
]

contains-taken : (ps : List ℕ) (k n : ℕ) → k < n → k < length ps → contains (take n ps) (get_or ps k 0) ≡ true
contains-taken [] k n h less = absurd (omega (arith, less))
contains-taken (x ∷ ps) k zero h less = absurd (omega (arith, h))
contains-taken (x ∷ ps) zero (suc n) h less = or_left (eqb x x) (contains (take n ps) x) (eq-eqb x x refl)
contains-taken (x ∷ ps) (suc k) (suc n) h less = or_right (eqb x (get_or ps k 0)) (contains (take n ps) (get_or ps k 0)) (contains-taken ps k n (omega (arith, h)) (omega (arith, less)))

-- in a list in order, what is below the place of a number stands before it
pub below-taken : (ps : List ℕ) (at q : ℕ) → IsNonDecreasing ps → at < length ps → q < get_or ps at 0 → contains ps q ≡ true → contains (take (at + 1) ps) q ≡ true
below-taken ps at q order less below h =
    let (k, within, same) = number-of ps q h in
    subst (λ (n : ℕ). contains (take (at + 1) ps) n ≡ true) same
    (contains-taken ps k (at + 1) (before k within same) within)
  where
    before : (k : ℕ) → k < length ps → get_or ps k 0 ≡ q → k < at + 1
    before k within same = elim (cases_lt k (at + 1)) [
      | inl e ↦ e
      | inr e ↦ absurd (omega (arith, order at k 0 (omega (arith, e)) within, same, below))
    ]
