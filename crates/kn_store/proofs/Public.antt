-- For the crates above: what holds of all elements of a list, numbers that rise, and constraints found by id.
use Rattle.std.proofs.Common.{◌≡◌, ℕ, suc, ◌+◌, ◌<◌, ◌≤◌, ◌==◌, Bool, true, false, cond, List, [], ◌∷◌, length, map, filter, get_or, Some, subst, ◌∙◌, refl, arith}
use Rattle.std.specs.Prelude.{zero}
use Rattle.std.specs.List.{AllByRecursion}
use Rattle.std.specs.List.Sorted.{IsStrictlyIncreasing, IsStrictlySortedBy}
use Rattle.std.specs.declared.cmp.Ordering.TheVariants.{Less}
use Rattle.std.specs.Cmp.{ranks}
use Rattle.std.specs.Ordering.{nat_cmp, MatchOrdering}
use Rattle.std.proofs.lemmas.Map.Keys.{sorted_from_strictly_increasing}
use Rattle.std.proofs.lemmas.Bool.{cond-true, cond-false, eq-eqb, ne_eqb}
use Rattle.kn_store.specs.Stores.{Numbered, constraint_at, ids_of}

-- of all elements
pub all-one : {X : Type 0} (P R : X → Type 0) → ((x : X) → P x → R x) → (xs : List X) → AllByRecursion P xs → AllByRecursion R xs
all-one P R f [] a = tt
all-one P R f (x ∷ xs) a = (f x a.0, all-one P R f xs a.1)

pub all-two : {X : Type 0} (P Q R : X → Type 0) → ((x : X) → P x → Q x → R x) → (xs : List X) → AllByRecursion P xs → AllByRecursion Q xs → AllByRecursion R xs
all-two P Q R f [] a b = tt
all-two P Q R f (x ∷ xs) a b = (f x a.0 b.0, all-two P Q R f xs a.1 b.1)

pub from-map : {X Y : Type 0} (f : X → Y) (P : Y → Type 0) (xs : List X) → AllByRecursion P (map f xs) → AllByRecursion (λ x. P (f x)) xs
from-map f P [] h = tt
from-map f P (x ∷ xs) h = (h.0, from-map f P xs h.1)

pub to-map : {X Y : Type 0} (f : X → Y) (P : Y → Type 0) (xs : List X) → AllByRecursion (λ x. P (f x)) xs → AllByRecursion P (map f xs)
to-map f P [] h = tt
to-map f P (x ∷ xs) h = (h.0, to-map f P xs h.1)

pub all-filter : {X : Type 0} (P : X → Type 0) (test : X → Bool) (xs : List X) → AllByRecursion P xs → AllByRecursion P (filter test xs)
all-filter P test [] h = tt
all-filter {X} P test (x ∷ xs) h = at (test x) (all-filter P test xs h.1)
  where
    at : (t : Bool) → AllByRecursion P (filter test xs) → AllByRecursion P (cond t (x ∷ filter test xs) (filter test xs))
    at true more = (h.0, more)
    at false more = more

pub all-pass : {X : Type 0} (test : X → Bool) (xs : List X) → AllByRecursion (λ x. test x ≡ true) (filter test xs)
all-pass test [] = tt
all-pass {X} test (x ∷ xs) = at (test x) refl (all-pass test xs)
  where
    at : (t : Bool) → test x ≡ t → AllByRecursion (λ x. test x ≡ true) (filter test xs) → AllByRecursion (λ x. test x ≡ true) (cond t (x ∷ filter test xs) (filter test xs))
    at true e more = (e, more)
    at false e more = more

-- numbers that rise, by recursion
abbrev pub Rises : List ℕ → Type 0
Rises [] = Unit {0}
Rises (x ∷ xs) = AllByRecursion (λ y. x < y) xs × Rises xs

less : (x y : ℕ) → nat_cmp x y ≡ Less → x < y
less x y e = subst (λ r. MatchOrdering r (x < y) (x ≡ y) (y < x)) e (ranks x y)

unroll : (xs : List ℕ) → IsStrictlySortedBy nat_cmp xs → Rises xs
unfolding IsStrictlySortedBy
unroll [] h = tt
unroll (x ∷ xs) h = (all-one (λ y. nat_cmp x y ≡ Less) (λ y. x < y) (λ y e. less x y e) xs h.0, unroll xs h.1)

pub rises : (xs : List ℕ) → IsStrictlyIncreasing xs → Rises xs
rises xs h = unroll xs (sorted_from_strictly_increasing xs h)

pub increasing : (xs : List ℕ) → Rises xs → IsStrictlyIncreasing xs
increasing [] h k i = absurd (omega (arith, i))
increasing (x ∷ []) h k i = absurd (omega (arith, i))
increasing (x ∷ y ∷ xs) h zero i = h.0.0
increasing (x ∷ y ∷ xs) h (suc k) i =
    let step : suc (k + 1) ≡ suc k + 1 = omega arith in
    subst (λ n. get_or (y ∷ xs) k 0 < get_or (x ∷ y ∷ xs) n 0) step (increasing (y ∷ xs) h.1 k (omega (arith, i)))

pub rises-filter : (test : ℕ → Bool) (xs : List ℕ) → Rises xs → Rises (filter test xs)
rises-filter test [] h = tt
rises-filter test (x ∷ xs) h = at (test x) (rises-filter test xs h.1)
  where
    at : (t : Bool) → Rises (filter test xs) → Rises (cond t (x ∷ filter test xs) (filter test xs))
    at true more = (all-filter (λ y. x < y) test xs h.0, more)
    at false more = more

above : (x : ℕ) (xs : List ℕ) (k : ℕ) → AllByRecursion (λ y. x < y) xs → k < length xs → x < get_or xs k 0
above x [] k h i = absurd (omega (arith, i))
above x (y ∷ xs) zero h i = h.0
above x (y ∷ xs) (suc k) h i = above x xs k h.1 (omega (arith, i))

pub rises-order : (xs : List ℕ) → Rises xs → (i j : ℕ) → i ≤ j → j < length xs → get_or xs i 0 ≤ get_or xs j 0
rises-order [] h i j a b = absurd (omega (arith, b))
rises-order (x ∷ xs) h zero zero a b = omega arith
rises-order (x ∷ xs) h zero (suc j) a b = let low = above x xs j h.0 (omega (arith, b)) in omega (arith, low)
rises-order (x ∷ xs) h (suc i) zero a b = absurd (omega (arith, a))
rises-order (x ∷ xs) h (suc i) (suc j) a b = rises-order xs h.1 i j (omega (arith, a)) (omega (arith, b))

-- where ids rise, each is that of its constraint
abbrev pub IsOwn : List Numbered → Numbered → Type 0
IsOwn live p = constraint_at live p.id ≡ Some p.constraint

pub own : (live : List Numbered) → Rises (ids_of live) → AllByRecursion (IsOwn live) live
own [] r = tt
own (p ∷ ps) r = (
  cond-true (p.id == p.id) (Some p.constraint) (constraint_at ps p.id) (eq-eqb p.id p.id refl),
  all-two (λ q. p.id < q.id) (IsOwn ps) (IsOwn (p ∷ ps))
      (λ q low e. cond-false (p.id == q.id) (Some p.constraint) (constraint_at ps q.id) (ne_eqb p.id q.id (λ s. absurd (omega (arith, s, low)))) ∙ e)
      ps (from-map (λ q. q.id) (λ y. p.id < y) ps r.0) (own ps r.1),
)
