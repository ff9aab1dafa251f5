-- Pair groups, ids and numbers of which a test tells.
use Rattle.std.proofs.Common.{◌≡◌, ℕ, zero, suc, ◌+◌, ◌++◌, ◌&&◌, ◌||◌, ◌≤◌, Bool, true, false, not, List, [], ◌∷◌, length, take, Some, nat_eq, refl, sym, ap, ◌∙◌, subst, inl, inr, arith}
use Rattle.std.specs.List.{AllByRecursion, IsDistinct, list_all, slice_get}
use Rattle.std.proofs.lemmas.Bool.{and_parts, or_cases, not-true}
use Rattle.kn_logic.specs.Literals.{Literal, is_same, has}
use Rattle.kn_logic.specs.Constraints.{Bounded}
use Rattle.kn_logic.specs.Groups.{Gathered, IsGroup, has_pair, is_covered, IsPairGroup}
use Rattle.kn_logic.proofs.Public.{All-has}

all-tested : {X : Type 0} (test : X → Bool) (xs : List X) → list_all test xs ≡ true → AllByRecursion (λ x. test x ≡ true) xs
all-tested test [] e = tt
all-tested test (x ∷ xs) e = (let (first, rest) = and_parts (test x) (list_all test xs) e in (first, all-tested test xs rest))

-- whether there is a clause of each two
abbrev pub has_all_pairs : Gathered → Bool
has_all_pairs g = list_all (λ a. list_all (λ b. is_same a b || has_pair g.taken a b) g.border) g.border

two-of : (g : Gathered) (a b : Literal) → has_all_pairs g ≡ true → has g.border a ≡ true → has g.border b ≡ true → is_same a b ≡ false → has_pair g.taken a b ≡ true
two-of g a b e ha hb n =
    let row = All-has (λ x. list_all (λ y. is_same x y || has_pair g.taken x y) g.border ≡ true) g.border a (all-tested (λ x. list_all (λ y. is_same x y || has_pair g.taken x y) g.border) g.border e) ha in
    let one = All-has (λ y. (is_same a y || has_pair g.taken a y) ≡ true) g.border b (all-tested (λ y. is_same a y || has_pair g.taken a y) g.border row) hb in
    elim (or_cases (is_same a b) (has_pair g.taken a b) one) [
      | inl s ↦ absurd cc
      | inr t ↦ t
    ]

pub tested-group : (g : Gathered) → IsGroup g → g.aux ≡ [] → 3 ≤ length g.border → list_all (is_covered g.border) g.taken ≡ true → has_all_pairs g ≡ true → IsPairGroup g
tested-group g group none three covered pairs = record {
  group = group;
  aux = none;
  three = three;
  pairs = all-tested (is_covered g.border) g.taken covered;
  each = λ a b ha hb n. two-of g a b pairs ha hb n;
}

-- whether the ids are different
abbrev pub are_distinct : List ℕ → Bool
are_distinct [] = true
are_distinct (id ∷ ids) = list_all (λ y. not (nat_eq id y)) ids && are_distinct ids

apart-all : (id : ℕ) (ids : List ℕ) → list_all (λ y. not (nat_eq id y)) ids ≡ true → AllByRecursion (λ y. nat_eq id y ≡ false) ids
apart-all id [] e = tt
apart-all id (y ∷ ids) e = (let (first, rest) = and_parts (not (nat_eq id y)) (list_all (λ y. not (nat_eq id y)) ids) e in (not-true (nat_eq id y) first, apart-all id ids rest))

pub tested-distinct : (ids : List ℕ) → are_distinct ids ≡ true → IsDistinct nat_eq ids
unfolding IsDistinct
tested-distinct [] e = tt
tested-distinct (id ∷ ids) e = (let (first, rest) = and_parts (list_all (λ y. not (nat_eq id y)) ids) (are_distinct ids) e in (apart-all id ids first, tested-distinct ids rest))

taken_at : (xs : List Bounded) (k : ℕ) (x : Bounded) → slice_get xs k ≡ Some x → take (suc k) xs ≡ take k xs ++ x ∷ []
taken_at [] k x e = absurd cc
taken_at (y ∷ xs) zero x e = (let is : y ≡ x = cc in ap (λ (z : Bounded). z ∷ []) is)
taken_at (y ∷ xs) (suc k) x e = ap (λ (zs : List Bounded). y ∷ zs) (taken_at xs k x e)

pub taken-next : (xs old new : List Bounded) (k : ℕ) (x copy : Bounded) → old ≡ take k xs → new ≡ old ++ copy ∷ [] → copy ≡ x → Some x ≡ slice_get xs k → new ≡ take (k + 1) xs
taken-next xs old new k x copy e is same got =
    let next : k + 1 ≡ suc k = omega arith in
    is ∙ ap (λ (zs : List Bounded). zs ++ copy ∷ []) e ∙ ap (λ (z : Bounded). take k xs ++ z ∷ []) same ∙ sym (taken_at xs k x (sym got)) ∙ ap (λ (n : ℕ). take n xs) (sym next)

pub tested-as : (g : Gathered) (cs : List Bounded) (border : List Literal) (size : ℕ) → IsGroup g → g ≡ record { aux = []; taken = take size cs; border = border } → 3 ≤ length border
    → list_all (is_covered border) (take size cs) ≡ true → has_all_pairs (record { aux = []; taken = take size cs; border = border }) ≡ true → IsPairGroup g
tested-as g cs border size group e three covered pairs =
    subst IsPairGroup (sym e) (tested-group (record { aux = []; taken = take size cs; border = border }) (subst IsGroup e group) refl three covered pairs)
