-- One group: the ids of its places, and its klause.
use Rattle.std.proofs.Common.{ℕ, zero, suc, ◌≡◌, ◌+◌, ◌-◌, ◌≤◌, ◌<◌, ◌==◌, Bool, false, List, [], ◌∷◌, ◌++◌, length, map, reverse, filter, Option, None, Some, sym, ap, ◌∙◌, arith}
use Rattle.std.specs.Prelude.{nat_eq, if◌then◌else◌}
use Rattle.std.specs.List.{AllByRecursion, IsDistinct, range_with_len}
use Rattle.std.specs.List.Sorted.{IsStrictlyIncreasing}
use Rattle.std.proofs.lemmas.Bool.{ne_eqb}
use Rattle.std.proofs.lemmas.List.Elements.{filter-append}
use Rattle.kn_logic.specs.Constraints.{Bounded, klause}
use Rattle.kn_rules.specs.declared.given.Given.{Given}
use Rattle.kn_rules.specs.States.{live_at}
use Rattle.kn_justify.specs.Taken.{AreTaken}
use Rattle.kn_quant.specs.Eliminations.{Eliminated}
use Rattle.kn_extract.specs.Kept.{Took, IsTaken}
use Rattle.kn_store.proofs.Public.{Rises, rises}
use Rattle.kn_opening.specs.Openings.{klause_by, klause_in_proof}

next-above : (x : ℕ) (ys : List ℕ) → AllByRecursion (λ y. x < y) ys → AllByRecursion (λ y. x + 1 < y) (map (λ y. y + 1) ys)
next-above x [] h = tt
next-above x (y ∷ ys) h = (omega (arith, h.0), next-above x ys h.1)

next-rises : (xs : List ℕ) → Rises xs → Rises (map (λ x. x + 1) xs)
next-rises [] h = tt
next-rises (x ∷ xs) h = (next-above x xs h.0, next-rises xs h.1)

apart-from : (x : ℕ) (ys : List ℕ) → AllByRecursion (λ y. x < y) ys → AllByRecursion (λ y. nat_eq x y ≡ false) ys
apart-from x [] h = tt
apart-from x (y ∷ ys) h = (ne_eqb x y (λ e. omega (arith, e, h.0)), apart-from x ys h.1)

rises-distinct : (xs : List ℕ) → Rises xs → IsDistinct nat_eq xs
unfolding IsDistinct
rises-distinct [] h = tt
rises-distinct (x ∷ xs) h = (apart-from x xs h.0, rises-distinct xs h.1)

pub ids-distinct : (places : List ℕ) → IsStrictlyIncreasing places → IsDistinct nat_eq (map (λ place. place + 1) places)
ids-distinct places h = rises-distinct (map (λ place. place + 1) places) (next-rises places (rises places h))

less-one : (n b : ℕ) → b + 1 ≡ n → n - 1 ≡ b
less-one n b e = omega (arith, e)

-- the klause of a pair group
pub pair-klause : (t : Took) → IsTaken t → t.elimination ≡ None → t.klause.bound + 1 ≡ length t.group.border → klause (length t.group.border - 1) t.group.border ≡ klause_in_proof t
pair-klause t taken none bound =
    ap (λ b. klause b t.group.border) (less-one (length t.group.border) t.klause.bound bound) ∙ sym taken.klause ∙ ap (λ o. klause_by o t.klause) (sym none)

-- that of a group with auxiliary variables
pub border-klause : (t : Took) (e : Eliminated) → IsTaken t → t.elimination ≡ Some e → klause t.klause.bound (reverse t.group.border) ≡ klause_in_proof t
border-klause t e taken some =
    ap (λ (c : Bounded). klause c.bound (reverse c.lits)) (sym taken.klause) ∙ ap (λ o. klause_by o t.klause) (sym some)

-- ---- the ids that are live

range-suc : (a n : ℕ) → range_with_len a (suc n) ≡ range_with_len a n ++ (a + n) ∷ []
range-suc a zero = ap (λ (k : ℕ). k ∷ []) (none a)
  where
    none : (a : ℕ) → a ≡ a + 0
    none a = omega arith
range-suc a (suc n) = ap (λ (ks : List ℕ). a ∷ ks) (range-suc (a + 1) n ∙ ap (λ k. range_with_len (a + 1) n ++ k ∷ []) (turn a n))
  where
    turn : (a n : ℕ) → a + 1 + n ≡ a + suc n
    turn a n = omega arith

range-more : (a n : ℕ) → range_with_len a (n + 1) ≡ range_with_len a n ++ (a + n) ∷ []
range-more a n = ap (range_with_len a) (add n) ∙ range-suc a n
  where
    add : (n : ℕ) → n + 1 ≡ suc n
    add n = omega arith

pub filter-more : (test : ℕ → Bool) (xs : List ℕ) (n k : ℕ) → xs ≡ filter test (range_with_len 1 n) → k ≡ n + 1 → xs ++ (if test k then k ∷ [] else []) ≡ filter test (range_with_len 1 (n + 1))
filter-more test xs n k e is =
    ap (λ z. z ++ (if test k then k ∷ [] else [])) e ∙ ap (λ j. filter test (range_with_len 1 n) ++ filter test (j ∷ [])) (is ∙ turn n)
    ∙ sym (filter-append test (range_with_len 1 n) ((1 + n) ∷ [])) ∙ ap (filter test) (sym (range-more 1 n))
  where
    turn : (n : ℕ) → n + 1 ≡ 1 + n
    turn n = omega arith

-- clauses that are live under ids, one each
taken-at : (given : List Given) (id : ℕ) (ids : List ℕ) (c : Bounded) (cs : List Bounded) → live_at given id ∷ map (live_at given) ids ≡ Some c ∷ map (λ d. Some d) cs → (live_at given id ≡ Some c) × (map (live_at given) ids ≡ map (λ d. Some d) cs)
taken-at given id ids c cs e = (ap (first-or None) e, ap rest-of e)
  where
    first-or : Option Bounded → List (Option Bounded) → Option Bounded
    first-or d [] = d
    first-or d (x ∷ xs) = x

    rest-of : List (Option Bounded) → List (Option Bounded)
    rest-of [] = []
    rest-of (x ∷ xs) = xs

pub are-taken : (given : List Given) (ids : List ℕ) (cs : List Bounded) → map (live_at given) ids ≡ map (λ d. Some d) cs → AreTaken given ids cs
are-taken given [] [] e = tt
are-taken given [] (c ∷ cs) e = absurd cc
are-taken given (id ∷ ids) [] e = absurd cc
are-taken given (id ∷ ids) (c ∷ cs) e = let p = taken-at given id ids c cs e in (p.0, are-taken given ids cs p.1)
