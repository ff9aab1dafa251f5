-- The blocks have no model, nor have their clauses.
use Rattle.std.proofs.Common.{◌≡◌, ℕ, zero, suc, ◌+◌, ◌-◌, ◌*◌, ◌≤◌, inl, inr, Bool, true, false, not, cond, eqb, List, [], ◌∷◌, ◌++◌, map, take, length, refl, ap, ◌∙◌, arith}
use Rattle.std.specs.List.{AllByRecursion}
use Rattle.kn_logic.specs.Literals.{Literal, negated}
use Rattle.kn_logic.specs.Assignments.{value_of, true_places}
use Rattle.kn_logic.specs.Constraints.{Bounded, Holds}
use Rattle.kn_logic.specs.Formulas.{IsFormula, IsUnsatisfiable}
use Rattle.kn_counter.proofs.Models.{model-cut}
use Rattle.kn_gen.specs.Blocks.{literals_from, block, at_most, at_least, block_klauses, blocks, links, block_formula, generated}

front : (P : Bounded → Type 0) (xs ys : List Bounded) → AllByRecursion P (xs ++ ys) → AllByRecursion P xs × AllByRecursion P ys
front P [] ys h = (tt, h)
front P (x ∷ xs) ys h = let rest = front P xs ys h.1 in ((h.0, rest.0), rest.1)

-- each literal or its negation is true
both-count : (values : List Bool) (lits : List Literal) → true_places values (map negated lits) + true_places values lits ≡ length lits
both-count values [] = refl
both-count values (l ∷ lits) = split l.positive (value_of values l.variable) (both-count values lits)
  where
    split : (p v : Bool) → true_places values (map negated lits) + true_places values lits ≡ length lits → (cond (cond (not p) v (not v)) 1 0 + true_places values (map negated lits)) + (cond (cond p v (not v)) 1 0 + true_places values lits) ≡ suc (length lits)
    split true true h = omega (arith, h)
    split true false h = omega (arith, h)
    split false true h = omega (arith, h)
    split false false h = omega (arith, h)

length-from : (first count : ℕ) → length (literals_from first count) ≡ count
length-from first zero = refl
length-from first (suc count) = ap suc (length-from (first + 1) count)

eq-refl : (n : ℕ) → eqb n n ≡ true
eq-refl n = grind arith

last-block : (values : List Bool) (n : ℕ) → AllByRecursion (Holds values) (block_klauses n n) → ⊥
last-block values n h =
    let most : at_most n n ≡ 3 = rw (eq-refl n) refl in
    let least : at_least n n ≡ 4 = rw (eq-refl n) refl in
    elim h.0 [
      | inl a ↦ elim h.1.0 [
        | inl b ↦
            let sum : true_places values (map negated (block n)) + true_places values (block n) ≡ 8 = both-count values (block n) ∙ length-from (8 * n - 7) 8 in
            omega (arith, a, b, sum, most, least)
        | inr off ↦ off
      ]
      | inr off ↦ off
    ]

pub blocks-refuted : (n : ℕ) → 1 ≤ n → IsUnsatisfiable (block_formula n)
blocks-refuted zero h values s = omega (arith, h)
blocks-refuted (suc n) h values s =
    let all = (front (Holds values) (blocks (suc n) (suc n)) (links (suc n - 1)) s.hold).0 in
    last-block values (suc n) (front (Holds values) (blocks (suc n) n) (block_klauses (suc n) (suc n)) all).1

-- Whoever makes the formula by its type has `IsFormula` from it.
pub generated-refuted : (n : ℕ) → 1 ≤ n → IsFormula (block_formula n) → IsUnsatisfiable (generated n)
generated-refuted n h w values s = blocks-refuted n h (take (8 * n) values) (model-cut (block_formula n) w values s)

-- the numbers of the smallest
one-block : (generated 1).vars ≡ 57
one-block = refl

one-block-clauses : length (generated 1).constraints ≡ 105
one-block-clauses = refl

twenty-blocks : (generated 20).vars ≡ 1469
twenty-blocks = refl

twenty-blocks-clauses : length (generated 20).constraints ≡ 2730
twenty-blocks-clauses = refl
