-- The group of a test counts its border: at least two of -1, -2 and -3 are true.
use Rattle.std.proofs.Common.{◌≡◌, ℕ, ◌+◌, ◌≤◌, ◌==◌, ◌||◌, Bool, true, false, not, if◌then◌else◌, [], ◌∷◌, refl, sym, ◌∙◌, subst, arith}
use Rattle.std.proofs.lemmas.Bool.{cond-false, eqb-false, ne_eqb, or_parts, true≢false}
use Rattle.kn_logic.specs.Literals.{places}
use Rattle.kn_logic.specs.Constraints.{clause}
use Rattle.kn_logic.specs.Formulas.{Problem}
use Rattle.kn_logic.specs.Groups.{Gathered}
use Rattle.kn_rules.specs.States.{start}
use Rattle.kn_diagram.specs.Diagrams.{is_true_by}
use Rattle.kn_quant.specs.Runs.{CanHold, AgreeBut}
use Rattle.kn_justify.specs.Taken.{AreTaken, IsGroupWithin, CountsBorder}

abbrev pub problem : Problem
problem = record {
  vars = 5;
  constraints =
      clause (record { variable = 1; positive = false } ∷ record { variable = 4; positive = true } ∷ [])
      ∷ clause (record { variable = 4; positive = false } ∷ record { variable = 5; positive = true } ∷ [])
      ∷ clause (record { variable = 2; positive = false } ∷ record { variable = 5; positive = true } ∷ [])
      ∷ clause (record { variable = 2; positive = false } ∷ record { variable = 4; positive = false } ∷ [])
      ∷ clause (record { variable = 3; positive = false } ∷ record { variable = 5; positive = false } ∷ []) ∷ [];
}

abbrev pub at_most_one : Gathered
at_most_one = record {
  aux = 4 ∷ 5 ∷ [];
  taken = problem.constraints;
  border = record { variable = 1; positive = false } ∷ record { variable = 2; positive = false } ∷ record { variable = 3; positive = false } ∷ [];
}

-- at least two of the three are false
abbrev pub TwoAreFalse : Bool → Bool → Bool → Type 0
TwoAreFalse a b c = 2 ≤ (if not a then 1 else 0) + ((if not b then 1 else 0) + ((if not c then 1 else 0) + 0))

forward_bits : (a b c p q : Bool) → (not a || (p || false)) ≡ true → (not p || (q || false)) ≡ true → (not b || (q || false)) ≡ true → (not b || (not p || false)) ≡ true → (not c || (not q || false)) ≡ true → TwoAreFalse a b c
forward_bits false false false p q h i j k l = omega arith
forward_bits false false true p q h i j k l = omega arith
forward_bits false true false p q h i j k l = omega arith
forward_bits true false false p q h i j k l = omega arith
forward_bits true true c true q h i j k l = absurd (true≢false (sym k))
forward_bits true true c false q h i j k l = absurd (true≢false (sym h))
forward_bits true false true false q h i j k l = absurd (true≢false (sym h))
forward_bits true false true true false h i j k l = absurd (true≢false (sym i))
forward_bits true false true true true h i j k l = absurd (true≢false (sym l))
forward_bits false true true p false h i j k l = absurd (true≢false (sym j))
forward_bits false true true p true h i j k l = absurd (true≢false (sym l))

-- the clauses hold where 4 is as 1, and 5 is true where 1 or 2 is
abbrev pub AllHold : Bool → Bool → Bool → Type 0
AllHold a b c =
    ((not a || (a || false)) ≡ true) × ((not a || ((a || b) || false)) ≡ true) × ((not b || ((a || b) || false)) ≡ true) × ((not b || (not a || false)) ≡ true) × ((not c || (not (a || b) || false)) ≡ true)

backward_bits : (a b c : Bool) → TwoAreFalse a b c → AllHold a b c
backward_bits false false false h = (refl, refl, refl, refl, refl)
backward_bits false false true h = (refl, refl, refl, refl, refl)
backward_bits false true false h = (refl, refl, refl, refl, refl)
backward_bits true false false h = (refl, refl, refl, refl, refl)
backward_bits true true true h = absurd (omega (arith, h))
backward_bits true true false h = absurd (omega (arith, h))
backward_bits true false true h = absurd (omega (arith, h))
backward_bits false true true h = absurd (omega (arith, h))

forward : (v : ℕ → Bool) → CanHold at_most_one v → 2 ≤ places (is_true_by v) at_most_one.border
forward v (w, agree, t) =
    subst (λ (x : Bool). TwoAreFalse x (v 2) (v 3)) (agree 1 refl)
    (subst (λ (x : Bool). TwoAreFalse (w 1) x (v 3)) (agree 2 refl)
    (subst (λ (x : Bool). TwoAreFalse (w 1) (w 2) x) (agree 3 refl) (forward_bits (w 1) (w 2) (w 3) (w 4) (w 5) t.0 t.1.0 t.1.1.0 t.1.1.1.0 t.1.1.1.1.0)))

abbrev chosen : (ℕ → Bool) → ℕ → Bool
chosen v x = if x == 4 then v 1 else if x == 5 then v 1 || v 2 else v x

chosen_agrees : (v : ℕ → Bool) → AgreeBut at_most_one.aux v (chosen v)
chosen_agrees v x other =
    let first = or_parts (4 == x) ((5 == x) || false) other in
    let second = or_parts (5 == x) false first.1 in
    cond-false (x == 4) (v 1) (if x == 5 then v 1 || v 2 else v x) (ne_eqb x 4 (λ e. eqb-false 4 x first.0 (sym e)))
    ∙ cond-false (x == 5) (v 1 || v 2) (v x) (ne_eqb x 5 (λ e. eqb-false 5 x second.0 (sym e)))

backward : (v : ℕ → Bool) → 2 ≤ places (is_true_by v) at_most_one.border → CanHold at_most_one v
backward v h = (let (a, b, c, d, e) = backward_bits (v 1) (v 2) (v 3) h in (chosen v, chosen_agrees v, (a, (b, (c, (d, (e, tt)))))))

pub counts : CountsBorder at_most_one 2
counts v = (forward v, backward v)

pub within : IsGroupWithin 5 at_most_one
within = record {
  aux = ((omega arith, omega arith), ((omega arith, omega arith), tt));
  border = ((omega arith, omega arith), ((omega arith, omega arith), ((omega arith, omega arith), tt)));
}

pub taken : AreTaken (start problem).given (1 ∷ 2 ∷ 3 ∷ 4 ∷ 5 ∷ []) problem.constraints
taken = (refl, (refl, (refl, (refl, (refl, tt)))))
