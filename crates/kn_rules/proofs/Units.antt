-- What a unit clause, a klause and a definition that are tested are known to be.
use Rattle.std.proofs.Common.{◌≡◌, ℕ, ◌+◌, ◌-◌, ◌≤◌, ◌⊎◌, ◌++◌, ◌&&◌, ◌==◌, Bool, true, false, cond, leb, List, [], ◌∷◌, length, Option, None, Some, refl, sym, ◌∙◌, subst, inl, inr, arith}
use Rattle.std.specs.Option.{is_none}
use Rattle.std.proofs.lemmas.Bool.{and_parts, leb-true, eqb-true}
use Rattle.std.proofs.Math.Seq.{get_or-append_seam}
use Rattle.kn_logic.proofs.Public.{true-same}
use Rattle.kn_logic.specs.Literals.{Literal}
use Rattle.kn_logic.specs.Assignments.{value_of, is_true, true_places}
use Rattle.kn_logic.specs.Constraints.{Bounded, IsOff, Holds}
use Rattle.kn_lines.specs.declared.line.Arm.{Arm}
use Rattle.kn_lines.specs.declared.line.Arm.TheVariants as arm
use Rattle.kn_rules.specs.Steps.{is_known_variable, is_known_arm, is_unit_list, is_unit, unit_of}
use Rattle.kn_rules.specs.States.{IsArmWithin, IsDefinedWithin}

-- known variables
pub known-variable : (vars variable : ℕ) → is_known_variable vars variable ≡ true → (1 ≤ variable) × (variable ≤ vars)
known-variable vars variable e =
    let parts = and_parts (leb 1 variable) (leb variable vars) e in
    (leb-true _ _ parts.0, leb-true _ _ parts.1)

pub known-arm : (vars : ℕ) (a : Arm) → is_known_arm vars a ≡ true → IsArmWithin vars a
known-arm vars arm.True e = tt
known-arm vars arm.False e = tt
known-arm vars (arm.Lit l) e = known-variable vars l.variable e

pub defined-known : (vars : ℕ) (x : Literal) (high low : Arm) → (is_known_variable vars x.variable && (is_known_arm vars high && is_known_arm vars low)) ≡ true → IsDefinedWithin vars (record { test = x; high = high; low = low })
defined-known vars x high low e =
    let parts = and_parts (is_known_variable vars x.variable) (is_known_arm vars high && is_known_arm vars low) e in
    let arms = and_parts (is_known_arm vars high) (is_known_arm vars low) parts.1 in
    record { test = known-variable vars x.variable parts.0; high = known-arm vars high arms.0; low = known-arm vars low arms.1 }

-- the value behind the others
pub last-value : (values : List Bool) (b : Bool) (vars : ℕ) → length values ≡ vars → value_of (values ++ b ∷ []) (vars + 1) ≡ b
last-value values b vars e =
    let place : vars + 1 - 1 ≡ length values = omega arith in
    rw place (get_or-append_seam values b [] false)

-- unit clauses
one-true : (t : Bool) → 1 ≤ cond t 1 0 + 0 → t ≡ true
one-true true h = refl
one-true false h = absurd (omega arith)

list-true : (values : List Bool) (lits : List Literal) (variable : ℕ) → is_unit_list lits variable ≡ true → 1 ≤ true_places values lits → value_of values variable ≡ true
list-true values [] variable e h = absurd cc
list-true values (l ∷ []) variable e h = sym (true-same values l (record { variable = variable; positive = true }) e) ∙ one-true (is_true values l) h
list-true values (l ∷ x ∷ lits) variable e h = absurd cc

-- a constraint without a guard has as many true literals as it asks for
pub enough : (values : List Bool) (guard : Option Literal) (bound : ℕ) (lits : List Literal) → is_none guard ≡ true → (bound ≤ true_places values lits) ⊎ IsOff values guard → bound ≤ true_places values lits
enough values None bound lits e h = elim h [ inl le ↦ le | inr off ↦ absurd off ]
enough values (Some guard) bound lits e h = absurd cc

pub unit-true : (values : List Bool) (c : Bounded) (variable : ℕ) → is_unit c variable ≡ true → Holds values c → value_of values variable ≡ true
unit-true values c variable e h =
    let parts = and_parts (is_none c.guard && (c.bound == 1)) (is_unit_list c.lits variable) e in
    let clause = and_parts (is_none c.guard) (c.bound == 1) parts.0 in
    let one : c.bound ≡ 1 = eqb-true _ _ clause.1 in
    list-true values c.lits variable parts.1 (subst (λ n. n ≤ true_places values c.lits) one (enough values c.guard c.bound c.lits clause.0 h))

pub unit-holds : (values : List Bool) (variable : ℕ) → value_of values variable ≡ true → Holds values (unit_of variable)
unit-holds values variable e = inl (one-place _ e)
  where
    one-place : (t : Bool) → t ≡ true → 1 ≤ cond t 1 0 + 0
    one-place true e = omega arith
    one-place false e = absurd cc
