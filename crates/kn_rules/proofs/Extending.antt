-- Values of further variables change nothing for what is over the first ones.
use Rattle.std.proofs.Common.{◌≡◌, ℕ, ◌-◌, ◌≤◌, ◌++◌, Bool, not, cond, List, [], ◌∷◌, length, Option, None, Some, IfSome, refl, ap, ◌∙◌, subst, sym, inl, inr, arith}
use Rattle.std.proofs.lemmas.List.{get_or_append_left}
use Rattle.kn_logic.proofs.Public.{are_known-more}
use Rattle.kn_logic.specs.Literals.{Literal, IsKnown, AreKnown}
use Rattle.kn_logic.specs.Assignments.{value_of, is_true, true_places}
use Rattle.kn_logic.specs.Constraints.{Bounded, IsOff, IsWithin, Holds}
use Rattle.kn_lines.specs.declared.line.Arm.{Arm}
use Rattle.kn_lines.specs.declared.line.Arm.TheVariants as arm
use Rattle.kn_rules.specs.declared.definition.Definition.{Definition}
use Rattle.kn_rules.specs.declared.given.Given.{Given}
use Rattle.kn_rules.specs.States.{AreLiveWithin}
use Rattle.kn_rules.specs.States.{IsArmWithin, IsDefinedWithin}
use Rattle.kn_rules.proofs.Nodes.{arm_value, defined_value}

-- more variables
pub known-more : (vars more : ℕ) (l : Literal) → vars ≤ more → IsKnown vars l → IsKnown more l
known-more vars more l h k = (k.0, omega arith)

guard-more : (vars more : ℕ) (guard : Option Literal) → vars ≤ more → IfSome guard (IsKnown vars) → IfSome guard (IsKnown more)
guard-more vars more None h k = tt
guard-more vars more (Some l) h k = known-more vars more l h k

pub within-more : (vars more : ℕ) (c : Bounded) → vars ≤ more → IsWithin vars c → IsWithin more c
within-more vars more c h k = record { guard = guard-more vars more c.guard h k.guard; lits = are_known-more vars more c.lits h k.lits }

live_one-more : (vars more : ℕ) (o : Option Bounded) → vars ≤ more → IfSome o (IsWithin vars) → IfSome o (IsWithin more)
live_one-more vars more None h k = tt
live_one-more vars more (Some c) h k = within-more vars more c h k

pub live-more : (vars more : ℕ) (given : List Given) → vars ≤ more → AreLiveWithin vars given → AreLiveWithin more given
live-more vars more [] h k = tt
live-more vars more (entry ∷ given) h k = (live_one-more vars more entry.live h k.0, live-more vars more given h k.1)

pub arm-more : (vars more : ℕ) (a : Arm) → vars ≤ more → IsArmWithin vars a → IsArmWithin more a
arm-more vars more arm.True h k = tt
arm-more vars more arm.False h k = tt
arm-more vars more (arm.Lit l) h k = known-more vars more l h k

pub defined-more : (vars more : ℕ) (d : Definition) → vars ≤ more → IsDefinedWithin vars d → IsDefinedWithin more d
defined-more vars more d h k = record { test = known-more vars more d.test h k.test; high = arm-more vars more d.high h k.high; low = arm-more vars more d.low h k.low }

-- more values
pub value-more : (values more : List Bool) (variable : ℕ) → 1 ≤ variable → variable ≤ length values → value_of (values ++ more) variable ≡ value_of values variable
value-more values more variable first last = get_or_append_left values more _ (variable - 1) (omega arith)

pub true-more : (values more : List Bool) (l : Literal) → IsKnown (length values) l → is_true (values ++ more) l ≡ is_true values l
true-more values more l k = ap (λ v. cond l.positive v (not v)) (value-more values more l.variable k.0 k.1)

pub places-more : (values more : List Bool) (lits : List Literal) → AreKnown (length values) lits → true_places (values ++ more) lits ≡ true_places values lits
places-more values more [] k = refl
places-more values more (l ∷ lits) k = rw (true-more values more l k.0, places-more values more lits k.1) refl

off-more : (values more : List Bool) (guard : Option Literal) → IfSome guard (IsKnown (length values)) → IsOff values guard → IsOff (values ++ more) guard
off-more values more None k h = h
off-more values more (Some l) k h = true-more values more l k ∙ h

pub holds-more : (values more : List Bool) (c : Bounded) → IsWithin (length values) c → Holds values c → Holds (values ++ more) c
holds-more values more c k h =
    elim h [
      | inl le ↦ inl (subst (λ n. c.bound ≤ n) (sym (places-more values more c.lits k.lits)) le)
      | inr off ↦ inr (off-more values more c.guard k.guard off)
    ]

pub arm_value-more : (values more : List Bool) (a : Arm) → IsArmWithin (length values) a → arm_value (values ++ more) a ≡ arm_value values a
arm_value-more values more arm.True k = refl
arm_value-more values more arm.False k = refl
arm_value-more values more (arm.Lit l) k = true-more values more l k

pub defined_value-more : (values more : List Bool) (d : Definition) → IsDefinedWithin (length values) d → defined_value (values ++ more) d ≡ defined_value values d
defined_value-more values more d k = rw (true-more values more d.test k.test, arm_value-more values more d.high k.high, arm_value-more values more d.low k.low) refl
