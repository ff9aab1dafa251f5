-- An arm by its kind and the variable of its literal.
use Rattle.std.specs.Prelude.{ℕ, true, false}
use Rattle.kn_lines.specs.declared.line.Arm.{Arm}
use Rattle.kn_lines.specs.declared.line.Arm.TheVariants as arm
use Rattle.kn_rules.specs.declared.packed.ArmKind.{ArmKind}
use Rattle.kn_rules.specs.declared.packed.ArmKind.TheVariants as kind

abbrev pub arm_by : ArmKind → ℕ → Arm
arm_by kind.True variable = arm.True
arm_by kind.False variable = arm.False
arm_by kind.Positive variable = arm.Lit (record { variable = variable; positive = true })
arm_by kind.Negative variable = arm.Lit (record { variable = variable; positive = false })
