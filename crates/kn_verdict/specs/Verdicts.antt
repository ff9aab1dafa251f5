-- What each verdict on a group says. Together they are exact: see the laws of `a_verdict_is_exact`.
use Rattle.std.specs.Prelude.{ℕ, ◌≡◌, ◌+◌, ◌≤◌, ◌⊎◌, List, length}
use Rattle.kn_logic.specs.Groups.{Gathered}
use Rattle.kn_quant.specs.Runs.{IsFirstWide}
use Rattle.kn_quant.specs.Eliminations.{Eliminated, IsEliminationOf}
use Rattle.kn_verdict.specs.declared.answer.Verdict.{Verdict}
use Rattle.kn_verdict.specs.declared.answer.Verdict.TheVariants.{Klause, OutOfRange, NotCardinal, Wide}
use Rattle.kn_verdict.specs.Cardinals.{IsCardinal, IsOnlyBound, DiffersAt, IsNarrow}

-- The bound makes a klause of n literals: it is from 2 to n - 1.
abbrev pub IsInRange : Gathered → ℕ → Type 0
IsInRange g bound = (2 ≤ bound) × (bound + 1 ≤ length g.border)

abbrev pub IsVerdict : Gathered → Verdict → Type 0
IsVerdict g (Klause bound elimination) = IsNarrow g × IsCardinal g bound × IsInRange g bound × IsEliminationOf g elimination
IsVerdict g (OutOfRange bound) = IsNarrow g × IsCardinal g bound × ((bound ≤ 1) ⊎ (length g.border ≤ bound))
IsVerdict g (NotCardinal bound values) = IsNarrow g × IsOnlyBound g bound × DiffersAt g bound values
IsVerdict g (Wide stage level) = IsFirstWide g stage level

-- which answer it is
abbrev pub IsKlause : ℕ → Verdict → Type 0
IsKlause b (Klause bound elimination) = bound ≡ b
IsKlause b (OutOfRange bound) = ⊥
IsKlause b (NotCardinal bound values) = ⊥
IsKlause b (Wide stage level) = ⊥

abbrev pub IsOutOfRange : ℕ → Verdict → Type 0
IsOutOfRange b (Klause bound elimination) = ⊥
IsOutOfRange b (OutOfRange bound) = bound ≡ b
IsOutOfRange b (NotCardinal bound values) = ⊥
IsOutOfRange b (Wide stage level) = ⊥

abbrev pub IsNotCardinal : Verdict → Type 0
IsNotCardinal (Klause bound elimination) = ⊥
IsNotCardinal (OutOfRange bound) = ⊥
IsNotCardinal (NotCardinal bound values) = Unit {0}
IsNotCardinal (Wide stage level) = ⊥

abbrev pub IsWideAnswer : Verdict → Type 0
IsWideAnswer (Klause bound elimination) = ⊥
IsWideAnswer (OutOfRange bound) = ⊥
IsWideAnswer (NotCardinal bound values) = ⊥
IsWideAnswer (Wide stage level) = Unit {0}
