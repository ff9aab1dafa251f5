-- Why a formula has no form in clauses here.
use Rattle.std.specs.Prelude.{ℕ}
use Rattle.kn_counter.specs.declared.error.CountError.{CountError}
use Rattle.kn_counter.specs.declared.error.CountError.TheVariants.{TooLarge, Memory}

-- what holds of the number of variables where it is too large
abbrev pub IfTooLarge : CountError → (ℕ → Type 0) → Type 0
IfTooLarge (TooLarge vars) P = P vars
IfTooLarge Memory P = Unit {0}
