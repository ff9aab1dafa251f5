-- What trimming answers.
use Rattle.std.specs.Prelude.{ℕ, List}
use Rattle.kn_rules.specs.Proofs.{Fault, fault}
use Rattle.kn_trim.specs.declared.trimming.Trimmed.{Trimmed}
use Rattle.kn_trim.specs.declared.trimming.Trimmed.TheVariants.{Text, NotVerified}

-- what is claimed of the trimmed text
abbrev pub IfText : Trimmed → (List ℕ → Type 0) → Type 0
IfText (Text text) claim = claim text
IfText (NotVerified line why) claim = Unit {0}

-- what is claimed of the fault that is told
abbrev pub IfFault : Trimmed → (Fault → Type 0) → Type 0
IfFault (Text text) claim = Unit {0}
IfFault (NotVerified line why) claim = claim (fault line why)
