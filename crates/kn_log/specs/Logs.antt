-- A log of a proof: its lines are written as they are made, and each is known to step.
use Rattle.std.specs.Prelude.{ℕ, ◌≡◌, Bool, true, false, List, length, Option, Result, Ok, Err}
use Rattle.kn_logic.specs.Formulas.{Problem}
use Rattle.kn_bytes.specs.Outside.{Got, GotPrefix}
use Rattle.kn_text.specs.Lines.{line_text}
use Rattle.kn_lines.specs.declared.line.Line.{Line}
use Rattle.kn_lines.specs.declared.line.Line.TheVariants.{Header}
use Rattle.kn_lines.specs.Lines.{line_words, SpellsWords}
use Rattle.kn_rules.specs.States.{ProofState, start}
use Rattle.kn_rules.specs.Steps.{step}
use Rattle.kn_log.specs.declared.error.LogError.{LogError}
use Rattle.kn_log.specs.declared.error.LogError.TheVariants.{Fault, Memory}

-- the state of the proof that was logged, and whether the sink has failed
pub record Logged : Type 0 where
  pub state : ProofState
  pub failed : Bool

-- a line as it is written
abbrev pub line_bytes : Line → List ℕ
line_bytes line = line_text (line_words line)

-- the header of the proof of a formula
abbrev pub header_of : Problem → Line
header_of f = Header f.vars (length f.constraints)

-- a log behind the header
abbrev pub fresh : Problem → Logged
fresh f = record { state = start f; failed = false }

-- what a call that made no log has done to the sink
abbrev pub OpensNot : Problem → Option (List ℕ) → Option (List ℕ) → LogError → Type 0
OpensNot f w w' Fault = GotPrefix w w' (line_bytes (header_of f))
OpensNot f w w' Memory = w' ≡ w

-- what a call that makes a log has done to the sink: the header was written
abbrev pub Opens : Problem → Option (List ℕ) → Option (List ℕ) → Result Logged LogError → Type 0
Opens f w w' (Ok log) = (log ≡ fresh f) × Got w w' (line_bytes (header_of f))
Opens f w w' (Err e) = OpensNot f w w' e

-- what a call that failed has done: it took the step and wrote a part of the line, or nothing happened
abbrev pub LogsNot : Line → Logged → Logged → Option (List ℕ) → Option (List ℕ) → LogError → Type 0
LogsNot line old new w w' Fault = (step old.state line ≡ Ok new.state) × (new.failed ≡ true) × GotPrefix w w' (line_bytes line)
LogsNot line old new w w' Memory = (new ≡ old) × (w' ≡ w)

-- what a call that adds a line has done to the log and its sink
abbrev pub Logs : {T : Type 0} → Line → Logged → Logged → Option (List ℕ) → Option (List ℕ) → Result T LogError → Type 0
Logs line old new w w' (Ok _) = (step old.state line ≡ Ok new.state) × (new.failed ≡ false) × Got w w' (line_bytes line)
Logs line old new w w' (Err e) = LogsNot line old new w w' e

-- the words of a line, as it is written, spell it
abbrev pub IsSpelled : Line → Type 0
IsSpelled line = SpellsWords (line_words line) line

-- the line was written, or would have been but for a fault; nothing is said where memory was short
abbrev pub IsSpelledUnless : LogError → Line → Type 0
IsSpelledUnless Fault line = IsSpelled line
IsSpelledUnless Memory line = Unit {0}

-- what was given to a sink can be read, as the line that it was
abbrev pub IsReadable : {T : Type 0} → Result T LogError → Line → Type 0
IsReadable (Ok _) line = IsSpelled line
IsReadable (Err e) line = IsSpelledUnless e line
