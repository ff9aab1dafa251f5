-- Lines that step one after another, and how many of them are of a kind.
use Rattle.std.specs.Prelude.{ℕ, ◌≡◌, ◌+◌, Bool, true, false, if◌then◌else◌, List, [], ◌∷◌, Ok}
use Rattle.kn_lines.specs.declared.line.Line.{Line}
use Rattle.kn_lines.specs.declared.line.Line.TheVariants.{Define, Lemma, Learned, Delete}
use Rattle.kn_rules.specs.States.{ProofState}
use Rattle.kn_rules.specs.Steps.{step}

-- the lines step, one after another, from the one state to the other
abbrev pub StepsBy : ProofState → List Line → ProofState → Type 0
StepsBy old [] new = old ≡ new
StepsBy old (line ∷ lines) new = (next : ProofState) × (step old line ≡ Ok next) × StepsBy next lines new

abbrev pub is_definition : Line → Bool
is_definition (Define x high low) = true
is_definition other = false

abbrev pub is_lemma : Line → Bool
is_lemma (Lemma clause hints) = true
is_lemma other = false

abbrev pub is_learned_clause : Line → Bool
is_learned_clause (Learned clause hints) = true
is_learned_clause other = false

abbrev pub is_deletion : Line → Bool
is_deletion (Delete ids) = true
is_deletion other = false

-- how many of the lines are learned clauses
abbrev pub learned_in : List Line → ℕ
learned_in [] = 0
learned_in (line ∷ lines) = (if is_learned_clause line then 1 else 0) + learned_in lines

-- how many of the lines are deletions
abbrev pub deletions_in : List Line → ℕ
deletions_in [] = 0
deletions_in (line ∷ lines) = (if is_deletion line then 1 else 0) + deletions_in lines
