-- What the functions of this crate hand to one another for `work`. The contract of `run` does not speak of it.
use Rattle.std.specs.Prelude.{ℕ, ◌≡◌, ◌≤◌, Option, Some}
use Rattle.kn_search.specs.declared.outcome.Outcome.{Outcome}
use Rattle.kn_search.specs.declared.outcome.Outcome.TheVariants as outcome
use Rattle.kn_tool.specs.declared.answer.Answer.{Answer}
use Rattle.kn_tool.specs.declared.answer.Answer.TheVariants.{Model, Refuted, Unknown, NoMemory}
use Rattle.kn_tool.specs.declared.reply.Reply.{Reply}
use Rattle.kn_tool.specs.declared.reply.Reply.TheVariants as reply
use Rattle.kn_tool.specs.Words.{Asked, work, most_blocks}
use Rattle.kn_tool.specs.Works.{Summarises}

-- the numbers that words ask for are within their limits
abbrev pub AreInRange : Option Asked → Type 0
AreInRange (Some (work blocks)) = (1 ≤ blocks) × (blocks ≤ most_blocks)
AreInRange request = Unit {0}

-- no outcome is a model where the formula has none
abbrev pub IsNoModel : Outcome → Type 0
IsNoModel (outcome.Model values) = ⊥
IsNoModel other = Unit {0}

-- the answer of `work` to an outcome
abbrev pub work_answer : Outcome → Answer
work_answer (outcome.Model values) = Model
work_answer outcome.Refuted = Refuted
work_answer (outcome.Spent learned) = Unknown learned

-- the reply is the summary of so many blocks with this answer, unless memory is short
abbrev pub IsSummary : ℕ → Answer → Reply → Type 0
IsSummary blocks answer (reply.Text told text) = (told ≡ answer) × Summarises blocks answer text.items
IsSummary blocks answer reply.Usage = ⊥
IsSummary blocks answer (reply.Silent told) = told ≡ NoMemory
