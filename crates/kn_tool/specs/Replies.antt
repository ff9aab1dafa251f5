-- What the functions of this crate hand to one another. The contract of `run` does not speak of it.
use Rattle.std.specs.Prelude.{ℕ, ◌≡◌, ◌⊎◌, List, None, Some}
use Rattle.kn_bytes.specs.Outside.{Rose, Got, GotPrefix}
use Rattle.kn_logic.specs.Formulas.{Problem, Satisfies}
use Rattle.kn_format.specs.declared.error.ReadError.{ReadError}
use Rattle.kn_format.specs.declared.error.ReadError.TheVariants as faults
use Rattle.kn_bytes.specs.declared.read.ReadAll.{ReadAll}
use Rattle.kn_bytes.specs.declared.read.ReadAll.TheVariants as reading
use Rattle.kn_rules.specs.Proofs.{IsProof}
use Rattle.kn_rules.specs.declared.whole.Checked.{Checked}
use Rattle.kn_rules.specs.declared.whole.Checked.TheVariants as checked
use Rattle.kn_log.specs.Written.{learned_count}
use Rattle.kn_search.specs.declared.outcome.Outcome.{Outcome}
use Rattle.kn_search.specs.declared.outcome.Outcome.TheVariants as outcome
use Rattle.kn_trim.specs.declared.trimming.Trimmed.{Trimmed}
use Rattle.kn_trim.specs.declared.trimming.Trimmed.TheVariants as trimmed
use Rattle.kn_tool.specs.declared.answer.Which.{Which}
use Rattle.kn_tool.specs.declared.answer.Which.TheVariants.{Out}
use Rattle.kn_tool.specs.declared.answer.Answer.{Answer}
use Rattle.kn_tool.specs.declared.answer.Answer.TheVariants.{Model, Refuted, Unknown, Done, Verified, NotVerified, Refused, TooLong, Usage, ReadFault, WriteFault, NoMemory}
use Rattle.kn_tool.specs.declared.reply.Reply.{Reply}
use Rattle.kn_tool.specs.declared.reply.Reply.TheVariants as reply
use Rattle.kn_tool.specs.Answers.{answer_text, usage_text}
use Rattle.kn_tool.specs.Changes.{Change, Sink}
use Rattle.kn_tool.specs.Files.{Rows}
use Rattle.kn_tool.specs.Solves.{Writes, HasRuleValues, IsSmall, satisfiable_text}

-- the reply has a row
abbrev pub IsReply : Rows → Reply → Type 0
IsReply row (reply.Text answer text) = row answer (Some text.items)
IsReply row reply.Usage = row Usage (Some usage_text)
IsReply row (reply.Silent answer) = row answer None

-- the reply is this answer with its own text, unless memory is short
abbrev pub IsPlain : Answer → Reply → Type 0
IsPlain answer (reply.Text told text) = (told ≡ answer) × (text.items ≡ answer_text answer)
IsPlain answer reply.Usage = ⊥
IsPlain answer (reply.Silent told) = told ≡ NoMemory

abbrev pub IsShortMemory : Reply → Type 0
IsShortMemory r = r ≡ reply.Silent NoMemory

-- the reply where a source was not read whole
abbrev pub IsUnread : Which → ReadAll → Reply → Type 0
IsUnread which reading.Fault r = IsPlain (ReadFault which) r
IsUnread which reading.TooLong r = IsPlain (TooLong which) r
IsUnread which reading.Memory r = IsShortMemory r

-- the reply to a text that is no formula
abbrev pub IsRefusal : ReadError → Reply → Type 0
IsRefusal (faults.Refused found) r = IsPlain (Refused found.line found.why) r
IsRefusal faults.Memory r = IsShortMemory r

-- the answer to a proof that was checked
abbrev pub verdict_of : Checked → Answer
verdict_of checked.Verified = Verified
verdict_of (checked.NotVerified line why) = NotVerified line why

-- the reply to a proof that was trimmed
abbrev pub IsTrimReply : Trimmed → Reply → Type 0
IsTrimReply (trimmed.Text text) (reply.Text answer told) = (answer ≡ Done) × (told.items ≡ text)
IsTrimReply (trimmed.Text text) other = ⊥
IsTrimReply (trimmed.NotVerified line why) r = IsPlain (NotVerified line why) r

-- The text was appended; or writing it failed.
abbrev pub Sent : Answer → List ℕ → Change Sink → Answer → Type 0
Sent answer text out result =
    ((result ≡ answer) × Got out.old.written out.new.written text)
    ⊎ ((result ≡ WriteFault Out) × Rose out.old.faults out.new.faults × GotPrefix out.old.written out.new.written text)

-- what became of a reply
abbrev pub IsTold : Reply → Change Sink → Answer → Type 0
IsTold (reply.Text answer text) out result = Sent answer text.items out result
IsTold reply.Usage out result = Sent Usage usage_text out result
IsTold (reply.Silent answer) out result = (result ≡ answer) × (out.new.written ≡ out.old.written)

-- what solving found: a proof was written, and the outcome says this of the formula
abbrev pub OutcomeSays : ℕ → ℕ → Problem → List ℕ → Outcome → Type 0
OutcomeSays budget forget f bytes (outcome.Model values) = Satisfies values f × HasRuleValues f values
OutcomeSays budget forget f bytes outcome.Refuted = IsProof f bytes
OutcomeSays budget forget f bytes (outcome.Spent learned) = (learned ≡ budget) × (learned_count bytes ≡ learned) × IsSmall budget forget f.vars

abbrev pub Finds : ℕ → ℕ → Problem → Change Sink → Outcome → Type 0
Finds budget forget f proof found = (bytes : List ℕ) × Writes budget forget f proof bytes × OutcomeSays budget forget f bytes found

-- the answer of an outcome, and its text
abbrev pub IsAnswerOf : Outcome → Answer → List ℕ → Type 0
IsAnswerOf (outcome.Model values) answer text = (answer ≡ Model) × (text ≡ satisfiable_text values)
IsAnswerOf outcome.Refuted answer text = (answer ≡ Refuted) × (text ≡ answer_text Refuted)
IsAnswerOf (outcome.Spent learned) answer text = (answer ≡ Unknown learned) × (text ≡ answer_text (Unknown learned))

-- an outcome is told, unless memory is short
abbrev pub IsReplyOf : Outcome → Reply → Type 0
IsReplyOf found (reply.Text answer text) = IsAnswerOf found answer text.items
IsReplyOf found reply.Usage = ⊥
IsReplyOf found (reply.Silent answer) = answer ≡ NoMemory
