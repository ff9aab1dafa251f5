-- What was found of a formula has a row.
use Rattle.std.proofs.Common.{◌≡◌, List, ℕ, [], Some, None, sym, ap, ◌∙◌, subst, append-nil, arith}
use Rattle.kn_bytes.specs.Outside.{Rose}
use Rattle.kn_logic.specs.Formulas.{Problem, IsFormula}
use Rattle.kn_format.specs.Texts.{IsWithinLimits}
use Rattle.kn_rules.proofs.Public.{proof-refutes}
use Rattle.kn_search.specs.declared.outcome.Options.{Options}
use Rattle.kn_search.specs.declared.outcome.Outcome.{Outcome}
use Rattle.kn_search.specs.declared.outcome.Outcome.TheVariants as outcome
use Rattle.kn_solve.specs.Solutions.{SolvesNot}
use Rattle.kn_tool.specs.declared.answer.Answer.{Answer}
use Rattle.kn_tool.specs.declared.answer.Answer.TheVariants.{Model, Refuted, Unknown, NoMemory, WriteFault}
use Rattle.kn_tool.specs.declared.answer.Which.TheVariants.{Proof}
use Rattle.kn_tool.specs.declared.reply.Reply.{Reply}
use Rattle.kn_tool.specs.declared.reply.Reply.TheVariants as reply
use Rattle.kn_tool.specs.Changes.{Change, Sink}
use Rattle.kn_tool.specs.Solves.{Writes, GotSteps, SolvedRow, model, refuted, unknown, no_memory, fails}
use Rattle.kn_tool.specs.Replies.{IsReply, IsShortMemory, OutcomeSays, Finds, IsAnswerOf, IsReplyOf}
use Rattle.kn_tool.proofs.Replies.{short_reply}
use Rattle.kn_tool.proofs.Solutions.{IsListed, nothing-got, steps-got}

-- a formula within the limits of texts
pub listed : (f : Problem) → IsWithinLimits f → IsListed f
listed f h = record { vars = (let v = h.vars in omega (arith, v)); count = (let c = h.count in omega (arith, c)) }

-- bytes that step and were written whole are a prefix of bytes that step
pub writes_prefix : (budget forget : ℕ) (f : Problem) (p : Change Sink) (bytes : List ℕ) → Writes budget forget f p bytes → GotSteps budget f p
writes_prefix budget forget f p bytes h = (bytes, h.steps, h.within, (bytes, [], sym (append-nil bytes), h.got))

-- the answer of an outcome
row_of_outcome : (budget forget : ℕ) (f : Problem) (p : Change Sink) (bytes text : List ℕ) (o : Outcome) (answer : Answer) → IsFormula f → Writes budget forget f p bytes → OutcomeSays budget forget f bytes o → IsAnswerOf o answer text → SolvedRow budget forget p f answer (Some text)
row_of_outcome budget forget f p bytes text (outcome.Model values) answer fit writes said (is, told) =
    subst (λ a. SolvedRow budget forget p f a (Some text)) (sym is) (subst (λ t. SolvedRow budget forget p f Model (Some t)) (sym told) (model values bytes writes said.0 said.1))
row_of_outcome budget forget f p bytes text outcome.Refuted answer fit writes said (is, told) =
    subst (λ a. SolvedRow budget forget p f a (Some text)) (sym is) (subst (λ t. SolvedRow budget forget p f Refuted (Some t)) (sym told) (refuted bytes writes said (proof-refutes f bytes fit said)))
row_of_outcome budget forget f p bytes text (outcome.Spent learned) answer fit writes (all, count, small) (is, told) =
    subst (λ a. SolvedRow budget forget p f a (Some text)) (sym (is ∙ ap Unknown all))
    (subst (λ t. SolvedRow budget forget p f (Unknown budget) (Some t)) (sym told) (unknown bytes writes (count ∙ all) small))

pub solved_reply : (budget forget : ℕ) (f : Problem) (p : Change Sink) (o : Outcome) (r : Reply) → IsFormula f → Finds budget forget f p o → IsReplyOf o r → IsReply (SolvedRow budget forget p f) r
solved_reply budget forget f p o (reply.Text answer text) fit (bytes, writes, said) told = row_of_outcome budget forget f p bytes text.items o answer fit writes said told
solved_reply budget forget f p o reply.Usage fit found told = absurd told
solved_reply budget forget f p o (reply.Silent answer) fit (bytes, writes, said) told =
    subst (λ a. SolvedRow budget forget p f a None) (sym told) (no_memory (writes_prefix budget forget f p bytes writes))

-- where an error came
pub unextracted_solved : (budget forget : ℕ) (f : Problem) (p : Change Sink) (r : Reply) → IsWithinLimits f → p.new.written ≡ p.old.written → IsShortMemory r → IsReply (SolvedRow budget forget p f) r
unextracted_solved budget forget f p r h same is = short_reply (SolvedRow budget forget p f) r (no_memory (nothing-got budget f p (listed f h) same)) is

pub memory_row : (options : Options) (f : Problem) (p : Change Sink) → IsListed f → SolvesNot f options p.old.written p.new.written → SolvedRow options.conflicts options.forget p f NoMemory None
memory_row options f p h ends = no_memory (steps-got options f p h ends)

pub fault_row : (options : Options) (f : Problem) (p : Change Sink) → IsListed f → SolvesNot f options p.old.written p.new.written → Rose p.old.faults p.new.faults → SolvedRow options.conflicts options.forget p f (WriteFault Proof) None
fault_row options f p h ends rose = fails rose (steps-got options f p h ends)
