-- What is replied has a row, and what was told of a reply has too.
use Rattle.std.proofs.Common.{◌≡◌, List, ℕ, Option, Some, None, sym, subst, inl, inr}
use Rattle.kn_logic.specs.Formulas.{Problem}
use Rattle.kn_tool.specs.declared.answer.Answer.{Answer}
use Rattle.kn_tool.specs.declared.answer.Answer.TheVariants.{Usage, NoMemory}
use Rattle.kn_tool.specs.declared.reply.Reply.{Reply}
use Rattle.kn_tool.specs.declared.reply.Reply.TheVariants as reply
use Rattle.kn_tool.specs.Answers.{own_text, usage_text}
use Rattle.kn_tool.specs.Changes.{Change, Source, Sink}
use Rattle.kn_tool.specs.Files.{Rows, Accepts, NoFormulaRow, FormulaRow, accepted, no_formula}
use Rattle.kn_tool.specs.Outcomes.{Told, whole, silent, cut, AnswersUsage}
use Rattle.kn_tool.specs.Replies.{IsReply, IsPlain, IsShortMemory, Sent, IsTold}

pub plain_reply : (row : Rows) (answer : Answer) (r : Reply) → row answer (own_text answer) → row NoMemory None → IsPlain answer r → IsReply row r
plain_reply row answer (reply.Text told text) own none is =
    subst (λ a. row a (Some text.items)) (sym is.0) (subst (λ t. row answer (Some t)) (sym is.1) own)
plain_reply row answer reply.Usage own none is = absurd is
plain_reply row answer (reply.Silent told) own none is = subst (λ a. row a None) (sym is) none

pub short_reply : (row : Rows) (r : Reply) → row NoMemory None → IsShortMemory r → IsReply row r
short_reply row r none is = subst (IsReply row) (sym is) none

-- a command that reads a formula
pub accepted_reply : (s : Change Source) (Stays : Type 0) (row : Problem → Rows) (f : Problem) (r : Reply) → Accepts s f → IsReply (row f) r → IsReply (FormulaRow s Stays row) r
accepted_reply s Stays row f (reply.Text answer text) accepts is = accepted f accepts is
accepted_reply s Stays row f reply.Usage accepts is = accepted f accepts is
accepted_reply s Stays row f (reply.Silent answer) accepts is = accepted f accepts is

pub no_formula_reply : (s : Change Source) (Stays : Type 0) (row : Problem → Rows) (r : Reply) → Stays → IsReply (NoFormulaRow s) r → IsReply (FormulaRow s Stays row) r
no_formula_reply s Stays row (reply.Text answer text) stays is = no_formula is stays
no_formula_reply s Stays row reply.Usage stays is = no_formula is stays
no_formula_reply s Stays row (reply.Silent answer) stays is = no_formula is stays

-- one row within another table
pub wider_reply : (row table : Rows) (r : Reply) → ((answer : Answer) (told : Option (List ℕ)) → row answer told → table answer told) → IsReply row r → IsReply table r
wider_reply row table (reply.Text answer text) into is = into answer (Some text.items) is
wider_reply row table reply.Usage into is = into Usage (Some usage_text) is
wider_reply row table (reply.Silent answer) into is = into answer None is

-- what was told
sent : (row : Rows) (out : Change Sink) (answer result : Answer) (text : List ℕ) → row answer (Some text) → Sent answer text out result → Told row out result
sent row out answer result text has is = elim is [
  | inl done ↦ subst (Told row out) (sym done.0) (whole text has done.1)
  | inr failed ↦ subst (Told row out) (sym failed.0) (cut answer text has failed.1 failed.2)
]

pub told : (row : Rows) (out : Change Sink) (r : Reply) (result : Answer) → IsReply row r → IsTold r out result → Told row out result
told row out (reply.Text answer text) result has is = sent row out answer result text.items has is
told row out reply.Usage result has is = sent row out Usage result usage_text has is
told row out (reply.Silent answer) result has is = subst (Told row out) (sym is.0) (silent has is.1)

-- words that ask for no command
sent_usage : (text : List ℕ) (out : Change Sink) (result : Answer) → Sent Usage text out result → AnswersUsage result
sent_usage text out result is = elim is [
  | inl done ↦ subst AnswersUsage (sym done.0) tt
  | inr failed ↦ subst AnswersUsage (sym failed.0) tt
]

pub told_usage : (r : Reply) (out : Change Sink) (result : Answer) → r ≡ reply.Usage → IsTold r out result → AnswersUsage result
told_usage r out result is was = sent_usage usage_text out result (subst (λ r. IsTold r out result) is was)
