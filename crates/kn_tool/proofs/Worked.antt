-- What was found of a generated formula, and the summary of it, have a row of `work`.
use Rattle.std.proofs.Common.{◌≡◌, ◌++◌, ◌≤◌, List, [], ◌∷◌, ℕ, suc, map, length, Some, None, refl, sym, ap, ◌∙◌, subst, arith}
use Rattle.kn_logic.specs.Formulas.{Problem, IsUnsatisfiable}
use Rattle.kn_gen.specs.Blocks.{generated}
use Rattle.kn_extract.specs.Extractions.{IsExtraction}
use Rattle.kn_extract.specs.Kept.{Extracted, IsExtracted, Took, found_of}
use Rattle.kn_search.specs.declared.outcome.Outcome.{Outcome}
use Rattle.kn_search.specs.declared.outcome.Outcome.TheVariants as outcome
use Rattle.kn_tool.specs.declared.answer.Answer.{Answer}
use Rattle.kn_tool.specs.declared.answer.Answer.TheVariants.{Unknown}
use Rattle.kn_tool.specs.declared.reply.Reply.{Reply}
use Rattle.kn_tool.specs.declared.reply.Reply.TheVariants as reply
use Rattle.kn_tool.specs.Changes.{Change, Sink}
use Rattle.kn_tool.specs.Solves as solves
use Rattle.kn_tool.specs.Solves.{SolvedRow, Writes, GotSteps}
use Rattle.kn_tool.specs.Works as works
use Rattle.kn_tool.specs.Works.{work_budget, work_forget, WorkRow, Summarises, numbers_text, ending_text}
use Rattle.kn_tool.specs.Replies.{IsReply, IsShortMemory, Finds, OutcomeSays}
use Rattle.kn_tool.specs.WorkReplies.{IsNoModel, work_answer, IsSummary}
use Rattle.kn_tool.proofs.Replies.{short_reply}
use Rattle.kn_tool.proofs.Solutions.{nothing-got}
use Rattle.kn_tool.proofs.Solved.{writes_prefix}

-- a found outcome of a formula without a model is none
no_model : (budget forget : ℕ) (f : Problem) (bytes : List ℕ) (o : Outcome) → IsUnsatisfiable f → OutcomeSays budget forget f bytes o → IsNoModel o
no_model budget forget f bytes (outcome.Model values) none said = none values said.0
no_model budget forget f bytes outcome.Refuted none said = tt
no_model budget forget f bytes (outcome.Spent learned) none said = tt

pub found_no_model : (n budget forget : ℕ) (f : Problem) (p : Change Sink) (o : Outcome) → f ≡ generated n → IsUnsatisfiable (generated n) → Finds budget forget f p o → IsNoModel o
found_no_model n budget forget f p o is none (bytes, writes, said) = no_model budget forget f bytes o (subst IsUnsatisfiable (sym is) none) said

-- the klauses that the extraction took are as many as the groups
length-map : {A B : Type 0} (f : A → B) (xs : List A) → length (map f xs) ≡ length xs
length-map f [] = refl
length-map f (x ∷ xs) = ap suc (length-map f xs)

pub summarised : (n : ℕ) (e : Extracted) (f : Problem) (taken : List Took) (klauses : ℕ) (answer : Answer) (text : List ℕ) → IsExtracted e → e.original ≡ generated n → f ≡ e.original → taken ≡ e.taken → klauses ≡ length taken
    → text ≡ numbers_text n f klauses ++ ending_text answer → Summarises n answer text
summarised n e f taken klauses answer text is original same groups count told = record {
  found = map found_of e.taken;
  remains = e.formula;
  extraction = subst (λ (g : Problem). IsExtraction g (map found_of e.taken) e.formula) original is.extraction;
  text_is = told ∙ ap (λ (g : Problem). numbers_text n g klauses ++ ending_text answer) (same ∙ original)
      ∙ ap (λ (k : ℕ). numbers_text n (generated n) k ++ ending_text answer) (count ∙ ap length groups ∙ sym (length-map found_of e.taken));
}

pub short_summary : (n : ℕ) (answer : Answer) (r : Reply) → IsShortMemory r → IsSummary n answer r
short_summary n answer r is = subst (IsSummary n answer) (sym is) refl

-- an answer without a text
pub silent_row : (n : ℕ) (f : Problem) (p : Change Sink) (answer : Answer) → f ≡ generated n → SolvedRow work_budget work_forget p f answer None → WorkRow n p answer None
silent_row n f p answer is (solves.no_memory front) = works.no_memory (subst (λ f. GotSteps work_budget f p) is front)
silent_row n f p answer is (solves.fails rose front) = works.fails rose (subst (λ f. GotSteps work_budget f p) is front)

-- before the proof is begun
pub before_proof : (n : ℕ) (p : Change Sink) (r : Reply) → (generated n).vars ≤ 1000000 → length (generated n).constraints ≤ 10000000 → p.new.written ≡ p.old.written → IsShortMemory r → IsReply (WorkRow n p) r
before_proof n p r vars count same is =
    short_reply (WorkRow n p) r (works.no_memory (nothing-got work_budget (generated n) p (record { vars = omega (arith, vars); count = omega (arith, count) }) same)) is

row_of : (n : ℕ) (p : Change Sink) (bytes text : List ℕ) (o : Outcome) → IsUnsatisfiable (generated n) → Writes work_budget work_forget (generated n) p bytes
    → OutcomeSays work_budget work_forget (generated n) bytes o → Summarises n (work_answer o) text → WorkRow n p (work_answer o) (Some text)
row_of n p bytes text (outcome.Model values) none writes said sums = absurd (none values said.0)
row_of n p bytes text outcome.Refuted none writes said sums = works.refuted bytes text writes said none sums
row_of n p bytes text (outcome.Spent learned) none writes (all, count, small) sums =
    subst (λ (k : ℕ). WorkRow n p (Unknown k) (Some text)) (sym all)
    (works.unknown bytes text writes (count ∙ all) small (subst (λ (k : ℕ). Summarises n (Unknown k) text) all sums))

told_reply : (n : ℕ) (p : Change Sink) (bytes : List ℕ) (o : Outcome) (r : Reply) → IsUnsatisfiable (generated n) → Writes work_budget work_forget (generated n) p bytes
    → OutcomeSays work_budget work_forget (generated n) bytes o → IsSummary n (work_answer o) r → IsReply (WorkRow n p) r
told_reply n p bytes o (reply.Text answer text) none writes said told = subst (λ (a : Answer). WorkRow n p a (Some text.items)) (sym told.0) (row_of n p bytes text.items o none writes said told.1)
told_reply n p bytes o reply.Usage none writes said told = absurd told
told_reply n p bytes o (reply.Silent answer) none writes said told = subst (λ (a : Answer). WorkRow n p a None) (sym told) (works.no_memory (writes_prefix work_budget work_forget (generated n) p bytes writes))

pub worked_reply : (n : ℕ) (f : Problem) (p : Change Sink) (o : Outcome) (r : Reply) → f ≡ generated n → IsUnsatisfiable (generated n) → Finds work_budget work_forget f p o → IsSummary n (work_answer o) r → IsReply (WorkRow n p) r
worked_reply n f p o r is none (bytes, writes, said) told =
    told_reply n p bytes o r none (subst (λ (g : Problem). Writes work_budget work_forget g p bytes) is writes) (subst (λ (g : Problem). OutcomeSays work_budget work_forget g bytes o) is said) told
