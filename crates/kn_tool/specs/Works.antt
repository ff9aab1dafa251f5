-- What `work` answers: of the generated formula, which no file has, and of the proof that it writes.
use Rattle.std.specs.Prelude.{ℕ, ◌≡◌, ◌++◌, List, length, Option, None, Some, codes, decimal}
use Rattle.kn_bytes.specs.Outside.{Rose, Got}
use Rattle.kn_logic.specs.Formulas.{Problem, IsUnsatisfiable}
use Rattle.kn_rules.specs.Proofs.{IsProof}
use Rattle.kn_log.specs.Written.{learned_count}
use Rattle.kn_gen.specs.Blocks.{generated}
use Rattle.kn_extract.specs.Extractions.{Found, IsExtraction}
use Rattle.kn_tool.specs.declared.answer.Which.TheVariants.{Proof}
use Rattle.kn_tool.specs.declared.answer.Answer.{Answer}
use Rattle.kn_tool.specs.declared.answer.Answer.TheVariants.{Refuted, Unknown, WriteFault, NoMemory}
use Rattle.kn_tool.specs.Answers.{answer_text}
use Rattle.kn_tool.specs.Changes.{Change, Sink}
use Rattle.kn_tool.specs.Solves.{Writes, GotSteps, IsSmall}

-- how many clauses are learned at most; none is forgotten
abbrev pub work_budget : ℕ
work_budget = 1000000

abbrev pub work_forget : ℕ
work_forget = 0

-- a line of the summary: what is counted, and how many there are
abbrev pub count_line : List ℕ → ℕ → List ℕ
count_line name count = codes "c " ++ name ++ codes " " ++ decimal count ++ codes "\n"

-- the numbers of blocks, of the formula's variables and clauses, and of the klauses of its extraction
abbrev pub numbers_text : ℕ → Problem → ℕ → List ℕ
numbers_text blocks f klauses =
    count_line (codes "blocks") blocks
    ++ count_line (codes "variables") f.vars
    ++ count_line (codes "clauses") (length f.constraints)
    ++ count_line (codes "klauses") klauses

-- the answer; that the formula has no model is said of a proof that was written
abbrev pub ending_text : Answer → List ℕ
ending_text Refuted = codes "c proof verified\n" ++ answer_text Refuted
ending_text answer = answer_text answer

-- The text is the summary of so many blocks and an answer: the klauses are those that the extraction of the generated
-- formula takes.
pub record Summarises (blocks : ℕ) (answer : Answer) (text : List ℕ) : Type 0 where
  pub found : List Found
  pub remains : Problem
  pub extraction : IsExtraction (generated blocks) found remains
  pub text_is : text ≡ numbers_text blocks (generated blocks) (length found) ++ ending_text answer

-- what `solve` says of a proof that was written, with the budget and the generated formula
abbrev pub WritesWork : ℕ → Change Sink → List ℕ → Type 0
WritesWork blocks proof bytes = Writes work_budget work_forget (generated blocks) proof bytes

-- the rows of so many blocks
pub data WorkRow (blocks : ℕ) (proof : Change Sink) : Answer → Option (List ℕ) → Type 0 where
  refuted : (bytes text : List ℕ) → WritesWork blocks proof bytes → IsProof (generated blocks) bytes → IsUnsatisfiable (generated blocks)
      → Summarises blocks Refuted text → WorkRow blocks proof Refuted (Some text)
  unknown : (bytes text : List ℕ) → WritesWork blocks proof bytes → learned_count bytes ≡ work_budget → IsSmall work_budget work_forget (generated blocks).vars
      → Summarises blocks (Unknown work_budget) text → WorkRow blocks proof (Unknown work_budget) (Some text)
  no_memory : GotSteps work_budget (generated blocks) proof → WorkRow blocks proof NoMemory None
  fails : Rose proof.old.faults proof.new.faults → GotSteps work_budget (generated blocks) proof → WorkRow blocks proof (WriteFault Proof) None

-- The proof that was written is an accepted one for the generated formula, which so has no model.
abbrev pub RefutesBlocks : ℕ → Change Sink → Type 0
RefutesBlocks blocks proof =
    (bytes : List ℕ) × WritesWork blocks proof bytes × IsProof (generated blocks) bytes × IsUnsatisfiable (generated blocks)

-- The proof that was written has as many learned clauses as the budget, all of them new.
abbrev pub ExhaustsBlocks : ℕ → Change Sink → Type 0
ExhaustsBlocks blocks proof = (bytes : List ℕ) × WritesWork blocks proof bytes × (learned_count bytes ≡ work_budget)

-- the summary with this answer was written
abbrev pub PrintsSummary : ℕ → Answer → Change Sink → Type 0
PrintsSummary blocks answer out = (text : List ℕ) × Summarises blocks answer text × Got out.old.written out.new.written text

-- The headline. No other answer comes: the generated formula has no model, and no file is read.
abbrev pub WorkHeadline : ℕ → Change Sink → Change Sink → Answer → Type 0
WorkHeadline blocks proof out Refuted = RefutesBlocks blocks proof × PrintsSummary blocks Refuted out
WorkHeadline blocks proof out (Unknown learned) = (learned ≡ work_budget) × ExhaustsBlocks blocks proof × PrintsSummary blocks (Unknown learned) out
WorkHeadline blocks proof out (WriteFault which) = Unit {0}
WorkHeadline blocks proof out NoMemory = Unit {0}
WorkHeadline blocks proof out answer = ⊥

-- What `work` answers where no sink fails, unless memory is short.
abbrev pub Finishes : Answer → Type 0
Finishes Refuted = Unit {0}
Finishes (Unknown learned) = learned ≡ work_budget
Finishes NoMemory = Unit {0}
Finishes answer = ⊥
