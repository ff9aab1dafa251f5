-- What the rows of each command say at the answers of the headline.
use Rattle.std.proofs.Common.{ℕ, List, Option, Some, None, refl, subst}
use Rattle.kn_bytes.specs.Outside.{Got}
use Rattle.kn_logic.specs.Formulas.{Problem}
use Rattle.kn_tool.specs.declared.answer.Which.{Which}
use Rattle.kn_tool.specs.declared.answer.Which.TheVariants.{Out}
use Rattle.kn_tool.specs.declared.answer.Answer.{Answer}
use Rattle.kn_tool.specs.declared.answer.Answer.TheVariants.{Refused, TooLong, ReadFault, WriteFault, NoMemory}
use Rattle.kn_tool.specs.Words.{Asked, check, solve, extract, convert, trim, work, HasShape, AsksFor}
use Rattle.kn_tool.proofs.Shapes.{one_command}
use Rattle.kn_tool.specs.Changes.{Change, Source, Sink}
use Rattle.kn_tool.specs.Files as files
use Rattle.kn_tool.specs.Files.{Accepts, NoFormulaRow, UnreadRow}
use Rattle.kn_tool.specs.Checks as checks
use Rattle.kn_tool.specs.Checks.{CheckRow, CheckHeadline}
use Rattle.kn_tool.specs.Solves as solves
use Rattle.kn_tool.specs.Solves.{SolveRow, SolveHeadline}
use Rattle.kn_tool.specs.Extracts as extracts
use Rattle.kn_tool.specs.Extracts.{ExtractRow, ExtractHeadline}
use Rattle.kn_tool.specs.Conversions as conversions
use Rattle.kn_tool.specs.Conversions.{ConvertRow, ConvertedRow, ConvertHeadline}
use Rattle.kn_tool.specs.Trims as trims
use Rattle.kn_tool.specs.Trims.{TrimRow, TrimHeadline}
use Rattle.kn_tool.specs.Works as works
use Rattle.kn_tool.specs.Works.{WorkRow, WorkHeadline}
use Rattle.kn_tool.specs.Outcomes as outcomes
use Rattle.kn_tool.specs.Outcomes.{Files, RowOf, Told, HeadlineOf}

-- an answer where a source was not read, or gave no formula
unread : (P : Answer → Type 0) (which : Which) (s : Change Source) (answer : Answer) (told : Option (List ℕ)) → P (TooLong which) → P (ReadFault which) → P NoMemory → UnreadRow which s answer told → P answer
unread P which s answer told long fault short (files.too_long many) = long
unread P which s answer told long fault short (files.fails faults) = fault
unread P which s answer told long fault short files.no_memory = short

no_formula : (P : Answer → Type 0) (s : Change Source) (answer : Answer) (told : Option (List ℕ)) → ((which : Which) → P (TooLong which)) → ((which : Which) → P (ReadFault which)) → P NoMemory → ((line why : ℕ) → P (Refused line why)) → NoFormulaRow s answer told → P answer
no_formula P s answer told long fault short refused (files.unread row) = unread P _ s answer told (long _) (fault _) short row
no_formula P s answer told long fault short refused (files.refused {line = line} {why = why} rejects) = refused line why

check_headline : (formula proof : Change Source) (answer : Answer) (told : Option (List ℕ)) → CheckRow formula proof answer told → CheckHeadline formula proof answer
check_headline formula proof answer told (files.accepted f accepts (checks.verified proves)) = (f, accepts, proves)
check_headline formula proof answer told (files.accepted f accepts (checks.not_verified fails)) = tt
check_headline formula proof answer told (files.accepted f accepts (checks.unread row)) = unread (CheckHeadline formula proof) _ proof answer told tt tt tt row
check_headline formula proof answer told (files.accepted f accepts checks.no_memory) = tt
check_headline formula proof answer told (files.no_formula none same) = no_formula (CheckHeadline formula proof) formula answer told (λ w. tt) (λ w. tt) tt (λ line why. tt) none

-- the sink of the answers got the text, where there is one
abbrev GotText : Change Sink → Option (List ℕ) → Type 0
GotText out None = Unit {0}
GotText out (Some text) = Got out.old.written out.new.written text

solve_headline : (budget forget : ℕ) (formula : Change Source) (proof out : Change Sink) (answer : Answer) (told : Option (List ℕ)) → GotText out told → SolveRow budget forget formula proof answer told → SolveHeadline budget forget formula proof out answer
solve_headline budget forget formula proof out answer told got (files.accepted f accepts (solves.model values bytes writes holds rule)) = (f, values, bytes, accepts, writes, holds, rule, got)
solve_headline budget forget formula proof out answer told got (files.accepted f accepts (solves.refuted bytes writes is_proof none)) = (f, bytes, accepts, writes, is_proof, none)
solve_headline budget forget formula proof out answer told got (files.accepted f accepts (solves.unknown bytes writes spent small)) = (refl, (f, bytes, accepts, writes, spent))
solve_headline budget forget formula proof out answer told got (files.accepted f accepts (solves.no_memory front)) = tt
solve_headline budget forget formula proof out answer told got (files.accepted f accepts (solves.fails rose front)) = tt
solve_headline budget forget formula proof out answer told got (files.no_formula none same) = no_formula (SolveHeadline budget forget formula proof out) formula answer told (λ w. tt) (λ w. tt) tt (λ line why. tt) none

extract_headline : (formula : Change Source) (out : Change Sink) (answer : Answer) (told : Option (List ℕ)) → GotText out told → ExtractRow formula answer told → ExtractHeadline formula out answer
extract_headline formula out answer told got (files.accepted f accepts (extracts.done text is)) = (f, text, accepts, is, got)
extract_headline formula out answer told got (files.accepted f accepts extracts.no_memory) = tt
extract_headline formula out answer told got (files.no_formula none same) = no_formula (ExtractHeadline formula out) formula answer told (λ w. tt) (λ w. tt) tt (λ line why. tt) none

converted_headline : (formula : Change Source) (out : Change Sink) (f : Problem) (answer : Answer) (told : Option (List ℕ)) → Accepts formula f → GotText out told → ConvertedRow f answer told → ConvertHeadline formula out answer
converted_headline formula out f answer told accepts got (conversions.done countable same) = (f, accepts, got, same)
converted_headline formula out f answer told accepts got (conversions.too_large large) = tt
converted_headline formula out f answer told accepts got conversions.no_memory = tt

convert_headline : (formula : Change Source) (out : Change Sink) (answer : Answer) (told : Option (List ℕ)) → GotText out told → ConvertRow formula answer told → ConvertHeadline formula out answer
convert_headline formula out answer told got (files.accepted f accepts row) = converted_headline formula out f answer told accepts got row
convert_headline formula out answer told got (files.no_formula none same) = no_formula (ConvertHeadline formula out) formula answer told (λ w. tt) (λ w. tt) tt (λ line why. tt) none

trim_headline : (formula proof : Change Source) (out : Change Sink) (answer : Answer) (told : Option (List ℕ)) → GotText out told → TrimRow formula proof answer told → TrimHeadline formula proof out answer
trim_headline formula proof out answer told got (files.accepted f accepts (trims.done trimmed shortens)) = (f, trimmed, accepts, shortens, got)
trim_headline formula proof out answer told got (files.accepted f accepts (trims.not_verified fails)) = tt
trim_headline formula proof out answer told got (files.accepted f accepts (trims.unread row)) = unread (TrimHeadline formula proof out) _ proof answer told tt tt tt row
trim_headline formula proof out answer told got (files.accepted f accepts trims.no_memory) = tt
trim_headline formula proof out answer told got (files.no_formula none same) = no_formula (TrimHeadline formula proof out) formula answer told (λ w. tt) (λ w. tt) tt (λ line why. tt) none

work_headline : (blocks : ℕ) (proof out : Change Sink) (answer : Answer) (told : Option (List ℕ)) → GotText out told → WorkRow blocks proof answer told → WorkHeadline blocks proof out answer
work_headline blocks proof out answer told got (works.refuted bytes text writes is_proof none sums) = ((bytes, writes, is_proof, none), (text, sums, got))
work_headline blocks proof out answer told got (works.unknown bytes text writes spent small sums) = (refl, (bytes, writes, spent), (text, sums, got))
work_headline blocks proof out answer told got (works.no_memory front) = tt
work_headline blocks proof out answer told got (works.fails rose front) = tt

row_headline : (asked : Asked) (all : Files) (out : Change Sink) (answer : Answer) (told : Option (List ℕ)) → GotText out told → RowOf (Some asked) all answer told → HeadlineOf asked all out answer
row_headline (check f p) all out answer told got row = check_headline all.formula all.proof_in answer told row
row_headline (solve f p conflicts forget) all out answer told got row = solve_headline conflicts forget all.formula all.proof_out out answer told got row
row_headline (extract f) all out answer told got row = extract_headline all.formula out answer told got row
row_headline (convert f) all out answer told got row = convert_headline all.formula out answer told got row
row_headline (trim f p) all out answer told got row = trim_headline all.formula all.proof_in out answer told got row
row_headline (work n) all out answer told got row = work_headline n all.proof_out out answer told got row

-- an answer that could not be written promises nothing
cut_headline : (asked : Asked) (all : Files) (out : Change Sink) → HeadlineOf asked all out (WriteFault Out)
cut_headline (check f p) all out = tt
cut_headline (solve f p conflicts forget) all out = tt
cut_headline (extract f) all out = tt
cut_headline (convert f) all out = tt
cut_headline (trim f p) all out = tt
cut_headline (work n) all out = tt

of_command : (asked : Asked) (all : Files) (out : Change Sink) (answer : Answer) → Told (RowOf (Some asked) all) out answer → HeadlineOf asked all out answer
of_command asked all out answer (outcomes.whole text row got) = row_headline asked all out answer (Some text) got row
of_command asked all out answer (outcomes.silent row same) = row_headline asked all out answer None tt row
of_command asked all out answer (outcomes.cut meant text row rose got) = cut_headline asked all out

pub headline : (words : List (List ℕ)) (request : Option Asked) (all : Files) (out : Change Sink) (answer : Answer) → AsksFor words request → Told (RowOf request all) out answer
    → (asked : Asked) → HasShape words asked → HeadlineOf asked all out answer
headline words None all out answer none told asked shape = absurd (none asked shape)
headline words (Some a) all out answer is told asked shape = subst (λ b. HeadlineOf b all out answer) (one_command words a asked is shape) (of_command a all out answer told)
