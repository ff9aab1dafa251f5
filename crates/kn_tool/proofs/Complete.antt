-- Where nothing is in its way, what the program answers is what the texts say.
use Rattle.std.proofs.Common.{◌≡◌, ◌+◌, ◌-◌, ◌^◌, ◌<◌, ◌≤◌, ◌++◌, List, ℕ, length, Option, Some, None, append-nil, length-append, refl, ap, sym, ◌∙◌, subst, arith, inl, inr}
use Rattle.kn_bytes.specs.Outside.{Gave, HasEnded, Rose}
use Rattle.kn_logic.specs.Formulas.{Problem}
use Rattle.kn_format.specs.Grammar.{Spells, SpellsNone}
use Rattle.kn_format.specs.Faults.{IsFirstFault, refusal}
use Rattle.kn_rules.specs.Proofs.{IsProof, IsFirstWrong, fault}
use Rattle.kn_tool.specs.declared.answer.Answer.{Answer}
use Rattle.kn_tool.specs.declared.answer.Answer.TheVariants.{Refused, NoMemory}
use Rattle.kn_tool.specs.Words.{Asked, check, solve, extract, convert, trim, work, HasShape, AsksFor}
use Rattle.kn_tool.proofs.Shapes.{one_command}
use Rattle.kn_tool.specs.Changes.{Change, Source, Sink, GivesAll, GivesTooMany, NoFault, IsSound, IsQuiet, most_bytes}
use Rattle.kn_tool.specs.Files as files
use Rattle.kn_tool.specs.Files.{Accepts, Rejects, NoFormulaRow}
use Rattle.kn_tool.specs.Checks as checks
use Rattle.kn_tool.specs.Checks.{CheckRow, Decides}
use Rattle.kn_tool.specs.Solves as solves
use Rattle.kn_tool.specs.Solves.{SolveRow, Concludes}
use Rattle.kn_tool.specs.Extracts as extracts
use Rattle.kn_tool.specs.Extracts.{ExtractRow, Extracted}
use Rattle.kn_tool.specs.Conversions as conversions
use Rattle.kn_tool.specs.Conversions.{ConvertRow, ConvertedRow, Converts}
use Rattle.kn_tool.specs.Trims as trims
use Rattle.kn_tool.specs.Trims.{TrimRow, Shortened}
use Rattle.kn_tool.specs.Works as works
use Rattle.kn_tool.specs.Works.{WorkRow, Finishes}
use Rattle.kn_tool.specs.Outcomes as outcomes
use Rattle.kn_tool.specs.Outcomes.{Files, RowOf, Told, CompleteOf}

-- a source that told what it had left gave just that
gave_all : (old new : Option (List ℕ)) (told bytes : List ℕ) → old ≡ Some told → Gave old new bytes → HasEnded new → bytes ≡ told
gave_all old None told bytes is gave ended = absurd (subst (λ o. Gave o None bytes) is gave)
gave_all old (Some rest) told bytes is gave ended =
    let split : told ≡ bytes ++ rest = subst (λ o. Gave o (Some rest) bytes) is gave in
    sym (split ∙ ap (λ r. bytes ++ r) ended ∙ append-nil bytes)

all_told : (s : Change Source) (told bytes : List ℕ) → s.old.left ≡ Some told → GivesAll s bytes → bytes ≡ told
all_told s told bytes is whole = gave_all s.old.left s.new.left told bytes is whole.gives.gave whole.ended

-- it gave no more than it had
gave_within : (old new : Option (List ℕ)) (told bytes : List ℕ) → old ≡ Some told → Gave old new bytes → length bytes ≤ length told
gave_within old None told bytes is gave = absurd (subst (λ o. Gave o None bytes) is gave)
gave_within old (Some rest) told bytes is gave =
    let split : told ≡ bytes ++ rest = subst (λ o. Gave o (Some rest) bytes) is gave in
    omega (arith, ap length split, length-append bytes rest)

not_too_long : (s : Change Source) (told : List ℕ) → IsSound s told → (bytes : List ℕ) × GivesTooMany s bytes → ⊥
not_too_long s told sound (bytes, many) =
    let most : length bytes ≤ length told = gave_within s.old.left s.new.left told bytes sound.told many.gives.gave in
    let beyond : length bytes ≡ most_bytes + 1 = many.beyond in
    let within : length told ≤ most_bytes = sound.within in
    omega arith

no_rise : (old new : ℕ) → NoFault old new → Rose old new → ⊥
no_rise old new none rose = let same : new ≡ old = none.0 in let below : new < 2 ^ 64 - 1 = none.1 in omega arith

spelled : (s : Change Source) (text : List ℕ) (f : Problem) → IsSound s text → Accepts s f → Spells text f
spelled s text f sound accepts = subst (λ t. Spells t f) (all_told s text accepts.text sound.told accepts.whole) accepts.spells

refused : (s : Change Source) (text : List ℕ) (line why : ℕ) → IsSound s text → Rejects s line why → IsFirstFault text (refusal line why) × SpellsNone text
refused s text line why sound rejects =
    let is = all_told s text rejects.text sound.told rejects.whole in
    (subst (λ t. IsFirstFault t (refusal line why)) is rejects.first, subst SpellsNone is rejects.none)

-- a sound file that gave no formula spells none, unless memory is short
no_formula : (P : Answer → Type 0) (s : Change Source) (text : List ℕ) (answer : Answer) (told : Option (List ℕ)) → IsSound s text
    → ((line why : ℕ) → IsFirstFault text (refusal line why) × SpellsNone text → P (Refused line why)) → P NoMemory → NoFormulaRow s answer told → P answer
no_formula P s text answer told sound fault short (files.unread (files.too_long many)) = absurd (not_too_long s text sound many)
no_formula P s text answer told sound fault short (files.unread (files.fails faults)) = absurd (no_rise _ _ sound.quiet faults.rose)
no_formula P s text answer told sound fault short (files.unread files.no_memory) = short
no_formula P s text answer told sound fault short (files.refused {line = line} {why = why} rejects) = fault line why (refused s text line why sound rejects)

check_complete : (formula proof : Change Source) (text more : List ℕ) (answer : Answer) (told : Option (List ℕ)) → IsSound formula text → IsSound proof more
    → CheckRow formula proof answer told → Decides text more answer
check_complete formula proof text more answer told sound also (files.accepted f accepts (checks.verified proves)) =
    (f, spelled formula text f sound accepts, subst (IsProof f) (all_told proof more proves.text also.told proves.whole) proves.accepted)
check_complete formula proof text more answer told sound also (files.accepted f accepts (checks.not_verified {line = line} {why = why} fails)) =
    (f, spelled formula text f sound accepts, subst (λ t. IsFirstWrong f t (fault line why)) (all_told proof more fails.text also.told fails.whole) fails.wrong)
check_complete formula proof text more answer told sound also (files.accepted f accepts (checks.unread (files.too_long many))) = absurd (not_too_long proof more also many)
check_complete formula proof text more answer told sound also (files.accepted f accepts (checks.unread (files.fails faults))) = absurd (no_rise _ _ also.quiet faults.rose)
check_complete formula proof text more answer told sound also (files.accepted f accepts (checks.unread files.no_memory)) = tt
check_complete formula proof text more answer told sound also (files.accepted f accepts checks.no_memory) = tt
check_complete formula proof text more answer told sound also (files.no_formula none same) =
    no_formula (Decides text more) formula text answer told sound (λ line why known. known) tt none

solve_complete : (budget forget : ℕ) (formula : Change Source) (proof : Change Sink) (text : List ℕ) (answer : Answer) (told : Option (List ℕ)) → IsSound formula text → IsQuiet proof
    → SolveRow budget forget formula proof answer told → Concludes budget forget text answer
solve_complete budget forget formula proof text answer told sound quiet (files.accepted f accepts (solves.model values bytes writes holds rule)) = (f, spelled formula text f sound accepts)
solve_complete budget forget formula proof text answer told sound quiet (files.accepted f accepts (solves.refuted bytes writes is_proof none)) = (f, spelled formula text f sound accepts)
solve_complete budget forget formula proof text answer told sound quiet (files.accepted f accepts (solves.unknown bytes writes spent small)) = (f, spelled formula text f sound accepts, small)
solve_complete budget forget formula proof text answer told sound quiet (files.accepted f accepts (solves.no_memory front)) = tt
solve_complete budget forget formula proof text answer told sound quiet (files.accepted f accepts (solves.fails rose front)) = no_rise _ _ quiet rose
solve_complete budget forget formula proof text answer told sound quiet (files.no_formula none same) =
    no_formula (Concludes budget forget text) formula text answer told sound (λ line why known. known) tt none

extract_complete : (formula : Change Source) (text : List ℕ) (answer : Answer) (told : Option (List ℕ)) → IsSound formula text → ExtractRow formula answer told → Extracted text answer
extract_complete formula text answer told sound (files.accepted f accepts (extracts.done written is)) = (f, spelled formula text f sound accepts)
extract_complete formula text answer told sound (files.accepted f accepts extracts.no_memory) = tt
extract_complete formula text answer told sound (files.no_formula none same) =
    no_formula (Extracted text) formula text answer told sound (λ line why known. known) tt none

converted_complete : (s : Change Source) (text : List ℕ) (f : Problem) (answer : Answer) (told : Option (List ℕ)) → Spells text f → ConvertedRow f answer told → Converts text answer
converted_complete s text f answer told spells (conversions.done countable same) = (f, spells, countable)
converted_complete s text f answer told spells (conversions.too_large large) = inr (refl, refl, (f, spells, large))
converted_complete s text f answer told spells conversions.no_memory = tt

convert_complete : (formula : Change Source) (text : List ℕ) (answer : Answer) (told : Option (List ℕ)) → IsSound formula text → ConvertRow formula answer told → Converts text answer
convert_complete formula text answer told sound (files.accepted f accepts row) = converted_complete formula text f answer told (spelled formula text f sound accepts) row
convert_complete formula text answer told sound (files.no_formula none same) =
    no_formula (Converts text) formula text answer told sound (λ line why known. inl known) tt none

trim_complete : (formula proof : Change Source) (text more : List ℕ) (answer : Answer) (told : Option (List ℕ)) → IsSound formula text → IsSound proof more
    → TrimRow formula proof answer told → Shortened text more answer
trim_complete formula proof text more answer told sound also (files.accepted f accepts (trims.done trimmed shortens)) =
    (f, spelled formula text f sound accepts, subst (IsProof f) (all_told proof more shortens.text also.told shortens.whole) shortens.accepted)
trim_complete formula proof text more answer told sound also (files.accepted f accepts (trims.not_verified {line = line} {why = why} fails)) =
    (f, spelled formula text f sound accepts, subst (λ t. IsFirstWrong f t (fault line why)) (all_told proof more fails.text also.told fails.whole) fails.wrong)
trim_complete formula proof text more answer told sound also (files.accepted f accepts (trims.unread (files.too_long many))) = absurd (not_too_long proof more also many)
trim_complete formula proof text more answer told sound also (files.accepted f accepts (trims.unread (files.fails faults))) = absurd (no_rise _ _ also.quiet faults.rose)
trim_complete formula proof text more answer told sound also (files.accepted f accepts (trims.unread files.no_memory)) = tt
trim_complete formula proof text more answer told sound also (files.accepted f accepts trims.no_memory) = tt
trim_complete formula proof text more answer told sound also (files.no_formula none same) =
    no_formula (Shortened text more) formula text answer told sound (λ line why known. known) tt none

work_complete : (blocks : ℕ) (proof : Change Sink) (answer : Answer) (told : Option (List ℕ)) → IsQuiet proof → WorkRow blocks proof answer told → Finishes answer
work_complete blocks proof answer told quiet (works.refuted bytes text writes is_proof none sums) = tt
work_complete blocks proof answer told quiet (works.unknown bytes text writes spent small sums) = refl
work_complete blocks proof answer told quiet (works.no_memory front) = tt
work_complete blocks proof answer told quiet (works.fails rose front) = no_rise _ _ quiet rose

-- whatever was told
row_complete : (asked : Asked) (all : Files) (out : Change Sink) (answer : Answer) (told : Option (List ℕ)) → RowOf (Some asked) all answer told → CompleteOf asked all out answer
row_complete (check f p) all out answer told row = λ text more sound also quiet. check_complete all.formula all.proof_in text more answer told sound also row
row_complete (solve f p conflicts forget) all out answer told row = λ text sound proof_quiet quiet. solve_complete conflicts forget all.formula all.proof_out text answer told sound proof_quiet row
row_complete (extract f) all out answer told row = λ text sound quiet. extract_complete all.formula text answer told sound row
row_complete (convert f) all out answer told row = λ text sound quiet. convert_complete all.formula text answer told sound row
row_complete (trim f p) all out answer told row = λ text more sound also quiet. trim_complete all.formula all.proof_in text more answer told sound also row
row_complete (work n) all out answer told row = λ proof_quiet quiet. work_complete n all.proof_out answer told proof_quiet row

-- writing did not fail
never_cut : (asked : Asked) (all : Files) (out : Change Sink) (answer : Answer) → Rose out.old.faults out.new.faults → CompleteOf asked all out answer
never_cut (check f p) all out answer rose = λ text more sound also quiet. absurd (no_rise _ _ quiet rose)
never_cut (solve f p conflicts forget) all out answer rose = λ text sound proof_quiet quiet. absurd (no_rise _ _ quiet rose)
never_cut (extract f) all out answer rose = λ text sound quiet. absurd (no_rise _ _ quiet rose)
never_cut (convert f) all out answer rose = λ text sound quiet. absurd (no_rise _ _ quiet rose)
never_cut (trim f p) all out answer rose = λ text more sound also quiet. absurd (no_rise _ _ quiet rose)
never_cut (work n) all out answer rose = λ proof_quiet quiet. absurd (no_rise _ _ quiet rose)

of_command : (asked : Asked) (all : Files) (out : Change Sink) (answer : Answer) → Told (RowOf (Some asked) all) out answer → CompleteOf asked all out answer
of_command asked all out answer (outcomes.whole text row got) = row_complete asked all out answer (Some text) row
of_command asked all out answer (outcomes.silent row same) = row_complete asked all out answer None row
of_command asked all out answer (outcomes.cut meant text row rose got) = never_cut asked all out answer rose

pub complete : (words : List (List ℕ)) (request : Option Asked) (all : Files) (out : Change Sink) (answer : Answer) → AsksFor words request → Told (RowOf request all) out answer
    → (asked : Asked) → HasShape words asked → CompleteOf asked all out answer
complete words None all out answer none told asked shape = absurd (none asked shape)
complete words (Some a) all out answer is told asked shape = subst (λ b. CompleteOf b all out answer) (one_command words a asked is shape) (of_command a all out answer told)
