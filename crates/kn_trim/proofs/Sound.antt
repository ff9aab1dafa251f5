-- The text of the needed lines is a proof.
use Rattle.std.proofs.Common.{◌≡◌, ℕ, ◌+◌, ◌≤◌, ◌<◌, ◌^◌, Bool, true, false, cond, List, [], ◌∷◌, ◌++◌, map, length, Option, None, Some, Result, Ok, refl, sym, ap, ◌∙◌, subst, arith}
use Rattle.std.specs.List.{AllByRecursion, flat_map}
use Rattle.kn_logic.specs.Literals.{Literal}
use Rattle.kn_logic.specs.Constraints.{Bounded}
use Rattle.kn_logic.specs.Formulas.{Problem, IsFormula}
use Rattle.kn_text.specs.Lines.{Line as TextLine, line_text, IsPlainLine, IsContent, content_of, numbered}
use Rattle.kn_text.specs.Numbers.{IsWritable}
use Rattle.kn_text.proofs.Public.{content_of_lines}
use Rattle.kn_lines.specs.declared.line.Arm.{Arm}
use Rattle.kn_lines.specs.declared.line.Arm.TheVariants as arm
use Rattle.kn_lines.specs.declared.line.Line.{Line}
use Rattle.kn_lines.specs.declared.line.Line.TheVariants.{Header, Define, Lemma, Learned, Klause, Unfold, Delete}
use Rattle.kn_lines.specs.Lines.{line_words, SpellsWords, IsWellFormed, IsInRange, AreNumbers, AreLiterals, IsArmInRange}
use Rattle.kn_lines.proofs.Public.{written_words_spell, written_is_plain, written_is_content, spelled_is_in_range}
use Rattle.kn_lines.proofs.Public.{one_spelling, spelled_is_formed}
use Rattle.kn_rules.specs.States.{ProofState, start}
use Rattle.kn_rules.specs.Steps.{hinted, step}
use Rattle.kn_rules.specs.Stepping.{StepsBy}
use Rattle.kn_rules.specs.Proofs.{Runs, StepsThrough, IsProof}
use Rattle.kn_trim.specs.Numbers.{is_marked, new_number}
use Rattle.kn_trim.specs.Used.{picked, used_marks, used_ids, lean, lines_from, lean_lines}
use Rattle.kn_trim.specs.Needed.{Kept, kept_by, AreMarked, IsMet, AreMet, variables_of, arm_variables, renumbered_literal, renumbered_arm, renumbered_constraint, renumbered, kept_lines, AreSpelled, AreBehindHeader, IsTrimmed}
use Rattle.kn_trim.proofs.NumberLemmas.{number_positive, number-below, new_are_ids}
use Rattle.kn_trim.proofs.Defining.{marked-parts}
use Rattle.kn_trim.proofs.Whole.{Leans, kept-steps, ends, refutes}

-- a line that can be written, and is read again
pub record IsGood (line : Line) : Type 0 where
  pub formed : IsWellFormed line
  pub range : IsInRange line

-- used hints are some of the hints
pub picked-all : (P : ℕ → Type 0) (marks : List Bool) (ids : List ℕ) → AllByRecursion P ids → AllByRecursion P (picked marks ids)
picked-all P [] ids h = tt
picked-all P (m ∷ marks) [] h = tt
picked-all P (m ∷ marks) (id ∷ ids) h = turn m (picked-all P marks ids h.1)
  where
    turn : (m : Bool) → AllByRecursion P (picked marks ids) → AllByRecursion P (cond m (id ∷ picked marks ids) (picked marks ids))
    turn true k = (h.0, k)
    turn false k = k

pub used-all : (P : ℕ → Type 0) (lits : List Literal) (ids : List ℕ) (o : Option (List Bounded)) → AllByRecursion P ids → AllByRecursion P (used_ids lits ids o)
used-all P lits ids None h = tt
used-all P lits ids (Some cs) h = picked-all P (used_marks (map Rattle.kn_logic.specs.Literals.negated lits) cs) ids h

lean-good : (s : ProofState) (line : Line) → IsGood line → IsGood (lean s line)
lean-good s (Header vars constraints) h = h
lean-good s (Define x high low) h = h
lean-good s (Lemma c hints) h = record { formed = (h.formed.0, used-all (λ id. 1 ≤ id) c.lits hints (hinted s.given hints) h.formed.1); range = (h.range.0, used-all (λ id. id < 2 ^ 64) c.lits hints (hinted s.given hints) h.range.1) }
lean-good s (Learned c hints) h = record { formed = (h.formed.0, used-all (λ id. 1 ≤ id) c.lits hints (hinted s.given hints) h.formed.1); range = (h.range.0, used-all (λ id. id < 2 ^ 64) c.lits hints (hinted s.given hints) h.range.1) }
lean-good s (Klause c root unit) h = h
lean-good s (Unfold id root) h = h
lean-good s (Delete ids) h = h

-- new numbers
small : (marks : List Bool) (n : ℕ) → n < 2 ^ 64 → new_number marks n < 2 ^ 64
small marks n h = let below = number-below marks n in omega (arith, below, h)

numbers-good : (marks : List Bool) (ids : List ℕ) → AreNumbers ids → AreNumbers (map (new_number marks) ids)
numbers-good marks [] k = tt
numbers-good marks (id ∷ ids) k = (small marks id k.0, numbers-good marks ids k.1)

literal-good : (marks : List Bool) (l : Literal) → is_marked marks l.variable ≡ true → IsWritable l → IsWritable (renumbered_literal (new_number marks) l)
literal-good marks l m w = (number_positive marks l.variable m, small marks l.variable w.1)

literals-good : (marks : List Bool) (lits : List Literal) → AreMarked marks (variables_of lits) → AreLiterals lits → AreLiterals (map (renumbered_literal (new_number marks)) lits)
literals-good marks [] m w = tt
literals-good marks (l ∷ lits) m w = (literal-good marks l m.0 w.0, literals-good marks lits m.1 w.1)

arm-good : (marks : List Bool) (a : Arm) → AreMarked marks (arm_variables a) → IsArmInRange a → IsArmInRange (renumbered_arm (new_number marks) a)
arm-good marks arm.True m w = tt
arm-good marks arm.False m w = tt
arm-good marks (arm.Lit l) m w = literal-good marks l m.0 w

renumbered-good : (kept : Kept) (line : Line) → IsMet kept line → IsGood line → IsGood (renumbered (new_number kept.variables) (new_number kept.ids) line)
renumbered-good kept (Header vars constraints) m h = h
renumbered-good kept (Define x high low) m h =
    let arms = marked-parts kept.variables (arm_variables high) (arm_variables low) m.variables.1 in
    record { formed = tt; range = (literal-good kept.variables x m.variables.0 h.range.0, arm-good kept.variables high arms.0 h.range.1, arm-good kept.variables low arms.1 h.range.2) }
renumbered-good kept (Lemma c hints) m h = record {
  formed = (ap (renumbered_constraint (new_number kept.variables)) h.formed.0, new_are_ids kept.ids hints m.ids);
  range = (literals-good kept.variables c.lits m.variables h.range.0, numbers-good kept.ids hints h.range.1);
}
renumbered-good kept (Learned c hints) m h = record {
  formed = (ap (renumbered_constraint (new_number kept.variables)) h.formed.0, new_are_ids kept.ids hints m.ids);
  range = (literals-good kept.variables c.lits m.variables h.range.0, numbers-good kept.ids hints h.range.1);
}
renumbered-good kept (Klause c root unit) m h = record {
  formed = (ap (renumbered_constraint (new_number kept.variables)) h.formed.0, number_positive kept.variables root m.variables.0, number_positive kept.ids unit m.ids.0);
  range = (h.range.0, literals-good kept.variables c.lits m.variables.1 h.range.1, small kept.variables root h.range.2, small kept.ids unit h.range.3);
}
renumbered-good kept (Unfold id root) m h = record {
  formed = (number_positive kept.ids id m.ids.0, number_positive kept.variables root m.variables.0);
  range = (small kept.ids id h.range.0, small kept.variables root h.range.1);
}
renumbered-good kept (Delete ids) m h = let gives = m.gives in absurd cc

kept-good : (kept : Kept) (leans : List Line) (own : List Bool) → AreMet kept leans own → AllByRecursion IsGood leans → AllByRecursion IsGood (kept_lines kept leans own)
kept-good kept [] own k h = tt
kept-good kept (line ∷ leans) [] k h = tt
kept-good kept (line ∷ leans) (m ∷ own) k h = turn m k.0 (kept-good kept leans own k.1 h.1)
  where
    turn : (m : Bool) → (m ≡ true → IsMet kept line) → AllByRecursion IsGood (kept_lines kept leans own) → AllByRecursion IsGood (cond m (renumbered (new_number kept.variables) (new_number kept.ids) line ∷ kept_lines kept leans own) (kept_lines kept leans own))
    turn true met rest = (renumbered-good kept line (met refl) h.0, rest)
    turn false met rest = rest

-- what is written is read
good-spelled : (line : Line) → IsGood line → SpellsWords (line_words line) line
good-spelled line h = written_words_spell line h.formed h.range

all-plain : (lines : List Line) → AllByRecursion IsGood lines → AllByRecursion IsPlainLine (map line_words lines)
all-plain [] h = tt
all-plain (line ∷ lines) h = (written_is_plain line h.0.range, all-plain lines h.1)

all-content : (lines : List Line) → AllByRecursion IsContent (map line_words lines)
all-content [] = tt
all-content (line ∷ lines) = (written_is_content line, all-content lines)

bytes-by-words : (lines : List Line) → flat_map (λ line. line_text (line_words line)) lines ≡ flat_map line_text (map line_words lines)
bytes-by-words [] = refl
bytes-by-words (line ∷ lines) = ap (λ (bytes : List ℕ). line_text (line_words line) ++ bytes) (bytes-by-words lines)

runs-written : (lines : List Line) (number : ℕ) (old last : ProofState) → StepsBy old lines last → AllByRecursion IsGood lines → Runs old (numbered number (map line_words lines)) last
runs-written [] number old last s h = s
runs-written (line ∷ lines) number old last s h = (s.0, (line, good-spelled line h.0, s.1), runs-written lines (number + 1) s.0 last s.2 h.1)

-- the lines of the whole proof
runs-lean : (texts : List TextLine) (lines : List Line) (s last : ProofState) → AreSpelled texts lines → Runs s texts last → Leans s lines (lean_lines s lines) last × AllByRecursion IsGood (lean_lines s lines)
runs-lean [] [] s last k r = (r, tt)
runs-lean [] (line ∷ lines) s last k r = absurd k
runs-lean (text ∷ texts) [] s last k r = absurd k
runs-lean (text ∷ texts) (line ∷ lines) s last k r =
    let same : r.1.0 ≡ line = one_spelling text.words r.1.0 line r.1.1 k.0 in
    let steps : step s line ≡ Ok r.0 = subst (λ (l : Line). step s l ≡ Ok r.0) same r.1.2 in
    let rest = runs-lean texts lines r.0 last k.1 r.2 in
    let good : IsGood line = record { formed = spelled_is_formed text.words line k.0; range = spelled_is_in_range text.words line k.0 } in (
      (r.0, steps, refl, subst (λ (x : Result ProofState ℕ). Leans r.0 lines (lines_from (λ next. lean_lines next lines) x) last) (sym steps) rest.0),
      (lean-good s line good, subst (λ (x : Result ProofState ℕ). AllByRecursion IsGood (lines_from (λ next. lean_lines next lines) x)) (sym steps) rest.1),
    )

pub steps-lean : (f : Problem) (texts : List TextLine) (lines : List Line) (last : ProofState) → AreBehindHeader texts lines → StepsThrough f texts last → Leans (start f) lines (lean_lines (start f) lines) last × AllByRecursion IsGood (lean_lines (start f) lines) × (f.vars < 2 ^ 64) × (length f.constraints < 2 ^ 64)
steps-lean f [] lines last k s = absurd k
steps-lean f (header ∷ texts) lines last k s =
    let both = runs-lean texts lines (start f) last k s.1 in
    let range = spelled_is_in_range header.words (Header f.vars (length f.constraints)) s.0 in
    (both.0, both.1, range.0, range.1)

-- Trimmed proofs are proofs.
pub trimmed-is-proof : (f : Problem) (bytes text : List ℕ) → IsFormula f → IsProof f bytes → IsTrimmed f bytes text → IsProof f text
trimmed-is-proof f bytes text w p h =
    let leans : List Line = lean_lines (start f) h.lines in
    let parts = steps-lean f (content_of bytes) h.lines p.0 h.spelled p.1 in
    let closed = h.needed.closed in
    let lines : List Line = kept_lines (kept_by f leans h.marks) leans h.marks in
    let run = kept-steps f h.lines leans h.marks p.0 w closed.met parts.0 in
    let good : AllByRecursion IsGood lines = kept-good (kept_by f leans h.marks) leans h.marks closed.met parts.1 in
    let header : IsGood (Header f.vars (length f.constraints)) = record { formed = tt; range = (parts.2, parts.3) } in
    let content : content_of text ≡ numbered 1 (map line_words (Header f.vars (length f.constraints) ∷ lines)) =
    ap content_of (h.written ∙ bytes-by-words (Header f.vars (length f.constraints) ∷ lines)) ∙ content_of_lines (map line_words (Header f.vars (length f.constraints) ∷ lines)) (all-plain (Header f.vars (length f.constraints) ∷ lines) (header, good)) (all-content (Header f.vars (length f.constraints) ∷ lines)) in (
      run.0,
      subst (λ (texts : List TextLine). StepsThrough f texts run.0) (sym content) (good-spelled _ header, runs-written lines 2 (start f) run.0 run.1 good),
      refutes lines (start f) run.0 run.1 (ends (kept_by f leans h.marks) leans h.marks closed.end),
    )
