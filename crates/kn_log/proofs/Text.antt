-- The text of logged lines is read as the lines that were logged.
use Rattle.std.proofs.Common.{◌≡◌, ℕ, ◌+◌, ◌<◌, ◌^◌, Bool, true, List, [], ◌∷◌, ◌++◌, map, length, if◌then◌else◌, refl, sym, ap, ◌∙◌, subst, zero-add}
use Rattle.std.specs.List.{AllByRecursion, flat_map}
use Rattle.kn_logic.specs.Formulas.{Problem}
use Rattle.kn_text.specs.Lines.{Line as TextLine, line_text, IsPlainLine, IsContent, content_of, numbered}
use Rattle.kn_text.proofs.Public.{content_of_lines}
use Rattle.kn_lines.specs.declared.line.Line.{Line}
use Rattle.kn_lines.specs.declared.line.Line.TheVariants.{Header, Define, Lemma, Learned, Klause, Unfold, Delete}
use Rattle.kn_lines.specs.Lines.{line_words}
use Rattle.kn_lines.proofs.Public.{written_words_spell, written_is_plain, written_is_content, spelled_is_in_range}
use Rattle.kn_rules.specs.States.{ProofState, start}
use Rattle.kn_rules.specs.Stepping.{StepsBy, is_learned_clause, learned_in}
use Rattle.kn_rules.specs.Proofs.{Runs, StepsThrough, Steps, IsProof}
use Rattle.kn_log.specs.Logs.{header_of, line_bytes, IsSpelled}
use Rattle.kn_log.specs.Written.{AreSpelled, lines_bytes, begins_with_l, learned_among, learned_count}

spelled_is_plain : (lines : List Line) → AreSpelled lines → AllByRecursion IsPlainLine (map line_words lines)
spelled_is_plain [] h = tt
spelled_is_plain (line ∷ lines) h = (written_is_plain line (spelled_is_in_range (line_words line) line h.0), spelled_is_plain lines h.1)

all_content : (lines : List Line) → AllByRecursion IsContent (map line_words lines)
all_content [] = tt
all_content (line ∷ lines) = (written_is_content line, all_content lines)

bytes_by_words : (lines : List Line) → lines_bytes lines ≡ flat_map line_text (map line_words lines)
bytes_by_words [] = refl
bytes_by_words (line ∷ lines) = ap (λ (bytes : List ℕ). line_bytes line ++ bytes) (bytes_by_words lines)

-- the lines that are read
pub content_of_logged : (lines : List Line) → AreSpelled lines → content_of (lines_bytes lines) ≡ numbered 1 (map line_words lines)
content_of_logged lines h = ap content_of (bytes_by_words lines) ∙ content_of_lines (map line_words lines) (spelled_is_plain lines h) (all_content lines)

runs_of_logged : (lines : List Line) (number : ℕ) (old last : ProofState) → StepsBy old lines last → AreSpelled lines → Runs old (numbered number (map line_words lines)) last
runs_of_logged [] number old last s h = s
runs_of_logged (line ∷ lines) number old last s h = (s.0, (line, h.0, s.1), runs_of_logged lines (number + 1) s.0 last s.2 h.1)

pub header_is_spelled : (f : Problem) → f.vars < 2 ^ 64 → length f.constraints < 2 ^ 64 → IsSpelled (header_of f)
header_is_spelled f v c = written_words_spell (Header f.vars (length f.constraints)) tt (v, c)

pub written_steps : (f : Problem) (lines : List Line) (last : ProofState) → f.vars < 2 ^ 64 → length f.constraints < 2 ^ 64 → StepsBy (start f) lines last → AreSpelled lines → Steps f (lines_bytes (header_of f ∷ lines)) last
written_steps f lines last v c s h =
    let header : IsSpelled (header_of f) = header_is_spelled f v c in
    subst (λ (texts : List TextLine). StepsThrough f texts last) (sym (content_of_logged (header_of f ∷ lines) (header, h))) (header, runs_of_logged lines 2 (start f) last s h)

pub written_proof : (f : Problem) (lines : List Line) (last : ProofState) → f.vars < 2 ^ 64 → length f.constraints < 2 ^ 64 → StepsBy (start f) lines last → AreSpelled lines → last.refuted ≡ true → IsProof f (lines_bytes (header_of f ∷ lines))
written_proof f lines last v c s h e = (last, written_steps f lines last v c s h, e)

-- learned clauses are counted by their first word
first_word : (line : Line) → begins_with_l (line_words line) ≡ is_learned_clause line
first_word (Header vars constraints) = refl
first_word (Define x high low) = refl
first_word (Lemma c hints) = refl
first_word (Learned c hints) = refl
first_word (Klause c root unit) = refl
first_word (Unfold id root) = refl
first_word (Delete ids) = refl

learned_among_logged : (lines : List Line) (number : ℕ) → learned_among (numbered number (map line_words lines)) ≡ learned_in lines
learned_among_logged [] number = refl
learned_among_logged (line ∷ lines) number =
    ap (λ (b : Bool). (if b then 1 else 0) + learned_among (numbered (number + 1) (map line_words lines))) (first_word line)
    ∙ ap (λ (n : ℕ). (if is_learned_clause line then 1 else 0) + n) (learned_among_logged lines (number + 1))

pub written_learned : (f : Problem) (lines : List Line) → f.vars < 2 ^ 64 → length f.constraints < 2 ^ 64 → AreSpelled lines → learned_count (lines_bytes (header_of f ∷ lines)) ≡ learned_in lines
written_learned f lines v c h =
    ap learned_among (content_of_logged (header_of f ∷ lines) (header_is_spelled f v c, h))
    ∙ learned_among_logged (header_of f ∷ lines) 1
    ∙ zero-add (learned_in lines)
