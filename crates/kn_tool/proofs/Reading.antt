-- The text of a proof that was logged is read as its lines; each learned clause among them is new.
use Rattle.std.proofs.Common.{◌≡◌, ℕ, ◌+◌, ◌<◌, ◌^◌, ◌++◌, ◌∷◌, cond, List, [], map, length, refl, sym, ap, ◌∙◌, subst}
use Rattle.std.specs.List.{AllByRecursion, flat_map}
use Rattle.kn_logic.specs.Formulas.{Problem}
use Rattle.kn_text.specs.Lines.{Line as TextLine, line_text, IsPlainLine, IsContent, content_of, numbered}
use Rattle.kn_text.proofs.Public.{content_of_lines}
use Rattle.kn_lines.specs.declared.line.Line.{Line}
use Rattle.kn_lines.specs.declared.line.Line.TheVariants.{Header, Define, Lemma, Learned, Klause, Unfold, Delete}
use Rattle.kn_lines.specs.Lines.{line_words}
use Rattle.kn_lines.proofs.Public.{written_words_spell, written_is_plain, written_is_content, spelled_is_in_range}
use Rattle.kn_rules.specs.States.{ProofState, start}
use Rattle.kn_rules.specs.Stepping.{StepsBy, is_deletion}
use Rattle.kn_rules.specs.Searching.{Allows, SearchesBy}
use Rattle.kn_log.specs.Logs.{header_of, line_bytes, IsSpelled}
use Rattle.kn_log.specs.Written.{AreSpelled, lines_bytes}
use Rattle.kn_extract.specs.Extractions.{Found}
use Rattle.kn_opening.specs.Openings.{IsOpeningLine, AreOpeningLines}
use Rattle.kn_solve.specs.Solutions.{IsSolverProof}
use Rattle.kn_tool.specs.SolverProofs.{AreRead, Reads, IsNewLine, AreNew, AllNew}

plain : (lines : List Line) → AreSpelled lines → AllByRecursion IsPlainLine (map line_words lines)
plain [] h = tt
plain (line ∷ lines) h = (written_is_plain line (spelled_is_in_range (line_words line) line h.0), plain lines h.1)

all_content : (lines : List Line) → AllByRecursion IsContent (map line_words lines)
all_content [] = tt
all_content (line ∷ lines) = (written_is_content line, all_content lines)

by_words : (lines : List Line) → lines_bytes lines ≡ flat_map line_text (map line_words lines)
by_words [] = refl
by_words (line ∷ lines) = ap (λ (bytes : List ℕ). line_bytes line ++ bytes) (by_words lines)

are_read : (lines : List Line) (number : ℕ) → AreSpelled lines → AreRead (numbered number (map line_words lines)) lines
are_read [] number h = tt
are_read (line ∷ lines) number h = (h.0, are_read lines (number + 1) h.1)

pub reads : (f : Problem) (lines : List Line) → f.vars < 2 ^ 64 → length f.constraints < 2 ^ 64 → AreSpelled lines → Reads f (lines_bytes (header_of f ∷ lines)) lines
reads f lines v c h =
    let header : IsSpelled (header_of f) = written_words_spell (Header f.vars (length f.constraints)) tt (v, c) in
    subst (λ (texts : List TextLine). AreRead texts (header_of f ∷ lines))
    (sym (ap content_of (by_words (header_of f ∷ lines)) ∙ content_of_lines (map line_words (header_of f ∷ lines)) (plain (header_of f ∷ lines) (header, h)) (all_content (header_of f ∷ lines))))
    (are_read (header_of f ∷ lines) 1 (header, h))

new_line : (vars forget deletions : ℕ) (s : ProofState) (line : Line) → Allows vars forget deletions s line → IsNewLine vars s line
new_line vars forget deletions s (Header n k) h = tt
new_line vars forget deletions s (Define x high low) h = tt
new_line vars forget deletions s (Lemma c hints) h = tt
new_line vars forget deletions s (Learned c hints) (known, new, uses) = (known, new)
new_line vars forget deletions s (Klause c root unit) h = tt
new_line vars forget deletions s (Unfold id root) h = tt
new_line vars forget deletions s (Delete ids) h = tt

searched-new : (vars forget deletions : ℕ) (s last : ProofState) (lines : List Line) → SearchesBy vars forget deletions s lines last → AreNew vars s lines
searched-new vars forget deletions s last [] h = tt
searched-new vars forget deletions s last (line ∷ lines) (next, steps, allows, end, more) =
    (next, steps, new_line vars forget deletions s line allows, searched-new vars forget (deletions + cond (is_deletion line) 1 0) next last lines more)

-- a line of an opening is no learned clause
opening_line : (vars : ℕ) (s : ProofState) (line : Line) → IsOpeningLine line → IsNewLine vars s line
opening_line vars s (Header n k) h = tt
opening_line vars s (Define x high low) h = tt
opening_line vars s (Lemma c hints) h = tt
opening_line vars s (Learned c hints) h = absurd h
opening_line vars s (Klause c root unit) h = tt
opening_line vars s (Unfold id root) h = tt
opening_line vars s (Delete ids) h = tt

opened-new : (vars : ℕ) (s middle : ProofState) (opening body : List Line) → AreOpeningLines opening → StepsBy s opening middle → AreNew vars middle body → AreNew vars s (opening ++ body)
opened-new vars s middle [] body h e new = subst (λ (u : ProofState). AreNew vars u body) (sym e) new
opened-new vars s middle (line ∷ opening) body h (next, steps, more) new = (next, steps, opening_line vars s line h.0, opened-new vars next middle opening body h.1 more new)

pub all-new : (f : Problem) (forget : ℕ) (found : List Found) (opening body : List Line) (last : ProofState) → f.vars < 2 ^ 64 → length f.constraints < 2 ^ 64 → AreSpelled (opening ++ body) → IsSolverProof f forget found opening body last
    → AllNew f (lines_bytes (header_of f ∷ opening ++ body))
all-new f forget found opening body last v c h proof = (
  opening ++ body,
  reads f (opening ++ body) v c h,
  opened-new f.vars (start f) proof.middle opening body proof.lines proof.opens (searched-new f.vars forget 0 proof.middle last body proof.searches),
)
