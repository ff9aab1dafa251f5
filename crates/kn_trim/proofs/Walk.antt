-- One turn of the walk from the last line to the first.
use Rattle.std.proofs.Common.{◌≡◌, ℕ, zero, suc, ◌+◌, ◌-◌, ◌≤◌, ◌<◌, ◌&&◌, ◌||◌, Bool, false, not, eqb, List, [], ◌∷◌, drop, get_or, length, refl, sym, ap, ◌∙◌, subst, arith}
use Rattle.std.specs.Prelude.{slice_index_or, slice_set}
use Rattle.std.proofs.lemmas.List.{drop-set, length-replicate}
use Rattle.kn_lines.specs.declared.line.Line.{Line}
use Rattle.kn_trim.specs.Needed.{Kept, ids_given, variables_given, named_ids, named_variables, is_end}
use Rattle.kn_trim.specs.Marking.{is_any, Marked, Place, behind, is_needed, with_mark, marked, AreBefore, NameBefore, none_of, place_at, first_end}
use Rattle.kn_trim.proofs.MarkLemmas.{IsLineAt, line-at, end-at}
use Rattle.kn_trim.proofs.Least.{with-need}

pub record FactsAt (p : Place) (lines : List Line) (at before : ℕ) (line : Line) : Type 0 where
  pub lines' : drop before lines ≡ line ∷ drop at lines
  pub place : place_at p lines at ≡ behind (place_at p lines before) line
  pub variables : (place_at p lines at).variables ≡ (place_at p lines before).variables + variables_given line
  pub ids : (place_at p lines at).ids ≡ (place_at p lines before).ids + ids_given line
  pub named : NameBefore p lines → AreBefore (place_at p lines before).variables (named_variables line) × AreBefore (place_at p lines before).ids (named_ids line)
  pub ends : p.refuted ≡ false → (not (place_at p lines before).refuted && is_end line) ≡ eqb before (first_end lines)

abbrev pub Facts : Place → List Line → ℕ → Line → Type 0
Facts p lines at line = FactsAt p lines at (at - 1) line

pub facts : (p : Place) (lines : List Line) (at : ℕ) (line : Line) → 0 < at → at ≤ length lines → line ≡ slice_index_or lines (at - 1) line → Facts p lines at line
facts p lines zero line h k e = absurd (omega arith)
facts p lines (suc at) line h k e =
    let less : suc at - 1 ≡ at = omega arith in
    let more : at + 1 ≡ suc at = omega arith in
    let read : line ≡ get_or lines at line = e ∙ ap (λ n. get_or lines n line) less in
    let within : at < length lines = omega (arith, k) in
    let one : IsLineAt p lines at line = line-at p lines at line line within read in
    subst (λ n. FactsAt p lines (suc at) n line) (sym less) (record {
      lines' = one.0 ∙ ap (λ n. line ∷ drop n lines) more;
      place = ap (place_at p lines) (sym more) ∙ one.1;
      variables = ap (λ n. (place_at p lines n).variables) (sym more) ∙ ap (λ (q : Place). q.variables) one.1;
      ids = ap (λ n. (place_at p lines n).ids) (sym more) ∙ ap (λ (q : Place). q.ids) one.1;
      named = one.2;
      ends = λ r. end-at p lines at line line r within read;
    })

pub room : (variables ids : ℕ) (q : Place) (lines : List Line) → (length (marked (none_of variables ids) q lines).need.variables ≡ variables) × (length (marked (none_of variables ids) q lines).need.ids ≡ ids)
room variables ids q lines =
    let h = with-need (none_of variables ids) q lines in
    (h.0 ∙ length-replicate variables false, h.1 ∙ length-replicate ids false)

pub drop-back : (xs : List Bool) (at : ℕ) (x : Bool) → 0 < at → at ≤ length xs → drop (at - 1) (slice_set xs (at - 1) x) ≡ x ∷ drop at xs
drop-back xs at x h k =
    let next : at - 1 + 1 ≡ at = omega (arith, h) in
    drop-set xs (at - 1) x (omega (arith, h, k)) ∙ ap (λ n. x ∷ drop n xs) next

-- what one more line makes of the marks
pub marked-back : (none : Kept) (p : Place) (lines : List Line) (at : ℕ) (line : Line) (variables ids : ℕ) (ends taken : Bool) (needs : Kept) → Facts p lines at line →
    (place_at p lines (at - 1)).variables ≡ variables → (place_at p lines (at - 1)).ids ≡ ids →
    ends ≡ (not (place_at p lines (at - 1)).refuted && is_end line) →
    needs ≡ (marked none (place_at p lines at) (drop at lines)).need →
    taken ≡ (ends || (is_any needs.variables variables (variables_given line) || is_any needs.ids ids (ids_given line))) →
    marked none (place_at p lines (at - 1)) (drop (at - 1) lines) ≡ with_mark taken line (marked none (place_at p lines at) (drop at lines))
marked-back none p lines at line variables ids ends taken needs h v i e n t =
    let q : Place = place_at p lines (at - 1) in
    let rest : Marked = marked none (place_at p lines at) (drop at lines) in
    let needed : is_needed q line rest.need ≡ taken =
    ap (λ k. (not q.refuted && is_end line) || (is_any rest.need.variables k (variables_given line) || is_any rest.need.ids q.ids (ids_given line))) v
    ∙ ap (λ k. (not q.refuted && is_end line) || (is_any rest.need.variables variables (variables_given line) || is_any rest.need.ids k (ids_given line))) i
    ∙ ap (λ b. b || (is_any rest.need.variables variables (variables_given line) || is_any rest.need.ids ids (ids_given line))) (sym e)
    ∙ ap (λ (k : Kept). ends || (is_any k.variables variables (variables_given line) || is_any k.ids ids (ids_given line))) (sym n)
    ∙ sym t in
    ap (marked none q) h.lines'
    ∙ ap (λ (x : Place). with_mark (is_needed q line (marked none x (drop at lines)).need) line (marked none x (drop at lines))) (sym h.place)
    ∙ ap (λ b. with_mark b line rest) needed

pub place-zero : (p : Place) (lines : List Line) → place_at p lines 0 ≡ p
place-zero p [] = refl
place-zero p (line ∷ lines) = refl
