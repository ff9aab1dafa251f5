-- What was read, marked and written is the trimmed text.
use Rattle.std.proofs.Common.{◌≡◌, ℕ, ◌+◌, ◌≤◌, Bool, false, List, [], ◌∷◌, length, sym, ap, ◌∙◌, subst, arith}
use Rattle.std.proofs.lemmas.List.{length-replicate}
use Rattle.kn_logic.specs.Formulas.{Problem}
use Rattle.kn_lines.specs.declared.line.Line.{Line}
use Rattle.kn_trim.specs.Needed.{Kept, AreNeeded, AreMet, IsTrimmed, kept_by, kept_lines, proof_text, ids_given, variables_given}
use Rattle.kn_trim.specs.Marking.{Place, HasRoom, behind, marked, none_of, place_at, place_of}
use Rattle.kn_trim.specs.Reading.{IsLean}
use Rattle.kn_trim.proofs.Least.{marked-needed}
use Rattle.kn_trim.proofs.Named.{none-marked}

-- the marks have room for what each line finds, since they have for all
abbrev HasAll : ℕ → ℕ → Place → List Line → Type 0
HasAll variables ids p lines = ((place_at p lines (length lines)).variables ≤ variables) × ((place_at p lines (length lines)).ids ≤ ids)

room-from : (variables ids : ℕ) (p : Place) (lines : List Line) → HasAll variables ids p lines → HasRoom (none_of variables ids) p lines × (p.variables ≤ variables) × (p.ids ≤ ids)
room-from variables ids p [] h = (tt, h.0, h.1)
room-from variables ids p (line ∷ lines) h =
    let rest = room-from variables ids (behind p line) lines h in
    let lv = length-replicate variables false in
    let li = length-replicate ids false in
    let rv : p.variables + variables_given line ≤ variables = rest.1 in
    let ri : p.ids + ids_given line ≤ ids = rest.2 in
    (((omega (arith, lv, rv), omega (arith, li, ri)), rest.0), omega (arith, rv), omega (arith, ri))

needed-by : (f : Problem) (bytes : List ℕ) (leans : List Line) (variables ids : ℕ) → IsLean f bytes leans variables ids → AreNeeded f leans (marked (none_of variables ids) (place_of f) leans).own
needed-by f bytes leans variables ids h =
    let room = room-from variables ids (place_of f) leans (omega (arith, h.variables), omega (arith, h.ids)) in
    marked-needed f (none_of variables ids) leans (none-marked variables) (none-marked ids) h.named room.0 h.ends

pub needed-own : (f : Problem) (bytes : List ℕ) (leans walked kept : List Line) (variables ids : ℕ) (own marks : List Bool) → IsLean f bytes leans variables ids → walked ≡ leans → kept ≡ leans → own ≡ (marked (none_of variables ids) (place_of f) walked).own → marks ≡ own → AreNeeded f kept marks
needed-own f bytes leans walked kept variables ids own marks h w k o m =
    let same : marks ≡ (marked (none_of variables ids) (place_of f) leans).own = m ∙ o ∙ ap (λ (ls : List Line). (marked (none_of variables ids) (place_of f) ls).own) w in
    subst (λ (ls : List Line). AreNeeded f ls marks) (sym k) (subst (λ (ms : List Bool). AreNeeded f leans ms) (sym same) (needed-by f bytes leans variables ids h))

pub needed-met : (f : Problem) (leans : List Line) (own : List Bool) (kept : Kept) → AreNeeded f leans own → kept ≡ kept_by f leans own → AreMet kept leans own
needed-met f leans own kept h k = subst (λ (x : Kept). AreMet x leans own) (sym k) h.closed.met

pub trimmed-by : (f : Problem) (bytes text : List ℕ) (leans kept : List Line) (variables ids : ℕ) (marks : List Bool) → IsLean f bytes leans variables ids → kept ≡ leans → AreNeeded f kept marks → text ≡ proof_text f (kept_lines (kept_by f kept marks) kept marks) → IsTrimmed f bytes text
trimmed-by f bytes text leans kept variables ids marks h k n t = record {
  lines = h.lines;
  marks = marks;
  spelled = h.spelled;
  needed = subst (λ (ls : List Line). AreNeeded f ls marks) (k ∙ h.lean) n;
  written = subst (λ (ls : List Line). text ≡ proof_text f (kept_lines (kept_by f ls marks) ls marks)) (k ∙ h.lean) t;
}
