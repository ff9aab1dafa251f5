-- The lines of the trimmed proof step, and they refute.
use Rattle.std.proofs.Common.{◌≡◌, ℕ, zero, suc, ◌+◌, ◌≤◌, ◌||◌, Bool, true, false, cond, List, [], ◌∷◌, ◌++◌, map, replicate, length, length-append, append_assoc, Option, None, Some, IfSome, Ok, refl, sym, ap, ◌∙◌, subst, arith}
use Rattle.std.specs.List.{AllByRecursion, list_any, slice_get}
use Rattle.std.specs.Option.{option_map}
use Rattle.std.proofs.lemmas.Option.{slice_get_within}
use Rattle.std.proofs.lemmas.List.{length-map, length-replicate}
use Rattle.std.proofs.Math.Bool.{or_assoc}
use Rattle.kn_logic.specs.Literals.{Literal, IsKnown, AreKnown}
use Rattle.kn_logic.specs.Constraints.{Bounded, IsWithin, Fits}
use Rattle.kn_logic.specs.Formulas.{Problem, IsFormula}
use Rattle.kn_lines.specs.declared.line.Line.{Line}
use Rattle.kn_lines.specs.declared.line.Line.TheVariants.{Header, Define, Lemma, Learned, Klause, Unfold, Delete}
use Rattle.kn_rules.specs.declared.given.Given.{Given}
use Rattle.kn_rules.specs.States.{ProofState, start, from_file}
use Rattle.kn_rules.specs.Steps.{is_empty, step}
use Rattle.kn_rules.specs.Stepping.{StepsBy}
use Rattle.kn_trim.specs.Numbers.{is_marked, new_number}
use Rattle.kn_trim.specs.Used.{lean}
use Rattle.kn_trim.specs.Needed.{Kept, kept_by, marks_given, AreMet, IsMet, HasEnd, ids_given, variables_given, is_end, renumbered_literal, renumbered_constraint, renumbered, kept_lines}
use Rattle.kn_trim.proofs.NumberLemmas.{mark-behind, first-number, first-marked}
use Rattle.kn_trim.proofs.Renaming.{AreKept, IsOver}
use Rattle.kn_trim.proofs.Follows.{IsKept, live_in, IsEntryAlike, IsLiveAlike, Follows}
use Rattle.kn_trim.proofs.Growing.{HaveMark}
use Rattle.kn_trim.proofs.Lines.{HaveMarks, StepsAlike, line-kept, line-dropped, Grows, step-grows}

-- The lines step, one after another; and these are the same lines with their used hints alone.
abbrev pub Leans : ProofState → List Line → List Line → ProofState → Type 0
Leans s [] [] last = s ≡ last
Leans s (line ∷ lines) (l ∷ leans) last = (next : ProofState) × (step s line ≡ Ok next) × (l ≡ lean s line) × Leans next lines leans last
Leans s [] (l ∷ leans) last = ⊥
Leans s (line ∷ lines) [] last = ⊥

have-mark : (done : List Bool) (count : ℕ) (m : Bool) (rest : List Bool) → HaveMark (done ++ (replicate count m ++ rest)) (length done) count m
have-mark done zero m rest = tt
have-mark done (suc count) m rest =
    let more = have-mark (done ++ m ∷ []) count m rest in (
      mark-behind done (replicate count m ++ rest) m,
      subst (λ (marks : List Bool). HaveMark marks (length done + 1) count m) (append_assoc done (m ∷ []) (replicate count m ++ rest))
          (subst (λ n. HaveMark ((done ++ m ∷ []) ++ (replicate count m ++ rest)) n count m) (length-append done (m ∷ [])) more),
    )

pub lean-gives : (s : ProofState) (line : Line) → (ids_given (lean s line) ≡ ids_given line) × (variables_given (lean s line) ≡ variables_given line) × (is_end (lean s line) ≡ is_end line)
lean-gives s (Header vars constraints) = (refl, refl, refl)
lean-gives s (Define x high low) = (refl, refl, refl)
lean-gives s (Lemma c hints) = (refl, refl, refl)
lean-gives s (Learned c hints) = (refl, refl, refl)
lean-gives s (Klause c root unit) = (refl, refl, refl)
lean-gives s (Unfold id root) = (refl, refl, refl)
lean-gives s (Delete ids) = (refl, refl, refl)

-- marks that were passed, and those to come
pub record IsAt (marks : List Bool) (count : Line → ℕ) (leans : List Line) (own : List Bool) (place : ℕ) : Type 0 where
  pub passed : List Bool
  pub whole : marks ≡ passed ++ marks_given count leans own
  pub length : length passed ≡ place

pub here : (marks : List Bool) (count : Line → ℕ) (l : Line) (leans : List Line) (m : Bool) (own : List Bool) (place : ℕ) → IsAt marks count (l ∷ leans) (m ∷ own) place → HaveMark marks place (count l) m
here marks count l leans m own place h =
    subst (λ (ms : List Bool). HaveMark ms place (count l) m) (sym h.whole)
    (subst (λ n. HaveMark (h.passed ++ (replicate (count l) m ++ marks_given count leans own)) n (count l) m) h.length (have-mark h.passed (count l) m (marks_given count leans own)))

pub further : (marks : List Bool) (count : Line → ℕ) (l : Line) (leans : List Line) (m : Bool) (own : List Bool) (place next : ℕ) → next ≡ place + count l → IsAt marks count (l ∷ leans) (m ∷ own) place → IsAt marks count leans own next
further marks count l leans m own place next e h = record {
  passed = h.passed ++ replicate (count l) m;
  whole = h.whole ∙ sym (append_assoc h.passed (replicate (count l) m) (marks_given count leans own));
  length = let both : length (h.passed ++ replicate (count l) m) ≡ length h.passed + length (replicate (count l) m) = length-append h.passed (replicate (count l) m) in
      both ∙ ap (λ n. n + length (replicate (count l) m)) h.length ∙ ap (λ n. place + n) (length-replicate (count l) m) ∙ sym e;
}

-- Each marked line steps in the trimmed proof.
pub run-kept : (base : ℕ) (kept : Kept) (lines leans : List Line) (own : List Bool) (s t last : ProofState) → IsAt kept.variables variables_given leans own s.vars → IsAt kept.ids ids_given leans own (length s.given) → AreMet kept leans own → Leans s lines leans last → Follows base kept s t →
    (end : ProofState) × StepsBy t (kept_lines kept leans own) end
run-kept base kept [] [] own s t last v i k d h = (t, refl)
run-kept base kept [] (l ∷ leans) own s t last v i k d h = absurd d
run-kept base kept (line ∷ lines) [] own s t last v i k d h = absurd d
run-kept base kept (line ∷ lines) (l ∷ leans) [] s t last v i k d h = (t, refl)
run-kept base kept (line ∷ lines) (l ∷ leans) (m ∷ own) s t last v i k d h =
    let gives = lean-gives s line in
    let ids : ids_given l ≡ ids_given line = ap ids_given d.2 ∙ gives.0 in
    let variables : variables_given l ≡ variables_given line = ap variables_given d.2 ∙ gives.1 in
    let grows : Grows s d.0 line = step-grows s d.0 line d.1 in
    let marks : HaveMarks kept s line m = record {
      ids = subst (λ n. HaveMark kept.ids (length s.given) n m) ids (here kept.ids ids_given l leans m own (length s.given) i);
      variables = subst (λ n. HaveMark kept.variables s.vars n m) variables (here kept.variables variables_given l leans m own s.vars v);
    } in
    let v' : IsAt kept.variables variables_given leans own d.0.vars = further kept.variables variables_given l leans m own s.vars d.0.vars (grows.variables ∙ ap (λ n. s.vars + n) (sym variables)) v in
    let i' : IsAt kept.ids ids_given leans own (length d.0.given) = further kept.ids ids_given l leans m own (length s.given) (length d.0.given) (grows.ids ∙ ap (λ n. length s.given + n) (sym ids)) i in
    turn m marks k.0 (λ t' f. run-kept base kept lines leans own d.0 t' last v' i' k.1 d.3 f)
  where
    turn : (m : Bool) → HaveMarks kept s line m → (m ≡ true → IsMet kept l) → ((t' : ProofState) → Follows base kept d.0 t' → (end : ProofState) × StepsBy t' (kept_lines kept leans own) end) → (end : ProofState) × StepsBy t (cond m (renumbered (new_number kept.variables) (new_number kept.ids) l ∷ kept_lines kept leans own) (kept_lines kept leans own)) end
    turn true marks met rest =
        let one : StepsAlike base kept d.0 t (renumbered (new_number kept.variables) (new_number kept.ids) (lean s line)) = line-kept base kept s t d.0 line h d.1 (subst (IsMet kept) d.2 (met refl)) marks in
        let more = rest one.next one.follows in
        (more.0, (one.next, subst (λ (x : Line). step t (renumbered (new_number kept.variables) (new_number kept.ids) x) ≡ Ok one.next) (sym d.2) one.steps, more.1))
    turn false marks met rest = rest t (line-dropped base kept s t d.0 line h d.1 marks)

-- the state behind the header
known-same : (count : ℕ) (marks : List Bool) (l : Literal) → IsKnown count l → renumbered_literal (new_number (replicate count true ++ marks)) l ≡ l
known-same count marks l k = ap (λ n. made n l.positive) (first-number count marks l.variable k.1)
  where
    made : ℕ → Bool → Literal
    made v p = record { variable = v; positive = p }

known-kept : (count : ℕ) (marks : List Bool) (v : ℕ) → 1 ≤ v → v ≤ count → is_marked (replicate count true ++ marks) v ≡ true
known-kept count marks zero a b = absurd (omega arith)
known-kept count marks (suc v) a b = first-marked count marks v (omega arith)

lits-same : (count : ℕ) (marks : List Bool) (lits : List Literal) → AreKnown count lits → (map (renumbered_literal (new_number (replicate count true ++ marks))) lits ≡ lits) × AreKept (IsKept (replicate count true ++ marks)) lits
lits-same count marks [] k = (refl, tt)
lits-same count marks (l ∷ lits) k =
    let rest = lits-same count marks lits k.1 in
    (rw (known-same count marks l k.0, rest.0) refl, (known-kept count marks l.variable k.0.0 k.0.1, rest.1))

guard-same : (count : ℕ) (marks : List Bool) (o : Option Literal) → IfSome o (IsKnown count) → (option_map (renumbered_literal (new_number (replicate count true ++ marks))) o ≡ o) × IfSome o (λ l. IsKept (replicate count true ++ marks) l.variable)
guard-same count marks None k = (refl, tt)
guard-same count marks (Some l) k = (ap (λ (x : Literal). Some x) (known-same count marks l k), known-kept count marks l.variable k.0 k.1)

constraint-same : (count : ℕ) (marks : List Bool) (c : Bounded) → IsWithin count c → (renumbered_constraint (new_number (replicate count true ++ marks)) c ≡ c) × IsOver (IsKept (replicate count true ++ marks)) c
constraint-same count marks c k =
    let guard = guard-same count marks c.guard k.guard in
    let lits = lits-same count marks c.lits k.lits in
    (rw (guard.0, lits.0) refl, record { guard = guard.1; lits = lits.1 })

file-at : (vars : ℕ) (cs : List Bounded) (place : ℕ) → AllByRecursion (Fits vars) cs → IfSome (slice_get (map from_file cs) place) (λ (e : Given). IfSome e.live (IsWithin vars))
file-at vars [] place h = tt
file-at vars (c ∷ cs) zero h = h.0.within
file-at vars (c ∷ cs) (suc place) h = file-at vars cs place h.1

entry-follows : (f : Problem) (leans : List Line) (own : List Bool) (place : ℕ) (o : Option Given) → slice_get (map from_file f.constraints) place ≡ o → IfSome o (λ (e : Given). IfSome e.live (IsWithin f.vars)) → IfSome o (IsEntryAlike (kept_by f leans own) (map from_file f.constraints) place)
entry-follows f leans own place None at k = tt
entry-follows f leans own place (Some entry) at k = λ m. inner entry.live refl k
  where
    same : new_number (replicate (length f.constraints) true ++ marks_given ids_given leans own) place ≡ place
    same = let within = slice_get_within (map from_file f.constraints) place entry at in
        let count = length-map f.constraints from_file in
        first-number (length f.constraints) (marks_given ids_given leans own) place (omega (arith, within, count))

    inner : (o : Option Bounded) → entry.live ≡ o → IfSome o (IsWithin f.vars) → IfSome o (IsLiveAlike (kept_by f leans own) (map from_file f.constraints) place)
    inner None e k = tt
    inner (Some c) e k =
        let alike = constraint-same f.vars (marks_given variables_given leans own) c k in
        record {
          same = ap (λ n. live_in (slice_get (map from_file f.constraints) n)) same ∙ ap live_in at ∙ e ∙ ap (λ (x : Bounded). Some x) (sym alike.0);
          over = alike.1;
        }

pub start-follows : (f : Problem) (leans : List Line) (own : List Bool) → IsFormula f → Follows f.vars (kept_by f leans own) (start f) (start f)
start-follows f leans own h =
    let first : new_number (replicate f.vars true ++ marks_given variables_given leans own) f.vars ≡ f.vars = first-number f.vars (marks_given variables_given leans own) f.vars (omega arith) in
    let count = length-map f.constraints from_file in
    let ids : new_number (replicate (length f.constraints) true ++ marks_given ids_given leans own) (length (map from_file f.constraints)) ≡ length (map from_file f.constraints) = first-number (length f.constraints) (marks_given ids_given leans own) (length (map from_file f.constraints)) (omega (arith, count)) in
    record {
      vars = sym first;
      ids = sym ids;
      count = omega arith;
      count' = omega arith;
      first = first;
      live = λ place. entry-follows f leans own place (slice_get (map from_file f.constraints) place) refl (file-at f.vars f.constraints place h);
      defined = λ place. tt;
    }

pub start-at : (first : ℕ) (count : Line → ℕ) (leans : List Line) (own : List Bool) → IsAt (replicate first true ++ marks_given count leans own) count leans own first
start-at first count leans own = record { passed = replicate first true; whole = refl; length = length-replicate first true }

pub kept-steps : (f : Problem) (lines leans : List Line) (own : List Bool) (last : ProofState) → IsFormula f → AreMet (kept_by f leans own) leans own → Leans (start f) lines leans last → (end : ProofState) × StepsBy (start f) (kept_lines (kept_by f leans own) leans own) end
kept-steps f lines leans own last h k d =
    run-kept f.vars (kept_by f leans own) lines leans own (start f) (start f) last
    (start-at f.vars variables_given leans own)
    (subst (λ n. IsAt (replicate (length f.constraints) true ++ marks_given ids_given leans own) ids_given leans own n) (sym (length-map f.constraints from_file)) (start-at (length f.constraints) ids_given leans own))
    k d (start-follows f leans own h)

-- refuted
end-kept : (r q : ℕ → ℕ) (line : Line) → is_end (renumbered r q line) ≡ is_end line
end-kept r q (Header vars constraints) = refl
end-kept r q (Define x high low) = refl
end-kept r q (Lemma c hints) = empty-kept c.lits
  where
    empty-kept : (lits : List Literal) → is_empty (map (renumbered_literal r) lits) ≡ is_empty lits
    empty-kept [] = refl
    empty-kept (l ∷ lits) = refl
end-kept r q (Learned c hints) = empty-kept c.lits
  where
    empty-kept : (lits : List Literal) → is_empty (map (renumbered_literal r) lits) ≡ is_empty lits
    empty-kept [] = refl
    empty-kept (l ∷ lits) = refl
end-kept r q (Klause c root unit) = refl
end-kept r q (Unfold id root) = refl
end-kept r q (Delete ids) = refl

pub ends : (kept : Kept) (leans : List Line) (own : List Bool) → HasEnd leans own → list_any is_end (kept_lines kept leans own) ≡ true
ends kept [] own h = absurd h
ends kept (line ∷ leans) [] h = absurd h
ends kept (line ∷ leans) (m ∷ own) h = split m (is_end line) refl h.0 (λ e. ends kept leans own (h.1 e))
  where
    split : (m b : Bool) → is_end line ≡ b → (is_end line ≡ true → m ≡ true) → (is_end line ≡ false → list_any is_end (kept_lines kept leans own) ≡ true) → list_any is_end (cond m (renumbered (new_number kept.variables) (new_number kept.ids) line ∷ kept_lines kept leans own) (kept_lines kept leans own)) ≡ true
    split true true e f g = ap (λ b. b || list_any is_end (kept_lines kept leans own)) (end-kept (new_number kept.variables) (new_number kept.ids) line ∙ e)
    split true false e f g = ap (λ b. b || list_any is_end (kept_lines kept leans own)) (end-kept (new_number kept.variables) (new_number kept.ids) line ∙ e) ∙ g e
    split false true e f g = let wrong = f e in absurd cc
    split false false e f g = g e

pub refutes : (lines : List Line) (t end : ProofState) → StepsBy t lines end → (t.refuted || list_any is_end lines) ≡ true → end.refuted ≡ true
refutes [] t end d e = subst (λ (x : ProofState). x.refuted ≡ true) d (plain t.refuted e)
  where
    plain : (b : Bool) → (b || false) ≡ true → b ≡ true
    plain true e = refl
    plain false e = e
refutes (line ∷ lines) t end d e =
    let grows : Grows t d.0 line = step-grows t d.0 line d.1 in
    refutes lines d.0 end d.2 (ap (λ b. b || list_any is_end lines) grows.refuted ∙ or_assoc t.refuted (is_end line) (list_any is_end lines) ∙ e)
