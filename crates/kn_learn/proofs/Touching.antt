-- Marks that are set and taken back.
use Rattle.std.proofs.Common.{◌≡◌, ◌≢◌, ℕ, ◌≤◌, ◌<◌, ◌++◌, true, cond, eqb, List, [], ◌∷◌, length, refl, sym, ◌∙◌, subst, inl, inr, arith}
use Rattle.std.specs.Prelude.{slice_set}
use Rattle.std.proofs.lemmas.Bool.{eq-eqb, ne_eqb, cases_eq, cond-true, cond-false}
use Rattle.std.proofs.lemmas.List.{get_or-set_same, get_or-set_other}
use Rattle.std.proofs.Math.ListN.{length-set}
use Rattle.kn_learn.specs.declared.marks.Mark.{Mark}
use Rattle.kn_learn.specs.declared.marks.Mark.TheVariants.{Unseen}
use Rattle.kn_learn.specs.Reasons.{contains}
use Rattle.kn_learn.specs.Marking.{mark_at, IsMarked, AreTouched}
use Rattle.kn_learn.proofs.Lists.{contains-push, contains-last, all-more}
use Rattle.kn_logic.proofs.Public.{All-push}

-- what was set is read
pub marked-set : (marks : List Mark) (place : ℕ) (mark : Mark) → place < length marks → IsMarked marks place mark (slice_set marks place mark)
marked-set marks place mark less q = elim (cases_eq q place) [
  | inl e ↦ subst (λ (n : ℕ). mark_at (slice_set marks place mark) n ≡ cond (eqb n place) mark (mark_at marks n)) (sym e)
      (get_or-set_same marks place mark Unseen less ∙ sym (cond-true (eqb place place) mark (mark_at marks place) (eq-eqb place place refl)))
  | inr d ↦ get_or-set_other marks place q mark Unseen d ∙ sym (cond-false (eqb q place) mark (mark_at marks q) (ne_eqb q place d))
]

pub marked-here : (old : List Mark) (place : ℕ) (mark : Mark) (new : List Mark) → IsMarked old place mark new → mark_at new place ≡ mark
marked-here old place mark new h = h place ∙ cond-true (eqb place place) mark (mark_at old place) (eq-eqb place place refl)

pub marked-other : (old : List Mark) (place : ℕ) (mark : Mark) (new : List Mark) (q : ℕ) → IsMarked old place mark new → q ≢ place → mark_at new q ≡ mark_at old q
marked-other old place mark new q h d = h q ∙ cond-false (eqb q place) mark (mark_at old q) (ne_eqb q place d)

-- what was set is touched
pub touched-set : (touched : List ℕ) (marks : List Mark) (place : ℕ) (mark : Mark) → place < length marks → AreTouched touched marks → AreTouched (touched ++ place ∷ []) (slice_set marks place mark)
touched-set touched marks place mark less h = record {
  within = All-push (λ p. p < length (slice_set marks place mark)) touched place
      (all-more (λ p. p < length marks) (λ p. p < length (slice_set marks place mark)) touched (λ q k. omega (arith, k, length-set marks place mark)) h.within)
      (omega (arith, less, length-set marks place mark));
  each = λ q. elim (cases_eq q place) [
    | inl e ↦ inr (subst (λ (n : ℕ). contains (touched ++ place ∷ []) n ≡ true) (sym e) (contains-last touched place))
    | inr d ↦ elim (h.each q) [
      | inl u ↦ inl (get_or-set_other marks place q mark Unseen d ∙ u)
      | inr t ↦ inr (contains-push touched place q t)
    ]
  ];
}

-- a longer list of marks
pub touched-longer : (touched : List ℕ) (old new : List Mark) → length old ≤ length new → ((q : ℕ) → mark_at new q ≡ mark_at old q) → AreTouched touched old → AreTouched touched new
touched-longer touched old new le same h = record {
  within = all-more (λ p. p < length old) (λ p. p < length new) touched (λ q k. omega (arith, k, le)) h.within;
  each = λ q. elim (h.each q) [ inl u ↦ inl (same q ∙ u) | inr t ↦ inr t ];
}
