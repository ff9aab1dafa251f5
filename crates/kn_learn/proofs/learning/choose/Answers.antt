use Rattle.std.proofs.Common.{◌≡◌, ◌<◌, ◌++◌, ◌∷◌, [], ℕ, List, length, take, get_or, sym, ap, subst, ◌∙◌}
use Rattle.std.proofs.lemmas.List.{take_more}
use Rattle.kn_learn.specs.Marking.{mark_at, is_seen}
use Rattle.kn_learn.specs.Analyses.{rest_of}
use Rattle.kn_learn.proofs.Lists.{filter-last}
use Rattle.kn_learn.proofs.learning.choose.Goals as goal

pub loop-place-preserved : goal.loop-place-preserved
loop-place-preserved c =
    let marks = c.args.walk.now.marks in
    let kept : List ℕ = c.args.walk.now.kept.items in
    let k : ℕ = c.loop-place.place-index in
    let read : c.deref-place-items.result.now ≡ kept = c.deref-place-items.ensures.value in
    let less : k < length kept = subst (λ (ps : List ℕ). k < length ps) read c.loop-place-test.true in
    c.in_ok-choose_one.ensures
    ∙ ap (λ (ps : List ℕ). c.loop-place.rest.items ++ rest_of marks (get_or ps k 0 ∷ [])) read
    ∙ ap (λ (ps : List ℕ). ps ++ rest_of marks (get_or kept k 0 ∷ [])) c.loop-place.invariant
    ∙ sym (filter-last (λ p. is_seen (mark_at marks p)) (take k kept) (get_or kept k 0))
    ∙ ap (λ (ps : List ℕ). rest_of marks ps) (sym (take_more kept k 0 less))
