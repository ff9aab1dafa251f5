use Rattle.std.proofs.Common.{◌++◌, ◌∷◌, [], ℕ, List, take, get_or, sym, ap, ◌∙◌}
use Rattle.std.proofs.lemmas.List.{take_more}
use Rattle.kn_logic.specs.Literals.{Literal, negated}
use Rattle.kn_learn.specs.Reasons.{negations_at}
use Rattle.kn_learn.specs.Analyses.{IsLower}
use Rattle.kn_learn.proofs.Lists.{all-at}
use Rattle.kn_learn.proofs.Places.{at-length}
use Rattle.kn_learn.proofs.Taught.{negations-last}
use Rattle.kn_learn.proofs.learning.negations.Goals as goal

pub lit_at-requires-in-loop-place : goal.lit_at-requires-in-loop-place
lit_at-requires-in-loop-place c =
    let rest : List ℕ = c.args.rest.now in
    let k : ℕ = c.loop-place.place-index in
    let (m, at, less) = all-at (IsLower c.args.trail.now) rest k 0 c.requires.rest c.loop-place-test.true in
    at-length c.args.trail.now.made (get_or rest k 0) m at

pub loop-place-preserved : goal.loop-place-preserved
loop-place-preserved c =
    let made = c.args.trail.now.made in
    let rest : List ℕ = c.args.rest.now in
    let k : ℕ = c.loop-place.place-index in
    let (m, at, less) = all-at (IsLower c.args.trail.now) rest k 0 c.requires.rest c.loop-place-test.true in
    c.in_ok-push-2.ensures.items
    ∙ ap (λ (ls : List Literal). ls ++ c.negated-in-loop-place.result ∷ []) c.loop-place.invariant
    ∙ negations-last made (c.args.lowest ∷ take k rest) (get_or rest k 0) m c.negated-in-loop-place.result at
    (c.negated-in-loop-place.ensures ∙ ap negated (c.lit_at-in-loop-place.ensures m at))
    ∙ ap (λ (ps : List ℕ). negations_at made (c.args.lowest ∷ ps)) (sym (take_more rest k 0 c.loop-place-test.true))
