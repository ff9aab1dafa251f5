use Rattle.std.proofs.Common.{◌≡◌, ◌<◌, ◌+◌, ◌++◌, ◌∷◌, ℕ, List, get_or, length, map, drop, ap, sym, ◌∙◌}
use Rattle.std.proofs.lemmas.List.{drop_more}
use Rattle.kn_learn.specs.Reasons.{reason_at, without_repeats}
use Rattle.kn_learn.proofs.Lists.{all-at}
use Rattle.kn_learn.proofs.Places.{there-is, reason-of}
use Rattle.kn_learn.proofs.learning.hints.Goals as goal

pub loop-place-preserved : goal.loop-place-preserved
loop-place-preserved c =
    let made = c.args.trail.now.made in
    let places : List ℕ = c.args.places.now in
    let k : ℕ = c.loop-place.place-index in
    let less = c.loop-place-test.true in
    let (m, at) = there-is made (get_or places k 0) (all-at (λ p. p < length made) places k 0 c.requires less) in
    let id : c.unwrap_or-id.result ≡ reason_at made (get_or places k 0) = c.unwrap_or-id.ensures ∙ reason-of made (get_or places k 0) m c.reason_at.result at (c.reason_at.ensures m at) in
    c.in_ok-add.ensures (map (reason_at made) (drop (k + 1) places))
    ∙ ap (λ (n : ℕ). c.loop-place.ids.items ++ without_repeats c.loop-place.last (n ∷ map (reason_at made) (drop (k + 1) places))) id
    ∙ sym (ap (λ (ps : List ℕ). c.loop-place.ids.items ++ without_repeats c.loop-place.last (map (reason_at made) ps)) (drop_more places k 0 less))
    ∙ c.loop-place.invariant
