use Rattle.std.proofs.Common.{refl, ◌∙◌, ◌+◌}
use Rattle.kn_rules.specs.States.{live_at}
use Rattle.std.specs.Option.{is_some}
use Rattle.kn_opening.proofs.JustifyLemmas.{filter-more}
use Rattle.kn_opening.proofs.opening.left.Goals as goal

pub loop-place-preserved : goal.loop-place-preserved
loop-place-preserved c = c.in_ok-keep_live.ensures ∙ filter-more (λ id. is_some (live_at c.args.log.now.state.given id)) c.loop-place.ids.items c.loop-place.place (c.loop-place.place + 1) c.loop-place.invariant refl
