use Rattle.std.proofs.Common.{◌≡◌, ◌≤◌}
use Rattle.std.specs.Prelude.{filter}
use Rattle.std.specs.List.{range_with_len}
use Rattle.std.specs.Option.{is_some}
use Rattle.kn_rules.specs.States.{live_at}
use Rattle.kn_opening.proofs.opening.left.Given as goal

abbrev pub invariant-loop-place : goal.invariant-loop-place
invariant-loop-place l = l.ids.items ≡ filter (λ id. is_some (live_at l.log.state.given id)) (range_with_len 1 l.place)
