use Rattle.std.proofs.Common.{◌≡◌, drop}
use Rattle.std.specs.Option.{is_some}
use Rattle.kn_rules.specs.Steps.{hinted}
use Rattle.kn_rules.proofs.ids.are_live.Given as goal

abbrev pub invariant-loop-id : goal.invariant-loop-id
invariant-loop-id l = is_some (hinted l.entries.given (drop l.id-index l.ids)) ≡ is_some (hinted l.entries.given l.ids)
