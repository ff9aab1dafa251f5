use Rattle.std.proofs.Common.{◌≤◌}
use Rattle.kn_opening.specs.Entries.{IsPartway}
use Rattle.kn_opening.proofs.opening.open.Given as goal

abbrev pub invariant-loop-taken : goal.invariant-loop-taken
invariant-loop-taken g l =
    IsPartway l.e l.fn.log l.log (g.S.Sink.written l.fn.sink) (g.S.Sink.written l.sink) l.taken-index l.klauses.items × (g.S.Sink.faults l.fn.sink ≤ g.S.Sink.faults l.sink)
