use Rattle.std.proofs.Common.{◌≡◌, ◌≤◌, ◌-◌}
use Rattle.kn_search.specs.Mirrors.{Mirrors}
use Rattle.kn_search.specs.Searches.{LogsPart, AreHeld, AreKept}
use Rattle.kn_search.proofs.searching.search.Given as goal

abbrev pub invariant-loop-conflict : goal.invariant-loop-conflict
invariant-loop-conflict g l = record {
  logs : LogsPart l.fn.engine.trail.vars l.options.forget 0 l.learned l.held.deletions l.fn.log l.log (g.S.Sink.written l.fn.sink) (g.S.Sink.written l.sink);
  vars : l.engine.trail.vars ≡ l.fn.engine.trail.vars;
  mirrors : Mirrors l.engine.live l.log.state.given;
  held : AreHeld l.log.state.given l.held.ids.items;
  kept : AreKept l.fn.engine.live l.engine.live l.held.ids.items;
  within : l.learned ≤ l.options.conflicts;
  later : g.S.Sink.faults l.fn.sink ≤ g.S.Sink.faults l.sink;
}

abbrev pub decreases-loop-conflict : goal.decreases-loop-conflict
decreases-loop-conflict g l = l.options.conflicts - l.learned
