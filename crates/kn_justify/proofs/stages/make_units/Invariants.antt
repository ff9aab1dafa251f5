use Rattle.std.proofs.Common.{◌≤◌, take}
use Rattle.kn_log.specs.Written.{AddsSuch}
use Rattle.kn_justify.specs.Growth.{ArePlain}
use Rattle.kn_justify.specs.Names.{AreRight}
use Rattle.kn_justify.specs.Taken.{AreUnits, AreMade}
use Rattle.kn_justify.proofs.stages.make_units.Given as goal

abbrev pub invariant-loop-stage : goal.invariant-loop-stage
invariant-loop-stage g l = record {
  lines : AddsSuch ArePlain l.fn.log l.log (g.S.Sink.written l.fn.sink) (g.S.Sink.written l.sink);
  right : AreRight l.log.state l.d l.named;
  units : AreUnits l.log.state.given l.named l.units;
  made : AreMade l.units (take l.stage-index l.stages);
  later : g.S.Sink.faults l.fn.sink ≤ g.S.Sink.faults l.sink;
}
