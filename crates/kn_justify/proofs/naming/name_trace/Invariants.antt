use Rattle.std.proofs.Common.{◌≤◌, take}
use Rattle.kn_log.specs.Written.{AddsSuch}
use Rattle.kn_justify.specs.Growth.{ArePlain}
use Rattle.kn_justify.specs.Names.{AreRight, AreKept}
use Rattle.kn_justify.specs.Taken.{AreAllNamed}
use Rattle.kn_justify.proofs.naming.name_trace.Given as goal

abbrev pub invariant-loop-m : goal.invariant-loop-m
invariant-loop-m g l = record {
  lines : AddsSuch ArePlain l.fn.log l.log (g.S.Sink.written l.fn.sink) (g.S.Sink.written l.sink);
  right : AreRight l.log.state l.d l.named;
  kept : AreKept l.fn.named l.named;
  all : AreAllNamed l.named (take l.m-index l.trace);
  later : g.S.Sink.faults l.fn.sink ≤ g.S.Sink.faults l.sink;
}
