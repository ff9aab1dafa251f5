use Rattle.std.proofs.Common.{◌≤◌, take}
use Rattle.kn_log.specs.Written.{AddsSuch}
use Rattle.kn_justify.specs.Growth.{ArePlain}
use Rattle.kn_justify.specs.Lemmas.{AreJoined, AreCovered}
use Rattle.kn_justify.proofs.joins.joins.Given as goal

abbrev pub invariant-loop-m : goal.invariant-loop-m
invariant-loop-m g l = record {
  lines : AddsSuch ArePlain l.fn.log l.log (g.S.Sink.written l.fn.sink) (g.S.Sink.written l.sink);
  joined : AreJoined l.log.state.given l.d l.named l.side l.lemmas;
  covered : AreCovered l.lemmas (take l.m-index l.trace);
  later : g.S.Sink.faults l.fn.sink ≤ g.S.Sink.faults l.sink;
}
