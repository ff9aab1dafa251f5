use Rattle.std.proofs.Common.{◌≤◌, take}
use Rattle.kn_log.specs.Written.{AddsSuch}
use Rattle.kn_justify.specs.declared.side.Side.TheVariants.{Left, Right}
use Rattle.kn_justify.specs.Growth.{ArePlain}
use Rattle.kn_justify.specs.Lemmas.{AreJoined, AreReduced, AreCovered}
use Rattle.kn_justify.proofs.quantified.entries.Given as goal

abbrev pub invariant-loop-m : goal.invariant-loop-m
invariant-loop-m g l = record {
  lines : AddsSuch ArePlain l.fn.log l.log (g.S.Sink.written l.fn.sink) (g.S.Sink.written l.sink);
  left : AreJoined l.log.state.given l.d l.named Left l.basis.left;
  right : AreJoined l.log.state.given l.d l.named Right l.basis.right;
  reduced : AreReduced l.log.state.given l.d l.named l.basis.var l.lemmas;
  covered : AreCovered l.lemmas (take l.m-index l.met);
  later : g.S.Sink.faults l.fn.sink ≤ g.S.Sink.faults l.sink;
}
