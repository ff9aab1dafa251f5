use Rattle.std.proofs.Common.{sym, ◌∙◌, arith}
use Rattle.kn_search.proofs.Loaded.{next-unused, next-loaded}
use Rattle.kn_search.proofs.loading.engine_of.Goals as goal

pub load-requires-clause-fresh : goal.load-requires-clause-fresh
load-requires-clause-fresh c = next-unused c.loop-place.engine.live c.args.f.now.constraints c.loop-place.place (omega (arith, c.loop-place-test.true, c.len-place-end.ensures.count)) c.loop-place.invariant.mirrors

pub loop-place-preserved : goal.loop-place-preserved
loop-place-preserved c = record {
  trail = c.in_ok-load.ensures.trail ∙ c.loop-place.invariant.trail;
  mirrors = next-loaded c.loop-place.engine.live c.load.new.engine.live c.args.f.now.constraints c.loop-place.place c.in-Some.c.now (omega (arith, c.loop-place-test.true, c.len-place-end.ensures.count)) (sym c.in-Some.ensures.value) c.loop-place.invariant.mirrors c.in_ok-load.ensures.live;
}
