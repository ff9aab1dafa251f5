use Rattle.std.proofs.Common.{◌∙◌, arith}
use Rattle.kn_learn.specs.Analyses.{IsNeeded, IsLower}
use Rattle.kn_learn.proofs.Lists.{at-same}
use Rattle.kn_learn.proofs.Exploring.{explores-none, explores-join}
use Rattle.kn_learn.proofs.removing.remove.Goals as goal

pub loop-i-init : goal.loop-i-init
loop-i-init g c = explores-none c.args.engine.now.trail c.args.a.now.walk

pub remove_one-requires-clause-lower : goal.remove_one-requires-clause-lower
remove_one-requires-clause-lower g c =
    at-same (IsLower c.args.engine.now.trail) c.args.a.now.walk.kept.items c.loop-i.a.walk.kept.items c.loop-i.i c.index-place.result.now c.loop-i.invariant.kept (omega (arith, c.loop-i-test.true, c.len-i-end.ensures)) c.index-place.ensures c.requires.lower

pub remove_one-requires-clause-needed : goal.remove_one-requires-clause-needed
remove_one-requires-clause-needed g c =
    c.loop-i.invariant.same c.index-place.result.now
    ∙ at-same (IsNeeded c.args.a.now.walk.marks) c.args.a.now.walk.kept.items c.loop-i.a.walk.kept.items c.loop-i.i c.index-place.result.now c.loop-i.invariant.kept (omega (arith, c.loop-i-test.true, c.len-i-end.ensures)) c.index-place.ensures c.requires.needed

pub loop-i-preserved : goal.loop-i-preserved
loop-i-preserved g c =
    explores-join c.args.engine.now.trail c.args.a.now.walk c.loop-i.a.walk c.remove_one.new.a.walk c.loop-i.invariant c.in_ok-remove_one.ensures.explores

pub returns : goal.returns
returns g c = record { explores = c.loop-i.invariant }
