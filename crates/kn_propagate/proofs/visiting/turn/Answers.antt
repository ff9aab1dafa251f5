use Rattle.kn_watch.specs.Trails.{literals}
use Rattle.kn_propagate.proofs.Turning.{turned_seen, kept_seen}
use Rattle.kn_propagate.proofs.visiting.turn.Goals as goal

pub returns-clause-kept : goal.returns-clause-kept
returns-clause-kept g c =
    kept_seen g.W.Watched.bounded g.W.Watched.watches c.args.trail.now.vars c.args.slots.now.items c.args.spot.owner c.index_mut.result.now c.turned_false.new.self c.requires.owner c.index_mut.ensures.value c.turned_false.ensures.same c.requires.kept c.turned_false.ensures.watches

pub returns-clause-turned : goal.returns-clause-turned
returns-clause-turned g c =
    turned_seen g.W.Watched.bounded g.W.Watched.watches (literals c.args.trail.now.made) c.args.slots.now.items c.args.spot.owner c.args.spot.place c.index_mut.result.now c.turned_false.new.self c.turned_false.result c.requires.owner c.index_mut.ensures.value c.turned_false.ensures.same c.turned_false.ensures.means
