use Rattle.std.proofs.Common.{subst}
use Rattle.kn_propagate.specs.Engines.{IsEngine}
use Rattle.kn_propagate.proofs.Handing.{engine_is}
use Rattle.kn_propagate.proofs.engine.Engine.vars.Goals as goal

pub returns-clause-kept : goal.returns-clause-kept
returns-clause-kept g c = subst IsEngine c.self.view_is (engine_is c.self.inside.trail _ c.self.inside.chains c.self.inside.visited c.self.inside.last c.self.inside.pending.items _ c.self.invariant)
