use Rattle.kn_rules.proofs.Ready.{deleted-ready}
use Rattle.kn_rules.proofs.machine.Machine.discard.Goals as goal

pub invariant_of-self : goal.invariant_of-self
invariant_of-self c = deleted-ready _ c.args.ids.now c.self.inside.entries c.discard.new.self _ c.self.invariant c.discard.ensures.given c.discard.ensures.defined
