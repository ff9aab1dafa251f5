use Rattle.std.proofs.Common.{subst}
use Rattle.kn_store.specs.Stores.{IsStored}
use Rattle.kn_store.proofs.Keeps.{stored-from}
use Rattle.kn_store.proofs.store.Store.live.Goals as goal

pub returns-clause-stored : goal.returns-clause-stored
returns-clause-stored c = subst IsStored c.self.view_is (stored-from c.self.inside.vars c.self.inside.live c.self.inside.slots.items c.self.inside.lists.items c.self.invariant)
