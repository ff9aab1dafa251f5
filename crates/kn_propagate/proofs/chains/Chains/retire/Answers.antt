use Rattle.std.proofs.Common.{ap}
use Rattle.kn_propagate.specs.Chains.{Chained}
use Rattle.kn_propagate.proofs.Entries.{next_set, spot_set}
use Rattle.kn_propagate.proofs.Relinking.{a_spot}
use Rattle.kn_propagate.specs.Chains.{nobody}
use Rattle.kn_propagate.proofs.chains.Chains.retire.Goals as goal

pub returns-clause-nexts : goal.returns-clause-nexts
returns-clause-nexts c = next_set c.self.inside.entries.items c.args.entry (record { spot = a_spot nobody 0; next = c.self.inside.spare }) c.args.self.now.nexts _ (ap (λ (x : Chained). x.nexts) c.self.view_is) (ap (λ (x : Chained). x.spare) c.self.view_is)

pub returns-clause-spots : goal.returns-clause-spots
returns-clause-spots c = spot_set c.self.inside.entries.items c.args.entry (record { spot = a_spot nobody 0; next = c.self.inside.spare }) c.args.self.now.spots (ap (λ (x : Chained). x.spots) c.self.view_is)
