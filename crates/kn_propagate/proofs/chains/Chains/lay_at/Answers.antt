use Rattle.std.proofs.Common.{◌≡◌, ap, arith}
use Rattle.std.specs.Prelude.{slice_index_or}
use Rattle.std.proofs.lemmas.Grind.{common_steps}
use Rattle.kn_propagate.specs.Chains.{Chained}
use Rattle.kn_propagate.proofs.Entries.{next_set, spot_set}
use Rattle.kn_propagate.proofs.chains.Chains.lay_at.Goals as goal

pub returns-clause-nexts : goal.returns-clause-nexts
returns-clause-nexts c =
    let heads : c.self.inside.heads.items ≡ c.args.self.now.heads = ap (λ (x : Chained). x.heads) c.self.view_is in
    let read : c.index-next.result.now ≡ slice_index_or c.args.self.now.heads c.args.chain 0 = grind (arith, common_steps) in
    next_set c.self.inside.entries.items c.args.entry (record { spot = c.args.spot; next = c.index-next.result.now }) c.args.self.now.nexts _ (ap (λ (x : Chained). x.nexts) c.self.view_is) read

pub returns-clause-spots : goal.returns-clause-spots
returns-clause-spots c =
    spot_set c.self.inside.entries.items c.args.entry (record { spot = c.args.spot; next = c.index-next.result.now }) c.args.self.now.spots (ap (λ (x : Chained). x.spots) c.self.view_is)
