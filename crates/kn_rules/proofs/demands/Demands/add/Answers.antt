use Rattle.std.proofs.Common.{◌≡◌, ◌++◌, ◌∷◌, [], None, rules}
use Rattle.std.specs.Ordering.{nat_cmp}
use Rattle.std.specs.BTreeMap.{get}
use Rattle.kn_rules.proofs.DemandLemmas.{index-push}
use Rattle.kn_rules.proofs.demands.Demands.add.Goals as goal

pub invariant_of-self-2 : goal.invariant_of-self-2
invariant_of-self-2 c =
    let none : get nat_cmp c.self.inside.counts c.args.variable ≡ None = search rules in
    let items : c.push.new.self.items ≡ c.self.inside.list.items ++ (c.args.variable, c.args.count) ∷ [] = search rules in
    rw items (index-push c.self.inside.list.items c.self.inside.counts c.insert.new.self c.args.variable c.args.count c.self.invariant none c.in_ok-insert.ensures.updates.0)
