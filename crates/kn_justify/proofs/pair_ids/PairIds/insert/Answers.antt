use Rattle.kn_justify.proofs.PairIdLemmas.{insert-right, insert-kept}
use Rattle.kn_justify.proofs.pair_ids.PairIds.insert.Goals as goal

pub returns-clause-right : goal.returns-clause-right
returns-clause-right c =
    insert-right c.args.self.now c.self.inside.ids.entries c.insert.new.self.entries c.args.u c.args.v c.args.id c.get.result c.is_some.result c.self.view_is c.get.ensures c.is_some.ensures c.if-is_some.false c.in_ok-insert.ensures.entries

pub returns-clause-kept : goal.returns-clause-kept
returns-clause-kept c =
    insert-kept c.args.self.now c.self.inside.ids.entries c.insert.new.self.entries c.args.u c.args.v c.args.id c.get.result c.is_some.result c.self.view_is c.get.ensures c.is_some.ensures c.if-is_some.false c.in_ok-insert.ensures.entries
