use Rattle.std.proofs.Common.{sym}
use Rattle.std.proofs.lemmas.Bool.{eqb-false}
use Rattle.kn_diagram.proofs.NodeLemmas.{MakesFrom, makes-from}
use Rattle.kn_diagram.proofs.diagrams.Diagrams.make_at.Goals as goal

made : (c : goal.After-new) → MakesFrom c.args.self.now (record { order = c.self.inside.order.items; rows = c.place_of.new.self }) c.args.depth c.args.high c.args.low c.new.result
made c =
    makes-from c.self.inside.order.items c.self.inside.rows c.place_of.new.self c.args.self.now c.args.depth c.args.high c.args.low
    c.number.result c.number-2.result c.new.result c.in_ok-place.place c.self.view_is c.self.invariant
    c.in_ok-place.ensures.ok c.number.ensures c.number-2.ensures c.new.ensures
    (eqb-false c.args.high c.args.low (sym c.if-eq.ensures)) c.requires.high_there c.requires.low_there c.requires.within c.requires.above_high c.requires.above_low

pub invariant_of-self-2 : goal.invariant_of-self-2
invariant_of-self-2 c = (made c).table

pub returns-clause-kept : goal.returns-clause-kept
returns-clause-kept c = (made c).kept

pub returns-clause-made : goal.returns-clause-made
returns-clause-made c = (made c).made
