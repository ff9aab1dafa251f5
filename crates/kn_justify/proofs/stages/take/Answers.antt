use Rattle.std.proofs.Common.{◌≤◌, arith}
use Rattle.kn_justify.proofs.GrowthLemmas.{grown-live, plain-behind}
use Rattle.kn_justify.proofs.NameLemmas.{has-names, are-right-grow}
use Rattle.kn_justify.proofs.KnownLemmas.{order-reached}
use Rattle.kn_justify.proofs.stages.take.Goals as goal

pub name_nodes-requires-clause-known : goal.name_nodes-requires-clause-known
name_nodes-requires-clause-known g c =
    order-reached c.args.log.now.state.vars c.args.log.now.state.vars c.args.d.now c.args.node c.depth-depth.ensures.table c.requires.there c.requires.known (omega arith)

pub clause_unit-requires-clause-live : goal.clause_unit-requires-clause-live
clause_unit-requires-clause-live g c = grown-live c.args.log.now.state c.name_nodes.new.log.state c.args.id c.args.c.now c.name_nodes.ensures.grown c.requires.live

pub clause_unit-requires-clause-named : goal.clause_unit-requires-clause-named
clause_unit-requires-clause-named g c =
    has-names c.name_nodes.new.log.state c.args.d.now c.name_nodes.new.named c.args.node c.depth-depth.ensures.table c.requires.there c.name_nodes.ensures.right c.in_ok-name_nodes.ensures.named

pub returns-clause-right : goal.returns-clause-right
returns-clause-right g c = are-right-grow c.name_nodes.new.log.state c.clause_unit.new.log.state c.args.d.now c.name_nodes.new.named c.clause_unit.ensures.grown c.name_nodes.ensures.right

pub returns-clause-lines : goal.returns-clause-lines
returns-clause-lines g c = plain-behind c.args.log.now c.name_nodes.new.log c.clause_unit.new.log _ _ _ c.clause_unit.result c.in_ok-name_nodes.ensures.lines c.clause_unit.ensures.lines
