use Rattle.kn_justify.proofs.GrowthLemmas.{such-grows}
use Rattle.kn_justify.proofs.NameLemmas.{has-own, is-named, arm_known}
use Rattle.kn_justify.proofs.ChainLemmas.{clause-not-false}
use Rattle.kn_justify.proofs.clauses.clause_unit.Goals as goal

pub unit_by-requires-clause-some : goal.unit_by-requires-clause-some
unit_by-requires-clause-some g c = clause-not-false c.args.d.now c.args.c.now.lits c.args.f c.depth-depth.ensures.table c.requires.filled c.requires.function

pub unit_by-requires-clause-named : goal.unit_by-requires-clause-named
unit_by-requires-clause-named g c =
    is-named c.args.log.now.state c.args.d.now c.args.named.now c.args.f (has-own c.args.log.now.state c.args.d.now c.args.named.now c.args.f c.requires.named)

pub unit_by-requires-clause-known : goal.unit_by-requires-clause-known
unit_by-requires-clause-known g c =
    arm_known c.args.log.now.state c.args.d.now c.args.named.now c.args.f (has-own c.args.log.now.state c.args.d.now c.args.named.now c.args.f c.requires.named)

pub returns-clause-grown : goal.returns-clause-grown
returns-clause-grown g c = such-grows c.args.log.now c.unit_by.new.log _ _ c.unit_by.result c.unit_by.ensures.lines
