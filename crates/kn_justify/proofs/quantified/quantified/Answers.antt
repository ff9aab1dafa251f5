use Rattle.kn_justify.specs.declared.side.Side.TheVariants.{Left}
use Rattle.kn_justify.specs.Growth.{ArePlain, Grown}
use Rattle.kn_justify.proofs.GrowthLemmas.{Grown-join, such-grows, plain-join, plain-behind, plain-behind-not}
use Rattle.kn_justify.proofs.SettleLemmas.{error-ends}
use Rattle.kn_justify.proofs.TraceLemmas.{named-grow, joined-grow}
use Rattle.kn_justify.proofs.ReducedLemmas.{has-parts}
use Rattle.kn_justify.proofs.quantified.quantified.Goals as goal

pub joins-requires-2-clause-named : goal.joins-requires-2-clause-named
joins-requires-2-clause-named g c =
    named-grow c.args.log.now.state c.joins.new.log.state c.args.d.now c.args.named.now c.args.halves.now (such-grows c.args.log.now c.joins.new.log _ _ c.joins.result c.joins.ensures.lines) c.requires.halves_named

pub returns-in_err-joins-2-clause-lines : goal.returns-in_err-joins-2-clause-lines
returns-in_err-joins-2-clause-lines g c =
    error-ends ArePlain c.args.log.now c.joins-2.new.log _ _ c.from_residual-in_err-joins-2.result c.in_err-joins-2.field-0.0 c.from_residual-in_err-joins-2.ensures.1
    (plain-behind-not c.args.log.now c.joins.new.log c.joins-2.new.log _ _ _ c.in_err-joins-2.field-0.0 c.in_ok-joins.ensures.lines c.in_err-joins-2.ensures.lines)

pub entries-requires-clause-named : goal.entries-requires-clause-named
entries-requires-clause-named g c =
    let first : Grown c.args.log.now.state c.joins.new.log.state = such-grows c.args.log.now c.joins.new.log _ _ c.joins.result c.joins.ensures.lines in
    let second : Grown c.joins.new.log.state c.joins-2.new.log.state = such-grows c.joins.new.log c.joins-2.new.log _ _ c.joins-2.result c.joins-2.ensures.lines in
    named-grow c.args.log.now.state c.joins-2.new.log.state c.args.d.now c.args.named.now c.args.met.now (Grown-join c.args.log.now.state c.joins.new.log.state c.joins-2.new.log.state first second) c.requires.named

pub entries-requires-clause-left : goal.entries-requires-clause-left
entries-requires-clause-left g c =
    joined-grow c.joins.new.log.state c.joins-2.new.log.state c.args.d.now c.args.named.now Left c.in_ok-joins.field-0 (such-grows c.joins.new.log c.joins-2.new.log _ _ c.joins-2.result c.joins-2.ensures.lines) c.in_ok-joins.ensures.joined

pub entries-requires-clause-parts : goal.entries-requires-clause-parts
entries-requires-clause-parts g c =
    has-parts c.args.d.now c.args.var c.args.halves.now c.args.met.now c.in_ok-joins.field-0 c.in_ok-joins-2.field-0 c.requires.explained c.requires.accounted c.in_ok-joins.ensures.covered c.in_ok-joins-2.ensures.covered

pub returns-clause-lines : goal.returns-clause-lines
returns-clause-lines g c =
    plain-behind c.args.log.now c.joins-2.new.log c.entries.new.log _ _ _ c.entries.result
    (plain-join c.args.log.now c.joins.new.log c.joins-2.new.log _ _ _ c.in_ok-joins.ensures.lines c.in_ok-joins-2.ensures.lines) c.entries.ensures.lines
