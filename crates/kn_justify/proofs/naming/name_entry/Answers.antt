use Rattle.std.proofs.Common.{◌≤◌, arith}
use Rattle.kn_justify.specs.Growth.{ArePlain}
use Rattle.kn_justify.proofs.GrowthLemmas.{plain-join, plain-behind, plain-behind-not}
use Rattle.kn_justify.proofs.SettleLemmas.{error-ends}
use Rattle.kn_justify.proofs.KeptLemmas.{named-stays}
use Rattle.kn_justify.specs.Names.{IsNamed}
use Rattle.kn_justify.proofs.KnownLemmas.{order-reached, ThreeNamed, on-ok}
use Rattle.kn_justify.proofs.naming.name_entry.Goals as goal

pub name_nodes-requires-clause-known : goal.name_nodes-requires-clause-known
name_nodes-requires-clause-known g c =
    order-reached c.args.log.now.state.vars c.args.log.now.state.vars c.args.d.now c.args.m.now.u c.depth-depth.ensures.table c.requires.there.0 c.requires.known (omega arith)

pub name_nodes-requires-2-clause-known : goal.name_nodes-requires-2-clause-known
name_nodes-requires-2-clause-known g c =
    order-reached c.args.log.now.state.vars c.name_nodes.new.log.state.vars c.args.d.now c.args.m.now.v c.depth-depth.ensures.table c.requires.there.1 c.requires.known c.name_nodes.ensures.grown.vars

pub returns-in_err-name_nodes-2-clause-kept : goal.returns-in_err-name_nodes-2-clause-kept
returns-in_err-name_nodes-2-clause-kept g c = λ x n e. c.name_nodes-2.ensures.kept x n (c.name_nodes.ensures.kept x n e)

pub returns-in_err-name_nodes-2-clause-lines : goal.returns-in_err-name_nodes-2-clause-lines
returns-in_err-name_nodes-2-clause-lines g c =
    error-ends ArePlain c.args.log.now c.name_nodes-2.new.log _ _ c.from_residual-in_err-name_nodes-2.result c.in_err-name_nodes-2.field-0.0 c.from_residual-in_err-name_nodes-2.ensures.1
    (plain-behind-not c.args.log.now c.name_nodes.new.log c.name_nodes-2.new.log _ _ _ c.in_err-name_nodes-2.field-0.0 c.in_ok-name_nodes.ensures.lines c.in_err-name_nodes-2.ensures.lines)

pub name_nodes-requires-3-clause-known : goal.name_nodes-requires-3-clause-known
name_nodes-requires-3-clause-known g c =
    order-reached c.args.log.now.state.vars c.name_nodes-2.new.log.state.vars c.args.d.now c.args.m.now.w c.depth-depth.ensures.table c.requires.there.2 c.requires.known (omega (arith, c.name_nodes.ensures.grown.vars, c.name_nodes-2.ensures.grown.vars))

pub returns-clause-kept : goal.returns-clause-kept
returns-clause-kept g c = λ x n e. c.name_nodes-3.ensures.kept x n (c.name_nodes-2.ensures.kept x n (c.name_nodes.ensures.kept x n e))

pub returns-clause-lines : goal.returns-clause-lines
returns-clause-lines g c =
    plain-behind c.args.log.now c.name_nodes-2.new.log c.name_nodes-3.new.log _ _ _ c.name_nodes-3.result
    (plain-join c.args.log.now c.name_nodes.new.log c.name_nodes-2.new.log _ _ _ c.in_ok-name_nodes.ensures.lines c.in_ok-name_nodes-2.ensures.lines) c.name_nodes-3.ensures.lines

pub returns-clause-named : goal.returns-clause-named
returns-clause-named g c =
    on-ok c.name_nodes-3.result (IsNamed c.name_nodes-3.new.named c.args.m.now.w) (ThreeNamed c.name_nodes-3.new.named c.args.m.now) c.name_nodes-3.ensures.named
    (λ w. (
      named-stays c.name_nodes-2.new.named c.name_nodes-3.new.named c.args.m.now.u c.name_nodes-3.ensures.kept (named-stays c.name_nodes.new.named c.name_nodes-2.new.named c.args.m.now.u c.name_nodes-2.ensures.kept c.in_ok-name_nodes.ensures.named),
      named-stays c.name_nodes-2.new.named c.name_nodes-3.new.named c.args.m.now.v c.name_nodes-3.ensures.kept c.in_ok-name_nodes-2.ensures.named,
      w,
    ))
