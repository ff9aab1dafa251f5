use Rattle.std.proofs.Common.{◌≡◌, ◌≤◌, None, sym, ◌∙◌, arith, rules}
use Rattle.std.proofs.lemmas.Bool.{ltb-false}
use Rattle.kn_justify.specs.Growth.{ArePlain}
use Rattle.kn_justify.specs.Names.{name_of, AreReachedKnown}
use Rattle.kn_justify.proofs.GrowthLemmas.{Grown-join, such-grows, plain-behind, plain-behind-not, plain-join}
use Rattle.kn_justify.proofs.SettleLemmas.{error-ends}
use Rattle.kn_justify.proofs.ReachLemmas.{reaches-own}
use Rattle.kn_justify.proofs.KeptLemmas.{known-high, known-low, reached-high, reached-join, reached-more, still-absent}
use Rattle.kn_justify.proofs.LookupLemmas.{none-found}
use Rattle.kn_justify.proofs.naming.+name_nodes.Goals as goal

pub name_nodes-requires : goal.name_nodes-requires
name_nodes-requires g t c =
    let b = c.in-Some.ensures.branch in
    let two : 2 ≤ c.args.f = ltb-false _ _ (sym c.in-Some.ensures.constant) in
    let known : AreReachedKnown c.args.log.now.state.vars c.args.d.now c.in-Some.parts.1 =
    known-high c.args.log.now.state.vars c.args.log.now.state.vars c.args.d.now c.args.f c.in-Some.parts.1 c.depth-depth.ensures.table c.requires.there two b.high_is (omega arith) c.requires.known in
    search rules

pub returns-in_err-name_nodes-clause-reached : goal.returns-in_err-name_nodes-clause-reached
returns-in_err-name_nodes-clause-reached g t c =
    reached-high c.args.d.now c.args.f c.in-Some.parts.1 c.args.named.now c.name_nodes.new.named c.depth-depth.ensures.table c.requires.there (ltb-false _ _ (sym c.in-Some.ensures.constant)) c.in-Some.ensures.branch.high_is c.name_nodes.ensures.reached

pub name_nodes-requires-2 : goal.name_nodes-requires-2
name_nodes-requires-2 g t c =
    let b = c.in-Some.ensures.branch in
    let two : 2 ≤ c.args.f = ltb-false _ _ (sym c.in-Some.ensures.constant) in
    let known : AreReachedKnown c.name_nodes.new.log.state.vars c.args.d.now c.in-Some.parts.2 =
    known-low c.args.log.now.state.vars c.name_nodes.new.log.state.vars c.args.d.now c.args.f c.in-Some.parts.2 c.depth-depth.ensures.table c.requires.there two b.low_is c.name_nodes.ensures.grown.vars c.requires.known in
    search rules

pub returns-in_err-name_nodes-2-clause-reached : goal.returns-in_err-name_nodes-2-clause-reached
returns-in_err-name_nodes-2-clause-reached g t c =
    let two : 2 ≤ c.args.f = ltb-false _ _ (sym c.in-Some.ensures.constant) in
    reached-join c.args.d.now c.args.f c.in-Some.parts.2 c.args.named.now c.name_nodes.new.named c.name_nodes-2.new.named c.depth-depth.ensures.table c.requires.there two c.in-Some.ensures.branch.low_is
    (reached-high c.args.d.now c.args.f c.in-Some.parts.1 c.args.named.now c.name_nodes.new.named c.depth-depth.ensures.table c.requires.there two c.in-Some.ensures.branch.high_is c.name_nodes.ensures.reached)
    c.name_nodes-2.ensures.reached

pub returns-in_err-name_nodes-2-clause-kept : goal.returns-in_err-name_nodes-2-clause-kept
returns-in_err-name_nodes-2-clause-kept g t c = λ x n e. c.name_nodes-2.ensures.kept x n (c.name_nodes.ensures.kept x n e)

pub returns-in_err-name_nodes-2-clause-grown : goal.returns-in_err-name_nodes-2-clause-grown
returns-in_err-name_nodes-2-clause-grown g t c = Grown-join c.args.log.now.state c.name_nodes.new.log.state c.name_nodes-2.new.log.state c.name_nodes.ensures.grown c.name_nodes-2.ensures.grown

pub returns-in_err-name_nodes-2-clause-lines : goal.returns-in_err-name_nodes-2-clause-lines
returns-in_err-name_nodes-2-clause-lines g t c =
    error-ends ArePlain c.args.log.now c.name_nodes-2.new.log _ _ c.from_residual-in_err-name_nodes-2.result c.in_err-name_nodes-2.field-0.0 c.from_residual-in_err-name_nodes-2.ensures.1
    (plain-behind-not c.args.log.now c.name_nodes.new.log c.name_nodes-2.new.log _ _ _ c.in_err-name_nodes-2.field-0.0 c.in_ok-name_nodes.ensures.lines c.in_err-name_nodes-2.ensures.lines)

pub name_node-requires-clause-absent : goal.name_node-requires-clause-absent
name_node-requires-clause-absent g t c =
    let b = c.in-Some.ensures.branch in
    let none : name_of c.args.named.now c.args.f ≡ None = none-found c.get.result (name_of c.args.named.now c.args.f) c.is_some.result c.is_some.ensures c.if-is_some.false c.get.ensures.value in
    still-absent c.args.d.now c.args.f c.in-Some.parts.2 c.name_nodes.new.named c.name_nodes-2.new.named c.depth-depth.ensures.table b.low_there b.low_older c.name_nodes-2.ensures.reached
    (still-absent c.args.d.now c.args.f c.in-Some.parts.1 c.args.named.now c.name_nodes.new.named c.depth-depth.ensures.table b.high_there b.high_older c.name_nodes.ensures.reached none)

pub name_node-requires-clause-known : goal.name_node-requires-clause-known
name_node-requires-clause-known g t c =
    let known = c.requires.known c.args.f (reaches-own c.args.d.now c.args.f) (ltb-false _ _ (sym c.in-Some.ensures.constant)) in
    (known.0, omega (arith, known.1, c.name_nodes.ensures.grown.vars, c.name_nodes-2.ensures.grown.vars))

pub returns-clause-reached : goal.returns-clause-reached
returns-clause-reached g t c =
    let two : 2 ≤ c.args.f = ltb-false _ _ (sym c.in-Some.ensures.constant) in
    reached-more c.args.d.now c.args.f c.args.named.now c.name_nodes-2.new.named c.name_node.new.named
    (reached-join c.args.d.now c.args.f c.in-Some.parts.2 c.args.named.now c.name_nodes.new.named c.name_nodes-2.new.named c.depth-depth.ensures.table c.requires.there two c.in-Some.ensures.branch.low_is
    (reached-high c.args.d.now c.args.f c.in-Some.parts.1 c.args.named.now c.name_nodes.new.named c.depth-depth.ensures.table c.requires.there two c.in-Some.ensures.branch.high_is c.name_nodes.ensures.reached)
    c.name_nodes-2.ensures.reached)
    c.name_node.ensures.reached

pub returns-clause-kept : goal.returns-clause-kept
returns-clause-kept g t c = λ x n e. c.name_node.ensures.kept x n (c.name_nodes-2.ensures.kept x n (c.name_nodes.ensures.kept x n e))

pub returns-clause-grown : goal.returns-clause-grown
returns-clause-grown g t c =
    Grown-join c.args.log.now.state c.name_nodes-2.new.log.state c.name_node.new.log.state
    (Grown-join c.args.log.now.state c.name_nodes.new.log.state c.name_nodes-2.new.log.state c.name_nodes.ensures.grown c.name_nodes-2.ensures.grown)
    (such-grows c.name_nodes-2.new.log c.name_node.new.log _ _ c.name_node.result c.name_node.ensures.lines)

pub returns-clause-lines : goal.returns-clause-lines
returns-clause-lines g t c =
    plain-behind c.args.log.now c.name_nodes-2.new.log c.name_node.new.log _ _ _ c.name_node.result
    (plain-join c.args.log.now c.name_nodes.new.log c.name_nodes-2.new.log _ _ _ c.in_ok-name_nodes.ensures.lines c.in_ok-name_nodes-2.ensures.lines) c.name_node.ensures.lines
