use Rattle.std.proofs.Common.{◌∙◌, sym, subst}
use Rattle.kn_diagram.specs.declared.trace.Met.{Met}
use Rattle.kn_justify.specs.Names.{IsNamedMet, high_met, low_met, pair_arms}
use Rattle.kn_justify.specs.Arms.{Settled}
use Rattle.std.specs.Prelude.{option_to_list}
use Rattle.kn_justify.proofs.EntryLemmas.{closed-settled, seen-met, child-high, child-low}
use Rattle.kn_justify.proofs.joins.entry.Goals as goal

pub returns-then-is_closed-clause-settled : goal.returns-then-is_closed-clause-settled
returns-then-is_closed-clause-settled g c =
    closed-settled c.args.log.now.state.given c.args.d.now c.args.named.now c.args.side c.args.m.now c.depth-depth.ensures.table c.requires.children.right (c.is_closed.ensures.closed c.if-is_closed.true)

pub pair-requires-clause-met : goal.pair-requires-clause-met
pair-requires-clause-met g c = subst (λ (x : Met). IsNamedMet c.args.log.now.state c.args.d.now c.args.named.now x) (sym c.seen-seen.ensures) (seen-met c.args.log.now.state c.args.d.now c.args.named.now c.args.side c.args.m.now c.requires.met)

pub pair-requires-clause-high : goal.pair-requires-clause-high
pair-requires-clause-high g c =
    subst (λ (x : Met). Settled c.args.log.now.state.given (option_to_list c.in-Some.high) (pair_arms c.args.named.now (high_met c.args.d.now c.depth-depth.result x))) (sym c.seen-seen.ensures)
    (child-high c.args.log.now.state.given c.args.d.now c.args.named.now c.args.side c.args.lemmas.now c.args.m.now c.halves-u_high.result.0 c.halves-v_high.result.0 c.depth-depth.result c.get.result c.in-Some.high (c.depth-depth.ensures.value ∙ c.upper-top.ensures.depth) c.depth-depth.ensures.table
    c.requires.children.right (c.is_closed.ensures.open_ c.if-is_closed.false) c.requires.joined c.halves-u_high.ensures.high c.halves-v_high.ensures.high c.get.ensures c.in-Some.is)

pub pair-requires-clause-low : goal.pair-requires-clause-low
pair-requires-clause-low g c =
    subst (λ (x : Met). Settled c.args.log.now.state.given (option_to_list c.in-Some-get.low) (pair_arms c.args.named.now (low_met c.args.d.now c.depth-depth.result x))) (sym c.seen-seen.ensures)
    (child-low c.args.log.now.state.given c.args.d.now c.args.named.now c.args.side c.args.lemmas.now c.args.m.now c.halves-u_high.result.1 c.halves-v_high.result.1 c.depth-depth.result c.get-2.result c.in-Some-get.low (c.depth-depth.ensures.value ∙ c.upper-top.ensures.depth) c.depth-depth.ensures.table
    c.requires.children.right (c.is_closed.ensures.open_ c.if-is_closed.false) c.requires.joined c.halves-u_high.ensures.low c.halves-v_high.ensures.low c.get-2.ensures c.in-Some-get.is)
