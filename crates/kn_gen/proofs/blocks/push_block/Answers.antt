use Rattle.std.proofs.Common.{map, ap, ◌∙◌}
use Rattle.kn_logic.specs.Literals.{negated}
use Rattle.kn_gen.proofs.Adding.{block-pushed}
use Rattle.kn_gen.proofs.blocks.push_block.Goals as goal

pub returns : goal.returns
returns c =
    block-pushed c.args.count c.args.t c.args.f.now c.push.new.self c.push-2.new.self c.new.result c.new-2.result c.in_ok-negations.negations.items c.in_ok-lits.lits.items c.at_most.result c.at_least.result
    c.in_ok-lits.ensures (c.in_ok-negations.ensures ∙ ap (map negated) c.deref.ensures.value)
    c.at_most.ensures.value c.at_least.ensures c.new.ensures c.new-2.ensures c.in_ok-push.ensures.ok c.in_ok-push-2.ensures.ok
