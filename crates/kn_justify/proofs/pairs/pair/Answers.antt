use Rattle.std.specs.Prelude.{option_to_list}
use Rattle.kn_justify.specs.Names.{pair_arms, low_met}
use Rattle.kn_justify.proofs.GrowthLemmas.{such-grows, plain-behind}
use Rattle.kn_justify.proofs.HintLemmas.{settled-grows}
use Rattle.kn_justify.proofs.NameLemmas.{met-grows}
use Rattle.kn_justify.proofs.pairs.pair.Goals as goal

pub second_line-requires-clause-met : goal.second_line-requires-clause-met
second_line-requires-clause-met g c =
    met-grows c.args.log.now.state c.first_line.new.log.state c.args.d.now c.args.named.now c.args.m.now (such-grows c.args.log.now c.first_line.new.log _ _ c.first_line.result c.first_line.ensures.lines) c.requires.met

pub second_line-requires-clause-child : goal.second_line-requires-clause-child
second_line-requires-clause-child g c =
    settled-grows c.args.log.now.state c.first_line.new.log.state (option_to_list c.args.low) (pair_arms c.args.named.now (low_met c.args.d.now c.args.depth c.args.m.now))
    (such-grows c.args.log.now c.first_line.new.log _ _ c.first_line.result c.first_line.ensures.lines) c.requires.low

pub returns-clause-lines : goal.returns-clause-lines
returns-clause-lines g c = plain-behind c.args.log.now c.first_line.new.log c.second_line.new.log _ _ _ c.second_line.result c.in_ok-first.ensures.lines c.second_line.ensures.lines
