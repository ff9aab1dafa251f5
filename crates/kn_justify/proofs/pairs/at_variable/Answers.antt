use Rattle.std.proofs.Common.{◌≡◌, ℕ, ◌++◌, [], ◌∷◌, ap, ◌∙◌, List}
use Rattle.std.specs.Prelude.{option_to_list}
use Rattle.kn_justify.specs.Names.{pair_arms, hint_at}
use Rattle.kn_justify.proofs.PairLemmas.{at-refuted, four_pushed}
use Rattle.kn_justify.proofs.pairs.at_variable.Goals as goal

pub settle-requires-clause-hints : goal.settle-requires-clause-hints
settle-requires-clause-hints g c =
    at-refuted c.args.log.now.state c.args.d.now c.args.named.now c.args.m.now.u c.args.m.now.w c.args.depth (option_to_list c.args.high) (option_to_list c.args.low) c.push_hint-2.new.hints.items c.deref.result.now c.depth-depth.ensures.table c.requires.within c.requires.at c.requires.met.u_named c.requires.high c.requires.low
    (four_pushed c.push_option.new.hints.items c.push_option-2.new.hints.items c.push_hint.new.hints.items c.push_hint-2.new.hints.items (option_to_list c.args.high) (option_to_list c.args.low) (hint_at c.args.d.now c.args.named.now c.args.depth 0 c.args.m.now.u) (hint_at c.args.d.now c.args.named.now c.args.depth 1 c.args.m.now.u)
    (c.in_ok-push_option.ensures ∙ ap (λ (xs : List ℕ). xs ++ option_to_list c.args.high) c.new-hints.ensures.items) c.in_ok-push_option-2.ensures c.in_ok-push_hint.ensures c.in_ok-push_hint-2.ensures)
    (c.deref.ensures.value ∙ c.in_ok-arms.ensures ∙ ap (λ (v : ℕ). pair_arms c.args.named.now (record { u = c.args.m.now.u; v = v; w = c.args.m.now.w })) c.requires.alone)
