use Rattle.std.proofs.Common.{◌≡◌, ℕ, ◌++◌, [], ◌∷◌, sym, subst, ap, ◌∙◌, List}
use Rattle.std.specs.Prelude.{option_to_list}
use Rattle.kn_justify.specs.Arms.{AreKnownArms}
use Rattle.kn_justify.specs.Names.{side_hints}
use Rattle.kn_justify.proofs.NameLemmas.{pair-known}
use Rattle.kn_justify.proofs.PairLemmas.{second-refuted-by}
use Rattle.kn_justify.proofs.pairs.second_line.Goals as goal

pub settle-requires-clause-known : goal.settle-requires-clause-known
settle-requires-clause-known g c =
    subst (AreKnownArms c.args.log.now.state.vars) (sym (c.deref.ensures.value ∙ c.in_ok-arms.ensures)) (pair-known c.args.log.now.state c.args.d.now c.args.named.now c.args.m.now c.requires.met)

pub settle-requires-clause-hints : goal.settle-requires-clause-hints
settle-requires-clause-hints g c =
    second-refuted-by c.args.log.now.state c.args.d.now c.args.named.now c.args.m.now c.args.depth (option_to_list c.args.first) (option_to_list c.args.child) c.push_side.new.hints.items c.deref.result.now c.depth-depth.ensures.table c.requires.within c.requires.met c.requires.first c.requires.child
    (c.in_ok-push_side.ensures ∙ ap (λ (xs : List ℕ). xs ++ side_hints c.args.d.now c.args.named.now c.args.depth 1 3 c.args.m.now (option_to_list c.args.child)) (c.in_ok-push_option.ensures ∙ ap (λ (xs : List ℕ). xs ++ option_to_list c.args.first) c.new-hints.ensures.items))
    (c.deref.ensures.value ∙ c.in_ok-arms.ensures)
