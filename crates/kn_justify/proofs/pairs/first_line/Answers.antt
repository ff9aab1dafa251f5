use Rattle.std.proofs.Common.{◌≡◌, ℕ, ◌++◌, [], ◌∷◌, ap, ◌∙◌, List}
use Rattle.std.specs.Prelude.{option_to_list}
use Rattle.kn_logic.specs.Literals.{Literal, negated}
use Rattle.kn_lines.specs.declared.line.Arm.TheVariants as arm
use Rattle.kn_justify.specs.Names.{pair_arms, side_hints}
use Rattle.kn_justify.proofs.PairLemmas.{first-refuted, first-known}
use Rattle.kn_justify.proofs.pairs.first_line.Goals as goal

pub settle-requires-clause-known : goal.settle-requires-clause-known
settle-requires-clause-known g c =
    let is : c.deref.result.now ≡ arm.Lit (negated c.args.test) ∷ pair_arms c.args.named.now c.args.m.now =
    c.deref.ensures.value ∙ c.in_ok-arms.ensures ∙ ap (λ (l : Literal). arm.Lit l ∷ pair_arms c.args.named.now c.args.m.now) c.negated.ensures in
    first-known c.args.log.now.state c.args.d.now c.args.named.now c.args.m.now c.args.test c.deref.result.now c.requires.met c.requires.known is

pub settle-requires-clause-hints : goal.settle-requires-clause-hints
settle-requires-clause-hints g c =
    let is : c.deref.result.now ≡ arm.Lit (negated c.args.test) ∷ pair_arms c.args.named.now c.args.m.now =
    c.deref.ensures.value ∙ c.in_ok-arms.ensures ∙ ap (λ (l : Literal). arm.Lit l ∷ pair_arms c.args.named.now c.args.m.now) c.negated.ensures in
    first-refuted c.args.log.now.state c.args.d.now c.args.named.now c.args.m.now c.args.depth (option_to_list c.args.child) c.push_side.new.hints.items c.deref.result.now c.depth-depth.ensures.table c.requires.within c.requires.met c.requires.child
    (c.in_ok-push_side.ensures ∙ ap (λ (xs : List ℕ). xs ++ side_hints c.args.d.now c.args.named.now c.args.depth 0 2 c.args.m.now (option_to_list c.args.child)) c.new-hints.ensures.items)
    (is ∙ ap (λ (l : Literal). arm.Lit (negated l) ∷ pair_arms c.args.named.now c.args.m.now) c.requires.test)
