use Rattle.std.proofs.Common.{◌≡◌, ◌++◌, ◌∷◌, [], Ok, subst, rules}
use Rattle.kn_rules.specs.States.{ProofState}
use Rattle.kn_rules.specs.Steps.{define}
use Rattle.kn_rules.specs.Lent.{defined_of, fours}
use Rattle.kn_rules.proofs.Entering.{fours-defined}
use Rattle.kn_rules.proofs.checker.Checker.keep_definition.Goals as goal

pub invariant_of-self-2 : goal.invariant_of-self-2
invariant_of-self-2 c =
    let kept : c.self.inside.kept.items ≡ fours (defined_of c.args.self.now) = subst (λ (s : ProofState). c.self.inside.kept.items ≡ fours (defined_of s)) c.self.view_is c.self.invariant in
    let stepped : define c.args.self.now c.args.x c.args.high c.args.low ≡ Ok c.accept.new.self = search rules in
    let added : c.push_reserved.new.kept.items ≡ c.self.inside.kept.items ++ c.in_ok-four.four ∷ [] = search rules in
    fours-defined c.args.self.now c.accept.new.self _ _ _ _ _ c.in_ok-four.four kept c.next_four.ensures.defined stepped c.in_ok-four.ensures.four added
