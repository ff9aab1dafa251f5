use Rattle.std.proofs.Common.{◌≡◌, ◌-◌, ◌++◌, ◌∷◌, [], ap, sym, ◌∙◌, false, subst, length, take, drop, set, arith}
use Rattle.std.proofs.lemmas.Grind.{common_steps}
use Rattle.kn_logic.specs.Literals.{names}
use Rattle.kn_rules.specs.Marks.{IsMarked, AssumedLiterals, unmarked}
use Rattle.kn_rules.proofs.MarkLemmas.{pop-marked}
use Rattle.kn_rules.proofs.assumed.Assumed.pop.Goals as goal

pub invariant_of-self-2 : goal.invariant_of-self-2
invariant_of-self-2 c =
    let lits : c.self.inside.lits.items ≡ c.pop.new.self.items ++ c.in_ok-lit.lit ∷ [] = c.in_ok-lit.ensures.items in
    let old : c.args.self.now.lits ≡ c.self.inside.lits.items = ap (λ (x : AssumedLiterals). x.lits) (sym c.self.view_is) in
    let alone : names c.pop.new.self.items c.in_ok-lit.lit.variable ≡ false = c.requires _ _ (old ∙ lits) in
    let before = subst (IsMarked c.self.inside.marks.items) lits c.self.invariant in
    let after = pop-marked c.self.inside.marks.items _ _ before alone in
    let marks : take c.self.inside.marks.len (c.unmark_one.new.marks ++ drop (length c.unmark_one.new.marks) c.self.inside.marks.items) ≡ set c.self.inside.marks.items (c.in_ok-lit.lit.variable - 1) unmarked = grind (arith, common_steps) in
    subst (λ x. IsMarked x c.pop.new.self.items) (sym marks) after
