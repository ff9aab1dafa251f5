use Rattle.std.proofs.Common.{◌≡◌, sym, ap, ◌∙◌, subst, length, filter, arith}
use Rattle.std.proofs.lemmas.Grind.{common_steps}
use Rattle.kn_logic.proofs.Public.{known-filter}
use Rattle.kn_logic.specs.Literals.{AreKnown}
use Rattle.kn_rules.specs.Marks.{AssumedLiterals, is_unopposed}
use Rattle.kn_rules.proofs.MarkLemmas.{unopposed-filter}
use Rattle.kn_rules.proofs.assumed.Assumed.push_open.Goals as goal

pub mark_all-requires : goal.mark_all-requires
mark_all-requires c =
    let added : c.split_at.result.1.now ≡ filter (is_unopposed c.self.inside.marks.items) c.args.lits.now = grind (arith, common_steps) in
    let vars : c.args.self.now.vars ≡ length c.deref_mut.result.now = ap (λ (x : AssumedLiterals). x.vars) (sym c.self.view_is) ∙ ap length (sym c.deref_mut.ensures.value) in
    rw (added, ← vars) (known-filter _ _ _ c.requires)

pub returns-clause-ok : goal.returns-clause-ok
returns-clause-ok c =
    let vars : c.args.self.now.vars ≡ length c.self.inside.marks.items = ap (λ (x : AssumedLiterals). x.vars) (sym c.self.view_is) in
    let known : AreKnown (length c.self.inside.marks.items) c.args.lits.now = subst (λ n. AreKnown n c.args.lits.now) vars c.requires in
    let same = unopposed-filter c.self.inside.marks.items c.self.inside.lits.items c.args.lits.now c.self.invariant known in
    grind (arith, common_steps)
