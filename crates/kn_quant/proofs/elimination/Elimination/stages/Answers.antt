use Rattle.std.proofs.Common.{All, [], sym, subst}
use Rattle.std.proofs.lemmas.List.Elements.{All-from_recursion}
use Rattle.kn_quant.specs.Eliminations.{IsThere}
use Rattle.kn_quant.proofs.ProgressLemmas.{stages-there}
use Rattle.kn_quant.proofs.elimination.Elimination.stages.Goals as goal

pub returns-clause-there : goal.returns-clause-there
returns-clause-there c =
    let inside = c.self.inside in
    subst (All (IsThere c.args.self.now.table)) (sym c.deref.ensures.value)
    (subst (λ e. All (IsThere e.table) inside.stages.items) c.self.view_is
    (All-from_recursion (IsThere inside.diagrams) inside.stages.items (stages-there inside.diagrams [] inside.stages.items c.self.invariant.stages)))
