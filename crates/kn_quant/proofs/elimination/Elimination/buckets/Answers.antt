use Rattle.std.proofs.Common.{All, sym, subst}
use Rattle.std.proofs.lemmas.List.Elements.{All-from_recursion}
use Rattle.kn_diagram.specs.Diagrams.{IsNode}
use Rattle.kn_quant.proofs.ProgressLemmas.{buckets-there}
use Rattle.kn_quant.proofs.elimination.Elimination.buckets.Goals as goal

pub returns-clause-there : goal.returns-clause-there
returns-clause-there c =
    let inside = c.self.inside in
    subst (λ bs. All (λ b. IsNode c.args.self.now.table b.function) bs) (sym c.deref.ensures.value)
    (subst (λ e. All (λ b. IsNode e.table b.function) inside.buckets.items) c.self.view_is
    (All-from_recursion (λ b. IsNode inside.diagrams b.function) inside.buckets.items
    (buckets-there inside.diagrams inside.stages.items inside.buckets.items c.self.invariant.stages c.self.invariant.buckets)))
