use Rattle.std.proofs.Common.{◌≡◌, ◌≤◌, ◌++◌, drop}
use Rattle.std.specs.List.{AllByRecursion}
use Rattle.kn_guess.specs.Seen.{ids_with}
use Rattle.kn_guess.proofs.taking.ids_with.Given as goal

abbrev pub invariant-loop-var : goal.invariant-loop-var
invariant-loop-var l = record {
  rest : l.ids.items ++ ids_with l.store.live (drop l.var-index l.variables) ≡ ids_with l.store.live l.variables;
  known : AllByRecursion (λ x. (1 ≤ x) × (x ≤ l.store.vars)) (drop l.var-index l.variables);
}
