use Rattle.std.proofs.Common.{◌≡◌, ◌≤◌, take, drop, map}
use Rattle.std.specs.List.{AllByRecursion}
use Rattle.kn_guess.specs.Sides.{sided}
use Rattle.kn_guess.proofs.border.literals.Given as goal

abbrev pub invariant-loop-var : goal.invariant-loop-var
invariant-loop-var l = record {
  here : l.lits.items ≡ map (sided l.positive) (take l.var-index l.variables);
  known : AllByRecursion (λ x. 1 ≤ x) (drop l.var-index l.variables);
}
