use Rattle.std.proofs.Common.{ℕ, ◌<◌}
use Rattle.kn_verdict.specs.Cardinals.{CanStart}
use Rattle.kn_verdict.proofs.few.only_bound.Given as goal

abbrev pub invariant-loop-first : goal.invariant-loop-first
invariant-loop-first l = (first : ℕ) → first < l.first → CanStart l.group first → ⊥
