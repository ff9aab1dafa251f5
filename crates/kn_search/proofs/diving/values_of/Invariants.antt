use Rattle.std.proofs.Common.{◌≡◌, ◌≤◌, ℕ, length, true}
use Rattle.kn_logic.specs.Literals.{has}
use Rattle.kn_logic.specs.Assignments.{value_of}
use Rattle.kn_watch.specs.Trails.{literals}
use Rattle.kn_search.proofs.diving.values_of.Given as goal

abbrev pub invariant-loop-place : goal.invariant-loop-place
invariant-loop-place l = record {
  count : length l.values ≡ l.trail.vars;
  exact : (v : ℕ) → 1 ≤ v → v ≤ l.place → value_of l.values v ≡ has (literals l.trail.made) (record { variable = v; positive = true });
}
