use Rattle.std.proofs.Common.{◌≡◌, ℕ, ◌<◌, Some}
use Rattle.std.specs.Prelude.{slice_get}
use Rattle.kn_watch.specs.declared.trail.Made.{Made}
use Rattle.kn_propagate.proofs.tests.is_reason.Given as goal

abbrev pub invariant-loop-place : goal.invariant-loop-place
invariant-loop-place l = (p : ℕ) (m : Made) → p < l.place → slice_get l.trail.made p ≡ Some m → m.reason ≡ Some l.id → ⊥
