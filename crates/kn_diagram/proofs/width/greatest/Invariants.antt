use Rattle.std.proofs.Common.{ℕ, ◌≡◌, ◌<◌, ◌≤◌, ◌⊎◌, slice_index}
use Rattle.kn_diagram.proofs.width.greatest.Given as goal

abbrev pub invariant-loop-width : goal.invariant-loop-width
invariant-loop-width l = record {
  bound : (k : ℕ) → k < l.width-index → slice_index l.widths k ≤ l.best;
  met : (l.best ≡ 0) ⊎ ((k : ℕ) × (k < l.width-index) × (slice_index l.widths k ≡ l.best));
}
