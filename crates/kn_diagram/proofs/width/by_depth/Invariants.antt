use Rattle.std.proofs.Common.{ℕ, ◌≡◌, ◌+◌, ◌<◌, length, slice_index, drop}
use Rattle.kn_diagram.specs.Widths.{of_depth}
use Rattle.kn_diagram.proofs.width.by_depth.Given as goal

abbrev pub invariant-loop-number : goal.invariant-loop-number
invariant-loop-number l = record {
  len : length l.widths.items ≡ length l.d.order;
  widths : (k : ℕ) → k < length l.d.order
      → slice_index l.widths.items k + of_depth l.d k (drop l.number-index l.numbers) ≡ of_depth l.d k l.numbers;
}
