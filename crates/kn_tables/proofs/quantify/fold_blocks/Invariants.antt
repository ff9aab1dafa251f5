use Rattle.std.proofs.Common.{◌≡◌, ◌*◌, ℕ, ◌≤◌, ◌<◌}
use Rattle.std.specs.Prelude.{slice_index}
use Rattle.kn_tables.specs.Words.{folded}
use Rattle.kn_tables.proofs.quantify.fold_blocks.Given as goal

abbrev pub invariant-loop-block : goal.invariant-loop-block
invariant-loop-block l = record {
  folded : (k : ℕ) → k < 4 * l.block → slice_index l.words k ≡ folded l.mask l.shift (slice_index l.fn.words k);
  rest : (k : ℕ) → 4 * l.block ≤ k → slice_index l.words k ≡ slice_index l.fn.words k;
}
