use Rattle.std.proofs.Common.{◌≡◌, ℕ, ◌≤◌, ◌<◌}
use Rattle.std.specs.Prelude.{slice_index}
use Rattle.kn_tables.specs.Words.{folded}
use Rattle.kn_tables.proofs.quantify.fold_words.Given as goal

abbrev pub invariant-loop-place : goal.invariant-loop-place
invariant-loop-place l = record {
  folded : (k : ℕ) → k < l.place → slice_index l.words k ≡ folded l.mask l.shift (slice_index l.fn.words k);
  rest : (k : ℕ) → l.place ≤ k → slice_index l.words k ≡ slice_index l.fn.words k;
}
