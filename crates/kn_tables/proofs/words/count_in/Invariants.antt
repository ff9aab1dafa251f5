use Rattle.std.proofs.Common.{◌≡◌, ◌+◌, ◌-◌, ◌≤◌, ◌<◌, ℕ, length, bit_and, bit_or}
use Rattle.std.specs.Prelude.{slice_index}
use Rattle.kn_tables.proofs.words.count_in.Given as goal

abbrev pub invariant-loop-above : goal.invariant-loop-above
invariant-loop-above l = record {
  long : length l.words ≡ length l.fn.words;
  done : (k : ℕ) → l.bound ≤ k + l.above → k < l.bound → slice_index l.words (k + 1) ≡ bit_or (slice_index l.fn.words (k + 1)) (bit_and (slice_index l.fn.words k) l.word);
  left : (k : ℕ) → k + l.above ≤ l.bound → slice_index l.words k ≡ slice_index l.fn.words k;
}
