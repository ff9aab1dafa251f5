use Rattle.std.proofs.Common.{◌≡◌, ℕ, ◌<◌, ◌*◌}
use Rattle.std.specs.Prelude.{slice_index}
use Rattle.kn_tables.proofs.words.equal_blocks.Given as goal

abbrev pub invariant-loop-block : goal.invariant-loop-block
invariant-loop-block l = (k : ℕ) → k < 4 * l.block → slice_index l.words k ≡ slice_index l.other k
