use Rattle.std.proofs.Common.{◌≡◌, ◌*◌, ℕ, ◌≤◌}
use Rattle.std.specs.Prelude.{slice_index}
use Rattle.kn_tables.specs.Words.{AreJoined}
use Rattle.kn_tables.proofs.join.join_blocks.Given as goal

abbrev pub invariant-loop-block : goal.invariant-loop-block
invariant-loop-block l = record {
  joined : AreJoined l.how (4 * l.block) l.other l.fn.words l.words;
  rest : (k : ℕ) → 4 * l.block ≤ k → slice_index l.words k ≡ slice_index l.fn.words k;
}
