use Rattle.std.proofs.Common.{◌≡◌, ℕ, ◌≤◌}
use Rattle.std.specs.Prelude.{slice_index}
use Rattle.kn_tables.specs.Words.{AreJoined}
use Rattle.kn_tables.proofs.join.join.Given as goal

abbrev pub invariant-loop-place : goal.invariant-loop-place
invariant-loop-place l = record {
  joined : AreJoined l.how l.place l.other l.fn.words l.words;
  rest : (k : ℕ) → l.place ≤ k → slice_index l.words k ≡ slice_index l.fn.words k;
}
