use Rattle.std.proofs.Common.{◌≡◌, ◌<◌, ℕ, false, length, get_or}
use Rattle.kn_tables.specs.Indices.{has_bit}
use Rattle.kn_verdict.proofs.few.values_at.Given as goal

abbrev pub invariant-loop-place : goal.invariant-loop-place
invariant-loop-place l = record {
  long : length l.values ≡ l.n;
  bits : (k : ℕ) → k < l.place → get_or l.values k false ≡ has_bit l.index k;
}
