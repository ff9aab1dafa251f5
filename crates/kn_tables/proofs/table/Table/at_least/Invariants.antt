use Rattle.std.proofs.Common.{◌≡◌, ℕ, ◌<◌, length}
use Rattle.std.specs.Prelude.{slice_index, count_by, nat_le}
use Rattle.kn_tables.specs.Tables.{is_true_at}
use Rattle.kn_tables.specs.Words.{HasValues}
use Rattle.kn_tables.proofs.table.Table.at_least.Given as goal

abbrev pub invariant-loop-place : goal.invariant-loop-place
invariant-loop-place l = record {
  whole : length l.words ≡ 64;
  values : (k : ℕ) → k < l.place → HasValues (λ i. nat_le l.bound (count_by (is_true_at i) l.lits)) k (slice_index l.words k);
}
