use Rattle.std.proofs.Common.{◌≡◌, ◌≤◌, ℕ, length, take}
use Rattle.std.specs.Prelude.{count_by, nat_le, slice_index}
use Rattle.kn_tables.specs.Tables.{is_true_at}
use Rattle.kn_tables.specs.Words.{HasValues}
use Rattle.kn_tables.proofs.words.low_word.Given as goal

abbrev pub invariant-loop-lit : goal.invariant-loop-lit
invariant-loop-lit l = record {
  long : length l.words ≡ 13;
  values : (j : ℕ) → j ≤ l.bound → HasValues (λ i. nat_le j (count_by (is_true_at i) (take l.lit-index l.lits))) l.place (slice_index l.words j);
}
