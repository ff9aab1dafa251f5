use Rattle.std.proofs.Common.{◌≡◌, ◌≤◌, take}
use Rattle.std.specs.Prelude.{count_by}
use Rattle.kn_tables.specs.Tables.{is_true_at}
use Rattle.kn_tables.proofs.words.true_count.Given as goal

abbrev pub invariant-loop-lit : goal.invariant-loop-lit
invariant-loop-lit l = record {
  count : l.count ≡ count_by (is_true_at l.index) (take l.lit-index l.lits);
  within : l.count ≤ l.lit-index;
}
