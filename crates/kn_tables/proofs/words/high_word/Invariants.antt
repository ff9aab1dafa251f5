use Rattle.std.proofs.Common.{◌≡◌, ℕ, ◌+◌, ◌*◌, ◌<◌, ◌&&◌}
use Rattle.std.specs.Prelude.{count_by, nat_le, nat_lt}
use Rattle.kn_tables.specs.Indices.{has_bit}
use Rattle.kn_tables.specs.Tables.{is_true_at}
use Rattle.kn_tables.proofs.words.high_word.Given as goal

abbrev pub invariant-loop-bit : goal.invariant-loop-bit
invariant-loop-bit l =
    (p : ℕ) → p < 64 → has_bit l.word p ≡ (nat_lt p l.bit && nat_le l.bound (count_by (is_true_at (64 * l.place + p)) l.lits))
