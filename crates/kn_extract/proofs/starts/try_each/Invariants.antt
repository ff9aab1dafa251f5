use Rattle.std.proofs.Common.{◌≡◌, ◌+◌, length}
use Rattle.std.specs.List.{range_with_len}
use Rattle.kn_guess.specs.Tables.{IsPairTable}
use Rattle.kn_extract.specs.Extractions.{IsPairTaken}
use Rattle.kn_extract.specs.Taking.{HaveTried}
use Rattle.kn_extract.proofs.starts.try_each.Given as goal

abbrev pub invariant-loop-place : goal.invariant-loop-place
invariant-loop-place l = record {
  tried : HaveTried IsPairTaken (range_with_len 1 l.place) l.fn.store l.store l.fn.taken.items l.taken.items;
  table : IsPairTable l.store l.pairs;
  added : l.store.added ≡ l.constraints + length l.taken.items;
}
