use Rattle.std.proofs.Common.{◌≡◌, ◌≤◌, ◌+◌, length}
use Rattle.std.specs.List.{range_with_len}
use Rattle.kn_guess.specs.Tables.{IsSeedTable}
use Rattle.kn_extract.specs.Extractions.{IsSeedTaken}
use Rattle.kn_extract.specs.Taking.{HaveTried}
use Rattle.kn_extract.proofs.seeds.try_each.Given as goal

abbrev pub invariant-loop-place : goal.invariant-loop-place
invariant-loop-place l = record {
  tried : HaveTried IsSeedTaken (range_with_len 1 l.place) l.fn.store l.store l.fn.taken.items l.taken.items;
  added : l.store.added ≡ l.constraints + length l.taken.items;
  vars : l.store.vars ≡ l.fn.store.vars;
  table : IsSeedTable l.store l.seeds;
  from : l.seeds.from ≤ l.place + 1;
}
