-- What was read so far is what the source gave in this call; the room is what the limit leaves.
use Rattle.std.proofs.Common.{◌≡◌, ◌+◌, ◌≤◌, length}
use Rattle.kn_bytes.specs.Outside.{RoseBy, Gave}
use Rattle.kn_bytes.proofs.read.read_by.Given as goal

abbrev pub invariant-loop-size : goal.invariant-loop-size
invariant-loop-size g l = record {
  gave : Gave (g.S.Source.left l.fn.source) (g.S.Source.left l.source) l.all.items;
  count : RoseBy (g.S.Source.given l.fn.source) (g.S.Source.given l.source) (length l.all.items);
  room : length l.all.items + l.room ≡ l.limit;
  later : g.S.Source.faults l.fn.source ≤ g.S.Source.faults l.source;
}

abbrev pub decreases-loop-size : goal.decreases-loop-size
decreases-loop-size g l = l.room
