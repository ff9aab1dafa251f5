use Rattle.std.proofs.Common.{◌≡◌, ◌++◌, drop, map}
use Rattle.kn_trim.specs.Numbers.{new_number}
use Rattle.kn_trim.specs.Needed.{AreMarked}
use Rattle.kn_trim.proofs.renumbering.new_numbers.Given as goal

abbrev pub invariant-loop-id : goal.invariant-loop-id
invariant-loop-id l = record {
  marked : AreMarked l.numbers (drop l.id-index l.old);
  new : l.new.items ++ map (new_number l.numbers) (drop l.id-index l.old) ≡ map (new_number l.numbers) l.old;
}
