use Rattle.std.proofs.Common.{◌≡◌, ◌+◌, ◌-◌, ◌++◌}
use Rattle.kn_gen.specs.Blocks.{literals_from}
use Rattle.kn_gen.proofs.blocks.literals_from.Given as goal

abbrev pub invariant-loop-place : goal.invariant-loop-place
invariant-loop-place l = l.lits.items ++ literals_from (l.first + l.place) (8 - l.place) ≡ literals_from l.fn.first 8
