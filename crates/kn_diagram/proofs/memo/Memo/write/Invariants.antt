use Rattle.std.proofs.Common.{◌≡◌, take}
use Rattle.kn_diagram.proofs.memo.Memo.write.Given as goal

abbrev pub invariant-loop-place : goal.invariant-loop-place
invariant-loop-place l = l.entries.items ≡ take l.place l.fn.self
