use Rattle.std.proofs.Common.{◌≡◌, ◌++◌, take}
use Rattle.std.specs.List.{flat_map}
use Rattle.kn_extract.specs.Texts.{group_line}
use Rattle.kn_extract.proofs.text.push_groups.Given as goal

abbrev pub invariant-loop-t : goal.invariant-loop-t
invariant-loop-t l = l.out.items ≡ l.fn.out.items ++ flat_map (λ t. group_line t.group.aux) (take l.t-index l.taken)
