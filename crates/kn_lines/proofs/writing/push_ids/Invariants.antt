use Rattle.std.proofs.Common.{◌≡◌, ◌++◌, take, decimal}
use Rattle.std.specs.List.{flat_map}
use Rattle.kn_lines.specs.Writing.{spaced}
use Rattle.kn_lines.proofs.writing.push_ids.Given as goal

abbrev pub invariant-loop-id : goal.invariant-loop-id
invariant-loop-id l = l.out.items ≡ l.fn.out.items ++ flat_map (λ x. spaced (decimal x)) (take l.id-index l.ids)
