use Rattle.std.proofs.Common.{◌<◌, ◌+◌, ◌-◌, ◌^◌, arith}
use Rattle.std.proofs.lemmas.List.Elements.{All-from_recursion}
use Rattle.kn_opening.proofs.justifying.ids_of.Goals as goal

pub overflow_add-place : goal.overflow_add-place
overflow_add-place c = let h = All-from_recursion (λ p. p < 2 ^ 64 - 1) c.args.places.now c.requires c.loop-place.place-index 0 c.loop-place-test.true in omega (arith, h)
