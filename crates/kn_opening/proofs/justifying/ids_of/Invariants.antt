use Rattle.std.proofs.Common.{◌≡◌, ◌+◌, map, take}
use Rattle.kn_opening.proofs.justifying.ids_of.Given as goal

abbrev pub invariant-loop-place : goal.invariant-loop-place
invariant-loop-place l = l.ids.items ≡ map (λ place. place + 1) (take l.place-index l.places)
