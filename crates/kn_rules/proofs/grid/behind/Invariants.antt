use Rattle.std.proofs.Common.{◌≡◌, ◌&&◌, ◌∷◌, drop}
use Rattle.kn_rules.specs.States.{looked_up}
use Rattle.kn_rules.specs.Demands.{all_stand}
use Rattle.kn_rules.proofs.grid.behind.Given as goal

abbrev pub invariant-loop-place : goal.invariant-loop-place
invariant-loop-place l =
    let definition = looked_up l.definitions in
    (all_stand definition l.rest l.next && all_stand definition (l.lit ∷ l.rest) (drop l.place l.level)) ≡ all_stand definition (l.lit ∷ l.rest) l.level
