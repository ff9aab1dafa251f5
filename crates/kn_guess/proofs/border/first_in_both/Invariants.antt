use Rattle.std.proofs.Common.{◌≡◌, drop}
use Rattle.kn_guess.specs.Sides.{first_in_both}
use Rattle.kn_guess.proofs.border.first_in_both.Given as goal

abbrev pub invariant-loop-var : goal.invariant-loop-var
invariant-loop-var l = first_in_both l.positive l.negative (drop l.var-index l.variables) ≡ first_in_both l.positive l.negative l.variables
