use Rattle.kn_guess.proofs.Joined.{cands}
use Rattle.kn_guess.proofs.Entered.{IsMade}
use Rattle.kn_guess.proofs.pairs.Pairs.new.Given as goal

abbrev pub invariant-loop-place : goal.invariant-loop-place
invariant-loop-place l = IsMade l.store (cands 1 l.place) l.rows.items
