use Rattle.std.proofs.Common.{◌≡◌}
use Rattle.kn_extract.proofs.Stored.{problem, up_to}
use Rattle.kn_extract.proofs.storing.remainder.Given as goal

abbrev pub invariant-loop-place : goal.invariant-loop-place
invariant-loop-place l = l.formula ≡ problem l.store.vars (up_to l.place l.store.live)
