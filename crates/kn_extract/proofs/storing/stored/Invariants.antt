use Rattle.std.proofs.Common.{◌≡◌, take}
use Rattle.kn_extract.specs.Extractions.{stored_of}
use Rattle.kn_extract.proofs.Stored.{problem}
use Rattle.kn_extract.proofs.storing.stored.Given as goal

abbrev pub invariant-loop-c : goal.invariant-loop-c
invariant-loop-c l = l.store ≡ stored_of (problem l.f.vars (take l.c-index l.c-items))
