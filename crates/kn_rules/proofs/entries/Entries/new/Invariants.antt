use Rattle.std.proofs.Common.{◌≡◌, [], map, take}
use Rattle.kn_rules.specs.States.{from_file}
use Rattle.kn_rules.proofs.entries.Entries.new.Given as goal

abbrev pub invariant-loop-c : goal.invariant-loop-c
invariant-loop-c l = l.entries ≡ record { defined = record { base = l.vars; list = [] }; given = map from_file (take l.c-index l.constraints) }
