use Rattle.std.proofs.Common.{◌≡◌, [], map, take}
use Rattle.kn_rules.specs.States.{from_file}
use Rattle.kn_search.specs.Mirrors.{Mirrors}
use Rattle.kn_search.proofs.loading.engine_of.Given as goal

abbrev pub invariant-loop-place : goal.invariant-loop-place
invariant-loop-place l = record {
  trail : l.engine.trail ≡ record { vars = l.f.vars; level = 0; made = [] };
  mirrors : Mirrors l.engine.live (map from_file (take l.place l.f.constraints));
}
