use Rattle.std.proofs.Common.{◌≡◌, ◌+◌, ◌-◌, ◌^◌, ◌≤◌, min, drop}
use Rattle.kn_counter.specs.Counters.{all_further, counted}
use Rattle.kn_counter.proofs.sizes.needed_vars.Given as goal

abbrev pub invariant-loop-c : goal.invariant-loop-c
invariant-loop-c l = record {
  whole : min (l.vars + all_further (drop l.c-index l.f.constraints)) (2 ^ 64 - 1) ≡ min (counted l.f).vars (2 ^ 64 - 1);
  room : l.vars ≤ 2 ^ 64 - 1;
}
