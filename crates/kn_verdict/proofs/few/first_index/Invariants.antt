use Rattle.std.proofs.Common.{◌≡◌, ◌-◌, ◌^◌, ◌<◌, length, drop}
use Rattle.kn_verdict.specs.Numbered.{index_of, first_values}
use Rattle.kn_verdict.proofs.few.first_index.Given as goal

abbrev pub invariant-loop-behind : goal.invariant-loop-behind
invariant-loop-behind l = record {
  index : l.index ≡ index_of (drop (length l.border - l.behind) (first_values l.border l.first));
  low : l.index < 2 ^ l.behind;
}
