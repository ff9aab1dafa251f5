use Rattle.std.proofs.Common.{◌≡◌, ◌<◌, ◌^◌, drop}
use Rattle.kn_text.specs.Numbers.{number_of}
use Rattle.kn_text.proofs.Values.{spelled}
use Rattle.kn_text.proofs.numbers.number.Given as goal

abbrev pub invariant-loop-b : goal.invariant-loop-b
invariant-loop-b l = record {
  small : l.value < 2 ^ 64;
  whole : spelled l.value (drop l.b-index l.word) ≡ number_of l.word;
}
