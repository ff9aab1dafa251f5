use Rattle.std.proofs.Common.{◌≡◌, ◌+◌, ◌++◌, drop}
use Rattle.kn_format.specs.Texts.{value_lines, list_words, true_literals}
use Rattle.kn_format.proofs.write.push_values.Given as goal

-- what is left, from here, gives what the whole gives
abbrev pub invariant-loop-i : goal.invariant-loop-i
invariant-loop-i l =
    l.out.items ++ value_lines l.room (list_words (true_literals (l.i + 1) (drop l.i l.values))) ≡ l.fn.out.items ++ value_lines 10 (list_words (true_literals 1 l.values))
