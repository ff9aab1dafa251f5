use Rattle.std.proofs.Common.{◌≡◌, length}
use Rattle.kn_text.specs.Lines.{words_of}
use Rattle.kn_format.specs.Faults.{after_words}
use Rattle.kn_format.proofs.reader.Reader.words.Given as goal

-- what is left, from the reading so far, gives what the whole gives
abbrev pub invariant-loop-word : goal.invariant-loop-word
invariant-loop-word l = after_words l.self (words_of l.rest) ≡ after_words l.fn.self (words_of l.text)

abbrev pub decreases-loop-word : goal.decreases-loop-word
decreases-loop-word l = length l.rest
