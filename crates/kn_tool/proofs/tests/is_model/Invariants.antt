use Rattle.std.proofs.Common.{length}
use Rattle.kn_tool.proofs.tests.is_model.Given as goal

abbrev pub decreases-loop-word : goal.decreases-loop-word
decreases-loop-word l = length l.words

abbrev pub decreases-loop-line : goal.decreases-loop-line
decreases-loop-line l = length l.rest
