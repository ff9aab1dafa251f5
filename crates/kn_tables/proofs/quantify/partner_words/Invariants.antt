use Rattle.std.proofs.Common.{◌≡◌, ℕ, ◌<◌}
use Rattle.std.specs.Prelude.{slice_index}
use Rattle.kn_tables.specs.Words.{either}
use Rattle.kn_tables.proofs.quantify.partner_words.Given as goal

abbrev pub invariant-loop-place : goal.invariant-loop-place
invariant-loop-place l = (k : ℕ) → k < l.place → slice_index l.words k ≡ either (slice_index l.before) l.var k
