use Rattle.std.proofs.Common.{◌≡◌, ℕ, ◌<◌, ◌*◌}
use Rattle.std.specs.Prelude.{slice_index}
use Rattle.kn_tables.specs.Words.{either}
use Rattle.kn_tables.proofs.quantify.partner_blocks.Given as goal

abbrev pub invariant-loop-block : goal.invariant-loop-block
invariant-loop-block l = (k : ℕ) → k < 4 * l.block → slice_index l.words k ≡ either (slice_index l.before) l.var k
