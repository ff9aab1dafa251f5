use Rattle.kn_gen.proofs.Adding.{pushed-behind, blocks-next}
use Rattle.kn_gen.specs.Blocks.{blocks, block_klauses}
use Rattle.std.proofs.Common.{◌+◌}
use Rattle.kn_gen.proofs.blocks.push_blocks.Goals as goal

pub loop-before-preserved : goal.loop-before-preserved
loop-before-preserved c = pushed-behind _ _ (blocks c.args.count c.loop-before.before) (block_klauses c.args.count (c.loop-before.before + 1)) _ _ _ c.loop-before.invariant c.in_ok-push_block.ensures (blocks-next c.args.count c.loop-before.before)
