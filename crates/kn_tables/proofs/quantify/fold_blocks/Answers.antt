use Rattle.std.proofs.Common.{◌+◌, ◌*◌, ap, ◌∙◌, arith}
use Rattle.std.specs.Prelude.{slice_index}
use Rattle.kn_tables.specs.Words.{folded}
use Rattle.kn_tables.proofs.FourWords.{block-step}
use Rattle.kn_tables.proofs.quantify.fold_blocks.Goals as goal

pub loop-block-preserved : goal.loop-block-preserved
loop-block-preserved c =
    let before = c.args.words.now in
    let block = c.loop-block.block in
    let fold = folded c.args.mask c.args.shift in
    record {
      folded = block-step (λ k. fold (slice_index before k)) c.loop-block.words c.store.new.words block c.loop-block.invariant.folded
          (λ i l. c.store.ensures.each i l ∙ c.fold_lanes-both.ensures.each i l
          ∙ ap fold (c.load.ensures.each i l ∙ c.loop-block.invariant.rest (4 * block + i) (omega arith)))
          c.store.ensures.below;
      rest = λ k h. c.store.ensures.above k (omega (arith, h)) ∙ c.loop-block.invariant.rest k (omega (arith, h));
    }
