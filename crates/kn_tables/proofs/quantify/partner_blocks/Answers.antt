use Rattle.std.proofs.Common.{◌≡◌, ◌+◌, ◌*◌, ◌<◌, ℕ, true, false, bit_or, ap, sym, ◌∙◌, arith}
use Rattle.std.specs.Prelude.{slice_index}
use Rattle.kn_tables.specs.Indices.{index_with}
use Rattle.kn_tables.specs.Words.{either}
use Rattle.kn_tables.proofs.FourWords.{block-step}
use Rattle.kn_tables.proofs.Places.{with-block}
use Rattle.kn_tables.proofs.quantify.partner_blocks.Goals as goal

pub load-high-requires : goal.load-high-requires
load-high-requires c =
    let block = c.loop-block.block in
    omega (arith, c.with_bit.ensures, c.requires.before (4 * block + 3) true (omega (arith, c.loop-block-test.true)), with-block block 3 c.args.var true (omega arith) c.requires.var.0)

pub load-low-requires : goal.load-low-requires
load-low-requires c =
    let block = c.loop-block.block in
    omega (arith, c.without_bit.ensures, c.requires.before (4 * block + 3) false (omega (arith, c.loop-block-test.true)), with-block block 3 c.args.var false (omega arith) c.requires.var.0)

pub loop-block-preserved : goal.loop-block-preserved
loop-block-preserved c =
    let before = c.args.before.now in
    let block = c.loop-block.block in
    let at = 4 * block in
    let high : (i : ℕ) → i < 4 → slice_index c.load-high.result i ≡ slice_index before (index_with (at + i) c.args.var true) =
    λ i l. c.load-high.ensures.each i l ∙ ap (λ k. slice_index before (k + i)) c.with_bit.ensures ∙ ap (slice_index before) (sym (with-block block i c.args.var true l c.requires.var.0)) in
    let low : (i : ℕ) → i < 4 → slice_index c.load-low.result i ≡ slice_index before (index_with (at + i) c.args.var false) =
    λ i l. c.load-low.ensures.each i l ∙ ap (λ k. slice_index before (k + i)) c.without_bit.ensures ∙ ap (slice_index before) (sym (with-block block i c.args.var false l c.requires.var.0)) in
    block-step (either (slice_index before) c.args.var) c.loop-block.words c.store.new.words block c.loop-block.invariant
    (λ i l. c.store.ensures.each i l ∙ c.join_lanes.ensures.each i l
    ∙ ap (λ a. bit_or a (slice_index c.load-low.result i)) (high i l)
    ∙ ap (bit_or (slice_index before (index_with (at + i) c.args.var true))) (low i l))
    c.store.ensures.below
