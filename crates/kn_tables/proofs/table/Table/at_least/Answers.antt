use Rattle.std.proofs.Common.{◌<◌, length, length-set, arith, ◌∙◌}
use Rattle.std.specs.Prelude.{nat_le, count_by}
use Rattle.kn_tables.specs.Tables.{is_true_at}
use Rattle.kn_tables.proofs.Tabled.{table-by_words, filled-more}
use Rattle.kn_tables.proofs.table.Table.at_least.Goals as goal

pub loop-place-preserved : goal.loop-place-preserved
loop-place-preserved c =
    let within : c.loop-place.place < length c.loop-place.words = omega (arith, c.loop-place.invariant.whole, c.word_count-place-end.ensures.most, c.loop-place-test.true) in
    record {
      whole = length-set c.loop-place.words c.loop-place.place c.count_word.result ∙ c.loop-place.invariant.whole;
      values = filled-more (λ i. nat_le c.args.bound (count_by (is_true_at i) c.args.lits.now)) c.loop-place.words c.loop-place.place c.count_word.result within c.loop-place.invariant.values c.count_word.ensures;
    }

pub returns : goal.returns
returns c =
    table-by_words c.args.n _ c.loop-place.words c.requires.few
    (λ k h. c.loop-place.invariant.values k (omega (arith, h, c.word_count-place-end.ensures.count, c.loop-place-test.false)))
