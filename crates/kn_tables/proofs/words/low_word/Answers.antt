use Rattle.std.proofs.Common.{ℕ, zero, suc, ◌+◌, ◌≤◌, take, refl, subst, ◌∙◌, arith}
use Rattle.std.specs.Prelude.{count_by, nat_le, slice_index}
use Rattle.kn_tables.specs.Tables.{is_true_at}
use Rattle.kn_tables.specs.Words.{HasValues}
use Rattle.kn_tables.proofs.Counting.{first-word, next-word, none-word}
use Rattle.kn_tables.proofs.words.low_word.Goals as goal

pub loop-lit-init : goal.loop-lit-init
loop-lit-init c = record {
  long = refl;
  values = λ j low. first-word c.args.lits.now c.args.place j;
}

pub loop-lit-preserved : goal.loop-lit-preserved
loop-lit-preserved c = record {
  long = c.count_in.ensures.long ∙ c.loop-lit.invariant.long;
  values = at;
}
  where
    at : (j : ℕ) → j ≤ c.args.bound → HasValues (λ i. nat_le j (count_by (is_true_at i) (take (c.loop-lit.lit-index + 1) c.args.lits.now))) c.args.place (slice_index c.count_in.new.words j)
    at zero low =
        none-word c.args.lits.now c.loop-lit.lit-index (c.loop-lit.lit-index + 1) c.args.place (slice_index c.loop-lit.words 0) (slice_index c.count_in.new.words 0) (c.loop-lit.invariant.values 0 (omega arith)) c.count_in.ensures.first
    at (suc k) low =
        subst (λ j. HasValues (λ i. nat_le j (count_by (is_true_at i) (take (c.loop-lit.lit-index + 1) c.args.lits.now))) c.args.place (slice_index c.count_in.new.words j)) {x = k + 1} {y = suc k} (omega arith)
        (next-word c.args.lits.now c.loop-lit.lit-index c.args.place k _ (slice_index c.loop-lit.words (k + 1)) (slice_index c.loop-lit.words k) c.literal_word-word.result (slice_index c.count_in.new.words (k + 1))
        (omega (arith, c.loop-lit-test.true)) (c.loop-lit.invariant.values (k + 1) (omega (arith, low))) (c.loop-lit.invariant.values k (omega (arith, low)))
        c.literal_word-word.ensures (c.count_in.ensures.more k (omega (arith, low))))
