use Rattle.std.proofs.Common.{◌+◌, ◌*◌, ◌||◌, ap, ◌∙◌, sym, take, arith}
use Rattle.std.specs.List.{list_any}
use Rattle.std.proofs.lemmas.List.Folds.{list_any_more}
use Rattle.kn_tables.specs.Indices.{has_bit}
use Rattle.kn_tables.specs.Tables.{is_true_at}
use Rattle.kn_tables.proofs.Bits.{has_bit-or}
use Rattle.kn_tables.proofs.words.clause_word.Goals as goal

pub loop-lit-preserved : goal.loop-lit-preserved
loop-lit-preserved c p q =
    let test = is_true_at (64 * c.args.place + p) in
    has_bit-or c.loop-lit.word c.literal_word-word.result p
    ∙ ap (λ b. b || has_bit c.literal_word-word.result p) (c.loop-lit.invariant p q)
    ∙ ap (λ b. list_any test (take c.loop-lit.lit-index c.args.lits.now) || b) (c.literal_word-word.ensures p q)
    ∙ sym (list_any_more test c.args.lits.now c.loop-lit.lit-index _ (omega arith))
