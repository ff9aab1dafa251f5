use Rattle.std.proofs.Common.{not, ap, ◌∙◌, sym, cond, ◌+◌, ◌*◌}
use Rattle.kn_tables.specs.Indices.{has_bit}
use Rattle.kn_tables.proofs.Bits.{has_bit-not}
use Rattle.kn_tables.proofs.words.literal_word.Goals as goal

pub returns-else-lit : goal.returns-else-lit
returns-else-lit c p q =
    let value = has_bit (64 * c.args.place + p) c.args.lit.var in
    has_bit-not c.variable_word-word.result p c.variable_word-word.type_inv q
    ∙ ap not (c.variable_word-word.ensures p q)
    ∙ sym (ap (λ b. cond b value (not value)) c.if-lit.false)
