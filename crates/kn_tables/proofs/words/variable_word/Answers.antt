use Rattle.std.proofs.Common.{◌-◌, ◌∙◌, sym}
use Rattle.std.proofs.lemmas.Bool.{eq-eqb, ne_eqb}
use Rattle.std.proofs.lemmas.Nat.Bits.{shr_and_one}
use Rattle.kn_tables.proofs.Bits.{has_bit-ones, has_bit-zero}
use Rattle.kn_tables.proofs.Places.{pattern-is, place-low, place-high}
use Rattle.kn_tables.proofs.words.variable_word.Goals as goal

pub returns-then-var-lt6 : goal.returns-then-var-lt6
returns-then-var-lt6 c p q =
    pattern-is c.args.var p c.if-var-lt6.true q ∙ sym (place-low c.args.place p c.args.var q c.if-var-lt6.true)

pub returns-then-place-var-eq1 : goal.returns-then-place-var-eq1
returns-then-place-var-eq1 c p q =
    has_bit-ones p q
    ∙ sym (place-high c.args.place p c.args.var q c.if-var-lt6.false
    ∙ eq-eqb _ 1 (sym (shr_and_one c.args.place (c.args.var - 6)) ∙ c.if-place-var-eq1.true))

pub returns-else-place-var-eq1 : goal.returns-else-place-var-eq1
returns-else-place-var-eq1 c p q =
    has_bit-zero p
    ∙ sym (place-high c.args.place p c.args.var q c.if-var-lt6.false
    ∙ ne_eqb _ 1 (λ e. c.if-place-var-eq1.false (shr_and_one c.args.place (c.args.var - 6) ∙ e)))
