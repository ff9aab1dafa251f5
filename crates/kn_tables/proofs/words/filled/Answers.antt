use Rattle.std.proofs.Common.{◌-◌, ◌^◌, ap, sym, ◌∙◌}
use Rattle.std.proofs.lemmas.Simd.{get_or-replicate}
use Rattle.kn_tables.specs.Indices.{has_bit}
use Rattle.kn_tables.proofs.Bits.{has_bit-ones, has_bit-zero}
use Rattle.kn_tables.proofs.words.filled.Goals as goal

pub returns-then-value : goal.returns-then-value
returns-then-value c k h p q = ap (λ w. has_bit w p) (get_or-replicate 64 k (2 ^ 64 - 1) 0 h) ∙ has_bit-ones p q ∙ sym c.if-value.true

pub returns-else-value : goal.returns-else-value
returns-else-value c k h p q = ap (λ w. has_bit w p) (get_or-replicate 64 k 0 0 h) ∙ has_bit-zero p ∙ sym c.if-value.false
