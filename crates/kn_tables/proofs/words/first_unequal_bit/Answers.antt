use Rattle.std.proofs.Common.{◌≡◌, ◌≢◌, ◌<◌, ℕ, inl, inr, eqb, bit_xor, ap, ◌∙◌, sym, arith}
use Rattle.std.specs.Int.{bit_at, w64}
use Rattle.std.proofs.lemmas.Bool.{cases_eq}
use Rattle.std.proofs.lemmas.Nat.{xor_lt}
use Rattle.std.proofs.lemmas.Nat.Bits.{bit_at_xor, bit_at-zero, bit_at-lt, bit_at-trailing_zeros, same_from_bits}
use Rattle.kn_tables.proofs.Bits.{same_test}
use Rattle.kn_tables.proofs.words.first_unequal_bit.Goals as goal

-- where a bit of the difference is 0 the two are alike
alike : (a b i : ℕ) → bit_at (bit_xor a b) i ≡ 0 → bit_at a i ≡ bit_at b i
alike a b i e = omega (arith, bit_at-lt a i, bit_at-lt b i, sym (bit_at_xor a b i) ∙ e)

above : (a b : ℕ) → a ≢ b → 0 < bit_xor a b
above a b ne =
    elim (cases_eq (bit_xor a b) 0) [
      | inl e ↦ absurd (ne (same_from_bits a b (λ i. alike a b i (ap (λ n. bit_at n i) e ∙ bit_at-zero i))))
      | inr more ↦ omega (arith, more)
    ]

pub returns-clause-within : goal.returns-clause-within
returns-clause-within c =
    (bit_at-trailing_zeros w64 (bit_xor c.args.word c.args.other) (above c.args.word c.args.other c.requires) (xor_lt 64 c.args.word c.args.other c.ranges.word.fits c.ranges.other.fits)).0

pub returns-clause-differs : goal.returns-clause-differs
returns-clause-differs c e =
    let a = c.args.word in
    let b = c.args.other in
    let facts = bit_at-trailing_zeros w64 (bit_xor a b) (above a b c.requires) (xor_lt 64 a b c.ranges.word.fits c.ranges.other.fits) in
    omega (arith, sym (bit_at_xor a b _) ∙ facts.1, same_test _ _ (bit_at-lt a _) (bit_at-lt b _) e)

pub returns-clause-before : goal.returns-clause-before
returns-clause-before c p h =
    let a = c.args.word in
    let b = c.args.other in
    let facts = bit_at-trailing_zeros w64 (bit_xor a b) (above a b c.requires) (xor_lt 64 a b c.ranges.word.fits c.ranges.other.fits) in
    ap (λ n. eqb n 1) (alike a b p (facts.2 p h))
