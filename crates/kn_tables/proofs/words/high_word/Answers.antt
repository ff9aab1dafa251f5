use Rattle.std.proofs.Common.{◌≡◌, ◌≢◌, ◌+◌, ◌*◌, ◌&&◌, inl, inr, ℕ, Bool, eqb, ap, ◌∙◌, sym, subst, refl, arith}
use Rattle.std.specs.Prelude.{nat_lt, nat_le, count_by}
use Rattle.std.specs.Int.{w64}
use Rattle.std.proofs.lemmas.Bool.{cases_eq, cases_lt, lt-ltb, le-ltb, le-leb, lt-leb}
use Rattle.std.proofs.lemmas.Nat.Bits.{bit_at_set_same, bit_at_set_other}
use Rattle.kn_tables.specs.Indices.{has_bit}
use Rattle.kn_tables.specs.Tables.{is_true_at}
use Rattle.kn_tables.proofs.words.high_word.Goals as goal
use Rattle.kn_tables.proofs.words.high_word.Goals.{then-bound-true_count, else-bound-true_count}

same_below : (p bit : ℕ) → p ≢ bit → nat_lt p bit ≡ nat_lt p (bit + 1)
same_below p bit ne =
    elim (cases_lt p bit) [
      | inl below ↦ lt-ltb p bit below ∙ sym (lt-ltb p (bit + 1) (omega arith))
      | inr above ↦ le-ltb p bit above ∙ sym (le-ltb p (bit + 1) (omega (arith, ne)))
    ]

step : (test : ℕ → Bool) (word new bit p : ℕ) → has_bit word p ≡ (nat_lt p bit && test p)
    → has_bit new bit ≡ test bit → (p ≢ bit → has_bit new p ≡ has_bit word p) → has_bit new p ≡ (nat_lt p (bit + 1) && test p)
step test word new bit p before same other =
    elim (cases_eq p bit) [
      | inl e ↦ subst (λ m. has_bit new m ≡ (nat_lt m (bit + 1) && test m)) (sym e)
          (same ∙ sym (ap (λ b. b && test bit) (lt-ltb bit (bit + 1) (omega arith))))
      | inr ne ↦ other ne ∙ before ∙ ap (λ b. b && test p) (same_below p bit ne)
    ]

pub loop-bit-preserved : goal.loop-bit-preserved
loop-bit-preserved c p q =
    let test : ℕ → Bool = λ i. nat_le c.args.bound (count_by (is_true_at (64 * c.args.place + i)) c.args.lits.now) in
    let bit = c.loop-bit.bit in
    let word = c.loop-bit.word in
    let counted = c.true_count.ensures in
    let own = c.loop-bit.invariant bit (omega arith) ∙ ap (λ b. b && test bit) (le-ltb bit bit (omega arith)) in
    elim c.if-bound-true_count.branch [
      | then-bound-true_count w ↦
          subst (λ new. has_bit new p ≡ (nat_lt p (bit + 1) && test p)) (sym w.word-is)
          (step test word _ bit p (c.loop-bit.invariant p q)
          (ap (λ m. eqb m 1) (bit_at_set_same w64 word bit (omega arith)) ∙ sym (ap (nat_le c.args.bound) (sym counted) ∙ le-leb _ _ w.if-bound-true_count.true))
          (λ ne. ap (λ m. eqb m 1) (bit_at_set_other w64 word bit (omega arith) p ne)))
      | else-bound-true_count w ↦
          subst (λ new. has_bit new p ≡ (nat_lt p (bit + 1) && test p)) (sym w.word-is)
          (step test word _ bit p (c.loop-bit.invariant p q)
          (own ∙ sym (ap (nat_le c.args.bound) (sym counted) ∙ lt-leb _ _ w.if-bound-true_count.false))
          (λ ne. refl))
    ]
