use Rattle.std.proofs.Common.{◌≡◌, ◌<◌, ◌≤◌, ◌+◌, ◌*◌, ◌^◌, ℕ, ap, subst, sym, ◌∙◌, refl, arith}
use Rattle.std.proofs.lemmas.Bool.{true≢false}
use Rattle.std.proofs.lemmas.Nat.{one_shl}
use Rattle.std.specs.Prelude.{slice_index}
use Rattle.kn_tables.specs.Words.{bit_in, table_in, words_of}
use Rattle.kn_tables.specs.Tables.{IsFirstDifference, value_at}
use Rattle.kn_tables.proofs.Tabled.{tables-same, same-before, same-words, first-is}
use Rattle.kn_tables.proofs.table.Table.first_difference.Goals as goal

pub returns-then-place-count-clause-none : goal.returns-then-place-count-clause-none
returns-then-place-count-clause-none c =
    let n = c.self.inside.vars in
    let a = c.self.inside.words in
    let b = c.other.inside.words in
    let e : n ≡ c.other.inside.vars = ap (λ t. t.vars) c.self.view_is ∙ c.requires ∙ sym (ap (λ t. t.vars) c.other.view_is) in
    let words : (k : ℕ) → k < words_of n → slice_index a k ≡ slice_index b k = λ k h. c.equal_words-place.ensures.equal k (omega (arith, h, c.if-place-count.true, c.word_count-count.ensures.count)) in
    (λ _. sym c.self.view_is ∙ tables-same n c.other.inside.vars a b e (same-words a b n c.self.invariant words) ∙ c.other.view_is, λ _. refl)

pub returns-then-index-self-clause-some : goal.returns-then-index-self-clause-some
returns-then-index-self-clause-some c =
    let n = c.self.inside.vars in
    let m = c.other.inside.vars in
    let a = c.self.inside.words in
    let b = c.other.inside.words in
    let place = c.equal_words-place.result in
    let bit = c.first_unequal_bit-bit.result in
    let e : n ≡ m = ap (λ t. t.vars) c.self.view_is ∙ c.requires ∙ sym (ap (λ t. t.vars) c.other.view_is) in
    let few : 64 * place + bit < 2 ^ n = omega (arith, c.if-index-self.true, one_shl n 16 (omega (arith, c.self.invariant))) in
    subst (λ t. IsFirstDifference t c.args.other.now (64 * place + bit)) c.self.view_is
    (subst (λ u. IsFirstDifference (table_in n a) u (64 * place + bit)) c.other.view_is
    (first-is n m a b place bit e c.first_unequal_bit-bit.ensures.within c.equal_words-place.ensures.equal c.first_unequal_bit-bit.ensures.differs c.first_unequal_bit-bit.ensures.before few))

pub returns-then-index-self-clause-none : goal.returns-then-index-self-clause-none
returns-then-index-self-clause-none c =
    let n = c.self.inside.vars in
    let m = c.other.inside.vars in
    let a = c.self.inside.words in
    let b = c.other.inside.words in
    let place = c.equal_words-place.result in
    let bit = c.first_unequal_bit-bit.result in
    let e : n ≡ m = ap (λ t. t.vars) c.self.view_is ∙ c.requires ∙ sym (ap (λ t. t.vars) c.other.view_is) in
    let few : 64 * place + bit < 2 ^ n = omega (arith, c.if-index-self.true, one_shl n 16 (omega (arith, c.self.invariant))) in
    let first = first-is n m a b place bit e c.first_unequal_bit-bit.ensures.within c.equal_words-place.ensures.equal c.first_unequal_bit-bit.ensures.differs c.first_unequal_bit-bit.ensures.before few in
    (λ h. absurd (true≢false h), λ h. absurd (first.differs (ap (λ t. value_at t (64 * place + bit)) (c.self.view_is ∙ h ∙ sym c.other.view_is))))

pub returns-else-index-self-clause-none : goal.returns-else-index-self-clause-none
returns-else-index-self-clause-none c =
    let n = c.self.inside.vars in
    let m = c.other.inside.vars in
    let a = c.self.inside.words in
    let b = c.other.inside.words in
    let place = c.equal_words-place.result in
    let bit = c.first_unequal_bit-bit.result in
    let e : n ≡ m = ap (λ t. t.vars) c.self.view_is ∙ c.requires ∙ sym (ap (λ t. t.vars) c.other.view_is) in
    let more : 2 ^ n ≤ 64 * place + bit = omega (arith, c.if-index-self.false, one_shl n 16 (omega (arith, c.self.invariant))) in
    let same : (i : ℕ) → i < 2 ^ n → bit_in a i ≡ bit_in b i = λ i h. same-before a b place bit c.first_unequal_bit-bit.ensures.within c.equal_words-place.ensures.equal c.first_unequal_bit-bit.ensures.before i (omega (arith, h, more)) in
    (λ _. sym c.self.view_is ∙ tables-same n m a b e same ∙ c.other.view_is, λ _. refl)
