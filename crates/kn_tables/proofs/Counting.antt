-- "At least so many" of a list, with one element more.
use Rattle.std.proofs.Common.{◌≡◌, ℕ, zero, suc, ◌+◌, ◌-◌, ◌*◌, ◌^◌, ◌≤◌, ◌<◌, ◌⊎◌, inl, inr, Bool, true, false, ◌&&◌, ◌||◌, cond, bit_and, bit_or, List, take, length, replicate, set, get_or, refl, sym, ap, ap₂, ◌∙◌, arith}
use Rattle.std.specs.Prelude.{count_by, nat_le, slice_index}
use Rattle.std.proofs.lemmas.Bool.{cases_lt, le-leb, lt-leb}
use Rattle.std.proofs.lemmas.List.Sums.{sum_by_more}
use Rattle.kn_tables.specs.declared.literal.TableLit.{TableLit}
use Rattle.kn_tables.specs.Indices.{has_bit}
use Rattle.kn_tables.specs.Tables.{is_true_at}
use Rattle.kn_tables.specs.Words.{HasValues}
use Rattle.kn_tables.proofs.Bits.{has_bit-and, has_bit-or, has_bit-zero, has_bit-ones}

or-right-true : (b : Bool) → (b || true) ≡ true
or-right-true true = refl
or-right-true false = refl

or-right-false : (b : Bool) → (b || false) ≡ b
or-right-false true = refl
or-right-false false = refl

and-right-false : (b : Bool) → (b && false) ≡ false
and-right-false true = refl
and-right-false false = refl

and-right-true : (b : Bool) → (b && true) ≡ b
and-right-true true = refl
and-right-true false = refl

-- one more, or not
one-more : (k c : ℕ) (b : Bool) → (nat_le (k + 1) c || (nat_le k c && b)) ≡ nat_le (k + 1) (c + cond b 1 0)
one-more k c false =
    ap (λ x. nat_le (k + 1) c || x) (and-right-false (nat_le k c)) ∙ or-right-false (nat_le (k + 1) c) ∙ ap (nat_le (k + 1)) {x = c} {y = c + 0} (omega arith)
one-more k c true = ap (λ x. nat_le (k + 1) c || x) (and-right-true (nat_le k c)) ∙ by (cases_lt c k)
  where
    by : ((c < k) ⊎ (k ≤ c)) → (nat_le (k + 1) c || nat_le k c) ≡ nat_le (k + 1) (c + 1)
    by (inl less) = ap₂ (λ x y. x || y) (lt-leb (k + 1) c (omega (arith, less))) (lt-leb k c less) ∙ sym (lt-leb (k + 1) (c + 1) (omega (arith, less)))
    by (inr more) = ap (λ x. nat_le (k + 1) c || x) (le-leb k c more) ∙ or-right-true (nat_le (k + 1) c) ∙ sym (le-leb (k + 1) (c + 1) (omega (arith, more)))

-- the word of the next number
pub next-word : (lits : List TableLit) (n place k : ℕ) (d : TableLit) (here below word new : ℕ) → n < length lits
    → HasValues (λ i. nat_le (k + 1) (count_by (is_true_at i) (take n lits))) place here → HasValues (λ i. nat_le k (count_by (is_true_at i) (take n lits))) place below
    → HasValues (λ i. is_true_at i (get_or lits n d)) place word → new ≡ bit_or here (bit_and below word)
    → HasValues (λ i. nat_le (k + 1) (count_by (is_true_at i) (take (n + 1) lits))) place new
next-word lits n place k d here below word new low hs bs ws is p q =
    let i = 64 * place + p in
    ap (λ w. has_bit w p) is ∙ has_bit-or here (bit_and below word) p ∙ ap (λ b. has_bit here p || b) (has_bit-and below word p)
    ∙ ap₂ (λ x y. x || y) (hs p q) (ap₂ (λ x y. x && y) (bs p q) (ws p q))
    ∙ one-more k (count_by (is_true_at i) (take n lits)) (is_true_at i (get_or lits n d))
    ∙ ap (nat_le (k + 1)) (sym (sum_by_more (λ t. cond {A = ℕ} (is_true_at i t) 1 0) lits n d low))

-- the words before any literal
pub first-word : (lits : List TableLit) (place j : ℕ) → HasValues (λ i. nat_le j (count_by (is_true_at i) (take 0 lits))) place (slice_index (set (replicate 13 0) 0 (2 ^ 64 - 1)) j)
first-word lits place zero p q = has_bit-ones p q ∙ sym (le-leb 0 0 (omega arith))
first-word lits place (suc k) p q = ap (λ w. has_bit w p) (none-at 12 k) ∙ has_bit-zero p ∙ sym (lt-leb (suc k) 0 (omega arith))
  where
    none-at : (m k : ℕ) → slice_index (replicate m 0) k ≡ 0
    none-at zero k = refl
    none-at (suc m) zero = refl
    none-at (suc m) (suc k) = none-at m k

-- the word of none stays
pub none-word : (lits : List TableLit) (n m place old new : ℕ) → HasValues (λ i. nat_le 0 (count_by (is_true_at i) (take n lits))) place old → new ≡ old
    → HasValues (λ i. nat_le 0 (count_by (is_true_at i) (take m lits))) place new
none-word lits n m place old new h is p q =
    let i = 64 * place + p in
    ap (λ w. has_bit w p) is ∙ h p q ∙ le-leb 0 (count_by (is_true_at i) (take n lits)) (omega arith) ∙ sym (le-leb 0 (count_by (is_true_at i) (take m lits)) (omega arith))
