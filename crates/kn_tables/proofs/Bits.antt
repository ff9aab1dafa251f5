-- One bit of what the operations on numbers give, and of an index with a value.
use Rattle.std.proofs.Common.{◌≡◌, ℕ, ◌+◌, ◌-◌, ◌*◌, ◌/◌, ◌%◌, ◌^◌, ◌<◌, ◌≤◌, ◌≢◌, ◌⊎◌, inl, inr, min, max, Bool, true, false, not, ◌&&◌, ◌||◌, cond, eqb, bit_and, bit_or, refl, sym, ap, ◌∙◌, subst, arith}
use Rattle.std.specs.Prelude.{◌==◌, if◌then◌else◌}
use Rattle.std.specs.Int.{bit_at, w64}
use Rattle.std.proofs.lemmas.Bool.{cases_eq, cases_lt, eq-eqb, ne_eqb, true≢false}
use Rattle.std.proofs.lemmas.Nat.{shr-shr, pow_pos, pow-add, div-add-mod', mod_below}
use Rattle.std.proofs.lemmas.Nat.Bits.{bit_at_and, bit_at_or, bit_at_not, bit_at-lt, bit_at-zero, bit_at_ones, bit_at_cat_low, bit_at_cat_high, bit_at_above, same_from_bits}
use Rattle.kn_tables.specs.Indices.{has_bit, index_with}

low_cases : (n : ℕ) → n < 2 → (n ≡ 0) ⊎ (n ≡ 1)
low_cases n low = elim (cases_eq n 0) [ inl e ↦ inl e | inr ne ↦ inr (omega (arith, ne)) ]

and_test : (x y : ℕ) → x < 2 → y < 2 → (min x y == 1) ≡ ((x == 1) && (y == 1))
and_test x y p q =
    elim (low_cases x p) [
      | inl e ↦ elim (low_cases y q) [ inl f ↦ rw e (rw f refl) | inr f ↦ rw e (rw f refl) ]
      | inr e ↦ elim (low_cases y q) [ inl f ↦ rw e (rw f refl) | inr f ↦ rw e (rw f refl) ]
    ]

or_test : (x y : ℕ) → x < 2 → y < 2 → (max x y == 1) ≡ ((x == 1) || (y == 1))
or_test x y p q =
    elim (low_cases x p) [
      | inl e ↦ elim (low_cases y q) [ inl f ↦ rw e (rw f refl) | inr f ↦ rw e (rw f refl) ]
      | inr e ↦ elim (low_cases y q) [ inl f ↦ rw e (rw f refl) | inr f ↦ rw e (rw f refl) ]
    ]

not_test : (x : ℕ) → x < 2 → (1 - x == 1) ≡ not (x == 1)
not_test x p = elim (low_cases x p) [ inl e ↦ rw e refl | inr e ↦ rw e refl ]

pub same_test : (x y : ℕ) → x < 2 → y < 2 → (x == 1) ≡ (y == 1) → x ≡ y
same_test x y p q h =
    elim (low_cases x p) [
      | inl e ↦ elim (low_cases y q) [
        | inl f ↦ e ∙ sym f
        | inr f ↦ absurd (true≢false (sym (eq-eqb y 1 f) ∙ sym h ∙ ap (λ n. eqb n 1) e))
      ]
      | inr e ↦ elim (low_cases y q) [
        | inl f ↦ absurd (true≢false (sym (eq-eqb x 1 e) ∙ h ∙ ap (λ n. eqb n 1) f))
        | inr f ↦ e ∙ sym f
      ]
    ]

pub has_bit-and : (a b i : ℕ) → has_bit (bit_and a b) i ≡ (has_bit a i && has_bit b i)
has_bit-and a b i = ap (λ n. eqb n 1) (bit_at_and a b i) ∙ and_test (bit_at a i) (bit_at b i) (bit_at-lt a i) (bit_at-lt b i)

pub has_bit-or : (a b i : ℕ) → has_bit (bit_or a b) i ≡ (has_bit a i || has_bit b i)
has_bit-or a b i = ap (λ n. eqb n 1) (bit_at_or a b i) ∙ or_test (bit_at a i) (bit_at b i) (bit_at-lt a i) (bit_at-lt b i)

pub has_bit-not : (n i : ℕ) → n < 2 ^ 64 → i < 64 → has_bit (2 ^ 64 - 1 - n) i ≡ not (has_bit n i)
has_bit-not n i p q = ap (λ m. eqb m 1) (bit_at_not w64 n i p q) ∙ not_test (bit_at n i) (bit_at-lt n i)

pub has_bit-zero : (i : ℕ) → has_bit 0 i ≡ false
has_bit-zero i = ap (λ n. eqb n 1) (bit_at-zero i)

pub has_bit-ones : (i : ℕ) → i < 64 → has_bit (2 ^ 64 - 1) i ≡ true
has_bit-ones i p = ap (λ n. eqb n 1) (bit_at_ones 64 i p)

-- two numbers with the same bits are one
pub same_from_has_bits : (a b : ℕ) → ((i : ℕ) → has_bit a i ≡ has_bit b i) → a ≡ b
same_from_has_bits a b h = same_from_bits a b (λ i. same_test (bit_at a i) (bit_at b i) (bit_at-lt a i) (bit_at-lt b i) (h i))

pub has_bit-above : (n k i : ℕ) → n < 2 ^ k → k ≤ i → has_bit n i ≡ false
has_bit-above n k i p q = ap (λ m. eqb m 1) (bit_at_above n k i p q)

-- the bits of a number that is put together of high and low ones
pub has_bit-low : (a k b i : ℕ) → i < k → has_bit (a * 2 ^ k + b) i ≡ has_bit b i
has_bit-low a k b i p = ap (λ m. eqb m 1) (bit_at_cat_low a k b i p)

pub has_bit-high : (a k b i : ℕ) → b < 2 ^ k → k ≤ i → has_bit (a * 2 ^ k + b) i ≡ has_bit a (i - k)
has_bit-high a k b i p q = ap (λ m. eqb m 1) (bit_at_cat_high a k b i p q)

pub has_bit-div : (n k i : ℕ) → has_bit (n / 2 ^ k) i ≡ has_bit n (k + i)
has_bit-div n k i = ap (λ m. eqb (m % 2) 1) (shr-shr n k i)

pub has_bit-mod : (n k i : ℕ) → i < k → has_bit (n % 2 ^ k) i ≡ has_bit n i
has_bit-mod n k i p =
    sym (has_bit-low (n / 2 ^ k) k (n % 2 ^ k) i p) ∙ ap (λ m. has_bit m i) (div-add-mod' n (2 ^ k))

-- ---- an index with a value

low_part : ℕ → ℕ → Bool → ℕ
low_part i j value = (if value then 2 ^ j else 0) + i % 2 ^ j

low_below : (i j : ℕ) (value : Bool) → low_part i j value < 2 ^ (j + 1)
unfolding low_part
low_below i j true = omega (arith, mod_below i (2 ^ j) (pow_pos j), pow-add 2 j 1)
low_below i j false = omega (arith, mod_below i (2 ^ j) (pow_pos j), pow-add 2 j 1)

low_same : (i j : ℕ) (value : Bool) → has_bit (low_part i j value) j ≡ value
unfolding low_part
low_same i j true =
    let e : 2 ^ j + i % 2 ^ j ≡ 1 * 2 ^ j + i % 2 ^ j = omega arith in
    ap (λ m. has_bit m j) e ∙ has_bit-high 1 j (i % 2 ^ j) j (mod_below i (2 ^ j) (pow_pos j)) (omega arith)
    ∙ ap (λ m. has_bit 1 m) {x = j - j} {y = 0} (omega arith)
low_same i j false =
    let e : 0 + i % 2 ^ j ≡ 0 * 2 ^ j + i % 2 ^ j = omega arith in
    ap (λ m. has_bit m j) e ∙ has_bit-high 0 j (i % 2 ^ j) j (mod_below i (2 ^ j) (pow_pos j)) (omega arith) ∙ has_bit-zero (j - j)

low_other : (i j : ℕ) (value : Bool) (k : ℕ) → k < j → has_bit (low_part i j value) k ≡ has_bit i k
unfolding low_part
low_other i j true k h =
    let e : 2 ^ j + i % 2 ^ j ≡ 1 * 2 ^ j + i % 2 ^ j = omega arith in
    ap (λ m. has_bit m k) e ∙ has_bit-low 1 j (i % 2 ^ j) k h ∙ has_bit-mod i j k h
low_other i j false k h =
    let e : 0 + i % 2 ^ j ≡ 0 * 2 ^ j + i % 2 ^ j = omega arith in
    ap (λ m. has_bit m k) e ∙ has_bit-low 0 j (i % 2 ^ j) k h ∙ has_bit-mod i j k h

with_is : (i j : ℕ) (value : Bool) → index_with i j value ≡ i / 2 ^ (j + 1) * 2 ^ (j + 1) + low_part i j value
unfolding low_part
with_is i j value = refl

pub has_bit-with_same : (i j : ℕ) (value : Bool) → has_bit (index_with i j value) j ≡ value
has_bit-with_same i j value =
    ap (λ m. has_bit m j) (with_is i j value)
    ∙ has_bit-low (i / 2 ^ (j + 1)) (j + 1) (low_part i j value) j (omega arith) ∙ low_same i j value

above_other : (i j : ℕ) (value : Bool) (k : ℕ) → j < k → has_bit (index_with i j value) k ≡ has_bit i k
above_other i j value k h =
    let high = i / 2 ^ (j + 1) in
    ap (λ m. has_bit m k) (with_is i j value)
    ∙ has_bit-high high (j + 1) (low_part i j value) k (low_below i j value) (omega arith)
    ∙ sym (has_bit-high high (j + 1) (i % 2 ^ (j + 1)) k (mod_below i (2 ^ (j + 1)) (pow_pos (j + 1))) (omega arith))
    ∙ ap (λ m. has_bit m k) (div-add-mod' i (2 ^ (j + 1)))

pub has_bit-with_other : (i j : ℕ) (value : Bool) (k : ℕ) → k ≢ j → has_bit (index_with i j value) k ≡ has_bit i k
has_bit-with_other i j value k ne =
    elim (cases_lt k j) [
      | inl below ↦ ap (λ m. has_bit m k) (with_is i j value)
          ∙ has_bit-low (i / 2 ^ (j + 1)) (j + 1) (low_part i j value) k (omega arith) ∙ low_other i j value k below
      | inr above ↦ above_other i j value k (omega (arith, ne))
    ]

pub has_bit-with : (i j : ℕ) (value : Bool) (k : ℕ) → has_bit (index_with i j value) k ≡ (if k == j then value else has_bit i k)
has_bit-with i j value k =
    elim (cases_eq k j) [
      | inl e ↦ subst (λ m. has_bit (index_with i j value) m ≡ (if m == j then value else has_bit i m)) (sym e)
          (has_bit-with_same i j value ∙ sym (ap (λ b. cond b value (has_bit i j)) (eq-eqb j j refl)))
      | inr ne ↦ has_bit-with_other i j value k ne ∙ sym (ap (λ b. cond b value (has_bit i k)) (ne_eqb k j ne))
    ]

-- an index with its own value
pub with_own : (i j : ℕ) → index_with i j (has_bit i j) ≡ i
with_own i j = same_from_has_bits (index_with i j (has_bit i j)) i
    (λ k. elim (cases_eq k j) [
      | inl e ↦ subst (λ m. has_bit (index_with i j (has_bit i j)) m ≡ has_bit i m) (sym e) (has_bit-with_same i j (has_bit i j))
      | inr ne ↦ has_bit-with_other i j (has_bit i j) k ne
    ])

pub with_true : (i j : ℕ) → index_with i j true ≡ index_with i j false + 2 ^ j
with_true i j = omega arith

-- where the variable is false
pub with_false_own : (i j : ℕ) → has_bit i j ≡ false → index_with i j false ≡ i
with_false_own i j e = subst (λ b. index_with i j b ≡ i) e (with_own i j)

pub with_true_own : (i j : ℕ) → has_bit i j ≡ true → index_with i j true ≡ i
with_true_own i j e = subst (λ b. index_with i j b ≡ i) e (with_own i j)
