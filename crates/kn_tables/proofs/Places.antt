-- Where an index stands in the words of a table, and what a word's bits are.
use Rattle.std.proofs.Common.{◌≡◌, ℕ, ◌+◌, ◌-◌, ◌*◌, ◌/◌, ◌%◌, ◌^◌, ◌<◌, ◌≤◌, inl, inr, Bool, true, false, not, ◌&&◌, ◌||◌, cond, eqb, bit_and, bit_or, refl, sym, ap, ◌∙◌, subst, arith}
use Rattle.std.specs.Prelude.{slice_index}
use Rattle.std.proofs.lemmas.Bool.{cases_lt, cases_Bool, cases_eq, cond-true, cond-false, le-leb, lt-leb, eq-eqb, ne_eqb, agree_below, agree_below_at, true≢false}
use Rattle.std.specs.Int.{w64}
use Rattle.std.proofs.lemmas.Nat.Bits.{bit_at_set_same, bit_at_set_other, bit_at_clear_same, bit_at_clear_other}
use Rattle.std.proofs.lemmas.Nat.{and_le_l, pow_pos, pow-add, div-add-mod', div-mul-add, mod-mul-add, mod_below, div_below}
use Rattle.std.proofs.Math.Nat.{pow-le-pow_right}
use Rattle.kn_tables.specs.Indices.{has_bit, index_with}
use Rattle.kn_tables.specs.Tables.{some_value_at}
use Rattle.kn_tables.specs.Words.{words_of, folded}
use Rattle.kn_tables.specs.declared.quantify.TheConstants.{LOW_MASKS}
use Rattle.kn_tables.specs.declared.words.TheConstants.{PATTERNS}
use Rattle.kn_tables.proofs.Bits.{has_bit-and, has_bit-or, has_bit-zero, has_bit-above, has_bit-low, has_bit-high, has_bit-div, has_bit-mod, same_from_has_bits, has_bit-with, has_bit-with_same, has_bit-with_other, with_true, with_false_own, with_true_own}

-- ---- the bit p of the word at place k is the index 64 k + p

place_as : (k p : ℕ) → 64 * k + p ≡ k * 2 ^ 6 + p
place_as k p = omega arith

pub place-low : (k p j : ℕ) → p < 64 → j < 6 → has_bit (64 * k + p) j ≡ has_bit p j
place-low k p j _ h = ap (λ m. has_bit m j) (place_as k p) ∙ has_bit-low k 6 p j h

pub place-high : (k p j : ℕ) → p < 64 → 6 ≤ j → has_bit (64 * k + p) j ≡ has_bit k (j - 6)
place-high k p j q h = ap (λ m. has_bit m j) (place_as k p) ∙ has_bit-high k 6 p j q h

pub place-own : (i : ℕ) → 64 * (i / 64) + i % 64 ≡ i
place-own i = omega (arith, div-add-mod' i 64)

pub words_of-small : (n : ℕ) → n ≤ 6 → words_of n ≡ 1
words_of-small n h = cond-true _ _ _ (le-leb n 6 h)

pub words_of-large : (n : ℕ) → 6 < n → words_of n ≡ 2 ^ (n - 6)
words_of-large n h = cond-false _ _ _ (lt-leb n 6 h)

pub words_of-most : (n : ℕ) → n ≤ 12 → words_of n ≤ 64
words_of-most n h =
    elim (cases_lt 6 n) [
      | inl more ↦ subst (λ m. m ≤ 64) (sym (words_of-large n more)) (pow-le-pow_right {n = 2} (omega arith) {i = n - 6} {j = 6} (omega arith))
      | inr few ↦ subst (λ m. m ≤ 64) (sym (words_of-small n few)) (omega arith)
    ]

pub place-within : (n i : ℕ) → n ≤ 12 → i < 2 ^ n → i / 64 < words_of n
place-within n i most h =
    elim (cases_lt 6 n) [
      | inl more ↦
          let e : 2 ^ n ≡ 2 ^ (n - 6) * 64 = ap (λ m. 2 ^ m) {x = n} {y = n - 6 + 6} (omega arith) ∙ pow-add 2 (n - 6) 6 in
          subst (λ m. i / 64 < m) (sym (words_of-large n more)) (div_below i 64 (2 ^ (n - 6)) (omega arith) (omega (arith, e)))
      | inr few ↦
          subst (λ m. i / 64 < m) (sym (words_of-small n few))
          (div_below i 64 1 (omega arith) (omega (arith, pow-le-pow_right {n = 2} (omega arith) {i = n} {j = 6} few)))
    ]

-- ---- an index with a value, by word and bit

pub with-div_low : (i j : ℕ) (value : Bool) → j < 6 → index_with i j value / 64 ≡ i / 64
with-div_low i j value h = same_from_has_bits (index_with i j value / 2 ^ 6) (i / 2 ^ 6)
    (λ q. has_bit-div (index_with i j value) 6 q ∙ has_bit-with_other i j value (6 + q) (λ e. omega (arith, e)) ∙ sym (has_bit-div i 6 q))

pub with-mod_low : (i j : ℕ) (value : Bool) → j < 6 → index_with i j value % 64 ≡ index_with (i % 64) j value
with-mod_low i j value h = same_from_has_bits (index_with i j value % 2 ^ 6) (index_with (i % 2 ^ 6) j value)
    (λ q. elim (cases_lt q 6) [
      | inl low ↦ has_bit-mod (index_with i j value) 6 q low ∙ has_bit-with i j value q
          ∙ ap (λ b. cond (eqb q j) value b) (sym (has_bit-mod i 6 q low)) ∙ sym (has_bit-with (i % 2 ^ 6) j value q)
      | inr high ↦ has_bit-above (index_with i j value % 2 ^ 6) 6 q (mod_below (index_with i j value) 64 (omega arith)) high
          ∙ sym (has_bit-with_other (i % 2 ^ 6) j value q (λ e. omega (arith, e)) ∙ has_bit-above (i % 2 ^ 6) 6 q (mod_below i 64 (omega arith)) high)
    ])

shifted_test : (s q j : ℕ) → s ≤ j → eqb (s + q) j ≡ eqb q (j - s)
shifted_test s q j h =
    elim (cases_eq q (j - s)) [
      | inl e ↦ eq-eqb (s + q) j (omega arith) ∙ sym (eq-eqb q (j - s) e)
      | inr ne ↦ ne_eqb (s + q) j (λ e. ne (omega arith)) ∙ sym (ne_eqb q (j - s) ne)
    ]

with-div : (s i j : ℕ) (value : Bool) → s ≤ j → index_with i j value / 2 ^ s ≡ index_with (i / 2 ^ s) (j - s) value
with-div s i j value h = same_from_has_bits (index_with i j value / 2 ^ s) (index_with (i / 2 ^ s) (j - s) value)
    (λ q. has_bit-div (index_with i j value) s q ∙ has_bit-with i j value (s + q)
    ∙ ap (λ b. cond b value (has_bit i (s + q))) (shifted_test s q j h)
    ∙ ap (λ b. cond (eqb q (j - s)) value b) (sym (has_bit-div i s q)) ∙ sym (has_bit-with (i / 2 ^ s) (j - s) value q))

with-mod : (s i j : ℕ) (value : Bool) → s ≤ j → index_with i j value % 2 ^ s ≡ i % 2 ^ s
with-mod s i j value h = same_from_has_bits (index_with i j value % 2 ^ s) (i % 2 ^ s)
    (λ q. elim (cases_lt q s) [
      | inl low ↦ has_bit-mod (index_with i j value) s q low ∙ has_bit-with_other i j value q (λ e. omega (arith, e)) ∙ sym (has_bit-mod i s q low)
      | inr high ↦ has_bit-above (index_with i j value % 2 ^ s) s q (mod_below (index_with i j value) (2 ^ s) (pow_pos s)) high
          ∙ sym (has_bit-above (i % 2 ^ s) s q (mod_below i (2 ^ s) (pow_pos s)) high)
    ])

pub with-div_high : (i j : ℕ) (value : Bool) → 6 ≤ j → index_with i j value / 64 ≡ index_with (i / 64) (j - 6) value
with-div_high i j value h = with-div 6 i j value h

pub with-mod_high : (i j : ℕ) (value : Bool) → 6 ≤ j → index_with i j value % 64 ≡ i % 64
with-mod_high i j value h = with-mod 6 i j value h

-- the places of a block go together, where the variable is none within it
pub with-block : (b i j : ℕ) (value : Bool) → i < 4 → 2 ≤ j → index_with (4 * b + i) j value ≡ index_with (4 * b) j value + i
with-block b i j value low h =
    let x = index_with (4 * b + i) j value in
    let y = index_with (4 * b) j value in
    let e : (4 * b + i) / 2 ^ 2 ≡ (4 * b) / 2 ^ 2 = omega arith in
    let quotients : x / 2 ^ 2 ≡ y / 2 ^ 2 =
    with-div 2 (4 * b + i) j value h ∙ ap (λ k. index_with k (j - 2) value) e ∙ sym (with-div 2 (4 * b) j value h) in
    omega (arith, quotients, with-mod 2 (4 * b + i) j value h, with-mod 2 (4 * b) j value h)

-- an index with a value stays below a power of two
pub with-below : (i j n : ℕ) (value : Bool) → i < 2 ^ n → j < n → index_with i j value < 2 ^ n
with-below i j n value p q =
    let x = index_with i j value in
    let none : x / 2 ^ n ≡ 0 = same_from_has_bits (x / 2 ^ n) 0
    (λ k. has_bit-div x n k ∙ has_bit-with_other i j value (n + k) (λ e. omega (arith, e)) ∙ has_bit-above i n (n + k) p (omega arith) ∙ sym (has_bit-zero k)) in
    let whole : 0 * 2 ^ n + x % 2 ^ n ≡ x = subst (λ m. m * 2 ^ n + x % 2 ^ n ≡ x) none (div-add-mod' x (2 ^ n)) in
    omega (arith, whole, mod_below x (2 ^ n) (pow_pos n))

-- ---- the patterns

table_at : (f g : ℕ → ℕ → Bool) (j p : ℕ) → agree_below (λ m. f (m / 64) (m % 64)) (λ m. g (m / 64) (m % 64)) 384 ≡ true → j < 6 → p < 64 → f j p ≡ g j p
table_at f g j p agree h q =
    let n = j * 64 + p in
    let same = agree_below_at (λ m. f (m / 64) (m % 64)) (λ m. g (m / 64) (m % 64)) 384 n agree (omega arith) in
    subst (λ m. f m p ≡ g m p) (div-mul-add j 64 p q)
    (subst (λ m. f (n / 64) m ≡ g (n / 64) m) (mod-mul-add j 64 p q) same)

pub pattern-is : (j p : ℕ) → j < 6 → p < 64 → has_bit (slice_index PATTERNS j) p ≡ has_bit p j
pattern-is j p h q = table_at (λ k m. has_bit (slice_index PATTERNS k) m) (λ k m. has_bit m k) j p refl h q

pub mask-is : (j p : ℕ) → j < 6 → p < 64 → has_bit (slice_index LOW_MASKS j) p ≡ not (has_bit p j)
mask-is j p h q = table_at (λ k m. has_bit (slice_index LOW_MASKS k) m) (λ k m. not (has_bit m k)) j p refl h q

-- ---- a word folded at a variable

both_is : (mask s w q : ℕ) → has_bit (bit_and (bit_or w (w / 2 ^ s)) mask) q ≡ ((has_bit w q || has_bit w (s + q)) && has_bit mask q)
both_is mask s w q =
    has_bit-and (bit_or w (w / 2 ^ s)) mask q
    ∙ ap (λ b. b && has_bit mask q) (has_bit-or w (w / 2 ^ s) q ∙ ap (λ b. has_bit w q || b) (has_bit-div w s q))

moved_below : (b s p : ℕ) → p < 64 → p < s → has_bit (b * 2 ^ s % 2 ^ 64) p ≡ false
moved_below b s p h q =
    has_bit-mod (b * 2 ^ s) 64 p h ∙ ap (λ m. has_bit m p) {x = b * 2 ^ s} {y = b * 2 ^ s + 0} (omega arith)
    ∙ has_bit-low b s 0 p q ∙ has_bit-zero p

moved_above : (b s p : ℕ) → p < 64 → s ≤ p → has_bit (b * 2 ^ s % 2 ^ 64) p ≡ has_bit b (p - s)
moved_above b s p h q =
    has_bit-mod (b * 2 ^ s) 64 p h ∙ ap (λ m. has_bit m p) {x = b * 2 ^ s} {y = b * 2 ^ s + 0} (omega arith)
    ∙ has_bit-high b s 0 p (pow_pos s) q

below_true : (p j : ℕ) → has_bit p j ≡ false → 2 ^ j ≤ p → has_bit (p - 2 ^ j) j ≡ true
below_true p j e le =
    elim (cases_Bool (has_bit (p - 2 ^ j) j)) [
      | inl t ↦ t
      | inr f ↦
          let back : index_with (p - 2 ^ j) j true ≡ p = with_true (p - 2 ^ j) j ∙ ap (λ m. m + 2 ^ j) (with_false_own (p - 2 ^ j) j f) ∙ omega arith in
          absurd (true≢false (sym (has_bit-with_same (p - 2 ^ j) j true) ∙ ap (λ m. has_bit m j) back ∙ e))
    ]

low_side : (x y : Bool) → (((x || y) && true) || false) ≡ (y || x)
low_side true true = refl
low_side true false = refl
low_side false true = refl
low_side false false = refl

high_side : (x y : Bool) → (false || ((x || y) && true)) ≡ (y || x)
high_side true true = refl
high_side true false = refl
high_side false true = refl
high_side false false = refl

no_side : (x : Bool) → (x && false) ≡ false
no_side true = refl
no_side false = refl

module _ (mask j w p : ℕ) (masks : (q : ℕ) → q < 64 → has_bit mask q ≡ not (has_bit q j)) (low : p < 64) where
  abbrev both : ℕ → Bool
  both q = (has_bit w q || has_bit w (2 ^ j + q)) && has_bit mask q

  abbrev moved : ℕ
  moved = bit_and (bit_or w (w / 2 ^ (2 ^ j))) mask * 2 ^ (2 ^ j) % 2 ^ 64

  folded_split : has_bit (folded mask (2 ^ j) w) p ≡ (both p || has_bit moved p)
  folded_split =
      has_bit-or (bit_and (bit_or w (w / 2 ^ (2 ^ j))) mask) moved p ∙ ap (λ b. b || has_bit moved p) (both_is mask (2 ^ j) w p)

  moved_is : 2 ^ j ≤ p → has_bit moved p ≡ both (p - 2 ^ j)
  moved_is le = moved_above (bit_and (bit_or w (w / 2 ^ (2 ^ j))) mask) (2 ^ j) p low le ∙ both_is mask (2 ^ j) w (p - 2 ^ j)

  at_false : has_bit p j ≡ false → has_bit (folded mask (2 ^ j) w) p ≡ some_value_at j (has_bit w) p
  at_false e =
      let own : has_bit mask p ≡ true = masks p low ∙ ap not e in
      let none : has_bit moved p ≡ false =
      elim (cases_lt p (2 ^ j)) [
        | inl below ↦ moved_below (bit_and (bit_or w (w / 2 ^ (2 ^ j))) mask) (2 ^ j) p low below
        | inr above ↦ moved_is above
            ∙ ap (λ b. (has_bit w (p - 2 ^ j) || has_bit w (2 ^ j + (p - 2 ^ j))) && b) (masks (p - 2 ^ j) (omega arith) ∙ ap not (below_true p j e above))
            ∙ no_side (has_bit w (p - 2 ^ j) || has_bit w (2 ^ j + (p - 2 ^ j)))
      ] in
      let f : index_with p j false ≡ p = with_false_own p j e in
      let t : 2 ^ j + p ≡ index_with p j true = omega (arith, with_true p j, f) in
      folded_split ∙ ap (λ b. both p || b) none ∙ ap (λ b. ((has_bit w p || has_bit w (2 ^ j + p)) && b) || false) own
      ∙ low_side (has_bit w p) (has_bit w (2 ^ j + p))
      ∙ ap (λ m. has_bit w m || has_bit w p) t ∙ ap (λ m. has_bit w (index_with p j true) || has_bit w m) (sym f)

  at_true : has_bit p j ≡ true → has_bit (folded mask (2 ^ j) w) p ≡ some_value_at j (has_bit w) p
  at_true e =
      let t : index_with p j true ≡ p = with_true_own p j e in
      let up : index_with p j false + 2 ^ j ≡ p = sym (with_true p j) ∙ t in
      let f : p - 2 ^ j ≡ index_with p j false = omega (arith, up) in
      let le : 2 ^ j ≤ p = omega (arith, up) in
      let none : has_bit mask p ≡ false = masks p low ∙ ap not e in
      let own : has_bit mask (p - 2 ^ j) ≡ true = masks (p - 2 ^ j) (omega arith) ∙ ap not (ap (λ m. has_bit m j) f ∙ has_bit-with_same p j false) in
      folded_split
      ∙ ap (λ b. ((has_bit w p || has_bit w (2 ^ j + p)) && b) || has_bit moved p) none
      ∙ ap (λ b. b || has_bit moved p) (no_side (has_bit w p || has_bit w (2 ^ j + p)))
      ∙ ap (λ b. false || b) (moved_is le)
      ∙ ap (λ b. false || ((has_bit w (p - 2 ^ j) || has_bit w (2 ^ j + (p - 2 ^ j))) && b)) own
      ∙ high_side (has_bit w (p - 2 ^ j)) (has_bit w (2 ^ j + (p - 2 ^ j)))
      ∙ ap (λ m. has_bit w m || has_bit w (p - 2 ^ j)) {x = 2 ^ j + (p - 2 ^ j)} {y = index_with p j true} (omega (arith, t, le))
      ∙ ap (λ m. has_bit w (index_with p j true) || has_bit w m) f

  pub folded-is : has_bit (folded mask (2 ^ j) w) p ≡ some_value_at j (has_bit w) p
  folded-is = elim (cases_Bool (has_bit p j)) [ inl t ↦ at_true t | inr f ↦ at_false f ]

-- ---- one bit set or cleared

pub set-is : (k j : ℕ) → j < 64 → bit_or k (1 * 2 ^ j % 2 ^ 64) ≡ index_with k j true
set-is k j within = same_from_has_bits (bit_or k (1 * 2 ^ j % 2 ^ 64)) (index_with k j true)
    (λ i. elim (cases_eq i j) [
      | inl e ↦ subst (λ m. has_bit (bit_or k (1 * 2 ^ j % 2 ^ 64)) m ≡ has_bit (index_with k j true) m) (sym e)
          (ap (λ m. eqb m 1) (bit_at_set_same w64 k j within) ∙ sym (has_bit-with_same k j true))
      | inr ne ↦ ap (λ m. eqb m 1) (bit_at_set_other w64 k j within i ne) ∙ sym (has_bit-with_other k j true i ne)
    ])

pub clear-is : (k j : ℕ) → k < 64 → j < 6 → bit_and k (2 ^ 64 - 1 - 1 * 2 ^ j % 2 ^ 64) ≡ index_with k j false
clear-is k j low within = same_from_has_bits (bit_and k (2 ^ 64 - 1 - 1 * 2 ^ j % 2 ^ 64)) (index_with k j false)
    (λ i. elim (cases_eq i j) [
      | inl e ↦ subst (λ m. has_bit (bit_and k (2 ^ 64 - 1 - 1 * 2 ^ j % 2 ^ 64)) m ≡ has_bit (index_with k j false) m) (sym e)
          (ap (λ m. eqb m 1) (bit_at_clear_same w64 k j (omega arith)) ∙ sym (has_bit-with_same k j false))
      | inr ne ↦ elim (cases_lt i 64) [
        | inl few ↦ ap (λ m. eqb m 1) (bit_at_clear_other w64 k j (omega arith) i few ne) ∙ sym (has_bit-with_other k j false i ne)
        | inr more ↦ has_bit-above (bit_and k (2 ^ 64 - 1 - 1 * 2 ^ j % 2 ^ 64)) 6 i (omega (arith, and_le_l k (2 ^ 64 - 1 - 1 * 2 ^ j % 2 ^ 64))) (omega arith)
            ∙ sym (has_bit-with_other k j false i ne ∙ has_bit-above k 6 i low (omega arith))
      ]
    ])
