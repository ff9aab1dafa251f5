-- Words that are handled four at once.
use Rattle.std.proofs.Common.{◌≡◌, ℕ, ◌+◌, ◌*◌, ◌/◌, ◌%◌, ◌^◌, ◌<◌, Bool, true, false, not, eqb, cond, refl, sym, ap, ◌∙◌, subst, arith, List, length, map, replicate, inl, inr, get_or, ◌-◌}
use Rattle.std.specs.Prelude.{slice_index}
use Rattle.std.proofs.lemmas.Bool.{cases_lt, eqb-true, not-false}
use Rattle.std.proofs.lemmas.Simd.{length-zip2, get_or-zip2, get_or-replicate, tops_compared, mask_l-mod, bit_mask_l}
use Rattle.std.specs.Int.{w64}
use Rattle.std.proofs.lemmas.Nat.Bits.{bit_at-zero}
use lib.Lanes.{zip2, mask_l, top}
use Rattle.kn_tables.specs.Words.{HasLanes}

pub lanes-zip : (f : ℕ → ℕ → ℕ) (g h : ℕ → ℕ) (xs ys : List ℕ) → HasLanes g xs → HasLanes h ys → HasLanes (λ i. f (g i) (h i)) (zip2 f xs ys)
lanes-zip f g h xs ys p q = record {
  long = length-zip2 f xs ys (p.long ∙ sym q.long) ∙ p.long;
  each = λ i l.
      get_or-zip2 f xs ys i 0 0 0 (omega (arith, p.long)) (omega (arith, q.long)) ∙ ap (λ a. f a (slice_index ys i)) (p.each i l)
      ∙ ap (f (g i)) (q.each i l);
}

pub lanes-splat : (y : ℕ) → HasLanes (λ _. y) (replicate 4 y)
lanes-splat y = record { long = refl; each = λ i l. get_or-replicate 4 i y 0 l }

pub lanes-own : (xs : List ℕ) → length xs ≡ 4 → HasLanes (slice_index xs) xs
lanes-own xs long = record { long = long; each = λ i l. refl }

differ : ℕ → ℕ → Bool
differ a b = not (eqb a b)

zero_bit : (i : ℕ) → 0 / 2 ^ i % 2 ≡ 0
zero_bit i = bit_at-zero i

unset : (b : Bool) → cond {A = ℕ} b 1 0 ≡ 0 → b ≡ false
unset true h = absurd (omega (arith, h))
unset false h = refl

-- where no lane of two differs, they are the same
pub lanes-same : (xs ys : List ℕ) → length xs ≡ 4 → length ys ≡ 4
    → mask_l (map (top 63) (zip2 (λ a b. cond (not (eqb a b)) (2 ^ 64 - 1) 0) xs ys)) % 2 ^ 64 ≡ 0
    → (i : ℕ) → i < 4 → slice_index xs i ≡ slice_index ys i
unfolding differ
lanes-same xs ys p q none i l =
    let ms = zip2 differ xs ys in
    let long : length ms ≡ 4 = length-zip2 differ xs ys (p ∙ sym q) ∙ p in
    let mask : mask_l ms ≡ 0 = sym (mask_l-mod ms 64 (omega (arith, long))) ∙ ap (λ m. mask_l m % 2 ^ 64) (sym (tops_compared w64 differ xs ys)) ∙ none in
    let bit : cond (get_or ms i false) 1 0 ≡ 0 = sym (bit_mask_l ms i) ∙ ap (λ m. m / 2 ^ i % 2) mask ∙ zero_bit i in
    let equal : differ (slice_index xs i) (slice_index ys i) ≡ false =
    sym (get_or-zip2 differ xs ys i 0 0 false (omega (arith, p)) (omega (arith, q))) ∙ unset (get_or ms i false) bit in
    eqb-true (slice_index xs i) (slice_index ys i) (not-false (eqb (slice_index xs i) (slice_index ys i)) equal)

-- a loop that replaces block after block
pub block-step : (f : ℕ → ℕ) (now new : List ℕ) (block : ℕ)
    → ((k : ℕ) → k < 4 * block → slice_index now k ≡ f k)
    → ((i : ℕ) → i < 4 → slice_index new (4 * block + i) ≡ f (4 * block + i))
    → ((k : ℕ) → k < 4 * block → slice_index new k ≡ slice_index now k)
    → (k : ℕ) → k < 4 * (block + 1) → slice_index new k ≡ f k
block-step f now new block done own below k h =
    elim (cases_lt k (4 * block)) [
      | inl less ↦ below k less ∙ done k less
      | inr more ↦
          let e : 4 * block + (k - 4 * block) ≡ k = omega arith in
          subst (λ m. slice_index new m ≡ f m) e (own (k - 4 * block) (omega arith))
    ]
