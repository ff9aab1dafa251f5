-- How many variables and clauses the generated formula has.
use Rattle.std.proofs.Common.{◌≡◌, ℕ, zero, suc, ◌+◌, ◌-◌, ◌*◌, ◌%◌, ◌≤◌, ◌<◌, eqb, inl, inr, List, [], ◌∷◌, ◌++◌, length, length-append, map, refl, ap, arith}
use Rattle.std.specs.Prelude.{◌⊎◌}
use Rattle.std.proofs.lemmas.Bool.{cond_both}
use Rattle.kn_logic.specs.Literals.{negated}
use Rattle.kn_logic.specs.Constraints.{Bounded, klause}
use Rattle.kn_counter.specs.Counters.{clauses_of, all_clauses, further, all_further}
use Rattle.kn_gen.specs.Blocks.{literals_from, block, at_most, at_least, block_klauses, blocks, link, links, generated, columns, all_columns}

-- one number of three
abbrev IsOne : ℕ → ℕ → ℕ → ℕ → Type 0
IsOne a b c n = (n ≡ a) ⊎ (n ≡ b) ⊎ (n ≡ c)

low-two : (r : ℕ) → r < 2 → IsOne 2 3 4 (2 + r)
low-two zero h = inl refl
low-two (suc zero) h = inr (inl refl)
low-two (suc (suc r)) h = absurd (omega (arith, h))

low-three : (r : ℕ) → r < 3 → IsOne 3 4 5 (3 + r)
low-three zero h = inl refl
low-three (suc zero) h = inr (inl refl)
low-three (suc (suc zero)) h = inr (inr refl)
low-three (suc (suc (suc r))) h = absurd (omega (arith, h))

least-is : (n t : ℕ) → IsOne 2 3 4 (at_least n t)
least-is n t = cond_both (eqb t n) 4 (2 + t % 2) (IsOne 2 3 4) (λ _. inr (inr refl)) (λ _. low-two (t % 2) (omega arith))

most-is : (n t : ℕ) → IsOne 3 4 5 (at_most n t)
most-is n t = cond_both (eqb t n) 3 (3 + t % 3) (IsOne 3 4 5) (λ _. inl refl) (λ _. low-three (t % 3) (omega arith))

-- the two klauses of a block
least-counted : (base first k : ℕ) → IsOne 2 3 4 k → (length (clauses_of base (klause k (literals_from first 8))) ≡ 13 * (8 - k) + 7) × (further (klause k (literals_from first 8)) ≡ 7 * (8 - k))
least-counted base first k is = elim is [
  | inl two ↦ rw two (refl, refl)
  | inr more ↦ elim more [
    | inl three ↦ rw three (refl, refl)
    | inr four ↦ rw four (refl, refl)
  ]
]

most-counted : (base first k : ℕ) → IsOne 3 4 5 k → (length (clauses_of base (klause (8 - k) (map negated (literals_from first 8)))) ≡ 13 * k + 7) × (further (klause (8 - k) (map negated (literals_from first 8))) ≡ 7 * k)
most-counted base first k is = elim is [
  | inl three ↦ rw three (refl, refl)
  | inr more ↦ elim more [
    | inl four ↦ rw four (refl, refl)
    | inr five ↦ rw five (refl, refl)
  ]
]

-- constraints behind others
further-behind : (xs ys : List Bounded) → all_further (xs ++ ys) ≡ all_further xs + all_further ys
further-behind [] ys = omega arith
further-behind (x ∷ xs) ys = omega (arith, further-behind xs ys)

clauses-behind : (base : ℕ) (xs ys : List Bounded) → length (all_clauses base (xs ++ ys)) ≡ length (all_clauses base xs) + length (all_clauses (base + all_further xs) ys)
clauses-behind base [] ys =
    let none : base + 0 ≡ base = omega arith in
    let same : length (all_clauses (base + 0) ys) ≡ length (all_clauses base ys) = ap (λ (b : ℕ). length (all_clauses b ys)) none in
    omega (arith, same)
clauses-behind base (x ∷ xs) ys =
    let rest = clauses-behind (base + further x) xs ys in
    let moved : length (all_clauses (base + further x + all_further xs) ys) ≡ length (all_clauses (base + (further x + all_further xs)) ys) = ap (λ (b : ℕ). length (all_clauses b ys)) (omega arith) in
    omega (arith, rest, moved, length-append (clauses_of base x) (all_clauses (base + further x) (xs ++ ys)), length-append (clauses_of base x) (all_clauses (base + further x) xs))

pair-clauses : (base : ℕ) (a b : Bounded) → length (all_clauses base (a ∷ b ∷ [])) ≡ length (clauses_of base a) + length (clauses_of (base + further a) b)
pair-clauses base a b = omega (arith, length-append (clauses_of base a) (clauses_of (base + further a) b ++ []), length-append (clauses_of (base + further a) b) [])

block-clauses : (base n t : ℕ) → length (all_clauses base (block_klauses n t)) ≡ 13 * columns n t + 14
block-clauses base n t =
    let most = klause (8 - at_most n t) (map negated (block t)) in
    let least = klause (at_least n t) (block t) in
    let first = (most-counted base (8 * t - 7) (at_most n t) (most-is n t)).0 in
    let second = (least-counted (base + further most) (8 * t - 7) (at_least n t) (least-is n t)).0 in
    omega (arith, pair-clauses base most least, first, second)

block-further : (n t : ℕ) → all_further (block_klauses n t) ≡ 7 * columns n t
block-further n t =
    let first = (most-counted 0 (8 * t - 7) (at_most n t) (most-is n t)).1 in
    let second = (least-counted 0 (8 * t - 7) (at_least n t) (least-is n t)).1 in
    omega (arith, first, second)

blocks-clauses : (base n t : ℕ) → length (all_clauses base (blocks n t)) ≡ 13 * all_columns n t + 14 * t
blocks-clauses base n zero = refl
blocks-clauses base n (suc t) =
    omega (arith, clauses-behind base (blocks n t) (block_klauses n (suc t)), blocks-clauses base n t, block-clauses (base + all_further (blocks n t)) n (suc t))

blocks-further : (n t : ℕ) → all_further (blocks n t) ≡ 7 * all_columns n t
blocks-further n zero = refl
blocks-further n (suc t) = omega (arith, further-behind (blocks n t) (block_klauses n (suc t)), blocks-further n t, block-further n (suc t))

links-clauses : (base t : ℕ) → length (all_clauses base (links t)) ≡ t
links-clauses base zero = refl
links-clauses base (suc t) = omega (arith, clauses-behind base (links t) (link (suc t) ∷ []), links-clauses base t)

links-further : (t : ℕ) → all_further (links t) ≡ 0
links-further zero = refl
links-further (suc t) = omega (arith, further-behind (links t) (link (suc t) ∷ []), links-further t)

pub variables-are : (n : ℕ) → (generated n).vars ≡ 8 * n + 7 * all_columns n n
variables-are n = omega (arith, further-behind (blocks n n) (links (n - 1)), blocks-further n n, links-further (n - 1))

pub clauses-are : (n : ℕ) → length (generated n).constraints ≡ 13 * all_columns n n + 14 * n + (n - 1)
clauses-are n =
    omega (arith, clauses-behind (8 * n) (blocks n n) (links (n - 1)), blocks-clauses (8 * n) n n, links-clauses (8 * n + all_further (blocks n n)) (n - 1))

-- no block has more than 11 columns
columns-few : (n t : ℕ) → columns n t ≤ 11
columns-few n t = at (at_most n t) (at_least n t) (most-is n t) (least-is n t)
  where
    at : (k b : ℕ) → IsOne 3 4 5 k → IsOne 2 3 4 b → k + (8 - b) ≤ 11
    at k b most least =
        let high : k ≤ 5 = elim most [
          | inl e ↦ omega (arith, e)
          | inr more ↦ elim more [
            | inl e ↦ omega (arith, e)
            | inr e ↦ omega (arith, e)
          ]
        ] in
        let low : 2 ≤ b = elim least [
          | inl e ↦ omega (arith, e)
          | inr more ↦ elim more [
            | inl e ↦ omega (arith, e)
            | inr e ↦ omega (arith, e)
          ]
        ] in
        omega (arith, high, low)

all-columns-few : (n t : ℕ) → all_columns n t ≤ 11 * t
all-columns-few n zero = omega arith
all-columns-few n (suc t) = omega (arith, all-columns-few n t, columns-few n (suc t))

pub variables-few : (n : ℕ) → n ≤ 200 → (generated n).vars ≤ 1000000
variables-few n h = omega (arith, h, variables-are n, all-columns-few n n)

pub clauses-few : (n : ℕ) → n ≤ 200 → length (generated n).constraints ≤ 10000000
clauses-few n h = omega (arith, h, clauses-are n, all-columns-few n n)
