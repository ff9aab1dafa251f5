-- The index of bits, and the values that an index gives variables by their numbers.
use Rattle.std.proofs.Common.{◌≡◌, ℕ, zero, suc, ◌+◌, ◌-◌, ◌*◌, ◌^◌, ◌<◌, ◌==◌, ◌⊎◌, ◌||◌, ◌↔◌, inl, inr, Bool, true, false, not, if◌then◌else◌, cond, List, [], ◌∷◌, length, map, nat_eq, slice_index, get_or, refl, sym, ap, ◌∙◌, subst, arith}
use Rattle.std.specs.Prelude.{count_by}
use Rattle.std.specs.List.{list_any, AllByRecursion, IsDistinct, range_with_len}
use Rattle.std.proofs.lemmas.Bool.{cases_eq, cond-true, cond-false, eq-eqb, ne_eqb, and_parts, and_from}
use Rattle.std.proofs.lemmas.List.{get_or-map, length-map, same_lists}
use Rattle.std.proofs.lemmas.List.FromFn.{length-map-range_with_len, get_or-map-range_with_len}
use Rattle.std.proofs.lemmas.List.Sums.{sum_by-cons}
use Rattle.std.proofs.lemmas.Nat.{pow-add}
use mir.Val.{bool_byte}
use Rattle.kn_logic.specs.Literals.{Literal, places}
use Rattle.kn_logic.specs.Constraints.{Bounded}
use Rattle.kn_tables.specs.Indices.{has_bit, index_with}
use Rattle.kn_tables.specs.Tables.{is_true_at, AreBelow}
use Rattle.kn_tables.proofs.Public.{has_bit-zero, has_bit-low, has_bit-high, has_bit-with}
use Rattle.kn_diagram.specs.Diagrams.{with_value, is_true_by, depth_in}
use Rattle.kn_diagram.proofs.Public.{depth_in-slice_index, slice_index-depth_in}
use Rattle.kn_quant.specs.Runs.{clause_function}
use Rattle.kn_verdict.specs.Numbered.{numbered, AreAmong, conjunction, Gives, index_of}
use Rattle.kn_verdict.proofs.Counts.{own-value, other-value}

-- ---- the index of bits

abbrev bit_of : Bool → ℕ
bit_of b = if b then 1 else 0

bit-small : (b : Bool) → bit_of b < 2 ^ 1
bit-small true = omega arith
bit-small false = omega arith

bit-own : (b : Bool) → has_bit (bit_of b) 0 ≡ b
bit-own true = refl
bit-own false = refl

turned : (b : Bool) (n : ℕ) → bit_of b + 2 * n ≡ n * 2 ^ 1 + bit_of b
turned b n = omega arith

pub has_bit-index_of : (bits : List Bool) (k : ℕ) → has_bit (index_of bits) k ≡ get_or bits k false
has_bit-index_of [] k = has_bit-zero k
has_bit-index_of (b ∷ bits) zero =
    ap (λ n. has_bit n 0) (turned b (index_of bits)) ∙ has_bit-low (index_of bits) 1 (bit_of b) 0 (omega arith) ∙ bit-own b
has_bit-index_of (b ∷ bits) (suc k) =
    ap (λ n. has_bit n (suc k)) (turned b (index_of bits)) ∙ has_bit-high (index_of bits) 1 (bit_of b) (suc k) (bit-small b) (omega arith)
    ∙ ap (has_bit (index_of bits)) {x = suc k - 1} {y = k} (omega arith) ∙ has_bit-index_of bits k

pub index-below : (bits : List Bool) → index_of bits < 2 ^ length bits
index-below [] = omega arith
index-below (b ∷ bits) = omega (arith, bit-small b, index-below bits, pow-add 2 (length bits) 1, ap (λ n. 2 ^ n) {x = suc (length bits)} {y = length bits + 1} (omega arith))

pub byte-is : (b : Bool) → bool_byte b ≡ bit_of b
byte-is true = refl
byte-is false = refl

pub byte-small : (b : Bool) → bool_byte b < 2
byte-small true = omega arith
byte-small false = omega arith

-- the bits of an index, in order
pub bits-same : (values : List Bool) (i n : ℕ) → length values ≡ n → ((k : ℕ) → k < n → get_or values k false ≡ has_bit i k) → values ≡ map (has_bit i) (range_with_len 0 n)
bits-same values i n e h =
    same_lists values (map (has_bit i) (range_with_len 0 n)) (e ∙ sym (length-map-range_with_len (has_bit i) 0 n))
    (λ k d low. let few : k < n = omega (arith, low, e) in
    get_or_default values k d false low ∙ h k few ∙ sym (get_or-map-range_with_len (has_bit i) 0 n k k d few (omega arith)))
  where
    get_or_default : (xs : List Bool) (k : ℕ) (d f : Bool) → k < length xs → get_or xs k d ≡ get_or xs k f
    get_or_default [] k d f low = absurd (omega (arith, low))
    get_or_default (x ∷ xs) zero d f low = refl
    get_or_default (x ∷ xs) (suc k) d f low = get_or_default xs k d f (omega (arith, low))

-- ---- the values that an index gives

-- some index gives the variables these values
pub index-gives : (xs : List ℕ) (v : ℕ → Bool) → Gives xs (index_of (map v xs)) v
index-gives xs v k h = has_bit-index_of (map v xs) k ∙ get_or-map v xs k 0 false h

pub index-within : (xs : List ℕ) (v : ℕ → Bool) → index_of (map v xs) < 2 ^ length xs
index-within xs v = subst (λ n. index_of (map v xs) < 2 ^ n) (length-map xs v) (index-below (map v xs))

-- and some values are given by an index
abbrev pub at_index : List ℕ → ℕ → ℕ → Bool
at_index xs i x = has_bit i (depth_in xs x)

pub gives-own : (xs : List ℕ) (i : ℕ) → IsDistinct nat_eq xs → Gives xs i (at_index xs i)
gives-own xs i d k h = ap (has_bit i) (sym (depth_in-slice_index xs k d h))

-- an index with a value gives the variable of its number this value
pub gives-with : (xs : List ℕ) (i j : ℕ) (b : Bool) (v : ℕ → Bool) → IsDistinct nat_eq xs → j < length xs → Gives xs i v → Gives xs (index_with i j b) (with_value v (slice_index xs j) b)
gives-with xs i j b v d within h k low = has_bit-with i j b k ∙ by (cases_eq k j)
  where
    by : ((k ≡ j) ⊎ (k ≡ j → ⊥)) → (if k == j then b else has_bit i k) ≡ with_value v (slice_index xs j) b (slice_index xs k)
    by (inl e) = cond-true (k == j) b (has_bit i k) (eq-eqb k j e) ∙ sym (ap (λ m. with_value v (slice_index xs j) b (slice_index xs m)) e ∙ own-value v (slice_index xs j) b)
    by (inr ne) =
        cond-false (k == j) b (has_bit i k) (ne_eqb k j ne) ∙ h k low
        ∙ sym (other-value v (slice_index xs j) (slice_index xs k) b
        (ne_eqb (slice_index xs k) (slice_index xs j) (λ e. ne (sym (depth_in-slice_index xs k d low) ∙ ap (depth_in xs) e ∙ depth_in-slice_index xs j d within))))

-- ---- literals, clauses and counts at an index

module _ (xs : List ℕ) (i : ℕ) (v : ℕ → Bool) (gives : Gives xs i v) where
  pub truth-at : (l : Literal) → depth_in xs l.variable < length xs → is_true_at i (numbered xs l) ≡ is_true_by v l
  truth-at l h = ap (λ b. if l.positive then b else not b) (gives (depth_in xs l.variable) h ∙ ap v (slice_index-depth_in xs l.variable h))

  pub clause-at : (lits : List Literal) → AreAmong xs lits → list_any (is_true_at i) (map (numbered xs) lits) ≡ list_any (is_true_by v) lits
  clause-at [] h = refl
  clause-at (l ∷ lits) h = (λ k. truth-at l h.0 k || clause-at lits h.1 k)

  pub count-at : (lits : List Literal) → AreAmong xs lits → count_by (is_true_at i) (map (numbered xs) lits) ≡ places (is_true_by v) lits
  count-at [] h = refl
  count-at (l ∷ lits) h =
      sum_by-cons (λ t. cond {A = ℕ} (is_true_at i t) 1 0) (numbered xs l) (map (numbered xs) lits)
      ∙ (λ k. (if truth-at l h.0 k then 1 else 0) + count-at lits h.1 k)

  pub all-at : (cs : List Bounded) → AllByRecursion (λ c. AreAmong xs c.lits) cs → (conjunction xs cs i ≡ true) ↔ AllByRecursion (λ c. clause_function c v ≡ true) cs
  all-at [] h = (λ _. tt, λ _. refl)
  all-at (c ∷ cs) h =
      let rest = all-at cs h.1 in
      let own = clause-at c.lits h.0 in (
        λ e. (let parts = and_parts (list_any (is_true_at i) (map (numbered xs) c.lits)) (conjunction xs cs i) e in (sym own ∙ parts.0, rest.0 parts.1)),
        λ all. and_from (list_any (is_true_at i) (map (numbered xs) c.lits)) (conjunction xs cs i) (own ∙ all.0) (rest.1 all.1),
      )

-- the literals' variables are below
pub below-among : (xs : List ℕ) (lits : List Literal) → AreAmong xs lits → AreBelow (length xs) (map (numbered xs) lits)
below-among xs [] h = tt
below-among xs (l ∷ lits) h = (h.0, below-among xs lits h.1)
