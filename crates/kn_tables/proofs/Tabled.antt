-- From words to the table whose values they have.
use Rattle.std.proofs.Common.{◌≡◌, ℕ, ◌+◌, ◌-◌, ◌*◌, ◌/◌, ◌%◌, ◌^◌, ◌<◌, ◌≤◌, ◌≢◌, Bool, true, false, ◌&&◌, ◌||◌, bit_or, refl, sym, ap, ◌∙◌, subst, arith, List, length, map}
use Rattle.std.specs.Prelude.{slice_index, slice_set}
use Rattle.std.proofs.Common.{inl, inr, get_or-set_same, get_or-set_other}
use Rattle.std.proofs.lemmas.Bool.{cases_eq, cases_lt}
use Rattle.std.specs.List.{range_with_len}
use Rattle.std.proofs.lemmas.List.FromFn.{fill_by_all, length-map-range_with_len, get_or-map-range_with_len}
use Rattle.std.proofs.lemmas.Nat.{mod_below}
use Rattle.kn_tables.specs.declared.join.Joining.TheVariants.{And, Or}
use Rattle.kn_tables.specs.Indices.{has_bit, index_with}
use Rattle.kn_tables.specs.Tables.{Truth, IsTable, value_at, some_value_at, IsFirstDifference}
use Rattle.kn_tables.specs.Words.{bit_in, table_in, words_of, HasValues, AreJoined}
use Rattle.kn_tables.proofs.Bits.{has_bit-and, has_bit-or}
use Rattle.kn_tables.proofs.Places.{words_of-large, place-own, place-within, with-below, with-div_low, with-mod_low, with-div_high, with-mod_high}

pub value-in : (n i : ℕ) (words : List ℕ) → i < 2 ^ n → value_at (table_in n words) i ≡ bit_in words i
value-in n i words h = get_or-map-range_with_len (bit_in words) 0 (2 ^ n) i i false h (omega arith)

-- a table from what each index has
pub table-by : (n : ℕ) (f : ℕ → Bool) (words : List ℕ) → ((i : ℕ) → i < 2 ^ n → bit_in words i ≡ f i) → IsTable n f (table_in n words)
table-by n f words h = record {
  vars = refl;
  whole = length-map-range_with_len (bit_in words) 0 (2 ^ n);
  each = λ i p. value-in n i words p ∙ h i p;
}

-- a table from what each word has
pub table-by_words : (n : ℕ) (f : ℕ → Bool) (words : List ℕ) → n ≤ 12 → ((k : ℕ) → k < words_of n → HasValues f k (slice_index words k)) → IsTable n f (table_in n words)
table-by_words n f words most h = table-by n f words
    (λ i p. h (i / 64) (place-within n i most p) (i % 64) (mod_below i 64 (omega arith)) ∙ ap f (place-own i))

pub table-and : (n m : ℕ) (old other new : List ℕ) → n ≤ 12 → n ≡ m → AreJoined And (words_of n) other old new
    → IsTable n (λ i. value_at (table_in n old) i && value_at (table_in m other) i) (table_in n new)
table-and n m old other new most e joins = table-by n _ new
    (λ i p.
    ap (λ w. has_bit w (i % 64)) (joins (i / 64) (place-within n i most p))
    ∙ has_bit-and (slice_index old (i / 64)) (slice_index other (i / 64)) (i % 64)
    ∙ ap (λ b. b && bit_in other i) (sym (value-in n i old p))
    ∙ ap (λ b. value_at (table_in n old) i && b) (sym (value-in m i other (subst (λ k. i < 2 ^ k) e p))))

pub table-or : (n m : ℕ) (old other new : List ℕ) → n ≤ 12 → n ≡ m → AreJoined Or (words_of n) other old new
    → IsTable n (λ i. value_at (table_in n old) i || value_at (table_in m other) i) (table_in n new)
table-or n m old other new most e joins = table-by n _ new
    (λ i p.
    ap (λ w. has_bit w (i % 64)) (joins (i / 64) (place-within n i most p))
    ∙ has_bit-or (slice_index old (i / 64)) (slice_index other (i / 64)) (i % 64)
    ∙ ap (λ b. b || bit_in other i) (sym (value-in n i old p))
    ∙ ap (λ b. value_at (table_in n old) i || b) (sym (value-in m i other (subst (λ k. i < 2 ^ k) e p))))

-- ---- "for some value"

value_low : (n i j : ℕ) (value : Bool) (words : List ℕ) → i < 2 ^ n → j < n → j < 6 → has_bit (slice_index words (i / 64)) (index_with (i % 64) j value) ≡ value_at (table_in n words) (index_with i j value)
value_low n i j value words p q low =
    sym (value-in n (index_with i j value) words (with-below i j n value p q)
    ∙ ap (λ k. has_bit (slice_index words k) (index_with i j value % 64)) (with-div_low i j value low)
    ∙ ap (λ m. has_bit (slice_index words (i / 64)) m) (with-mod_low i j value low))

value_high : (n i j : ℕ) (value : Bool) (words : List ℕ) → i < 2 ^ n → j < n → 6 ≤ j → has_bit (slice_index words (index_with (i / 64) (j - 6) value)) (i % 64) ≡ value_at (table_in n words) (index_with i j value)
value_high n i j value words p q high =
    sym (value-in n (index_with i j value) words (with-below i j n value p q)
    ∙ ap (λ k. has_bit (slice_index words k) (index_with i j value % 64)) (with-div_high i j value high)
    ∙ ap (λ m. has_bit (slice_index words (index_with (i / 64) (j - 6) value)) m) (with-mod_high i j value high))

pub table-halves : (n j : ℕ) (old new : List ℕ) → n ≤ 12 → j < n → j < 6
    → ((k : ℕ) (p : ℕ) → k < words_of n → p < 64 → has_bit (slice_index new k) p ≡ some_value_at j (has_bit (slice_index old k)) p)
    → IsTable n (some_value_at j (value_at (table_in n old))) (table_in n new)
table-halves n j old new most q low h = table-by n _ new
    (λ i p.
    h (i / 64) (i % 64) (place-within n i most p) (mod_below i 64 (omega arith))
    ∙ ap (λ b. b || has_bit (slice_index old (i / 64)) (index_with (i % 64) j false)) (value_low n i j true old p q low)
    ∙ ap (λ b. value_at (table_in n old) (index_with i j true) || b) (value_low n i j false old p q low))

pub table-partners : (n j : ℕ) (old new : List ℕ) → n ≤ 12 → j < n → 6 ≤ j
    → ((k : ℕ) → k < 2 ^ (n - 6) → slice_index new k ≡ bit_or (slice_index old (index_with k (j - 6) true)) (slice_index old (index_with k (j - 6) false)))
    → IsTable n (some_value_at j (value_at (table_in n old))) (table_in n new)
table-partners n j old new most q high h = table-by n _ new
    (λ i p.
    let k = i / 64 in
    ap (λ w. has_bit w (i % 64)) (h k (subst (λ m. k < m) (words_of-large n (omega arith)) (place-within n i most p)))
    ∙ has_bit-or (slice_index old (index_with k (j - 6) true)) (slice_index old (index_with k (j - 6) false)) (i % 64)
    ∙ ap (λ b. b || has_bit (slice_index old (index_with k (j - 6) false)) (i % 64)) (value_high n i j true old p q high)
    ∙ ap (λ b. value_at (table_in n old) (index_with i j true) || b) (value_high n i j false old p q high))

-- one more word of a table that is filled word by word
pub filled-more : (f : ℕ → Bool) (words : List ℕ) (place word : ℕ) → place < length words
    → ((k : ℕ) → k < place → HasValues f k (slice_index words k)) → HasValues f place word
    → (k : ℕ) → k < place + 1 → HasValues f k (slice_index (slice_set words place word) k)
filled-more f words place word within before own k h =
    elim (cases_eq k place) [
      | inl e ↦ subst (λ m. HasValues f m (slice_index (slice_set words place word) m)) (sym e)
          (subst (HasValues f place) (sym (get_or-set_same words place word 0 within)) own)
      | inr ne ↦ subst (HasValues f k) (sym (get_or-set_other words place k word 0 ne)) (before k (omega (arith, ne)))
    ]

-- ---- the first difference

abbrev a_table : ℕ → List Bool → Truth
a_table n values = record { vars = n; values = values }

-- tables whose values are the same are one
pub tables-same : (n m : ℕ) (words other : List ℕ) → n ≡ m → ((i : ℕ) → i < 2 ^ n → bit_in words i ≡ bit_in other i) → table_in n words ≡ table_in m other
tables-same n m words other e same =
    let lists : map (bit_in words) (range_with_len 0 (2 ^ n)) ≡ map (bit_in other) (range_with_len 0 (2 ^ n)) =
    fill_by_all (bit_in other) (map (bit_in words) (range_with_len 0 (2 ^ n))) (2 ^ n) false
    (length-map-range_with_len (bit_in words) 0 (2 ^ n))
    (λ i p. get_or-map-range_with_len (bit_in words) 0 (2 ^ n) i i false p (omega arith) ∙ same i p) in
    ap (a_table n) lists ∙ ap (λ k. table_in k other) e

-- up to the first bit that differs in the first word that differs, all is the same
pub same-before : (words other : List ℕ) (place bit : ℕ) → bit < 64
    → ((k : ℕ) → k < place → slice_index words k ≡ slice_index other k)
    → ((p : ℕ) → p < bit → has_bit (slice_index words place) p ≡ has_bit (slice_index other place) p)
    → (i : ℕ) → i < 64 * place + bit → bit_in words i ≡ bit_in other i
same-before words other place bit within equal before i h =
    elim (cases_lt (i / 64) place) [
      | inl less ↦ ap (λ w. has_bit w (i % 64)) (equal (i / 64) less)
      | inr more ↦
          let e : i / 64 ≡ place = omega (arith, place-own i) in
          ap (λ k. has_bit (slice_index words k) (i % 64)) e ∙ before (i % 64) (omega (arith, place-own i))
          ∙ ap (λ k. has_bit (slice_index other k) (i % 64)) (sym e)
    ]

pub same-words : (words other : List ℕ) (n : ℕ) → n ≤ 12 → ((k : ℕ) → k < words_of n → slice_index words k ≡ slice_index other k)
    → (i : ℕ) → i < 2 ^ n → bit_in words i ≡ bit_in other i
same-words words other n most equal i h = ap (λ w. has_bit w (i % 64)) (equal (i / 64) (place-within n i most h))

pub first-is : (n m : ℕ) (words other : List ℕ) (place bit : ℕ) → n ≡ m → bit < 64
    → ((k : ℕ) → k < place → slice_index words k ≡ slice_index other k)
    → (has_bit (slice_index words place) bit ≢ has_bit (slice_index other place) bit)
    → ((p : ℕ) → p < bit → has_bit (slice_index words place) p ≡ has_bit (slice_index other place) p)
    → 64 * place + bit < 2 ^ n → IsFirstDifference (table_in n words) (table_in m other) (64 * place + bit)
first-is n m words other place bit e within equal differs before few =
    let i = 64 * place + bit in
    let q : i / 64 ≡ place = omega arith in
    let r : i % 64 ≡ bit = omega arith in
    let at : (ws : List ℕ) → bit_in ws i ≡ has_bit (slice_index ws place) bit =
    λ ws. ap (λ k. has_bit (slice_index ws k) (i % 64)) q ∙ ap (λ p. has_bit (slice_index ws place) p) r in
    let moved : (k : ℕ) → k < 2 ^ n → k < 2 ^ m = λ k h. subst (λ x. k < 2 ^ x) e h in
    record {
      within = few;
      differs = λ same. differs (sym (at words) ∙ sym (value-in n i words few) ∙ same ∙ value-in m i other (moved i few) ∙ at other);
      before = λ k h.
          value-in n k words (omega (arith, h, few)) ∙ same-before words other place bit within equal before k h
          ∙ sym (value-in m k other (moved k (omega (arith, h, few))));
    }
