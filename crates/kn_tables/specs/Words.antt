-- How the values of a table stand in words: 64 to a word, that of the least index in the lowest bit.
use Rattle.std.specs.Prelude.{ℕ, ◌≡◌, ◌<◌, ◌≤◌, ◌+◌, ◌-◌, ◌*◌, ◌/◌, ◌%◌, ◌^◌, Bool, true, false, nat_le, if◌then◌else◌, List, map, length, slice_index, bit_and, bit_or}
use Rattle.std.specs.List.{range_with_len}
use Rattle.kn_tables.specs.declared.join.Joining.{Joining}
use Rattle.kn_tables.specs.declared.join.Joining.TheVariants.{And, Or}
use Rattle.kn_tables.specs.Indices.{has_bit, index_with}
use Rattle.kn_tables.specs.Tables.{Truth}

-- the value that the words have at an index
abbrev pub bit_in : List ℕ → ℕ → Bool
bit_in words i = has_bit (slice_index words (i / 64)) (i % 64)

-- the table over n variables whose values the words have; what stands behind them does not count
abbrev pub table_in : ℕ → List ℕ → Truth
table_in n words = record { vars = n; values = map (bit_in words) (range_with_len 0 (2 ^ n)) }

-- the number of words of a table over n variables
abbrev pub words_of : ℕ → ℕ
words_of n = if nat_le n 6 then 1 else 2 ^ (n - 6)

-- the word at this place has the values of a function
abbrev pub HasValues : (ℕ → Bool) → ℕ → ℕ → Type 0
HasValues f place word = (p : ℕ) → p < 64 → has_bit word p ≡ f (64 * place + p)

-- what joining makes of two words
abbrev pub joined : Joining → ℕ → ℕ → ℕ
joined And a b = bit_and a b
joined Or a b = bit_or a b

-- the first words are joined with those of another table
abbrev pub AreJoined : Joining → ℕ → List ℕ → List ℕ → List ℕ → Type 0
AreJoined how count other before after = (k : ℕ) → k < count → slice_index after k ≡ joined how (slice_index before k) (slice_index other k)

-- The bits under a mask joined with those so many places above them, at both places.
abbrev pub folded : ℕ → ℕ → ℕ → ℕ
folded mask shift word =
    let both = bit_and (bit_or word (word / 2 ^ shift)) mask in bit_or both (both * 2 ^ shift % 2 ^ 64)

-- "for some value of a variable" of words that it numbers
abbrev pub either : (ℕ → ℕ) → ℕ → ℕ → ℕ
either f j k = bit_or (f (index_with k j true)) (f (index_with k j false))

-- four words at once are those of a function of their place among the four
pub record HasLanes (f : ℕ → ℕ) (lanes : List ℕ) : Type 0 where
  pub long : length lanes ≡ 4
  pub each : (i : ℕ) → i < 4 → slice_index lanes i ≡ f i

-- the four words at a place are new, and all others are as before
pub record IsBlock (at : ℕ) (f : ℕ → ℕ) (before after : List ℕ) : Type 0 where
  pub each : (i : ℕ) → i < 4 → slice_index after (at + i) ≡ f i
  pub below : (k : ℕ) → k < at → slice_index after k ≡ slice_index before k
  pub above : (k : ℕ) → at + 4 ≤ k → slice_index after k ≡ slice_index before k
