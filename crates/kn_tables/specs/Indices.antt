-- An index of a table gives variable j the bit j of its binary digits: bits and variables count from 0,
-- the lowest bit first.
use Rattle.std.specs.Prelude.{ℕ, ◌+◌, ◌*◌, ◌/◌, ◌%◌, ◌^◌, ◌==◌, Bool, if◌then◌else◌}
use Rattle.std.specs.Int.{bit_at}

-- whether the bit j of a number is 1
abbrev pub has_bit : ℕ → ℕ → Bool
has_bit n j = bit_at n j == 1

-- the index in which variable j has this value, and every other variable the value that it has in i
abbrev pub index_with : ℕ → ℕ → Bool → ℕ
index_with i j value = i / 2 ^ (j + 1) * 2 ^ (j + 1) + ((if value then 2 ^ j else 0) + i % 2 ^ j)
