-- The numbers that remain: those of a list of marks, where each is 1 more than its place.
use Rattle.std.specs.Prelude.{ℕ, zero, suc, ◌≡◌, ◌+◌, nat_lt, Bool, false, if◌then◌else◌, List, [], ◌∷◌}

-- whether this place is marked
abbrev pub mark_at : List Bool → ℕ → Bool
mark_at [] place = false
mark_at (m ∷ marks) zero = m
mark_at (m ∷ marks) (suc place) = mark_at marks place

-- whether this number is
abbrev pub is_marked : List Bool → ℕ → Bool
is_marked marks zero = false
is_marked marks (suc place) = mark_at marks place

-- how many of the first so many places are marked: the new number of one that is
abbrev pub new_number : List Bool → ℕ → ℕ
new_number [] n = 0
new_number (m ∷ marks) zero = 0
new_number (m ∷ marks) (suc n) = (if m then 1 else 0) + new_number marks n

-- The new numbers of all numbers from 0 on, where so many are marked before them.
abbrev pub numbers_from : ℕ → List Bool → List ℕ
numbers_from count [] = count ∷ []
numbers_from count (m ∷ marks) = count ∷ numbers_from (count + (if m then 1 else 0)) marks

-- which numbers are marked, told by the new ones: those at which they rise
abbrev pub rises : List ℕ → List Bool
rises [] = []
rises (a ∷ []) = []
rises (a ∷ b ∷ numbers) = nat_lt a b ∷ rises (b ∷ numbers)

abbrev pub IsTable : List ℕ → Type 0
IsTable numbers = numbers ≡ numbers_from 0 (rises numbers)
