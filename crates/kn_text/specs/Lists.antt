-- Lists of literals as words
use Rattle.std.specs.Prelude.{ℕ, ◌≡◌, true, List, [], ◌∷◌, Some}
use Rattle.kn_logic.specs.Literals.{Literal}
use Rattle.kn_text.specs.Numbers.{literal_of, is_end}

-- The words spell the literals, one each, then an end mark; and the words behind it are as asked.
abbrev pub LiteralsThen : (List (List ℕ) → Type 0) → List (List ℕ) → List Literal → Type 0
LiteralsThen behind [] lits = ⊥
LiteralsThen behind (word ∷ words) [] = (is_end word ≡ true) × behind words
LiteralsThen behind (word ∷ words) (l ∷ lits) = (literal_of word ≡ Some l) × LiteralsThen behind words lits
