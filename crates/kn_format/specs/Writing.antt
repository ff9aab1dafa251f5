-- Words with a space behind each, as they are written one after another.
use Rattle.std.specs.Prelude.{ℕ, ◌++◌, List, [], ◌∷◌, Option, Some, None, codes, decimal}
use Rattle.kn_logic.specs.Literals.{Literal}
use Rattle.kn_text.specs.Numbers.{literal_word}

abbrev pub spaced : Literal → List ℕ
spaced l = literal_word l ++ 32 ∷ []

abbrev pub mark_text : Option Literal → ℕ → List ℕ
mark_text None bound = codes "k " ++ (decimal bound ++ 32 ∷ [])
mark_text (Some guard) bound = codes "q " ++ (literal_word guard ++ (32 ∷ (decimal bound ++ 32 ∷ [])))
