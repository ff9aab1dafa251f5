-- Lines and words of a text. A line ends at a line feed or at the end of the text; a word is a longest
-- run of bytes within a line that are not blank.
use Rattle.std.specs.Prelude.{ℕ, ◌≡◌, ◌<◌, ◌+◌, ◌==◌, Bool, true, false, ◌||◌, if◌then◌else◌, List, [], ◌∷◌, ◌++◌, length}
use Rattle.std.specs.List.{AllByRecursion, join_with_byte}

-- a space, a tab or a carriage return
abbrev pub is_blank : ℕ → Bool
is_blank b = (b == 32) || ((b == 9) || (b == 13))

-- A byte goes onto the front of the first line.
abbrev pub onto : ℕ → List (List ℕ) → List (List ℕ)
onto b [] = (b ∷ []) ∷ []
onto b (line ∷ lines) = (b ∷ line) ∷ lines

-- The lines, without their line feeds. Their number is that of the line feeds, and one more where the
-- text ends within a line.
abbrev pub lines_of : List ℕ → List (List ℕ)
lines_of [] = []
lines_of (b ∷ bytes) = if b == 10 then [] ∷ lines_of bytes else onto b (lines_of bytes)

-- A word that has ended comes before those behind it, unless it is empty.
abbrev pub ended : List ℕ → List (List ℕ) → List (List ℕ)
ended [] words = words
ended (b ∷ word) words = (b ∷ word) ∷ words

-- the words of what stands behind the bytes of a word that is not ended yet
abbrev pub words_behind : List ℕ → List ℕ → List (List ℕ)
words_behind word [] = ended word []
words_behind word (b ∷ bytes) = if is_blank b then ended word (words_behind [] bytes) else words_behind (word ++ b ∷ []) bytes

abbrev pub words_of : List ℕ → List (List ℕ)
words_of line = words_behind [] line

-- whether a line with these words is skipped: it has none, or its first begins with a `c`
abbrev pub is_skipped : List (List ℕ) → Bool
is_skipped [] = true
is_skipped ([] ∷ words) = false
is_skipped ((b ∷ word) ∷ words) = b == 99

-- a line that is not skipped: its number, counted from 1, and its words
pub record Line : Type 0 where
  pub number : ℕ
  pub words : List (List ℕ)

-- a line of these words before others
abbrev pub unless_skipped : ℕ → List (List ℕ) → List Line → List Line
unless_skipped number words others = if is_skipped words then others else record { number = number; words = words } ∷ others

-- those of the lines that are neither blank nor a comment, the first of which has this number
abbrev pub content_from : ℕ → List (List ℕ) → List Line
content_from number [] = []
content_from number (line ∷ lines) = unless_skipped number (words_of line) (content_from (number + 1) lines)

-- those lines of a text that are neither blank nor a comment
abbrev pub content_of : List ℕ → List Line
content_of text = content_from 1 (lines_of text)

-- how a line is written: its words with one space between two of them, and a line feed
abbrev pub line_text : List (List ℕ) → List ℕ
line_text words = join_with_byte 32 words ++ 10 ∷ []

-- no byte is a line feed
abbrev pub HasNoFeed : List ℕ → Type 0
HasNoFeed bytes = AllByRecursion (λ b. (b == 10) ≡ false) bytes

-- the byte may stand in a word: it neither parts two words nor ends a line
abbrev pub StandsInWord : ℕ → Type 0
StandsInWord b = (is_blank b ≡ false) × ((b == 10) ≡ false)

-- a word that reads as it is written: it is not empty, and each of its bytes may stand in a word
abbrev pub IsPlain : List ℕ → Type 0
IsPlain word = (0 < length word) × AllByRecursion StandsInWord word

-- a line that reads as it is written: each of its words does
abbrev pub IsPlainLine : List (List ℕ) → Type 0
IsPlainLine words = AllByRecursion IsPlain words

-- a line that is written for itself: it is not skipped
abbrev pub IsContent : List (List ℕ) → Type 0
IsContent words = is_skipped words ≡ false

-- lines with these words, numbered one by one from a number on
abbrev pub numbered : ℕ → List (List (List ℕ)) → List Line
numbered number [] = []
numbered number (words ∷ lines) = record { number = number; words = words } ∷ numbered (number + 1) lines
