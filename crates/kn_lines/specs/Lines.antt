-- The lines of a proof: how each is spelled, and how it is written.
use Rattle.std.specs.Prelude.{ℕ, ◌≡◌, ◌≤◌, ◌<◌, ◌^◌, true, false, List, [], ◌∷◌, ◌++◌, map, Some, codes, decimal}
use Rattle.std.specs.List.{AllByRecursion}
use Rattle.kn_logic.specs.Literals.{Literal}
use Rattle.kn_logic.specs.Constraints.{clause, klause}
use Rattle.kn_text.specs.Lines.{words_of, is_skipped}
use Rattle.kn_text.specs.Numbers.{number_of, literal_of, is_end, literal_word, IsWritable}
use Rattle.kn_text.specs.Lists.{LiteralsThen}
use Rattle.kn_lines.specs.declared.line.Arm.{Arm}
use Rattle.kn_lines.specs.declared.line.Arm.TheVariants.{True, False, Lit}
use Rattle.kn_lines.specs.declared.line.Line.{Line}
use Rattle.kn_lines.specs.declared.line.Line.TheVariants.{Header, Define, Lemma, Learned, Klause, Unfold, Delete}

-- The words spell the ids, one each, then an end mark, and no word is behind it. An id is a number of
-- at least 1.
abbrev pub SpellIds : List (List ℕ) → List ℕ → Type 0
SpellIds [] ids = ⊥
SpellIds (word ∷ words) [] = (is_end word ≡ true) × (words ≡ [])
SpellIds (word ∷ words) (id ∷ ids) = (number_of word ≡ Some id) × (1 ≤ id) × SpellIds words ids

-- behind `p`: the name of the format, and two numbers
abbrev pub SpellsHeader : List (List ℕ) → ℕ → ℕ → Type 0
SpellsHeader (format ∷ first ∷ second ∷ []) vars constraints =
    (format ≡ codes "kpf") × (number_of first ≡ Some vars) × (number_of second ≡ Some constraints)
SpellsHeader _ vars constraints = ⊥

-- The word spells a constant, or a literal.
abbrev pub SpellsArm : List ℕ → Arm → Type 0
SpellsArm word True = word ≡ codes "T"
SpellsArm word False = word ≡ codes "F"
SpellsArm word (Lit l) = literal_of word ≡ Some l

-- behind `d`: a literal, and where to go on if it is true and if it is false
abbrev pub SpellsDefinition : List (List ℕ) → Literal → Arm → Arm → Type 0
SpellsDefinition (test ∷ first ∷ second ∷ []) x high low =
    (literal_of test ≡ Some x) × SpellsArm first high × SpellsArm second low
SpellsDefinition _ x high low = ⊥

-- two numbers of at least 1: an id and a variable, or the other way round
abbrev pub SpellPair : List (List ℕ) → ℕ → ℕ → Type 0
SpellPair (first ∷ second ∷ []) a b = (number_of first ≡ Some a) × (1 ≤ a) × (number_of second ≡ Some b) × (1 ≤ b)
SpellPair _ a b = ⊥

-- behind `k`: the bound, the literals, an end mark, the root and the id of its unit clause
abbrev pub SpellsKlause : List (List ℕ) → ℕ → List Literal → ℕ → ℕ → Type 0
SpellsKlause [] bound lits root unit = ⊥
SpellsKlause (word ∷ words) bound lits root unit =
    (number_of word ≡ Some bound) × LiteralsThen (λ behind. SpellPair behind root unit) words lits

-- The words spell this line.
--   p kpf V C               the header
--   d X H L                 a definition; H and L are `T`, `F` or a literal
--   r LITS 0 IDS 0          a lemma, with its hints
--   l LITS 0 IDS 0          a learned clause, with its hints
--   k B LITS 0 ROOT UNIT    a klause that a grid stands for, whose root is a unit clause
--   g ID ROOT               a klause that is unfolded: the root of its grid
--   x IDS 0                 a deletion
abbrev pub SpellsWords : List (List ℕ) → Line → Type 0
SpellsWords [] line = ⊥
SpellsWords (word ∷ words) (Header vars constraints) = (word ≡ codes "p") × SpellsHeader words vars constraints
SpellsWords (word ∷ words) (Define x high low) = (word ≡ codes "d") × SpellsDefinition words x high low
SpellsWords (word ∷ words) (Lemma c hints) =
    (word ≡ codes "r") × (c ≡ clause c.lits) × LiteralsThen (λ behind. SpellIds behind hints) words c.lits
SpellsWords (word ∷ words) (Learned c hints) =
    (word ≡ codes "l") × (c ≡ clause c.lits) × LiteralsThen (λ behind. SpellIds behind hints) words c.lits
SpellsWords (word ∷ words) (Klause c root unit) =
    (word ≡ codes "k") × (c ≡ klause c.bound c.lits) × SpellsKlause words c.bound c.lits root unit
SpellsWords (word ∷ words) (Unfold id root) = (word ≡ codes "g") × SpellPair words id root
SpellsWords (word ∷ words) (Delete ids) = (word ≡ codes "x") × SpellIds words ids

abbrev pub SpellsLine : List ℕ → Line → Type 0
SpellsLine bytes line = SpellsWords (words_of bytes) line

-- neither a line that is skipped nor one of the proof's
abbrev pub SpellsNone : List ℕ → Type 0
SpellsNone bytes = (is_skipped (words_of bytes) ≡ false) × ((line : Line) → SpellsLine bytes line → ⊥)

abbrev pub AreIds : List ℕ → Type 0
AreIds ids = AllByRecursion (λ id. 1 ≤ id) ids

-- What a line is that can be spelled: a lemma is a clause, a klause has no guard, and ids and variables count
-- from 1.
abbrev pub IsWellFormed : Line → Type 0
IsWellFormed (Header vars constraints) = Unit {0}
IsWellFormed (Define x high low) = Unit {0}
IsWellFormed (Lemma c hints) = (c ≡ clause c.lits) × AreIds hints
IsWellFormed (Learned c hints) = (c ≡ clause c.lits) × AreIds hints
IsWellFormed (Klause c root unit) = (c ≡ klause c.bound c.lits) × (1 ≤ root) × (1 ≤ unit)
IsWellFormed (Unfold id root) = (1 ≤ id) × (1 ≤ root)
IsWellFormed (Delete ids) = AreIds ids

-- the words of a line as it is written
abbrev pub ended_by_zero : List (List ℕ) → List (List ℕ)
ended_by_zero words = words ++ codes "0" ∷ []

abbrev pub arm_word : Arm → List ℕ
arm_word True = codes "T"
arm_word False = codes "F"
arm_word (Lit l) = literal_word l

abbrev pub line_words : Line → List (List ℕ)
line_words (Header vars constraints) = codes "p" ∷ codes "kpf" ∷ decimal vars ∷ decimal constraints ∷ []
line_words (Define x high low) = codes "d" ∷ literal_word x ∷ arm_word high ∷ arm_word low ∷ []
line_words (Lemma c hints) = codes "r" ∷ (ended_by_zero (map literal_word c.lits) ++ ended_by_zero (map decimal hints))
line_words (Learned c hints) = codes "l" ∷ (ended_by_zero (map literal_word c.lits) ++ ended_by_zero (map decimal hints))
line_words (Klause c root unit) = codes "k" ∷ decimal c.bound ∷ (ended_by_zero (map literal_word c.lits) ++ decimal root ∷ decimal unit ∷ [])
line_words (Unfold id root) = codes "g" ∷ decimal id ∷ decimal root ∷ []
line_words (Delete ids) = codes "x" ∷ ended_by_zero (map decimal ids)

-- each number of the line is one that a text can have
abbrev pub AreNumbers : List ℕ → Type 0
AreNumbers ids = AllByRecursion (λ id. id < 2 ^ 64) ids

abbrev pub AreLiterals : List Literal → Type 0
AreLiterals lits = AllByRecursion IsWritable lits

abbrev pub IsArmInRange : Arm → Type 0
IsArmInRange True = Unit {0}
IsArmInRange False = Unit {0}
IsArmInRange (Lit l) = IsWritable l

abbrev pub IsInRange : Line → Type 0
IsInRange (Header vars constraints) = (vars < 2 ^ 64) × (constraints < 2 ^ 64)
IsInRange (Define x high low) = IsWritable x × IsArmInRange high × IsArmInRange low
IsInRange (Lemma c hints) = AreLiterals c.lits × AreNumbers hints
IsInRange (Learned c hints) = AreLiterals c.lits × AreNumbers hints
IsInRange (Klause c root unit) = (c.bound < 2 ^ 64) × AreLiterals c.lits × (root < 2 ^ 64) × (unit < 2 ^ 64)
IsInRange (Unfold id root) = (id < 2 ^ 64) × (root < 2 ^ 64)
IsInRange (Delete ids) = AreNumbers ids
