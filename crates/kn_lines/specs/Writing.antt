-- The text of a line, piece by piece as it is written. It is that of the line's words.
use Rattle.std.specs.Prelude.{ℕ, List, ◌∷◌, ◌++◌, codes, decimal}
use Rattle.std.specs.List.{flat_map}
use Rattle.kn_logic.specs.Literals.{Literal}
use Rattle.kn_text.specs.Numbers.{literal_word}
use Rattle.kn_lines.specs.declared.line.Arm.{Arm}
use Rattle.kn_lines.specs.declared.line.Line.{Line}
use Rattle.kn_lines.specs.declared.line.Line.TheVariants.{Header, Define, Lemma, Learned, Klause, Unfold, Delete}
use Rattle.kn_lines.specs.Lines.{arm_word}

-- a word behind a space
abbrev pub spaced : List ℕ → List ℕ
spaced word = 32 ∷ word

abbrev pub literals_text : List Literal → List ℕ
literals_text lits = flat_map (λ l. spaced (literal_word l)) lits ++ codes " 0"

abbrev pub ids_text : List ℕ → List ℕ
ids_text ids = flat_map (λ id. spaced (decimal id)) ids ++ codes " 0"

abbrev pub header_text : ℕ → ℕ → List ℕ
header_text vars constraints = codes "p kpf " ++ decimal vars ++ spaced (decimal constraints)

abbrev pub definition_text : Literal → Arm → Arm → List ℕ
definition_text x high low = codes "d" ++ spaced (literal_word x) ++ spaced (arm_word high) ++ spaced (arm_word low)

abbrev pub derived_text : List ℕ → List Literal → List ℕ → List ℕ
derived_text first lits hints = first ++ literals_text lits ++ ids_text hints

abbrev pub pair_text : ℕ → ℕ → List ℕ
pair_text a b = spaced (decimal a) ++ spaced (decimal b)

abbrev pub klause_text : ℕ → List Literal → ℕ → ℕ → List ℕ
klause_text bound lits root unit = codes "k " ++ decimal bound ++ literals_text lits ++ pair_text root unit

abbrev pub unfolding_text : ℕ → ℕ → List ℕ
unfolding_text id root = codes "g" ++ pair_text id root

abbrev pub delete_text : List ℕ → List ℕ
delete_text ids = codes "x" ++ ids_text ids

-- a line without its line feed
abbrev pub content_text : Line → List ℕ
content_text (Header vars constraints) = header_text vars constraints
content_text (Define x high low) = definition_text x high low
content_text (Lemma c hints) = derived_text (codes "r") c.lits hints
content_text (Learned c hints) = derived_text (codes "l") c.lits hints
content_text (Klause c root unit) = klause_text c.bound c.lits root unit
content_text (Unfold id root) = unfolding_text id root
content_text (Delete ids) = delete_text ids
