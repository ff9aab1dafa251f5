-- The text of an extraction: a comment for each group that has auxiliary variables, and the formula that remains.
use Rattle.std.specs.Prelude.{ℕ, List, [], ◌∷◌, ◌++◌, map, codes, decimal}
use Rattle.std.specs.List.{flat_map}
use Rattle.kn_logic.specs.Formulas.{Problem}
use Rattle.kn_text.specs.Lines.{line_text}
use Rattle.kn_format.specs.Texts.{knf_text}
use Rattle.kn_extract.specs.Extractions.{Found}

-- a number with a space before it
abbrev pub spaced : ℕ → List ℕ
spaced n = 32 ∷ decimal n

-- the auxiliary variables of a group, ascending
abbrev pub group_line : List ℕ → List ℕ
group_line [] = []
group_line (v ∷ vs) = line_text (codes "c" ∷ codes "group" ∷ map decimal (v ∷ vs))

abbrev pub extraction_text : List Found → Problem → List ℕ
extraction_text found last = flat_map (λ x. group_line x.group.aux) found ++ knf_text last
