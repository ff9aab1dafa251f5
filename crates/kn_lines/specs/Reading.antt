-- Reading the words of a line from its front. `Lines.antt` says as a relation what is read here.
use Rattle.std.specs.Prelude.{ℕ, ◌==◌, Bool, true, false, if◌then◌else◌, List, [], ◌∷◌, ◌++◌, Option, Some, None, codes}
use Rattle.std.specs.Option.{option_map, option_and_then, option_map_or}
use Rattle.std.specs.Str.{bytes_eq}
use Rattle.kn_logic.specs.Literals.{Literal}
use Rattle.kn_logic.specs.Constraints.{clause, klause}
use Rattle.kn_text.specs.Numbers.{number_of, literal_of, is_end}
use Rattle.kn_lines.specs.declared.line.Arm.{Arm}
use Rattle.kn_lines.specs.declared.line.Arm.TheVariants.{True, False, Lit}
use Rattle.kn_lines.specs.declared.line.Line.{Line}
use Rattle.kn_lines.specs.declared.line.Line.TheVariants.{Header, Define, Lemma, Learned, Klause, Unfold, Delete}

-- the literals read, and the words behind the end mark, if there is one
abbrev pub if_ended : Bool → List Literal → List (List ℕ) → Option (List Literal × List (List ℕ))
if_ended end lits words = if end then Some (lits, words) else None

-- the literals up to an end mark, behind those read before, and the words behind the mark
abbrev pub literals_behind : List Literal → List (List ℕ) → Option (List Literal × List (List ℕ))
literals_behind lits [] = None
literals_behind lits (word ∷ words) =
    option_map_or (λ l. literals_behind (lits ++ l ∷ []) words) (literal_of word) (if_ended (is_end word) lits words)

-- what was read, if no word is behind it
abbrev pub if_last : List ℕ → List (List ℕ) → Option (List ℕ)
if_last ids [] = Some ids
if_last ids (word ∷ words) = None

-- the ids up to an end mark, behind those read before; none if a word is behind the mark
abbrev pub ids_behind : List ℕ → List (List ℕ) → Option (List ℕ)
ids_behind ids [] = None
ids_behind ids (word ∷ words) =
    option_and_then (λ id. if id == 0 then if_last ids words else ids_behind (ids ++ id ∷ []) words) (number_of word)

abbrev pub header_of : List (List ℕ) → Option Line
header_of (format ∷ first ∷ second ∷ []) =
    if bytes_eq format (codes "kpf") then option_and_then (λ vars. option_map (λ constraints. Header vars constraints) (number_of second)) (number_of first) else None
header_of _ = None

-- a constant, or a literal
abbrev pub arm_of : List ℕ → Option Arm
arm_of word = if bytes_eq word (codes "T") then Some True else if bytes_eq word (codes "F") then Some False else option_map (λ l. Lit l) (literal_of word)

abbrev pub definition_of : List (List ℕ) → Option Line
definition_of (test ∷ first ∷ second ∷ []) =
    option_and_then (λ x. option_and_then (λ high. option_map (λ low. Define x high low) (arm_of second)) (arm_of first)) (literal_of test)
definition_of _ = None

-- a clause that is derived by hints: by a solver that learned it, or as a lemma
abbrev pub derived : Bool → List Literal → List ℕ → Line
derived learned lits hints = if learned then Learned (clause lits) hints else Lemma (clause lits) hints

abbrev pub derived_of : Bool → List (List ℕ) → Option Line
derived_of learned words = option_and_then (λ front. option_map (λ hints. derived learned front.0 hints) (ids_behind [] front.1)) (literals_behind [] words)

-- a number of at least 1
abbrev pub positive_of : List ℕ → Option ℕ
positive_of word = option_and_then (λ n. if n == 0 then None else Some n) (number_of word)

-- two numbers of at least 1, if no word is behind them
abbrev pub pair_of : List (List ℕ) → Option (ℕ × ℕ)
pair_of (first ∷ second ∷ []) = option_and_then (λ a. option_map (λ b. (a, b)) (positive_of second)) (positive_of first)
pair_of _ = None

abbrev pub klause_of : List (List ℕ) → Option Line
klause_of [] = None
klause_of (word ∷ words) =
    option_and_then (λ bound. option_and_then (λ front. option_map (λ pair. Klause (klause bound front.0) pair.0 pair.1) (pair_of front.1)) (literals_behind [] words)) (number_of word)

abbrev pub unfolding_of : List (List ℕ) → Option Line
unfolding_of words = option_map (λ pair. Unfold pair.0 pair.1) (pair_of words)

abbrev pub delete_of : List (List ℕ) → Option Line
delete_of words = option_map (λ ids. Delete ids) (ids_behind [] words)

-- the line that the words spell, if they spell one
abbrev pub line_of : List (List ℕ) → Option Line
line_of [] = None
line_of (word ∷ words) =
    if bytes_eq word (codes "p") then header_of words else if bytes_eq word (codes "d") then definition_of words else if bytes_eq word (codes "r") then derived_of false words else if bytes_eq word (codes "l") then derived_of true words else if bytes_eq word (codes "k") then klause_of words else if bytes_eq word (codes "g") then unfolding_of words else if bytes_eq word (codes "x") then delete_of words else None
