-- The pieces of an elimination, each with the lowest of the variables still to be taken on which it depends.
use Rattle.std.specs.Prelude.{ℕ, ◌≡◌, ◌<◌, ◌==◌, ◌⊎◌, Bool, false, Option, Some, None, if◌then◌else◌, List, [], ◌∷◌, length, map}
use Rattle.std.specs.List.{AllByRecursion}
use Rattle.kn_diagram.specs.Diagrams.{Table, function_of, depth_in}
use Rattle.kn_diagram.specs.Wide.{DependsOn, Ignores}
use Rattle.kn_quant.specs.declared.piece.Piece.{Piece}
use Rattle.kn_quant.specs.Runs.{Function}

abbrev pub nodes_of : List Piece → List ℕ
nodes_of pieces = map (λ p. p.node) pieces

abbrev pub is_number : ℕ → Option ℕ → Bool
is_number y None = false
is_number y (Some x) = x == y

abbrev pub is_marked : ℕ → Piece → Bool
is_marked y p = is_number y p.lowest

-- the nodes of the pieces whose lowest variable is this one, and the other pieces, both in order
abbrev pub marked_nodes : ℕ → List Piece → List ℕ
marked_nodes y [] = []
marked_nodes y (p ∷ ps) = if is_marked y p then p.node ∷ marked_nodes y ps else marked_nodes y ps

abbrev pub unmarked : ℕ → List Piece → List Piece
unmarked y [] = []
unmarked y (p ∷ ps) = if is_marked y p then unmarked y ps else p ∷ unmarked y ps

-- the first of some variables on which a function depends
abbrev pub IsLowest : List ℕ → Function → Option ℕ → Type 0
IsLowest [] f lowest = lowest ≡ None
IsLowest (y ∷ ys) f lowest = (DependsOn f y × (lowest ≡ Some y)) ⊎ (Ignores f y × IsLowest ys f lowest)

abbrev pub AreMarked : Table → List ℕ → List Piece → Type 0
AreMarked d ys pieces = AllByRecursion (λ p. IsLowest ys (function_of d p.node) p.lowest) pieces

-- the variables stand at the top of an order, the last of them first
abbrev pub AreOnTop : List ℕ → List ℕ → Type 0
AreOnTop order [] = Unit {0}
AreOnTop order (y ∷ ys) = (depth_in order y ≡ length ys) × (length ys < length order) × AreOnTop order ys
