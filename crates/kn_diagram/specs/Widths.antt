-- The nodes that are reached from a node, and how many of them each variable has.
use Rattle.std.specs.Prelude.{ℕ, zero, suc, ◌≡◌, ◌+◌, ◌<◌, ◌≤◌, ◌==◌, ◌⊎◌, Bool, ◌&&◌, ◌||◌, if◌then◌else◌, List, [], ◌∷◌, length}
use Rattle.kn_diagram.specs.Diagrams.{Row, Table, depth_of}

-- A node reaches itself and whatever its high and its low node reach.
abbrev pub reaches_in : List Row → ℕ → ℕ → Bool
reaches_in [] from node = from == node
reaches_in (row ∷ older) from node =
    if from == length older + 2
    then (from == node) || (reaches_in older row.high node || reaches_in older row.low node)
    else reaches_in older from node

unfoldable pub reaches : Table → ℕ → ℕ → Bool
reaches d from node = reaches_in d.rows from node

-- how many of the nodes below a number are reached, and are of the variable at this depth
abbrev pub reached_below : Table → ℕ → ℕ → ℕ → ℕ
reached_below d from depth zero = 0
reached_below d from depth (suc n) = (if reaches d from n && (depth_of d n == depth) then 1 else 0) + reached_below d from depth n

-- how many nodes of the variable at this depth are reached
unfoldable pub width_at : Table → ℕ → ℕ → ℕ
width_at d from depth = reached_below d from depth (length d.rows + 2)

-- how many nodes of a list are of the variable at this depth
abbrev pub of_depth : Table → ℕ → List ℕ → ℕ
of_depth d depth [] = 0
of_depth d depth (node ∷ nodes) = (if depth_of d node == depth then 1 else 0) + of_depth d depth nodes

-- the number is the greatest width, or 0 where no variable has a node
pub record IsWidest (d : Table) (from n : ℕ) : Type 0 where
  pub bound : (depth : ℕ) → depth < length d.order → width_at d from depth ≤ n
  pub met : (n ≡ 0) ⊎ ((depth : ℕ) × (depth < length d.order) × (width_at d from depth ≡ n))

-- More than 256 nodes are reached of the variable at this depth, and of none above it.
pub record IsFirstWide (d : Table) (from depth : ℕ) : Type 0 where
  pub within : depth < length d.order
  pub wide : 256 < width_at d from depth
  pub first : (k : ℕ) → k < depth → width_at d from k ≤ 256
