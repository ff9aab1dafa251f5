-- The different nodes among the results of an operation, counted by depth. Each stands for what is left of
-- the function that the operation makes, so too many of one depth show that this function is wide.
use Rattle.std.specs.Prelude.{ℕ, ◌≡◌, ◌==◌, ◌&&◌, Bool, if◌then◌else◌, List, [], ◌∷◌, length, slice_index, nat_eq}
use Rattle.std.specs.List.{AllByRecursion, IsDistinct}
use Rattle.kn_diagram.specs.Diagrams.{Table, IsNode, function_of, depth_of}
use Rattle.kn_diagram.specs.Wide.{IsLeft, IsWideAt}

-- An entry is a depth and a node of it: these are the nodes of one depth.
abbrev pub nodes_at : ℕ → List (ℕ × ℕ) → List ℕ
nodes_at depth [] = []
nodes_at depth (e ∷ es) = if e.0 == depth then e.1 ∷ nodes_at depth es else nodes_at depth es

abbrev pub same_pair : ℕ × ℕ → ℕ × ℕ → Bool
same_pair k x = (k.0 == x.0) && (k.1 == x.1)

-- what a census keeps: no node is there twice, and each depth has the number of its nodes
pub record IsCensus (entries : List (ℕ × ℕ)) (numbers : List ℕ) : Type 0 where
  pub distinct : (depth : ℕ) → IsDistinct nat_eq (nodes_at depth entries)
  pub counts : (depth : ℕ) → slice_index numbers depth ≡ length (nodes_at depth entries)

-- The entry's node is of its depth, and stands for what is left of a function there.
pub record IsPart (d : Table) (whole : (ℕ → Bool) → Bool) (entry : ℕ × ℕ) : Type 0 where
  pub there : IsNode d entry.1
  pub depth : depth_of d entry.1 ≡ entry.0
  pub left : IsLeft d.order whole (function_of d entry.1) entry.0

abbrev pub AreParts : Table → ((ℕ → Bool) → Bool) → List (ℕ × ℕ) → Type 0
AreParts d whole entries = AllByRecursion (IsPart d whole) entries

-- Where the entries are parts of a function, and a further part is left of it, what was counted in
-- making that part belongs to the function too.
abbrev pub StayParts : Table → Table → List (ℕ × ℕ) → List (ℕ × ℕ) → ((ℕ → Bool) → Bool) → ℕ → Type 0
StayParts old new before after part depth =
    (whole : (ℕ → Bool) → Bool) → AreParts old whole before → IsLeft old.order whole part depth → AreParts new whole after

-- Under the same premises the function is wide at a variable.
abbrev pub WouldBeWide : Table → List (ℕ × ℕ) → ((ℕ → Bool) → Bool) → ℕ → ℕ → Type 0
WouldBeWide d before part depth level =
    (whole : (ℕ → Bool) → Bool) → AreParts d whole before → IsLeft d.order whole part depth → IsWideAt d.order whole level
