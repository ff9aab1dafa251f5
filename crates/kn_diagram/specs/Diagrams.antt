-- Decision diagrams over one order of variables. A node is a number: 0 is "false", 1 is "true", and
-- each other one stands for "if this variable then that node, else that other node".
use Rattle.std.specs.Prelude.{ℕ, ◌≡◌, ◌+◌, ◌<◌, ◌≤◌, ◌==◌, ◌⊎◌, Bool, true, false, not, ◌&&◌, if◌then◌else◌, List, [], ◌∷◌, length, slice_index, nat_eq}
use Rattle.std.specs.List.{list_any, IsDistinct}
use Rattle.kn_logic.specs.Literals.{Literal}

-- "If the variable at this depth, then the high node, else the low node." The variable at depth 0 is
-- the top of the order.
pub record Row : Type 0 where
  pub depth : ℕ
  pub high : ℕ
  pub low : ℕ

-- the order, its top first, and the rows, the newest first: the first of n rows is that of node n + 1
pub record Table : Type 0 where
  pub order : List ℕ
  pub rows : List Row

abbrev pub IsNode : Table → ℕ → Type 0
IsNode d node = node < length d.rows + 2

-- the row of a node; of a constant, a row that leads back to it
abbrev pub row_in : ℕ → List Row → ℕ → Row
row_in bottom [] node = record { depth = bottom; high = node; low = node }
row_in bottom (row ∷ older) node = if node == length older + 2 then row else row_in bottom older node

-- what a node means where the variables have these values, by depth
abbrev pub value_in : List Row → ℕ → (ℕ → Bool) → Bool
value_in [] node values = node == 1
value_in (row ∷ older) node values =
    if node == length older + 2
    then (if values row.depth then value_in older row.high values else value_in older row.low values)
    else value_in older node values

-- The function of a node: its value where the variables have these values.
unfoldable pub function_of : Table → ℕ → (ℕ → Bool) → Bool
function_of d node values = value_in d.rows node (λ depth. values (slice_index d.order depth))

-- how far down the order the variable of a node stands; of a constant, the length of the order
unfoldable pub depth_of : Table → ℕ → ℕ
depth_of d node = (row_in (length d.order) d.rows node).depth

-- the node for where the variable of a node is true, and the one for where it is false
unfoldable pub high_of : Table → ℕ → ℕ
high_of d node = (row_in (length d.order) d.rows node).high

unfoldable pub low_of : Table → ℕ → ℕ
low_of d node = (row_in (length d.order) d.rows node).low

abbrev pub is_same : Row → Row → Bool
is_same a b = (a.depth == b.depth) && (a.high == b.high) && (a.low == b.low)

abbrev pub has_row : List Row → Row → Bool
has_row rows row = list_any (is_same row) rows

-- What the rows keep: a row's nodes are older and further down, they differ, and no row is there twice.
pub record IsReduced (bottom : ℕ) (older : List Row) (row : Row) : Type 0 where
  pub depth : row.depth < bottom
  pub high : row.high < length older + 2
  pub low : row.low < length older + 2
  pub above_high : row.depth < (row_in bottom older row.high).depth
  pub above_low : row.depth < (row_in bottom older row.low).depth
  pub different : row.high ≡ row.low → ⊥
  pub once : has_row older row ≡ false

abbrev pub AreReduced : ℕ → List Row → Type 0
AreReduced bottom [] = Unit {0}
AreReduced bottom (row ∷ older) = IsReduced bottom older row × AreReduced bottom older

-- how a row comes to its place among the rows: it stood there before, or it is the newest
pub record Stood (row : Row) (old new : List Row) (place : ℕ) : Type 0 where
  pub had : has_row old row ≡ true
  pub same : new ≡ old
  pub within : place < length old
  pub there : (bottom : ℕ) → row_in bottom old (place + 2) ≡ row

pub record Joined (row : Row) (old new : List Row) (place : ℕ) : Type 0 where
  pub once : has_row old row ≡ false
  pub more : new ≡ row ∷ old
  pub last : place ≡ length old

abbrev pub HasPlace : Row → List Row → List Row → ℕ → Type 0
HasPlace row old new place = Stood row old new place ⊎ Joined row old new place

abbrev pub row_of_key : ℕ × ℕ × ℕ → Row
row_of_key k = record { depth = k.0; high = k.1; low = k.2 }

-- what a table keeps: the variables of the order are different, and the rows are reduced
pub record IsTable (d : Table) : Type 0 where
  pub order : IsDistinct nat_eq d.order
  pub rows : AreReduced (length d.order) d.rows

-- A node stays what it was.
pub record IsKept (old new : Table) (node : ℕ) : Type 0 where
  pub there : IsNode new node
  pub function : (v : ℕ → Bool) → function_of new node v ≡ function_of old node v
  pub depth : depth_of new node ≡ depth_of old node
  pub high : high_of new node ≡ high_of old node
  pub low : low_of new node ≡ low_of old node

-- The order and each node that was there stay what they were.
pub record Keeps (old new : Table) : Type 0 where
  pub order : new.order ≡ old.order
  pub nodes : (node : ℕ) → IsNode old node → IsKept old new node

-- the two nodes for where the variable at a depth is true, and where it is false: of a node of
-- another variable, the node itself
abbrev pub high_at : Table → ℕ → ℕ → ℕ
high_at d depth node = if depth_of d node == depth then high_of d node else node

abbrev pub low_at : Table → ℕ → ℕ → ℕ
low_at d depth node = if depth_of d node == depth then low_of d node else node

-- "if the variable at this depth, then the high node, else the low one", all of it further down
pub record IsSplit (d : Table) (node depth high low : ℕ) : Type 0 where
  pub high_is : high ≡ high_at d depth node
  pub low_is : low ≡ low_at d depth node
  pub high_there : IsNode d high
  pub low_there : IsNode d low
  pub above_high : depth < depth_of d high
  pub above_low : depth < depth_of d low
  pub high_older : high ≤ node
  pub low_older : low ≤ node
  pub older : depth_of d node ≡ depth → (high < node) × (low < node)
  pub function : (v : ℕ → Bool) → function_of d node v ≡ (if v (slice_index d.order depth) then function_of d high v else function_of d low v)

pub record IsMade (old new : Table) (depth high low node : ℕ) : Type 0 where
  pub there : IsNode new node
  pub depth_is : depth ≤ depth_of new node
  pub function : (v : ℕ → Bool) → function_of new node v ≡ (if v (slice_index old.order depth) then function_of old high v else function_of old low v)

-- how far down the order a variable stands; the length of the order where it is not in it
abbrev pub depth_in : List ℕ → ℕ → ℕ
depth_in [] variable = 0
depth_in (x ∷ xs) variable = if variable == x then 0 else 1 + depth_in xs variable

-- A node that is no constant: its variable, and its nodes for "true" and "false", which differ and are
-- of variables further down.
pub record IsBranch (d : Table) (node variable high low : ℕ) : Type 0 where
  pub depth_is : depth_in d.order variable ≡ depth_of d node
  pub variable_is : variable ≡ slice_index d.order (depth_of d node)
  pub within : depth_of d node < length d.order
  pub high_is : high ≡ high_of d node
  pub low_is : low ≡ low_of d node
  pub high_there : IsNode d high
  pub low_there : IsNode d low
  pub above_high : depth_of d node < depth_of d high
  pub above_low : depth_of d node < depth_of d low
  pub high_older : high < node
  pub low_older : low < node
  pub different : high ≡ low → ⊥
  pub function : (v : ℕ → Bool) → function_of d node v ≡ (if v variable then function_of d high v else function_of d low v)

-- Two nodes are one where their functions are.
abbrev pub IsCanonical : Table → Type 0
IsCanonical d = (f g : ℕ) → IsNode d f → IsNode d g → ((v : ℕ → Bool) → function_of d f v ≡ function_of d g v) → f ≡ g

-- the same values, but this one for this variable
abbrev pub with_value : (ℕ → Bool) → ℕ → Bool → ℕ → Bool
with_value v variable b = λ x. if x == variable then b else v x

-- whether a literal is true where the variables have these values
abbrev pub is_true_by : (ℕ → Bool) → Literal → Bool
is_true_by v l = if l.positive then v l.variable else not (v l.variable)

-- whether a list has the literal of this variable that asks for this value
abbrev pub asks : List Literal → ℕ → Bool → Bool
asks lits variable positive = list_any (λ l. (l.variable == variable) && (if positive then l.positive else not l.positive)) lits

-- Two assignments of values agree from a depth downwards.
abbrev pub AgreeFrom : Table → ℕ → (ℕ → Bool) → (ℕ → Bool) → Type 0
AgreeFrom d depth v w = (k : ℕ) → depth ≤ k → k < length d.order → v (slice_index d.order k) ≡ w (slice_index d.order k)

-- What holds of each table: the constants; each other node is a branch of the variable at its depth; each
-- variable stands at one place of the order; and a node's function hangs on the node's own variable and on
-- those further down alone.
pub record HasNodes (d : Table) : Type 0 where
  pub no : (v : ℕ → Bool) → function_of d 0 v ≡ false
  pub yes : (v : ℕ → Bool) → function_of d 1 v ≡ true
  pub no_depth : depth_of d 0 ≡ length d.order
  pub yes_depth : depth_of d 1 ≡ length d.order
  pub depth_within : (node : ℕ) → IsNode d node → depth_of d node ≤ length d.order
  pub branch : (node : ℕ) → 2 ≤ node → IsNode d node → IsBranch d node (slice_index d.order (depth_of d node)) (high_of d node) (low_of d node)
  pub place : (depth : ℕ) → depth < length d.order → depth_in d.order (slice_index d.order depth) ≡ depth
  pub below : (node : ℕ) (v w : ℕ → Bool) → IsNode d node → AgreeFrom d (depth_of d node) v w → function_of d node v ≡ function_of d node w
