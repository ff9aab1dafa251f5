-- "For some value of a variable": of functions, and of the nodes of a table.
use Rattle.std.specs.Prelude.{ℕ, ◌≡◌, ◌<◌, ◌≤◌, ◌||◌, Bool, true, false, List, [], ◌∷◌, ◌++◌, Some, None}
use Rattle.kn_diagram.specs.declared.trace.Met.{Met}
use Rattle.kn_diagram.specs.Diagrams.{Table, IsNode, with_value, function_of, depth_of, high_of, low_of, depth_in}
use Rattle.kn_diagram.specs.Traces.{found, has_pair, AreExplained}

-- whether a function is true for some value of a variable
abbrev pub some_value : ℕ → ((ℕ → Bool) → Bool) → (ℕ → Bool) → Bool
some_value variable f v = f (with_value v variable true) || f (with_value v variable false)

-- the entry of a node and its result
abbrev pub entry_of : ℕ → ℕ → Met
entry_of u w = record { u = u; v = u; w = w }

-- The result means "for some value of the variable, u", and is of no variable above that of u.
pub record IsQuantified (d : Table) (variable u w : ℕ) : Type 0 where
  pub u_there : IsNode d u
  pub w_there : IsNode d w
  pub depth_is : depth_of d u ≤ depth_of d w
  pub function : (v : ℕ → Bool) → function_of d w v ≡ some_value variable (function_of d u) v

-- How an entry follows: from the entries before it of the high and the low node, where the node's own
-- variable stands above the one that is quantified; from the disjunction of both, where it is that one;
-- by being the node itself, where it stands below. A constant stands below all.
pub record IsAccounted (d : Table) (variable : ℕ) (halves before : List Met) (m : Met) : Type 0 where
  pub one : m.v ≡ m.u
  pub right : IsQuantified d variable m.u m.w
  pub highs : depth_of d m.u < depth_in d.order variable → has_pair before (high_of d m.u) (high_of d m.u) ≡ true
  pub lows : depth_of d m.u < depth_in d.order variable → has_pair before (low_of d m.u) (low_of d m.u) ≡ true
  pub joined : depth_of d m.u ≡ depth_in d.order variable → found halves (high_of d m.u) (low_of d m.u) ≡ Some m.w
  pub below : depth_in d.order variable < depth_of d m.u → m.w ≡ m.u

-- each entry follows from those before it and the disjunctions
abbrev pub AreAccounted : Table → ℕ → List Met → List Met → List Met → Type 0
AreAccounted d variable halves before [] = Unit {0}
AreAccounted d variable halves before (m ∷ ms) = IsAccounted d variable halves before m × AreAccounted d variable halves (before ++ m ∷ []) ms

-- Two traces have grown, one by entries that account for "for some value of the variable, f", which is
-- the last of them, the other by the disjunctions that these rest on.
pub record Quantifies (d : Table) (variable : ℕ) (old new halves_old halves_new : List Met) (f w : ℕ) : Type 0 where
  pub earlier : List Met
  pub halves : List Met
  pub grown : new ≡ old ++ (earlier ++ entry_of f w ∷ [])
  pub halves_grown : halves_new ≡ halves_old ++ halves
  pub explained : AreExplained (λ a b. a || b) d [] halves
  pub accounted : AreAccounted d variable halves [] (earlier ++ entry_of f w ∷ [])

-- What one step does to the results that were noted before; the disjunctions are those of all steps.
pub record Settles (d : Table) (variable : ℕ) (before after halves : List Met) (u w : ℕ) : Type 0 where
  pub right : IsQuantified d variable u w
  pub explained : AreExplained (λ a b. a || b) d [] halves
  pub accounted : AreAccounted d variable halves [] after
  pub noted : found after u u ≡ Some w
  pub kept : (p : ℕ) → has_pair before p p ≡ true → has_pair after p p ≡ true
  pub absent : (p : ℕ) → u < p → found before p p ≡ None → found after p p ≡ None
  pub last : found before u u ≡ None → (earlier : List Met) × (after ≡ earlier ++ entry_of u w ∷ [])
