-- The diagram of a count: "at least so many of these literals", whose variables are the last of the order.
use Rattle.std.specs.Prelude.{ℕ, ◌≡◌, ◌≤◌, ◌++◌, nat_le, length, map, Bool, List}
use Rattle.kn_logic.specs.Literals.{Literal, places, AreDifferent}
use Rattle.kn_diagram.specs.Diagrams.{Table, IsNode, function_of, depth_of, is_true_by}

pub record IsCount (d : Table) (front : List ℕ) (lits : List Literal) (j f : ℕ) : Type 0 where
  pub order : d.order ≡ front ++ map (λ (l : Literal). l.variable) lits
  pub different : AreDifferent lits
  pub there : IsNode d f
  pub depth : length front ≤ depth_of d f
  pub counts : (v : ℕ → Bool) → function_of d f v ≡ nat_le j (places (is_true_by v) lits)
