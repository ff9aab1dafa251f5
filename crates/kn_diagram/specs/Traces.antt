-- Traces of the pairs of nodes that an operation meets.
use Rattle.std.specs.Prelude.{ℕ, ◌≡◌, ◌+◌, ◌<◌, ◌≤◌, min, Bool, true, Option, Some, None, ◌==◌, ◌&&◌, ◌||◌, if◌then◌else◌, List, [], ◌∷◌, ◌++◌}
use Rattle.std.specs.Option.{is_some}
use Rattle.kn_diagram.specs.declared.trace.Met.{Met}
use Rattle.kn_diagram.specs.declared.joint.Joint.{Joint}
use Rattle.kn_diagram.specs.declared.joint.Joint.TheVariants.{And, Or}
use Rattle.kn_diagram.specs.Diagrams.{Table, IsNode, function_of, depth_of, high_at, low_at}

-- the entry of a pair and its result
abbrev pub met_of : (ℕ × ℕ) × ℕ → Met
met_of e = record { u = e.0.0; v = e.0.1; w = e.1 }

-- the result at the first entry of a pair
abbrev pub found : List Met → ℕ → ℕ → Option ℕ
found [] u v = None
found (m ∷ ms) u v = if (u == m.u) && (v == m.v) then Some m.w else found ms u v

-- whether a pair has an entry
abbrev pub has_pair : List Met → ℕ → ℕ → Bool
has_pair ms u v = is_some (found ms u v)

abbrev pub connective : Joint → Bool → Bool → Bool
connective And a b = a && b
connective Or a b = a || b

-- the constant that decides a connective, and the one that leaves the other side
abbrev pub absorbing : Joint → ℕ
absorbing And = 0
absorbing Or = 1

abbrev pub neutral : Joint → ℕ
neutral And = 1
neutral Or = 0

-- the result for two nodes that are one, or one of which is a constant
abbrev pub decided : Joint → ℕ → ℕ → Option ℕ
decided joint f g =
    if (f == g) || (f == absorbing joint) || (g == neutral joint) then Some f
    else if (f == neutral joint) || (g == absorbing joint) then Some g
    else None

-- The result means what the connective makes of the two meanings, and its variable is not above both
-- of theirs.
pub record IsRight (join : Bool → Bool → Bool) (d : Table) (m : Met) : Type 0 where
  pub u_there : IsNode d m.u
  pub v_there : IsNode d m.v
  pub w_there : IsNode d m.w
  pub depth_is : min (depth_of d m.u) (depth_of d m.v) ≤ depth_of d m.w
  pub function : (v : ℕ → Bool) → function_of d m.w v ≡ join (function_of d m.u v) (function_of d m.v v)

-- Where the two nodes are different and neither is a constant, the pair of their halves for "true" and
-- the pair of those for "false", both at the upper of their two variables, have entries before it.
pub record IsExplained (join : Bool → Bool → Bool) (d : Table) (before : List Met) (m : Met) : Type 0 where
  pub right : IsRight join d m
  pub highs : (m.u ≡ m.v → ⊥) → 2 ≤ m.u → 2 ≤ m.v
      → (let depth = min (depth_of d m.u) (depth_of d m.v) in has_pair before (high_at d depth m.u) (high_at d depth m.v) ≡ true)
  pub lows : (m.u ≡ m.v → ⊥) → 2 ≤ m.u → 2 ≤ m.v
      → (let depth = min (depth_of d m.u) (depth_of d m.v) in has_pair before (low_at d depth m.u) (low_at d depth m.v) ≡ true)

-- each entry is explained by those before it
abbrev pub AreExplained : (Bool → Bool → Bool) → Table → List Met → List Met → Type 0
AreExplained join d before [] = Unit {0}
AreExplained join d before (m ∷ ms) = IsExplained join d before m × AreExplained join d (before ++ m ∷ []) ms

-- A trace has grown by entries that explain its last one.
pub record Explains (join : Bool → Bool → Bool) (d : Table) (old new : List Met) (last : Met) : Type 0 where
  pub earlier : List Met
  pub grown : new ≡ old ++ (earlier ++ last ∷ [])
  pub explained : AreExplained join d [] (earlier ++ last ∷ [])

-- What one step of an operation on a pair does to the results that were noted before.
pub record Gains (join : Bool → Bool → Bool) (d : Table) (before after : List Met) (f g w : ℕ) : Type 0 where
  pub right : IsRight join d (record { u = f; v = g; w = w })
  pub explained : AreExplained join d [] after
  pub noted : found after f g ≡ Some w
  pub kept : (p q : ℕ) → has_pair before p q ≡ true → has_pair after p q ≡ true
  pub same : (p q x : ℕ) → found before p q ≡ Some x → found after p q ≡ Some x
  pub absent : (p q : ℕ) → f + g < p + q → found before p q ≡ None → found after p q ≡ None
  pub last : found before f g ≡ None → (earlier : List Met) × (after ≡ earlier ++ record { u = f; v = g; w = w } ∷ [])
