-- What a justification of an elimination goes on from.
use Rattle.std.specs.Prelude.{ℕ, ◌≡◌, ◌≤◌, ◌<◌, ◌↔◌, ◌⊎◌, ◌++◌, Bool, true, List, [], ◌∷◌, length, reverse, take, nat_eq, slice_get, Option, Some, None}
use Rattle.std.specs.List.{AllByRecursion, list_any}
use Rattle.std.specs.Option.{is_some}
use Rattle.std.specs.Map.{lookup}
use Rattle.kn_logic.specs.Literals.{Literal, places, IsKnown, AreKnown}
use Rattle.kn_logic.specs.Constraints.{Bounded, clause, klause}
use Rattle.kn_logic.specs.Groups.{Gathered}
use Rattle.kn_rules.specs.declared.given.Given.{Given}
use Rattle.kn_rules.specs.States.{live_at}
use Rattle.kn_diagram.specs.declared.trace.Met.{Met}
use Rattle.kn_diagram.specs.Diagrams.{Table, IsNode, function_of, is_true_by}
use Rattle.kn_quant.specs.declared.stage.Stage.{Stage}
use Rattle.kn_quant.specs.declared.stage.Stage.TheVariants.{Clause, And, Exists}
use Rattle.kn_quant.specs.Runs.{CanHold}
use Rattle.kn_quant.specs.Eliminations.{node_of}
use Rattle.kn_justify.specs.declared.name.Name.{Name}
use Rattle.kn_justify.specs.Names.{test_at, IsNamed, IsUnit}
use Rattle.kn_justify.specs.Stages.{IsAnd, IsExists}

-- The clauses are live under the ids, one each, in their order.
abbrev pub AreTaken : List Given → List ℕ → List Bounded → Type 0
AreTaken given [] [] = Unit {0}
AreTaken given (id ∷ ids) (c ∷ cs) = (live_at given id ≡ Some c) × AreTaken given ids cs
AreTaken given ids cs = ⊥

-- Each variable of the group is one from 1 to this number.
pub record IsGroupWithin (vars : ℕ) (g : Gathered) : Type 0 where
  pub aux : AllByRecursion (λ y. (1 ≤ y) × (y ≤ vars)) g.aux
  pub border : AreKnown vars g.border

-- the klause of a group: at least so many of its border literals, in the order of the diagrams
abbrev pub klause_of : Gathered → ℕ → Bounded
klause_of g bound = klause bound (reverse g.border)

-- The clauses of a group can hold exactly where at least so many of the border literals are true.
abbrev pub CountsBorder : Gathered → ℕ → Type 0
CountsBorder g bound = (v : ℕ → Bool) → CanHold g v ↔ (bound ≤ places (is_true_by v) g.border)

-- the variable at each depth is known
abbrev pub IsOrderKnown : ℕ → Table → Type 0
IsOrderKnown vars d = (depth : ℕ) → depth < length d.order → IsKnown vars (test_at d depth)

-- the three nodes of each entry are nodes of the diagram
abbrev pub AreThere : Table → List Met → Type 0
AreThere d entries = AllByRecursion (λ m. IsNode d m.u × IsNode d m.v × IsNode d m.w) entries

-- and each is a constant or has a name
abbrev pub AreAllNamed : List (ℕ × Name) → List Met → Type 0
AreAllNamed names entries = AllByRecursion (λ m. IsNamed names m.u × IsNamed names m.v × IsNamed names m.w) entries

-- the unit that was noted for a node
abbrev pub unit_of : List (ℕ × Option ℕ) → ℕ → Option (Option ℕ)
unit_of units node = lookup (nat_eq node) units

abbrev pub has_unit : List (ℕ × Option ℕ) → ℕ → Bool
has_unit units node = is_some (unit_of units node)

-- Each node that was noted has its unit, and is a constant or has a name.
abbrev pub AreUnits : List Given → List (ℕ × Name) → List (ℕ × Option ℕ) → Type 0
AreUnits given names units = AllByRecursion (λ e. IsUnit given names e.0 e.1 × IsNamed names e.0) units

-- The node is that of the clause at a place, which has a literal and is live under the id at the same place.
pub record IsTakenAt (given : List Given) (d : Table) (cs : List Bounded) (ids : List ℕ) (place node : ℕ) : Type 0 where
  pub c : Bounded
  pub id : ℕ
  pub clause_is : slice_get cs place ≡ Some c
  pub id_is : slice_get ids place ≡ Some id
  pub live : live_at given id ≡ Some c
  pub formed : c ≡ clause c.lits
  pub filled : c.lits ≡ [] → ⊥
  pub there : IsNode d node
  pub function : (v : ℕ → Bool) → function_of d node v ≡ list_any (is_true_by v) c.lits

-- What the unit of a stage is made of: the clause that it takes, or the units of the nodes that it begins with.
abbrev pub IsNext : List Given → Table → List Bounded → List ℕ → List (ℕ × Option ℕ) → Stage → Type 0
IsNext given d cs ids units (Clause taken node) = IsTakenAt given d cs ids taken node
IsNext given d cs ids units (And left right node met) = IsAnd d (And left right node met) × (has_unit units left ≡ true) × (has_unit units right ≡ true)
IsNext given d cs ids units (Exists variable from node met halves) = IsExists d (Exists variable from node met halves) × (has_unit units from ≡ true)

-- each node of a stage has its unit
abbrev pub AreMade : List (ℕ × Option ℕ) → List Stage → Type 0
AreMade units stages = AllByRecursion (λ s. has_unit units (node_of s) ≡ true) stages

-- each stage has what its unit is made of, as soon as those before it have theirs
abbrev pub AreMadeInTurn : List Given → Table → List Bounded → List ℕ → List Stage → Type 0
AreMadeInTurn given d cs ids stages =
    (place : ℕ) (s : Stage) (units : List (ℕ × Option ℕ)) → slice_get stages place ≡ Some s → AreMade units (take place stages) → IsNext given d cs ids units s

-- A node's unit was noted, unless there was one.
abbrev pub IsNoted : ℕ → Option ℕ → List (ℕ × Option ℕ) → List (ℕ × Option ℕ) → Type 0
IsNoted node id old new = ((has_unit old node ≡ true) × (new ≡ old)) ⊎ ((unit_of old node ≡ None) × (new ≡ old ++ (node, id) ∷ []))
