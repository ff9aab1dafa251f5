-- How a pair group makes its klause. Of the grid of "all but one at most", two nodes are left for each place of the
-- border: "all literals from here on", and "all but one at most". The second follows from that of the next place, by
-- the clauses that the literal is in with all later ones.
use Rattle.std.specs.Prelude.{ℕ, ◌≡◌, ◌⊎◌, ◌+◌, ◌-◌, ◌++◌, true, List, [], ◌∷◌, length, Option, Some, None, option_to_list}
use Rattle.std.specs.List.{AllByRecursion}
use Rattle.kn_logic.specs.Literals.{Literal, IsKnown}
use Rattle.kn_logic.specs.Constraints.{Bounded, clause, klause}
use Rattle.kn_logic.specs.Groups.{Gathered}
use Rattle.kn_lines.specs.declared.line.Arm.{Arm}
use Rattle.kn_lines.specs.declared.line.Arm.TheVariants as arm
use Rattle.kn_rules.specs.declared.given.Given.{Given}
use Rattle.kn_rules.specs.States.{ProofState, definition_of, live_at}
use Rattle.kn_rules.specs.Grids.{stands_for}
use Rattle.kn_rules.specs.Steps.{opposite, hinted, is_known_arm}
use Rattle.kn_justify.specs.declared.name.Name.{Name}
use Rattle.kn_justify.specs.declared.counts.All.{All}
use Rattle.kn_justify.specs.declared.counts.Held.{Held}
use Rattle.kn_justify.specs.Arms.{Has, IsSound, run_on}
use Rattle.kn_justify.specs.PairIds.{id_of}

-- the klause of a pair group
abbrev pub pair_klause : Gathered → Bounded
pair_klause g = klause (length g.border - 1) g.border

-- The clause of the two literals, in either order, is live under the id that was noted for their variables.
abbrev pub IsPaired : List Given → List ((ℕ × ℕ) × ℕ) → Literal → Literal → Type 0
IsPaired given pairs l k =
    (id : ℕ) × (id_of pairs l.variable k.variable ≡ Some id) × ((live_at given id ≡ Some (clause (l ∷ k ∷ []))) ⊎ (live_at given id ≡ Some (clause (k ∷ l ∷ []))))

-- each literal with all later ones
abbrev pub ArePaired : List Given → List ((ℕ × ℕ) × ℕ) → List Literal → Type 0
ArePaired given pairs [] = Unit {0}
ArePaired given pairs (l ∷ lits) = AllByRecursion (IsPaired given pairs l) lits × ArePaired given pairs lits

-- the ids of a literal's clauses with others
abbrev pub ids_with : List ((ℕ × ℕ) × ℕ) → Literal → List Literal → List ℕ
ids_with pairs l [] = []
ids_with pairs l (k ∷ lits) = option_to_list (id_of pairs l.variable k.variable) ++ ids_with pairs l lits

-- all literals of the list are had
abbrev pub AreHad : Option (List Literal) → List Literal → Type 0
AreHad run lits = AllByRecursion (λ l. Has run (arm.Lit l)) lits

-- The hints make all literals of the list true where the arm is false.
pub record Spreads (cs : List Bounded) (a : Arm) (lits : List Literal) : Type 0 where
  pub sound : (run : Option (List Literal)) → IsSound run → IsSound (run_on run cs)
  pub forces : (run : Option (List Literal)) → IsSound run → Has run (opposite a) → AreHad (run_on run cs) lits

-- The hints make the arm true where all literals of the list are.
pub record Lifts (cs : List Bounded) (lits : List Literal) (a : Arm) : Type 0 where
  pub sound : (run : Option (List Literal)) → IsSound run → IsSound (run_on run cs)
  pub forces : (run : Option (List Literal)) → IsSound run → AreHad run lits → Has (run_on run cs) a

abbrev pub Spread : List Given → List ℕ → Arm → List Literal → Type 0
Spread given ids a lits = (cs : List Bounded) × (hinted given ids ≡ Some cs) × Spreads cs a lits

abbrev pub Lifted : List Given → List ℕ → List Literal → Arm → Type 0
Lifted given ids lits a = (cs : List Bounded) × (hinted given ids ≡ Some cs) × Lifts cs lits a

-- The arm stands for "all of these literals", and the hints lead from them to it.
pub record IsAll (s : ProofState) (lits : List Literal) (all : All) : Type 0 where
  pub stands : stands_for (definition_of s) lits (length lits) all.arm ≡ true
  pub known : is_known_arm s.vars all.arm ≡ true
  pub lifted : Lifted s.given all.lifts.items lits all.arm

-- a literal that is held, or "true"
abbrev pub held_arm : Option Held → Arm
held_arm None = arm.True
held_arm (Some h) = arm.Lit h.lit

abbrev pub held_ids : Option Held → List ℕ
held_ids None = []
held_ids (Some h) = h.unit ∷ []

-- The clause of the literal alone is live, and the literal is a known variable.
pub record IsHeld (s : ProofState) (h : Held) : Type 0 where
  pub positive : h.lit.positive ≡ true
  pub known : IsKnown s.vars h.lit
  pub unit : live_at s.given h.unit ≡ Some (clause (h.lit ∷ []))

abbrev pub IsHeldIf : ProofState → Option Held → Type 0
IsHeldIf s None = Unit {0}
IsHeldIf s (Some h) = IsHeld s h

-- What is held stands for "all of these literals but one at most".
pub record IsAllButOne (s : ProofState) (lits : List Literal) (held : Option Held) : Type 0 where
  pub stands : stands_for (definition_of s) lits (length lits - 1) (held_arm held) ≡ true
  pub is_held : IsHeldIf s held

-- the hints for "all but one at most" of a literal and others: what is held of the others, and both ways of the definition
abbrev pub unit_hints : List ((ℕ × ℕ) × ℕ) → Option Held → Name → Literal → List Literal → List ℕ → List ℕ
unit_hints pairs held n l lits lifts = held_ids held ++ ((n.id + 2) ∷ (ids_with pairs l lits ++ (lifts ++ (n.id + 3) ∷ [])))
