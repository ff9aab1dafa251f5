-- The lemmas of the entries of traces, as they are noted by their pairs.
use Rattle.std.specs.Prelude.{ℕ, ◌≡◌, ◌≤◌, ◌<◌, ◌⊎◌, ◌&&◌, ◌||◌, min, take, slice_get, Bool, true, List, Option, Some, nat_eq, option_to_list}
use Rattle.std.specs.Map.{lookup}
use Rattle.std.specs.List.{AllByRecursion}
use Rattle.std.specs.Option.{is_some}
use Rattle.kn_rules.specs.declared.given.Given.{Given}
use Rattle.kn_rules.specs.States.{ProofState}
use Rattle.kn_diagram.specs.declared.trace.Met.{Met}
use Rattle.kn_diagram.specs.Diagrams.{Table, depth_of, high_of, low_of, high_at, low_at, depth_in}
use Rattle.kn_diagram.specs.Traces.{IsRight}
use Rattle.kn_quant.specs.Quantified.{IsQuantified}
use Rattle.kn_justify.specs.declared.name.Name.{Name}
use Rattle.kn_justify.specs.declared.side.Side.{Side}
use Rattle.kn_justify.specs.declared.side.Side.TheVariants.{Both, Left, Right}
use Rattle.kn_justify.specs.Arms.{Settled}
use Rattle.kn_justify.specs.Names.{pair_arms, IsNamedMet}

-- the lemma that was noted for a pair: its id, or that it needs none
abbrev pub lemma_of : List ((ℕ × ℕ) × Option ℕ) → ℕ → ℕ → Option (Option ℕ)
lemma_of lemmas u v = lookup (λ k. nat_eq u k.0 && nat_eq v k.1) lemmas

abbrev pub has_lemma : List ((ℕ × ℕ) × Option ℕ) → ℕ → ℕ → Bool
has_lemma lemmas u v = is_some (lemma_of lemmas u v)

abbrev pub entry_with : (ℕ × ℕ) → ℕ → Met
entry_with pair w = record { u = pair.0; v = pair.1; w = w }

-- the entry that says "not u, or w": the other node is "true"
abbrev pub alone : ℕ → ℕ → Met
alone u w = record { u = u; v = 1; w = w }

-- What the lemma of an entry (u, v, w) speaks of: "not u, or not v, or w" of a conjunction; of a disjunction
-- "not u, or w", or "not v, or w".
abbrev pub seen : Side → Met → Met
seen Both m = m
seen Left m = alone m.u m.w
seen Right m = alone m.v m.w

abbrev pub joined : Side → Bool → Bool → Bool
joined Both a b = a && b
joined Left a b = a || b
joined Right a b = a || b

-- A lemma that was noted for a pair of a join: its id settles the clause of the pair with the right result.
pub record IsJoined (given : List Given) (d : Table) (names : List (ℕ × Name)) (side : Side) (lemma : (ℕ × ℕ) × Option ℕ) : Type 0 where
  pub w : ℕ
  pub right : IsRight (joined side) d (entry_with lemma.0 w)
  pub settled : Settled given (option_to_list lemma.1) (pair_arms names (seen side (entry_with lemma.0 w)))

abbrev pub AreJoined : List Given → Table → List (ℕ × Name) → Side → List ((ℕ × ℕ) × Option ℕ) → Type 0
AreJoined given d names side lemmas = AllByRecursion (IsJoined given d names side) lemmas

-- A lemma that was noted for a node of a quantification: its id settles "not u, or w" with the right result w.
pub record IsReduced (given : List Given) (d : Table) (names : List (ℕ × Name)) (variable : ℕ) (lemma : (ℕ × ℕ) × Option ℕ) : Type 0 where
  pub w : ℕ
  pub right : IsQuantified d variable lemma.0.0 w
  pub settled : Settled given (option_to_list lemma.1) (pair_arms names (alone lemma.0.0 w))

abbrev pub AreReduced : List Given → Table → List (ℕ × Name) → ℕ → List ((ℕ × ℕ) × Option ℕ) → Type 0
AreReduced given d names variable lemmas = AllByRecursion (IsReduced given d names variable) lemmas

-- each entry of a trace has its lemma
abbrev pub AreCovered : List ((ℕ × ℕ) × Option ℕ) → List Met → Type 0
AreCovered lemmas entries = AllByRecursion (λ m. has_lemma lemmas m.u m.v ≡ true) entries

abbrev pub AreNamed : ProofState → Table → List (ℕ × Name) → List Met → Type 0
AreNamed s d names entries = AllByRecursion (IsNamedMet s d names) entries

-- two different nodes, neither of which is a constant
abbrev pub IsOpen : Met → Type 0
IsOpen m = (m.u ≡ m.v → ⊥) × (2 ≤ m.u) × (2 ≤ m.v)

abbrev pub IsClosed : Met → Type 0
IsClosed m = (m.u ≡ m.v) ⊎ ((m.u < 2) ⊎ (m.v < 2))

-- the depth of the upper of the two nodes
abbrev pub depth_at : Table → Met → ℕ
depth_at d m = min (depth_of d m.u) (depth_of d m.v)

-- The entry's result is right, and where it is open, both pairs of children have lemmas.
pub record HasChildren (d : Table) (side : Side) (lemmas : List ((ℕ × ℕ) × Option ℕ)) (m : Met) : Type 0 where
  pub right : IsRight (joined side) d m
  pub highs : IsOpen m → has_lemma lemmas (high_at d (depth_at d m) m.u) (high_at d (depth_at d m) m.v) ≡ true
  pub lows : IsOpen m → has_lemma lemmas (low_at d (depth_at d m) m.u) (low_at d (depth_at d m) m.v) ≡ true

-- The result of an entry of a quantification is right. Above the variable its two nodes have lemmas, at the variable
-- both halves of their disjunction do, and below it the result is the node itself.
pub record HasParts (d : Table) (variable : ℕ) (left right lemmas : List ((ℕ × ℕ) × Option ℕ)) (m : Met) : Type 0 where
  pub is_right : IsQuantified d variable m.u m.w
  pub highs : depth_of d m.u < depth_in d.order variable → has_lemma lemmas (high_of d m.u) (high_of d m.u) ≡ true
  pub lows : depth_of d m.u < depth_in d.order variable → has_lemma lemmas (low_of d m.u) (low_of d m.u) ≡ true
  pub halves : depth_of d m.u ≡ depth_in d.order variable → IsRight (λ a b. a || b) d (record { u = high_of d m.u; v = low_of d m.u; w = m.w })
  pub first : depth_of d m.u ≡ depth_in d.order variable → has_lemma left (high_of d m.u) (low_of d m.u) ≡ true
  pub second : depth_of d m.u ≡ depth_in d.order variable → has_lemma right (high_of d m.u) (low_of d m.u) ≡ true
  pub below : depth_in d.order variable < depth_of d m.u → m.w ≡ m.u

-- Each entry of a quantification has its parts, as soon as those before it have their lemmas.
abbrev pub AreParted : Table → ℕ → List ((ℕ × ℕ) × Option ℕ) → List ((ℕ × ℕ) × Option ℕ) → List Met → Type 0
AreParted d variable left right entries =
    (place : ℕ) (m : Met) (lemmas : List ((ℕ × ℕ) × Option ℕ)) → slice_get entries place ≡ Some m → AreCovered lemmas (take place entries) → HasParts d variable left right lemmas m
