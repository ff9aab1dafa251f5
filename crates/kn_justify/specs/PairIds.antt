-- Clauses of two literals, found by their variables.
use Rattle.std.specs.Prelude.{ℕ, ◌≡◌, true, ◌&&◌, nat_lt, if◌then◌else◌, List, [], ◌∷◌, Option, Some, IsSome, IfSome, nat_eq}
use Rattle.std.specs.List.{AllByRecursion}
use Rattle.std.specs.Map.{lookup}
use Rattle.kn_logic.specs.Literals.{Literal}
use Rattle.kn_logic.specs.Constraints.{Bounded, IsWithin}
use Rattle.kn_logic.specs.Groups.{is_among}
use Rattle.kn_rules.specs.States.{ProofState, live_at}

-- the id that was noted for two variables
abbrev pub id_of : List ((ℕ × ℕ) × ℕ) → ℕ → ℕ → Option ℕ
id_of pairs u v = lookup (λ k. nat_eq u k.0 && nat_eq v k.1) pairs

-- the smaller one of two variables, and the larger one
abbrev pub smaller : ℕ → ℕ → ℕ
smaller u v = if nat_lt u v then u else v

abbrev pub larger : ℕ → ℕ → ℕ
larger u v = if nat_lt u v then v else u

-- two literals of these variables, the smaller one of which is u
abbrev pub IsOver : List Literal → ℕ → ℕ → Type 0
IsOver (a ∷ b ∷ []) u v = (u ≡ smaller a.variable b.variable) × (v ≡ larger a.variable b.variable)
IsOver other u v = ⊥

-- Where these are two literals, an id is noted for their variables.
abbrev pub IsNoted : List ((ℕ × ℕ) × ℕ) → List Literal → Type 0
IsNoted pairs (a ∷ b ∷ []) = IsSome (id_of pairs (smaller a.variable b.variable) (larger a.variable b.variable))
IsNoted pairs other = Unit {0}

-- One of these ids, under which a constraint over these two variables is live.
pub record IsIdOver (s : ProofState) (ids : List ℕ) (u v id : ℕ) : Type 0 where
  pub among : is_among ids id ≡ true
  pub c : Bounded
  pub live : live_at s.given id ≡ Some c
  pub over : IsOver c.lits u v

-- a constraint over known variables; where it has two literals, an id is noted for their variables
pub record IsNotedFor (s : ProofState) (pairs : List ((ℕ × ℕ) × ℕ)) (c : Bounded) : Type 0 where
  pub within : IsWithin s.vars c
  pub noted : IsNoted pairs c.lits

-- The ids that were noted are some of these, and are live for constraints over their two variables; and the constraint
-- of each of these ids is noted.
pub record AreNoted (s : ProofState) (ids : List ℕ) (pairs : List ((ℕ × ℕ) × ℕ)) : Type 0 where
  pub right : (u v id : ℕ) → id_of pairs u v ≡ Some id → IsIdOver s ids u v id
  pub each : AllByRecursion (λ id. IfSome (live_at s.given id) (IsNotedFor s pairs)) ids
