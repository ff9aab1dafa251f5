-- What one number does that is tried, as the functions of this crate hand it to one another.
use Rattle.std.specs.Prelude.{ℕ, ◌≡◌, ◌-◌, ◌⊎◌, List, [], ◌∷◌, ◌++◌, not, map, filter, Option}
use Rattle.std.specs.List.{AllByRecursion}
use Rattle.kn_logic.specs.Groups.{Gathered, is_among}
use Rattle.kn_store.specs.Stores.{Numbered, Stored}
use Rattle.kn_quant.specs.Eliminations.{Eliminated, IsEliminationOf}
use Rattle.kn_verdict.specs.Cardinals.{IsCardinal, IsNarrow}
use Rattle.kn_verdict.specs.Verdicts.{IsInRange}
use Rattle.kn_extract.specs.declared.counting.Count.{Count}
use Rattle.kn_extract.specs.Extractions.{Found, Tries}
use Rattle.kn_extract.specs.Kept.{Took, found_of, IsTaken, IsEliminated}

-- A group counts: no stage of its elimination is wide, and it is cardinal with a bound in range.
abbrev pub Counts : Gathered → ℕ → Type 0
Counts g bound = IsNarrow g × IsCardinal g bound × IsInRange g bound

-- the bound, and the elimination that shows it
abbrev pub IsCounted : Gathered → Count → Type 0
IsCounted g count = Counts g count.bound × IsEliminationOf g count.elimination

-- what makes a group fit to be taken with a bound
pub record IsWorthTaking (g : Gathered) (bound : ℕ) (elimination : Option Eliminated) : Type 0 where
  pub range : IsInRange g bound
  pub cardinal : IsCardinal g bound
  pub eliminated : IsEliminated g elimination

abbrev pub previous : ℕ → ℕ
previous n = n - 1

-- those whose id is none of these
abbrev pub without : List ℕ → List Numbered → List Numbered
without ids live = filter (λ p. not (is_among ids p.id)) live

-- The number has no group to take, and nothing changes; or it takes one, which comes behind those that were taken.
abbrev pub HasTried : (Stored → ℕ → Found → Stored → Type 0) → ℕ → Stored → Stored → List Took → List Took → Type 0
HasTried Takes n s t old new =
    (((x : Found) (u : Stored) → Takes s n x u → ⊥) × (t ≡ s) × (new ≡ old))
    ⊎ ((k : Took) × Takes s n (found_of k) t × IsTaken k × (new ≡ old ++ k ∷ []))

-- One number after another was tried, and these groups came behind those that were taken.
abbrev pub HaveTried : (Stored → ℕ → Found → Stored → Type 0) → List ℕ → Stored → Stored → List Took → List Took → Type 0
HaveTried Takes ns s t old new = (more : List Took) × (new ≡ old ++ more) × AllByRecursion IsTaken more × Tries Takes ns s (map found_of more) t
