-- What the type of a taken group keeps.
use Rattle.std.proofs.Common.{◌≡◌, ℕ, ◌+◌, ◌-◌, ◌≤◌, ◌<◌, List, [], ◌∷◌, length, map, Option, refl, sym, ap₂, subst, ◌∙◌, arith}
use Rattle.std.specs.List.{AllByRecursion}
use Rattle.std.specs.List.Sorted.{IsStrictlyIncreasing}
use Rattle.std.proofs.lemmas.List.{length-map}
use Rattle.kn_logic.specs.Constraints.{Bounded, klause}
use Rattle.kn_logic.specs.Groups.{Gathered, IsGroup}
use Rattle.kn_store.proofs.Public.{all-two, to-map, Rises, rises, increasing}
use Rattle.kn_quant.specs.Eliminations.{Eliminated}
use Rattle.kn_extract.specs.Kept.{Took, IsTaken}
use Rattle.kn_extract.specs.Taking.{previous, IsWorthTaking}

-- places rise as ids do
rises-previous : (ids : List ℕ) → Rises ids → AllByRecursion (λ id. 1 ≤ id) ids → Rises (map previous ids)
rises-previous [] r low = tt
rises-previous (id ∷ ids) r low = (
  to-map previous (λ y. id - 1 < y) ids (all-two (λ y. id < y) (λ y. 1 ≤ y) (λ y. id - 1 < y - 1) (λ y h k. omega (arith, h, k, low.0)) ids r.0 low.1),
  rises-previous ids r.1 low.1,
)

-- ids count from 1, places from 0
pub ids-again : (ids : List ℕ) → AllByRecursion (λ id. 1 ≤ id) ids → map (λ p. p + 1) (map previous ids) ≡ ids
ids-again [] h = refl
ids-again (id ∷ ids) h = ap₂ (λ a b. a ∷ b) {x = id - 1 + 1} {y = id} (omega (arith, h.0)) (ids-again ids h.1)

abbrev pub took : Gathered → List ℕ → ℕ → Option Eliminated → Took
took g ids bound e = record { group = g; places = map previous ids; klause = klause bound g.border; elimination = e }

pub taken-is : (g : Gathered) (ids : List ℕ) (bound : ℕ) (e : Option Eliminated) → IsGroup g → IsStrictlyIncreasing ids → AllByRecursion (λ id. 1 ≤ id) ids → length ids ≡ length g.taken → IsWorthTaking g bound e
    → IsTaken (took g ids bound e)
taken-is g ids bound e group up low each worth = record {
  group = group;
  ascending = increasing (map previous ids) (rises-previous ids (rises ids up) low);
  each = length-map ids previous ∙ each;
  klause = refl;
  range = worth.range;
  cardinal = worth.cardinal;
  elimination = worth.eliminated;
}

pub taken-from : (g group : Gathered) (ids places : List ℕ) (bound : ℕ) (k : Bounded) (e : Option Eliminated) → group ≡ g → places ≡ map previous ids → k ≡ klause bound g.border → IsTaken (took g ids bound e)
    → IsTaken (record { group = group; places = places; klause = k; elimination = e })
taken-from g group ids places bound k e same at is h =
    subst (λ z. IsTaken (record { group = z; places = places; klause = k; elimination = e })) (sym same)
    (subst (λ z. IsTaken (record { group = g; places = z; klause = k; elimination = e })) (sym at)
    (subst (λ z. IsTaken (record { group = g; places = map previous ids; klause = z; elimination = e })) (sym is) h))
