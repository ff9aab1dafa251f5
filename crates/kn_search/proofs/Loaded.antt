-- An engine that has the first constraints of a formula, and one more.
use Rattle.std.proofs.Common.{◌≡◌, ℕ, zero, suc, ◌+◌, ◌<◌, ◌++◌, List, [], ◌∷◌, map, take, length, None, Some, refl, sym, ap, subst, arith}
use Rattle.std.specs.List.{AllByRecursion, slice_get}
use Rattle.std.proofs.lemmas.Option.{same_Some}
use Rattle.kn_logic.specs.Constraints.{Bounded}
use Rattle.kn_rules.specs.declared.given.Given.{Given}
use Rattle.kn_rules.specs.States.{from_file}
use Rattle.kn_rules.specs.Searching.{learned_live}
use Rattle.kn_propagate.specs.Engines.{Live, live_in, constraints, IsAdded}
use Rattle.kn_search.specs.Mirrors.{Mirrors}
use Rattle.kn_search.proofs.Ids.{given-place}
use Rattle.kn_search.proofs.Mirroring.{live-all, unused-id, mirrors-added}

length_first : (cs : List Bounded) (k : ℕ) → k < length cs → length (map from_file (take k cs)) ≡ k
length_first [] k less = absurd (omega (arith, less))
length_first (c ∷ cs) zero less = refl
length_first (c ∷ cs) (suc k) less = ap suc (length_first cs k (omega (arith, less)))

first_more : (cs : List Bounded) (k : ℕ) (c : Bounded) → slice_get cs k ≡ Some c → map from_file (take (suc k) cs) ≡ map from_file (take k cs) ++ from_file c ∷ []
first_more [] k c at = absurd cc
first_more (x ∷ cs) zero c at = ap (λ (y : Bounded). from_file y ∷ []) (same_Some x c at)
first_more (x ∷ cs) (suc k) c at = ap (λ (given : List Given). from_file x ∷ given) (first_more cs k c at)

-- the id of the next constraint is new
pub next-unused : (live : List Live) (cs : List Bounded) (k : ℕ) → k < length cs → Mirrors live (map from_file (take k cs)) → live_in live (k + 1) ≡ None
next-unused live cs k less m = unused-id live (map from_file (take k cs)) (k + 1) m (ap (λ (n : ℕ). n + 1) (sym (length_first cs k less)))

-- one more was added
pub next-loaded : (live new : List Live) (cs : List Bounded) (k : ℕ) (c : Bounded) → k < length cs → slice_get cs k ≡ Some c → Mirrors live (map from_file (take k cs)) → IsAdded live (k + 1) c new → Mirrors new (map from_file (take (k + 1) cs))
next-loaded live new cs k c less at m added =
    let same : suc k ≡ k + 1 = omega arith in
    subst (λ (n : ℕ). Mirrors new (map from_file (take n cs))) same
    (subst (Mirrors new) (sym (first_more cs k c at))
    (mirrors-added live new (map from_file (take k cs)) (from_file c) (k + 1) c m (ap (λ (n : ℕ). n + 1) (sym (length_first cs k less))) added refl refl))

-- what holds of the engine's constraints holds of the formula's
satisfied : (P : Bounded → Type 0) (cs : List Bounded) → ((k : ℕ) (c : Bounded) → slice_get cs k ≡ Some c → P c) → AllByRecursion P cs
satisfied P [] h = tt
satisfied P (c ∷ cs) h = (h 0 c refl, satisfied P cs (λ k x at. h (suc k) x at))

given_file : (cs : List Bounded) (k : ℕ) (c : Bounded) → slice_get cs k ≡ Some c → slice_get (map from_file cs) k ≡ Some (from_file c)
given_file [] k c at = absurd cc
given_file (x ∷ cs) zero c at = ap (λ (y : Bounded). Some (from_file y)) (same_Some x c at)
given_file (x ∷ cs) (suc k) c at = given_file cs k c at

pub model-satisfies : (P : Bounded → Type 0) (live : List Live) (cs : List Bounded) → Mirrors live (map from_file cs) → AllByRecursion P (constraints live) → AllByRecursion P cs
model-satisfies P live cs m all =
    satisfied P cs (λ k c at. live-all P live (k + 1) c all (m.in_engine (k + 1) (from_file c) c (given-place (map from_file cs) k (from_file c) (given_file cs k c at)) refl refl))

-- a file has no learned clauses
pub none-learned : (cs : List Bounded) → learned_live (map from_file cs) ≡ []
none-learned [] = refl
none-learned (c ∷ cs) = none-learned cs
