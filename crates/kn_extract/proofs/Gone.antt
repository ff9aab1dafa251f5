-- What is left where ids are taken out, one after another or all together.
use Rattle.std.proofs.Common.{◌≡◌, ℕ, ◌==◌, Bool, true, false, not, ◌&&◌, ◌||◌, List, [], ◌∷◌, ◌++◌, filter, refl, sym, ap, ◌∙◌}
use Rattle.std.specs.List.{AllByRecursion}
use Rattle.std.proofs.lemmas.Bool.{eq-eqb, eqb-true}
use Rattle.std.proofs.lemmas.List.Folds.{list_any-append}
use Rattle.kn_logic.specs.Constraints.{Bounded}
use Rattle.kn_logic.specs.Groups.{is_among}
use Rattle.kn_store.specs.Stores.{Numbered, ids_of, chosen}
use Rattle.kn_store.proofs.Public.{all-one, Rises}
use Rattle.kn_extract.specs.Extractions.{left}
use Rattle.kn_extract.specs.Taking.{without}
use Rattle.kn_extract.proofs.Lists.{bool-same}
use Rattle.kn_extract.proofs.Moments.{filter-alike, filter-all, filter-twice, chosen-ids}

pub without-none : (live : List Numbered) → without [] live ≡ live
without-none live = filter-all (λ p. true) live (each live)
  where
    each : (ps : List Numbered) → AllByRecursion (λ p. true ≡ true) ps
    each [] = tt
    each (p ∷ ps) = (refl, each ps)

one-more : (a b c : Bool) → b ≡ c → (not a && not b) ≡ not (a || (c || false))
one-more true b c e = refl
one-more false true true e = refl
one-more false false false e = refl
one-more false true false e = ap not e
one-more false false true e = ap not e

turned : (a b : ℕ) → (a == b) ≡ (b == a)
turned a b = bool-same (a == b) (b == a) (λ e. eq-eqb b a (sym (eqb-true a b e))) (λ e. eq-eqb a b (sym (eqb-true b a e)))

pub without-next : (ids : List ℕ) (id : ℕ) (live : List Numbered) → filter (λ p. not (p.id == id)) (without ids live) ≡ without (ids ++ id ∷ []) live
without-next ids id live = filter-twice (λ p. not (p.id == id)) (λ p. not (is_among ids p.id)) live ∙ filter-alike (λ p. not (is_among ids p.id) && not (p.id == id)) (λ p. not (is_among (ids ++ id ∷ []) p.id)) live (each live)
  where
    each : (ps : List Numbered) → AllByRecursion (λ p. (not (is_among ids p.id) && not (p.id == id)) ≡ not (is_among (ids ++ id ∷ []) p.id)) ps
    each [] = tt
    each (p ∷ ps) = (one-more (is_among ids p.id) (p.id == id) (id == p.id) (turned p.id id) ∙ ap not (sym (list_any-append (λ v. v == p.id) ids (id ∷ []))), each ps)

-- where they are those of the constraints that pass a test, the others are left
pub without-chosen : (test : Bounded → Bool) (live : List Numbered) → Rises (ids_of live) → without (ids_of (chosen test live)) live ≡ left test live
without-chosen test live rises = filter-alike (λ p. not (is_among (ids_of (chosen test live)) p.id)) (λ p. not (test p.constraint)) live
    (all-one (λ p. is_among (ids_of (chosen test live)) p.id ≡ test p.constraint) (λ p. not (is_among (ids_of (chosen test live)) p.id) ≡ not (test p.constraint)) (λ p e. ap not e) live (chosen-ids test live rises))
