-- Counting the literals that are not false, and reading the guard at the last place.
use Rattle.std.proofs.Common.{◌≡◌, ℕ, zero, suc, ◌+◌, ◌-◌, ◌<◌, ◌++◌, true, not, cond, List, [], ◌∷◌, Option, Some, None, length, take, refl, sym, ap, ◌∙◌, subst, inl, inr, arith}
use Rattle.std.specs.Prelude.{slice_index_or, ◌↔◌, IsTrue}
use Rattle.std.specs.Option.{is_some}
use Rattle.std.proofs.lemmas.Bool.{not_from_true, not_from_false, not-true, not-false, or_cases}
use Rattle.std.proofs.lemmas.List.{take_more, get_or_read, take-append-le}
use Rattle.kn_logic.proofs.Public.{negated_twice}
use Rattle.kn_logic.specs.Constraints.{Bounded}
use Rattle.kn_logic.specs.Literals.{Literal, negated, has}
use Rattle.kn_logic.specs.Propagation.{is_open, open_places, has_unset}
use Rattle.kn_watch.specs.Watches.{listed, unguarded, lit_at, is_unset, IsBinding, IsForcing}
use Rattle.kn_watch.proofs.Starting.{open_append}
use Rattle.kn_watch.proofs.Forcing.{lit_own, lit_last, long_one, long_least}

pub open_take : (trail lits : List Literal) (place : ℕ) (l : Literal) → place < length lits → l ≡ slice_index_or lits place l → open_places trail (take (place + 1) lits) ≡ open_places trail (take place lits) + cond (is_open trail l) 1 0
open_take trail lits place l lt r =
    ap (open_places trail) (take_more lits place l lt) ∙ open_append trail (take place lits) (slice_index_or lits place l ∷ [])
    ∙ omega (arith, ap (λ (z : Literal). cond {A = ℕ} (is_open trail z) 1 0) r)

take_all : (lits : List Literal) → take (length lits) lits ≡ lits
take_all [] = refl
take_all (l ∷ lits) = ap (λ (x : List Literal). l ∷ x) (take_all lits)

pub take_own : (c : Bounded) → take (length c.lits) (listed c) ≡ c.lits
take_own c = take-append-le (length c.lits) c.lits (unguarded c.guard) (omega arith) ∙ take_all c.lits

-- the last place of a list with a guard
pub binding_last : (trail lits : List Literal) (guard : Option Literal) (l : Literal) → is_some guard ≡ true → l ≡ lit_at (lits ++ unguarded guard) (length (lits ++ unguarded guard) - 1) → IsTrue (not (is_open trail l)) ↔ IsBinding trail guard
binding_last trail lits None l s e = absurd cc
binding_last trail lits (Some g) l s e =
    let last : l ≡ negated g = e ∙ ap (lit_at (lits ++ negated g ∷ [])) (omega (arith, long_one lits (negated g))) ∙ lit_last lits (negated g) (length lits) refl in
    let open_is : is_open trail l ≡ not (has trail g) = ap (is_open trail) last ∙ ap (λ (z : Literal). not (has trail z)) (negated_twice g) in
    (λ h. not-false (has trail g) (sym open_is ∙ not-true (is_open trail l) h), λ h. not_from_false (is_open trail l) (open_is ∙ not_from_true (has trail g) h))

long_guarded : (lits : List Literal) (guard : Option Literal) → is_some guard ≡ true → length (lits ++ unguarded guard) ≡ length lits + 1
long_guarded lits None s = absurd cc
long_guarded lits (Some g) s = long_one lits (negated g)

pub last_read : (lits : List Literal) (c : Bounded) (l : Literal) → is_some c.guard ≡ true → lits ≡ listed c → l ≡ slice_index_or lits (length lits - 1) l → l ≡ lit_at (listed c) (length (listed c) - 1)
last_read lits c l s e r =
    let r2 = subst (λ (xs : List Literal). l ≡ slice_index_or xs (length xs - 1) l) e r in
    get_or_read (listed c) (length (listed c) - 1) l (omega (arith, long_guarded c.lits c.guard s)) r2 (record { variable = 0; positive = true })

unset_place : (trail lits : List Literal) → has_unset trail lits ≡ true → (x : ℕ) × (x < length lits) × (is_unset trail (lit_at lits x) ≡ true)
unset_place trail [] h = absurd cc
unset_place trail (l ∷ lits) h = elim (or_cases (is_unset trail l) (has_unset trail lits) h) [
  | inl e ↦ (zero, omega arith, e)
  | inr t ↦ (let r = unset_place trail lits t in (suc r.0, omega (arith, r.1), r.2))
]

-- just as many own literals as the bound are not false, and one of them has no value
pub forces_own : (trail : List Literal) (c : Bounded) → IsBinding trail c.guard → open_places trail c.lits ≡ c.bound → has_unset trail c.lits ≡ true → IsForcing trail c
forces_own trail c b o u =
    let p = unset_place trail c.lits u in
    (p.0, omega (arith, p.1, long_least c.lits c.guard), (subst (λ (x : Literal). is_unset trail x ≡ true) (sym (lit_own c.lits (unguarded c.guard) p.0 p.1)) p.2, inl (p.1, o, b)))
