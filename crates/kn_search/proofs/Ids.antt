-- What stands under an id, with one entry more behind all others.
use Rattle.std.proofs.Common.{◌≡◌, ℕ, zero, suc, ◌+◌, ◌-◌, ◌≤◌, ◌<◌, ◌⊎◌, ◌++◌, Bool, false, eqb, List, [], ◌∷◌, length, Option, None, Some, refl, sym, ap, ◌∙◌, subst, inl, inr, arith}
use Rattle.std.specs.List.{AllByRecursion, slice_get}
use Rattle.std.specs.Option.{option_and_then}
use Rattle.std.proofs.lemmas.Bool.{cond-false, ne_eqb}
use Rattle.std.proofs.lemmas.Option.{same_Some}
use Rattle.kn_logic.specs.Constraints.{Bounded}
use Rattle.kn_lines.specs.Lines.{AreIds}
use Rattle.kn_rules.specs.declared.given.Given.{Given}
use Rattle.kn_rules.specs.declared.given.Origin.{Origin}
use Rattle.kn_rules.specs.States.{given_at, live_at}
use Rattle.kn_rules.specs.Searching.{IsGivenBy}

not_zero : (id : ℕ) → eqb (suc id) 0 ≡ false
not_zero id = ne_eqb (suc id) 0 (λ e. omega (arith, e))

pub given-parts : (given : List Given) (id : ℕ) (e : Given) → given_at given id ≡ Some e → (1 ≤ id) × (slice_get given (id - 1) ≡ Some e)
given-parts given zero e h = absurd cc
given-parts given (suc id) e h = (omega arith, sym (cond-false (eqb (suc id) 0) None (slice_get given (suc id - 1)) (not_zero id)) ∙ h)

pub given-from : (given : List Given) (id : ℕ) (e : Given) → 1 ≤ id → slice_get given (id - 1) ≡ Some e → given_at given id ≡ Some e
given-from given zero e h at = absurd (omega (arith, h))
given-from given (suc id) e h at = cond-false (eqb (suc id) 0) None (slice_get given (suc id - 1)) (not_zero id) ∙ at

-- the entry at a place, by its id
pub given-place : (given : List Given) (k : ℕ) (e : Given) → slice_get given k ≡ Some e → given_at given (k + 1) ≡ Some e
given-place given k e h =
    let same : k ≡ (k + 1) - 1 = omega arith in
    given-from given (k + 1) e (omega arith) (subst (λ (n : ℕ). slice_get given n ≡ Some e) same h)

pub below-length : (given : List Given) (k : ℕ) (e : Given) → slice_get given k ≡ Some e → k < length given
below-length [] k e h = absurd cc
below-length (x ∷ given) zero e h = omega arith
below-length (x ∷ given) (suc k) e h = omega (arith, below-length given k e h)

-- an id is at most the number of entries
pub id-within : (given : List Given) (id : ℕ) (e : Given) → given_at given id ≡ Some e → id ≤ length given
id-within given id e h =
    let (some, get) = given-parts given id e h in
    omega (arith, some, below-length given (id - 1) e get)

last_given : (given : List Given) (k : ℕ) (x e : Given) → slice_get (given ++ x ∷ []) k ≡ Some e → ((k ≡ length given) × (x ≡ e)) ⊎ (slice_get given k ≡ Some e)
last_given [] zero x e h = inl (refl, same_Some x e h)
last_given [] (suc k) x e h = absurd cc
last_given (y ∷ given) zero x e h = inr h
last_given (y ∷ given) (suc k) x e h = elim (last_given given k x e h) [ inl s ↦ inl (ap suc s.0, s.1) | inr s ↦ inr s ]

there_last : (given : List Given) (x : Given) → slice_get (given ++ x ∷ []) (length given) ≡ Some x
there_last [] x = refl
there_last (y ∷ given) x = there_last given x

-- the last entry has the id behind all others
pub given-last : (given : List Given) (x : Given) (id : ℕ) → id ≡ length given + 1 → given_at (given ++ x ∷ []) id ≡ Some x
given-last given x id e =
    let back : length given ≡ id - 1 = omega (arith, e) in
    given-from (given ++ x ∷ []) id x (omega (arith, e)) (subst (λ (n : ℕ). slice_get (given ++ x ∷ []) n ≡ Some x) back (there_last given x))

-- an entry is the last one, or was there
pub given-either : (given : List Given) (x e : Given) (id : ℕ) → given_at (given ++ x ∷ []) id ≡ Some e → ((id ≡ length given + 1) × (x ≡ e)) ⊎ (given_at given id ≡ Some e)
given-either given x e id h =
    let (some, get) = given-parts (given ++ x ∷ []) id e h in
    elim (last_given given (id - 1) x e get) [ inl s ↦ inl (omega (arith, s.0, some), s.1) | inr s ↦ inr (given-from given id e some s) ]

pub live-at : (given : List Given) (id : ℕ) (e : Given) (c : Bounded) → given_at given id ≡ Some e → e.live ≡ Some c → live_at given id ≡ Some c
live-at given id e c at is = ap (λ (o : Option Given). option_and_then (λ (x : Given). x.live) o) at ∙ is

-- ids that were given count from 1
pub given-ids : (test : Origin → Bool) (given : List Given) (ids : List ℕ) → AllByRecursion (IsGivenBy test given) ids → AreIds ids
given-ids test given [] h = tt
given-ids test given (id ∷ ids) h = let (e, at, o) = h.0 in ((given-parts given id e at).0, given-ids test given ids h.1)
