-- What is known of the constraints of a store, and of those that name a variable.
use Rattle.std.proofs.Common.{◌≡◌, ℕ, ◌≤◌, ◌==◌, Bool, true, false, not, ◌&&◌, List, ◌++◌, Option, Some, None, refl, sym, ap, subst, ◌∙◌, true≢false}
use Rattle.std.specs.Prelude.{option_to_list}
use Rattle.std.specs.Option.{is_none}
use Rattle.std.specs.List.{list_any, AllByRecursion}
use Rattle.std.proofs.lemmas.Bool.{and_parts, eqb-true, eq-eqb, and_from}
use Rattle.kn_logic.specs.Literals.{Literal, names, IsKnown, AreKnown}
use Rattle.kn_logic.specs.Constraints.{Bounded, is_clause, named, Fits}
use Rattle.kn_store.specs.Stores.{Numbered, Stored, IsStored, constraints_of, ids_of, naming, constraint_at}
use Rattle.kn_store.proofs.Public.{all-one, all-two, from-map, all-filter, all-pass, rises, IsOwn, own}
use Rattle.kn_guess.specs.Guesses.{in_klause}
use Rattle.kn_guess.proofs.Elements.{any-with, each-any}

pub record IsLive (s : Stored) (p : Numbered) : Type 0 where
  pub own : constraint_at s.live p.id ≡ Some p.constraint
  pub fits : Fits s.vars p.constraint
  pub some : (f : Bounded → Bool) → f p.constraint ≡ true → list_any f (constraints_of s.live) ≡ true

pub all-live : (s : Stored) → IsStored s → AllByRecursion (IsLive s) s.live
all-live s stored =
    all-two (λ p. IsOwn s.live p × Fits s.vars p.constraint) (λ p. (f : Bounded → Bool) → f p.constraint ≡ true → list_any f (constraints_of s.live) ≡ true) (IsLive s)
    (λ p a b. record { own = a.0; fits = a.1; some = b }) s.live
    (all-two (IsOwn s.live) (λ p. Fits s.vars p.constraint) (λ p. IsOwn s.live p × Fits s.vars p.constraint) (λ p a b. (a, b)) s.live
    (own s.live (rises (ids_of s.live) stored.ascending)) (from-map (λ p. p.constraint) (Fits s.vars) s.live stored.formula))
    (from-map (λ p. p.constraint) (λ c. (f : Bounded → Bool) → f c ≡ true → list_any f (constraints_of s.live) ≡ true) s.live (each-any (constraints_of s.live)))

-- those that name a variable
pub all-naming : (s : Stored) (x : ℕ) → IsStored s → AllByRecursion (λ p. IsLive s p × (names (named p.constraint) x ≡ true)) (naming x s.live)
all-naming s x stored = all-two (IsLive s) (λ p. names (named p.constraint) x ≡ true) (λ p. IsLive s p × (names (named p.constraint) x ≡ true)) (λ p a b. (a, b)) (naming x s.live)
    (all-filter (IsLive s) (λ p. names (named p.constraint) x) s.live (all-live s stored)) (all-pass (λ p. names (named p.constraint) x) s.live)

-- where a variable stands in no klause, each constraint that names it is a clause, and names its literals
no-guard : (guard : Option Literal) (lits : List Literal) → is_none guard ≡ true → option_to_list guard ++ lits ≡ lits
no-guard None lits e = refl
no-guard (Some g) lits e = absurd (true≢false (sym e))

pub clause-named : (c : Bounded) → is_clause c ≡ true → named c ≡ c.lits
clause-named c e = no-guard c.guard c.lits (and_parts (is_none c.guard) (c.bound == 1) e).0

pub is-plain : (s : Stored) (x : ℕ) (p : Numbered) → IsLive s p → in_klause (constraints_of s.live) x ≡ false → names (named p.constraint) x ≡ true → is_clause p.constraint ≡ true
is-plain s x p live none name = at (is_clause p.constraint) refl
  where
    at : (t : Bool) → is_clause p.constraint ≡ t → is_clause p.constraint ≡ true
    at true e = e
    at false e = absurd (true≢false (sym (live.some (λ c. not (is_clause c) && names (named c) x) (and_from (not (is_clause p.constraint)) (names (named p.constraint) x) (ap not e) name)) ∙ none))

-- each literal of a list, with its own variable and itself in the list
pub own-names : (lits : List Literal) → AllByRecursion (λ l. names lits l.variable ≡ true) lits
own-names lits = all-one (λ l. (f : Literal → Bool) → f l ≡ true → list_any f lits ≡ true) (λ l. names lits l.variable ≡ true) (λ l h. h (λ m. m.variable == l.variable) (eq-eqb l.variable l.variable refl)) lits (each-any lits)

-- a variable that is named is known
pub names-known : (vars : ℕ) (lits : List Literal) (z : ℕ) → AreKnown vars lits → names lits z ≡ true → (1 ≤ z) × (z ≤ vars)
names-known vars lits z k e = let q = any-with (IsKnown vars) (λ l. l.variable == z) lits k e in subst (λ v. (1 ≤ v) × (v ≤ vars)) (eqb-true q.0.variable z q.1) q.2
