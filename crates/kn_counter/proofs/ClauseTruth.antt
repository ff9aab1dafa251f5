-- When clauses have a true literal, and constraints hold under assignments that agree on their variables.
use Rattle.std.proofs.Common.{◌≡◌, ℕ, zero, suc, ◌+◌, ◌≤◌, ◌<◌, ◌⊎◌, Bool, true, false, not, cond, List, [], ◌∷◌, ◌++◌, map, Option, Some, None, flat_map, ap, subst, ◌∙◌, inl, inr, arith, eq-or-lt_of_le}
use Rattle.std.specs.List.{AllByRecursion}
use Rattle.std.proofs.lemmas.Bool.{cases_Bool}
use Rattle.kn_logic.proofs.Public.{true-negated, All-append}
use Rattle.kn_logic.specs.Literals.{Literal, negated}
use Rattle.kn_logic.specs.Assignments.{is_true, true_places}
use Rattle.kn_logic.specs.Constraints.{clause, IsOff, Holds}
use Rattle.kn_counter.specs.Counters.{counting, under}

-- some literal of the clause is true
abbrev pub SomeTrue : List Bool → List Literal → Type 0
SomeTrue values lits = 1 ≤ true_places values lits

-- some literal of each of the clauses is true
abbrev pub AllTrue : List Bool → List (List Literal) → Type 0
AllTrue values clauses = AllByRecursion (SomeTrue values) clauses

pub true-first : (values : List Bool) (l : Literal) (lits : List Literal) → is_true values l ≡ true → SomeTrue values (l ∷ lits)
true-first values l lits e = let one = ap {B = ℕ} (λ t. cond t 1 0) e in omega (arith, one)

pub true-later : (values : List Bool) (l : Literal) (lits : List Literal) → SomeTrue values lits → SomeTrue values (l ∷ lits)
true-later values l lits h = omega (arith, h)

pub not-first : (values : List Bool) (l : Literal) (lits : List Literal) → is_true values l ≡ false → SomeTrue values (l ∷ lits) → SomeTrue values lits
not-first values l lits e h = let none = ap {B = ℕ} (λ t. cond t 1 0) e in omega (arith, none, h)

-- a clause whose first literal is a negation: if that is false, the rest has a true literal
pub implies : (values : List Bool) (l : Literal) (lits : List Literal) → (is_true values l ≡ true → SomeTrue values lits) → SomeTrue values (negated l ∷ lits)
implies values l lits h =
    elim (cases_Bool (is_true values l)) [
      | inl e ↦ true-later values (negated l) lits (h e)
      | inr e ↦ true-first values (negated l) lits (true-negated values l ∙ ap not e)
    ]

pub implied : (values : List Bool) (l : Literal) (lits : List Literal) → SomeTrue values (negated l ∷ lits) → is_true values l ≡ true → SomeTrue values lits
implied values l lits h e = not-first values (negated l) lits (true-negated values l ∙ ap not e) h

pub true-alone : (values : List Bool) (l : Literal) → SomeTrue values (l ∷ []) → is_true values l ≡ true
true-alone values l h =
    elim (cases_Bool (is_true values l)) [
      | inl e ↦ e
      | inr e ↦ absurd (omega (arith, not-first values l [] e h))
    ]

-- lists
pub all-parts : {A : Type 0} (P : A → Type 0) (xs ys : List A) → AllByRecursion P (xs ++ ys) → AllByRecursion P xs × AllByRecursion P ys
all-parts P [] ys h = (tt, h)
all-parts P (x ∷ xs) ys h = let parts = all-parts P xs ys h.1 in ((h.0, parts.0), parts.1)

pub each-mapped : (values : List Bool) (clause_of : ℕ → List Literal) (first count : ℕ) → ((j : ℕ) → first ≤ j → j < first + count → SomeTrue values (clause_of j)) → AllTrue values (map clause_of (counting first count))
each-mapped values clause_of first zero h = tt
each-mapped values clause_of first (suc count) h = (h first (omega arith) (omega arith), each-mapped values clause_of (first + 1) count (λ j low high. h j (omega arith) (omega arith)))

pub each-joined : (values : List Bool) (clauses_at : ℕ → List (List Literal)) (first count : ℕ) → ((j : ℕ) → first ≤ j → j < first + count → AllTrue values (clauses_at j)) → AllTrue values (flat_map clauses_at (counting first count))
each-joined values clauses_at first zero h = tt
each-joined values clauses_at first (suc count) h =
    All-append (SomeTrue values) (clauses_at first) (flat_map clauses_at (counting (first + 1) count)) (h first (omega arith) (omega arith))
    (each-joined values clauses_at (first + 1) count (λ j low high. h j (omega arith) (omega arith)))

pub joined-at : (values : List Bool) (clauses_at : ℕ → List (List Literal)) (first count j : ℕ) → first ≤ j → j < first + count → AllTrue values (flat_map clauses_at (counting first count)) → AllTrue values (clauses_at j)
joined-at values clauses_at first zero j low high h = absurd (omega arith)
joined-at values clauses_at first (suc count) j low high h =
    let parts = all-parts (SomeTrue values) (clauses_at first) (flat_map clauses_at (counting (first + 1) count)) h in
    elim (eq-or-lt_of_le low) [
      | inl e ↦ subst (λ n. AllTrue values (clauses_at n)) e parts.0
      | inr lt ↦ joined-at values clauses_at (first + 1) count j (omega arith) (omega arith) parts.1
    ]

-- guards
pub under-true : (values : List Bool) (guard : Option Literal) (clauses : List (List Literal)) → AllTrue values clauses → AllByRecursion (Holds values) (map (under guard) clauses)
under-true values guard [] h = tt
under-true values None (lits ∷ clauses) h = (inl h.0, under-true values None clauses h.1)
under-true values (Some guard) (lits ∷ clauses) h = (inl (true-later values (negated guard) lits h.0), under-true values (Some guard) clauses h.1)

pub under-off : (values : List Bool) (guard : Literal) (clauses : List (List Literal)) → is_true values guard ≡ false → AllByRecursion (Holds values) (map (under (Some guard)) clauses)
under-off values guard [] e = tt
under-off values guard (lits ∷ clauses) e = (inl (true-first values (negated guard) lits (true-negated values guard ∙ ap not e)), under-off values guard clauses e)

holds-true : (values : List Bool) (lits : List Literal) → Holds values (clause lits) → SomeTrue values lits
holds-true values lits h = elim h [ inl t ↦ t | inr off ↦ absurd off ]

under-none : (values : List Bool) (clauses : List (List Literal)) → AllByRecursion (Holds values) (map (under None) clauses) → AllTrue values clauses
under-none values [] h = tt
under-none values (lits ∷ clauses) h = (holds-true values lits h.0, under-none values clauses h.1)

under-on : (values : List Bool) (guard : Literal) (clauses : List (List Literal)) → is_true values guard ≡ true → AllByRecursion (Holds values) (map (under (Some guard)) clauses) → AllTrue values clauses
under-on values guard [] e h = tt
under-on values guard (lits ∷ clauses) e h = (implied values guard lits (holds-true values (negated guard ∷ lits) h.0) e, under-on values guard clauses e h.1)

pub under-parts : (values : List Bool) (guard : Option Literal) (clauses : List (List Literal)) → AllByRecursion (Holds values) (map (under guard) clauses) → AllTrue values clauses ⊎ IsOff values guard
under-parts values None clauses h = inl (under-none values clauses h)
under-parts values (Some guard) clauses h =
    elim (cases_Bool (is_true values guard)) [
      | inl e ↦ inl (under-on values guard clauses e h)
      | inr e ↦ inr e
    ]
