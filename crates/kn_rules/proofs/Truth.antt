-- A run of hints under an assignment: where all hints hold and all literals of the list are true, the
-- run does not end in conflict, and all literals stay true.
use Rattle.std.proofs.Common.{◌≡◌, ℕ, ◌≤◌, ◌⊎◌, ◌++◌, Bool, true, false, not, eqb, ltb, List, [], ◌∷◌, Option, None, Some, ap, ◌∙◌, inl, inr, arith}
use Rattle.std.specs.List.{AllByRecursion}
use Rattle.std.specs.Option.{option_and_then}
use Rattle.std.proofs.lemmas.Bool.{or_cases, cases_Bool, cond_both, eqb-true, ltb-true, not_from_false}
use Rattle.kn_logic.proofs.Public.{true-negated, true-same, places-le, all-kept}
use Rattle.kn_logic.specs.Literals.{Literal, negated, is_same, has}
use Rattle.kn_logic.specs.Assignments.{is_true, true_places}
use Rattle.kn_logic.specs.Constraints.{Bounded, IsOff, Holds}
use Rattle.kn_logic.specs.Propagation.{is_open, open_places, after_bound, after_guard, after_parts, after_hint, hint_run}

-- each literal of the list is true
abbrev pub AreTrue : List Bool → List Literal → Type 0
AreTrue values trail = AllByRecursion (λ l. is_true values l ≡ true) trail

-- the run has not ended in conflict, and each literal of its list is true
abbrev pub GoesOn : List Bool → Option (List Literal) → Type 0
GoesOn values None = ⊥
GoesOn values (Some trail) = AreTrue values trail

AreTrue-append : (values : List Bool) (a b : List Literal) → AreTrue values a → AreTrue values b → AreTrue values (a ++ b)
AreTrue-append values [] b s t = t
AreTrue-append values (l ∷ a) b s t = (s.0, AreTrue-append values a b s.1 t)

true_where_it_stands : (values : List Bool) (trail : List Literal) (l : Literal) → AreTrue values trail → has trail l ≡ true → is_true values l ≡ true
true_where_it_stands values [] l h e = absurd cc
true_where_it_stands values (x ∷ xs) l h e =
    elim (or_cases (is_same l x) (has xs l) e) [ inl s ↦ true-same values l x s ∙ h.0 | inr t ↦ true_where_it_stands values xs l h.1 t ]

-- a true literal is not false
true_is_open : (values : List Bool) (trail : List Literal) → AreTrue values trail → (l : Literal) → is_true values l ≡ true → is_open trail l ≡ true
true_is_open values trail h l e =
    elim (cases_Bool (has trail (negated l))) [
      | inl s ↦ (let t = true_where_it_stands values trail (negated l) h s in let n = true-negated values l in absurd cc)
      | inr s ↦ not_from_false _ s
    ]

bound-goes_on : (values : List Bool) (trail : List Literal) (bound : ℕ) (lits : List Literal) → AreTrue values trail → bound ≤ true_places values lits → GoesOn values (after_bound trail bound lits)
bound-goes_on values trail bound lits h holds =
    let few = places-le (is_true values) (is_open trail) (true_is_open values trail h) lits in
    cond_both (ltb (open_places trail lits) bound) _ _ (GoesOn values)
    (λ e. absurd (omega (arith, ltb-true _ _ e)))
    (λ _. cond_both (eqb (open_places trail lits) bound) _ _ (GoesOn values)
    (λ e. let same = eqb-true _ _ e in AreTrue-append values trail _ h (all-kept (is_true values) (is_open trail) (true_is_open values trail h) lits (omega arith)))
    (λ _. h))

guard-goes_on : (values : List Bool) (trail : List Literal) (guard : Literal) (bound : ℕ) (lits : List Literal) → AreTrue values trail → (bound ≤ true_places values lits) ⊎ (is_true values guard ≡ false) → GoesOn values (after_guard trail guard bound lits)
guard-goes_on values trail guard bound lits h holds =
    let few = places-le (is_true values) (is_open trail) (true_is_open values trail h) lits in
    cond_both (has trail guard) _ _ (GoesOn values)
    (λ e. elim holds [
      | inl le ↦ bound-goes_on values trail bound lits h le
      | inr off ↦ (let t = true_where_it_stands values trail guard h e in absurd cc)
    ])
    (λ _. cond_both (has trail (negated guard)) _ _ (GoesOn values)
    (λ _. h)
    (λ _. cond_both (ltb (open_places trail lits) bound) _ _ (GoesOn values)
    (λ e. elim holds [
      | inl le ↦ absurd (omega (arith, ltb-true _ _ e))
      | inr off ↦ AreTrue-append values trail _ h (true-negated values guard ∙ ap not off, tt)
    ])
    (λ _. h)))

parts-go_on : (values : List Bool) (trail : List Literal) (guard : Option Literal) (bound : ℕ) (lits : List Literal) → AreTrue values trail → (bound ≤ true_places values lits) ⊎ IsOff values guard → GoesOn values (after_parts trail guard bound lits)
parts-go_on values trail None bound lits h holds = elim holds [ inl le ↦ bound-goes_on values trail bound lits h le | inr off ↦ absurd off ]
parts-go_on values trail (Some guard) bound lits h holds = guard-goes_on values trail guard bound lits h holds

next-goes_on : (values : List Bool) (o : Option (List Literal)) (run : List Literal → Option (List Literal)) → GoesOn values o → ((next : List Literal) → AreTrue values next → GoesOn values (run next)) → GoesOn values (option_and_then run o)
next-goes_on values None run h k = absurd h
next-goes_on values (Some next) run h k = k next h

pub run-goes_on : (values : List Bool) (hints : List Bounded) (trail : List Literal) → AreTrue values trail → AllByRecursion (Holds values) hints → GoesOn values (hint_run trail hints)
run-goes_on values [] trail h hold = h
run-goes_on values (c ∷ hints) trail h hold =
    next-goes_on values (after_hint trail c) (λ next. hint_run next hints) (parts-go_on values trail c.guard c.bound c.lits h hold.0)
    (λ next k. run-goes_on values hints next k hold.1)
