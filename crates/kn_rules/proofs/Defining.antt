-- The clauses of a definition hold where its variable has the value that the definition gives.
use Rattle.std.proofs.Common.{◌≡◌, ℕ, ◌+◌, ◌≤◌, ◌⊎◌, ◌++◌, Bool, true, false, not, cond, List, [], ◌∷◌, map, IfSome, refl, sym, ap, subst, ◌∙◌, inl, inr, arith}
use Rattle.std.specs.List.{AllByRecursion}
use Rattle.kn_logic.proofs.Public.{true-negated, known-append}
use Rattle.kn_logic.specs.Literals.{Literal, negated, places, AreKnown, IsKnown}
use Rattle.kn_logic.specs.Assignments.{is_true, true_places}
use Rattle.kn_logic.specs.Constraints.{Bounded, Holds, IsWithin}
use Rattle.kn_lines.specs.declared.line.Arm.{Arm}
use Rattle.kn_lines.specs.declared.line.Arm.TheVariants as arm
use Rattle.kn_rules.specs.declared.given.Given.{Given}
use Rattle.kn_rules.specs.Steps.{with_arm, opposite, definition_clauses, by_definition}
use Rattle.kn_rules.proofs.Nodes.{arm_value}
use Rattle.kn_rules.specs.States.{IsArmWithin}

places-push : (test : Literal → Bool) (lits : List Literal) (l : Literal) → places test (lits ++ l ∷ []) ≡ places test lits + cond (test l) 1 0
places-push test [] l = omega arith
places-push test (x ∷ lits) l = omega (arith, places-push test lits l)

one-more : (n : ℕ) (t : Bool) → t ≡ true → 1 ≤ n + cond t 1 0
one-more n true e = omega arith
one-more n false e = absurd cc

-- one of the literals is true, or the arm
one-holds : (values : List Bool) (lits : List Literal) (a : Arm) → (1 ≤ true_places values lits) ⊎ (arm_value values a ≡ true) → Holds values (with_arm lits a)
one-holds values lits arm.True h = inl (omega arith)
one-holds values lits arm.False h = elim h [ inl one ↦ inl one | inr e ↦ absurd cc ]
one-holds values lits (arm.Lit l) h =
    let push = places-push (is_true values) lits l in
    elim h [ inl one ↦ inl (omega (arith, push)) | inr e ↦ inl (subst (λ n. 1 ≤ n) (sym push) (one-more (true_places values lits) (is_true values l) e)) ]

arm-opposite : (values : List Bool) (a : Arm) → arm_value values (opposite a) ≡ not (arm_value values a)
arm-opposite values arm.True = refl
arm-opposite values arm.False = refl
arm-opposite values (arm.Lit l) = true-negated values l

-- a clause of two literals and an arm, whatever is true of the three
two-or : (values : List Bool) (a b : Literal) (third : Arm) (s t u : Bool) → is_true values a ≡ s → is_true values b ≡ t → arm_value values third ≡ u → cond s true (cond t true u) ≡ true → Holds values (with_arm (a ∷ b ∷ []) third)
two-or values a b third true t u e f g h = one-holds values (a ∷ b ∷ []) third (inl (rw e (omega arith)))
two-or values a b third false true u e f g h = one-holds values (a ∷ b ∷ []) third (inl (rw (e, f) (omega arith)))
two-or values a b third false false u e f g h = one-holds values (a ∷ b ∷ []) third (inr (g ∙ h))

or-high : (x high low : Bool) → cond (not (cond x high low)) true (cond (not x) true high) ≡ true
or-high true true low = refl
or-high true false low = refl
or-high false high true = refl
or-high false high false = refl

or-low : (x high low : Bool) → cond (not (cond x high low)) true (cond x true low) ≡ true
or-low true true low = refl
or-low true false low = refl
or-low false high true = refl
or-low false high false = refl

or-not-high : (x high low : Bool) → cond (cond x high low) true (cond (not x) true (not high)) ≡ true
or-not-high true true low = refl
or-not-high true false low = refl
or-not-high false high true = refl
or-not-high false high false = refl

or-not-low : (x high low : Bool) → cond (cond x high low) true (cond x true (not low)) ≡ true
or-not-low true true low = refl
or-not-low true false low = refl
or-not-low false high true = refl
or-not-low false high false = refl

four : (P : Bounded → Type 0) (a b c d : Bounded) → P a → P b → P c → P d → AllByRecursion P (a ∷ b ∷ c ∷ d ∷ [])
four P a b c d h i j k = (h, (i, (j, (k, tt))))

pub definition-holds : (values : List Bool) (v x : Literal) (high low : Arm) → is_true values v ≡ cond (is_true values x) (arm_value values high) (arm_value values low) → AllByRecursion (Holds values) (definition_clauses v x high low)
definition-holds values v x high low e =
    let X = is_true values x in
    let H = arm_value values high in
    let L = arm_value values low in
    let not-v = true-negated values v ∙ ap not e in
    let not-x = true-negated values x in
    four (Holds values) _ _ _ _
    (two-or values (negated v) (negated x) high _ _ _ not-v not-x refl (or-high X H L))
    (two-or values (negated v) x low _ _ _ not-v refl refl (or-low X H L))
    (two-or values v (negated x) (opposite high) _ _ _ e not-x (arm-opposite values high) (or-not-high X H L))
    (two-or values v x (opposite low) _ _ _ e refl (arm-opposite values low) (or-not-low X H L))

-- the clauses are over the variables of the literals and arms
with_arm-within : (vars : ℕ) (lits : List Literal) (a : Arm) → AreKnown vars lits → IsArmWithin vars a → IsWithin vars (with_arm lits a)
with_arm-within vars lits arm.True h k = record { guard = tt; lits = tt }
with_arm-within vars lits arm.False h k = record { guard = tt; lits = h }
with_arm-within vars lits (arm.Lit l) h k = record { guard = tt; lits = known-append vars lits (l ∷ []) h (k, tt) }

opposite-within : (vars : ℕ) (a : Arm) → IsArmWithin vars a → IsArmWithin vars (opposite a)
opposite-within vars arm.True k = tt
opposite-within vars arm.False k = tt
opposite-within vars (arm.Lit l) k = k

pub definition-within : (vars : ℕ) (v x : Literal) (high low : Arm) → IsKnown vars v → IsKnown vars x → IsArmWithin vars high → IsArmWithin vars low → AllByRecursion (IsWithin vars) (definition_clauses v x high low)
definition-within vars v x high low v-known x-known h l =
    four (IsWithin vars) _ _ _ _
    (with_arm-within vars (negated v ∷ negated x ∷ []) high (v-known, (x-known, tt)) h)
    (with_arm-within vars (negated v ∷ x ∷ []) low (v-known, (x-known, tt)) l)
    (with_arm-within vars (v ∷ negated x ∷ []) (opposite high) (v-known, (x-known, tt)) (opposite-within vars high h))
    (with_arm-within vars (v ∷ x ∷ []) (opposite low) (v-known, (x-known, tt)) (opposite-within vars low l))

-- what holds of each of the constraints, by the entries that they are given as
pub by_definition-all : (P : Bounded → Type 0) (cs : List Bounded) → AllByRecursion P cs → AllByRecursion (λ (entry : Given). IfSome entry.live P) (map by_definition cs)
by_definition-all P [] h = tt
by_definition-all P (c ∷ cs) h = (h.0, by_definition-all P cs h.1)
