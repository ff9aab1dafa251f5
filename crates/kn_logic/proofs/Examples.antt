-- What the definitions give on small inputs, as a reader works it out by hand.
use Rattle.std.proofs.Common.{◌≡◌, ℕ, Bool, true, false, List, [], ◌∷◌, Some, None, refl}
use Rattle.kn_logic.specs.Literals.{Literal, negated, is_same}
use Rattle.kn_logic.specs.Assignments.{value_of, true_places}
use Rattle.kn_logic.specs.Constraints.{Bounded, clause, klause, guarded_klause, is_clause}
use Rattle.kn_logic.specs.Propagation.{open_places, after_hint, hint_run}

-- the literal of a variable, and its negation
abbrev pos : ℕ → Literal
pos v = record { variable = v; positive = true }

abbrev neg : ℕ → Literal
neg v = record { variable = v; positive = false }

-- 1 true, 2 false, 3 true
abbrev values : List Bool
values = true ∷ false ∷ true ∷ []

first_value : value_of values 1 ≡ true
first_value = refl

second_value : value_of values 2 ≡ false
second_value = refl

negated_twice : negated (negated (neg 5)) ≡ neg 5
negated_twice = refl

same_variable_is_not_same : is_same (pos 5) (neg 5) ≡ false
same_variable_is_not_same = refl

-- A literal that stands at two places counts twice.
doubled : true_places values (pos 3 ∷ pos 2 ∷ pos 3 ∷ []) ≡ 2
doubled = refl

-- A literal and its negation count once together.
both : true_places values (pos 2 ∷ neg 2 ∷ []) ≡ 1
both = refl

clause_is_clause : is_clause (clause (pos 1 ∷ neg 2 ∷ [])) ≡ true
clause_is_clause = refl

guarded_is_no_clause : is_clause (guarded_klause (pos 4) 1 (pos 1 ∷ [])) ≡ false
guarded_is_no_clause = refl

-- `k 2 1 2 3`, `k 2 -1 -2 -3`, and `g 4 2 1 2 3`
abbrev two_true : Bounded
two_true = klause 2 (pos 1 ∷ pos 2 ∷ pos 3 ∷ [])

abbrev two_false : Bounded
two_false = klause 2 (neg 1 ∷ neg 2 ∷ neg 3 ∷ [])

abbrev under_four : Bounded
under_four = guarded_klause (pos 4) 2 (pos 1 ∷ pos 2 ∷ pos 3 ∷ [])

-- With three literals that are not false nothing is forced.
not_forced : after_hint [] two_true ≡ Some []
not_forced = refl

-- From -1 both other literals are forced.
forced : after_hint (neg 1 ∷ []) two_true ≡ Some (neg 1 ∷ pos 2 ∷ pos 3 ∷ [])
forced = refl

-- Then the other klause has one literal that is not false: a conflict.
conflict : hint_run (neg 1 ∷ []) (two_true ∷ two_false ∷ []) ≡ None
conflict = refl

-- Under the literals 2 and 3 the klause asks for one that is false.
left_open : open_places (neg 1 ∷ pos 2 ∷ pos 3 ∷ []) two_false.lits ≡ 1
left_open = refl

-- The last literal of a clause is forced, and no literal is a conflict.
unit : hint_run (neg 1 ∷ []) (clause (pos 1 ∷ pos 2 ∷ []) ∷ []) ≡ Some (neg 1 ∷ pos 2 ∷ [])
unit = refl

empty_clause : hint_run [] (clause [] ∷ []) ≡ None
empty_clause = refl

-- The guard has no value: enough literals, and nothing happens; too few, and it is refuted.
guard_unset : after_hint (neg 1 ∷ []) under_four ≡ Some (neg 1 ∷ [])
guard_unset = refl

guard_refuted : after_hint (neg 1 ∷ neg 2 ∷ []) under_four ≡ Some (neg 1 ∷ neg 2 ∷ neg 4 ∷ [])
guard_refuted = refl

-- The guard is false: nothing happens.
guard_false : after_hint (neg 4 ∷ neg 1 ∷ neg 2 ∷ []) under_four ≡ Some (neg 4 ∷ neg 1 ∷ neg 2 ∷ [])
guard_false = refl

-- The guard is true: as without it.
guard_true : after_hint (pos 4 ∷ neg 1 ∷ []) under_four ≡ Some (pos 4 ∷ neg 1 ∷ pos 2 ∷ pos 3 ∷ [])
guard_true = refl

guard_conflict : after_hint (pos 4 ∷ neg 1 ∷ neg 2 ∷ []) under_four ≡ None
guard_conflict = refl
