-- Clauses that are added one after another.
use Rattle.std.proofs.Common.{◌≡◌, ℕ, zero, suc, ◌+◌, ◌-◌, ◌≤◌, ◌<◌, List, [], ◌∷◌, ◌++◌, map, refl, ap, append_assoc, arith}
use Rattle.std.specs.List.{flat_map}
use Rattle.kn_logic.specs.Literals.{Literal, negated, AreKnown}
use Rattle.kn_logic.specs.Constraints.{Bounded}
use Rattle.kn_logic.specs.Formulas.{Problem}
use Rattle.kn_counter.specs.Counters.{counting}
use Rattle.kn_counter.specs.Rows.{after, with_more, with_clauses}

map_append : {A B : Type 0} (f : A → B) (xs ys : List A) → map f (xs ++ ys) ≡ map f xs ++ map f ys
map_append f [] ys = refl
map_append f (x ∷ xs) ys = ap (λ r. f x ∷ r) (map_append f xs ys)

pub more_twice : (f : Problem) (a b : List Bounded) → with_more (with_more f a) b ≡ with_more f (a ++ b)
more_twice f a b = ap (λ cs. record { vars = f.vars; constraints = cs }) (append_assoc f.constraints a b)

pub clauses_twice : (front : List Literal) (f : Problem) (a b : List (List Literal)) → with_clauses front (with_clauses front f a) b ≡ with_clauses front f (a ++ b)
clauses_twice front f a b = rw (map_append (after front) a b) (more_twice f (map (after front) a) (map (after front) b))

pub counting_step : (first count : ℕ) → 0 < count → counting first count ≡ first ∷ counting (first + 1) (count - 1)
counting_step first zero h = absurd (omega arith)
counting_step first (suc count) h = let e : suc count - 1 ≡ count = omega arith in rw e refl

pub known_weaker : (few many : ℕ) → few ≤ many → (lits : List Literal) → AreKnown few lits → AreKnown many lits
known_weaker few many le [] h = tt
known_weaker few many le (l ∷ lits) h = ((h.0.0, omega (arith, h.0.1)), known_weaker few many le lits h.1)

pub map_step : (front : List Literal) (clause_of : ℕ → List Literal) (old now : Problem) (first count next : ℕ) → 0 < count → next ≡ count - 1 → now ≡ with_clauses front old (clause_of first ∷ []) → with_clauses front now (map clause_of (counting (first + 1) next)) ≡ with_clauses front old (map clause_of (counting first count))
map_step front clause_of old now first count next h e is =
    rw (counting_step first count h, e, is) (clauses_twice front old (clause_of first ∷ []) (map clause_of (counting (first + 1) (count - 1))))

pub flat_step : (front : List Literal) (clauses_at : ℕ → List (List Literal)) (old now : Problem) (first count next : ℕ) → 0 < count → next ≡ count - 1 → now ≡ with_clauses front old (clauses_at first) → with_clauses front now (flat_map clauses_at (counting (first + 1) next)) ≡ with_clauses front old (flat_map clauses_at (counting first count))
flat_step front clauses_at old now first count next h e is =
    rw (counting_step first count h, e, is) (clauses_twice front old (clauses_at first) (flat_map clauses_at (counting (first + 1) (count - 1))))

pub known_negations : (vars : ℕ) (lits : List Literal) → AreKnown vars lits → AreKnown vars (map negated lits)
known_negations vars [] h = tt
known_negations vars (l ∷ lits) h = (h.0, known_negations vars lits h.1)
