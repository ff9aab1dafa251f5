-- What a trail keeps, with one literal more.
use Rattle.std.proofs.Common.{◌≡◌, ℕ, ◌+◌, ◌-◌, ◌≤◌, ◌<◌, ◌++◌, Bool, true, false, not, ◌&&◌, ◌||◌, cond, eqb, ltb, List, [], ◌∷◌, length, map, refl, sym, ap, ◌∙◌, subst, inl, inr, arith}
use Rattle.std.specs.List.{AllByRecursion, list_any, IsDistinct}
use Rattle.std.proofs.lemmas.Bool.{or_parts, or_from, or_cases, or_left, or_right, and_parts, not-true, not_from_false, cases_Bool, eqb-true, eqb-false, eq-eqb, ne_eqb, cases_eq}
use Rattle.std.proofs.lemmas.List.{map-append}
use Rattle.std.proofs.lemmas.Map.Steps.{length-le_from_distinct_below}
use Rattle.kn_logic.specs.Literals.{Literal, negated, is_same, has, names, IsKnown, AreKnown, AreDifferent}
use Rattle.kn_logic.specs.Propagation.{is_open, IsConsistent}
use Rattle.kn_watch.specs.Watches.{is_unset}
use Rattle.kn_logic.proofs.Public.{same_literal, same-refl, different-push}
use Rattle.kn_watch.specs.declared.trail.Made.{Made}
use Rattle.kn_watch.specs.Trails.{Trailed, literals, below, IsRising, IsTrail}

pub eqb-sym : (m n : ℕ) → eqb m n ≡ eqb n m
eqb-sym m n = elim (cases_eq m n) [
  | inl e ↦ eq-eqb m n e ∙ sym (eq-eqb n m (sym e))
  | inr d ↦ ne_eqb m n d ∙ sym (ne_eqb n m (λ e. d (sym e)))
]

pub known-push : (vars : ℕ) (lits : List Literal) (l : Literal) → AreKnown vars lits → IsKnown vars l → AreKnown vars (lits ++ l ∷ [])
known-push vars [] l k h = (h, tt)
known-push vars (x ∷ lits) l k h = (k.0, known-push vars lits l k.1 h)

below-push : (m x : Made) (level : ℕ) (made : List Made) → m.level ≤ level → x.level ≡ level → AllByRecursion (λ n. m.level ≤ n.level) made → AllByRecursion (λ n. m.level ≤ n.level) (made ++ x ∷ [])
below-push m x level [] le e a = (omega arith, tt)
below-push m x level (n ∷ made) le e a = (a.0, below-push m x level made le e a.1)

pub rising-push : (level : ℕ) (made : List Made) (x : Made) → IsRising level made → x.level ≡ level → IsRising level (made ++ x ∷ [])
rising-push level [] x r e = (omega arith, tt, tt)
rising-push level (m ∷ made) x r e = (r.0, below-push m x level made r.0 e r.1, rising-push level made x r.2 e)

pub rising-raise : (level : ℕ) (made : List Made) → IsRising level made → IsRising (level + 1) made
rising-raise level [] r = tt
rising-raise level (m ∷ made) r = (omega (arith, r.0), r.1, rising-raise level made r.2)

pub literals-push : (made : List Made) (m : Made) → literals (made ++ m ∷ []) ≡ literals made ++ m.lit ∷ []
literals-push made m = map-append (λ (x : Made). x.lit) made (m ∷ [])

pub trail-push : (t : Trailed) (m : Made) → IsTrail t → IsKnown t.vars m.lit → names (literals t.made) m.lit.variable ≡ false → m.level ≡ t.level → IsTrail (record t { made = t.made ++ m ∷ [] })
trail-push t m k known unset e = record {
  known = subst (AreKnown t.vars) (sym (literals-push t.made m)) (known-push t.vars (literals t.made) m.lit k.known known);
  different = subst AreDifferent (sym (literals-push t.made m)) (different-push (literals t.made) m.lit k.different unset);
  rising = rising-push t.level t.made m k.rising e;
}

-- there are no more literals of different variables than variables
apart : (vars v : ℕ) (lits : List Literal) → 1 ≤ v → AreKnown vars lits → names lits v ≡ false → AllByRecursion (λ y. eqb (v - 1) y ≡ false) (map (λ (l : Literal). l.variable - 1) lits)
apart vars v [] p k h = tt
apart vars v (x ∷ lits) p k h =
    let parts = or_parts (eqb x.variable v) (names lits v) h in
    let d = eqb-false _ _ parts.0 in
    (ne_eqb _ _ (λ e. d (omega (arith, e, k.0.0))), apart vars v lits p k.1 parts.1)

distinct : (vars : ℕ) (lits : List Literal) → AreKnown vars lits → AreDifferent lits → IsDistinct eqb (map (λ (l : Literal). l.variable - 1) lits)
unfolding IsDistinct
distinct vars [] k d = tt
distinct vars (x ∷ lits) k d = (apart vars x.variable lits k.0.0 k.1 d.0, distinct vars lits k.1 d.1)

within : (vars : ℕ) (lits : List Literal) (q : ℕ) → AreKnown vars lits → list_any (eqb q) (map (λ (l : Literal). l.variable - 1) lits) ≡ true → q < vars
within vars [] q k h = absurd cc
within vars (x ∷ lits) q k h = elim (or_cases (eqb q (x.variable - 1)) _ h) [
  | inl e ↦ omega (arith, eqb-true _ _ e, k.0.0, k.0.1)
  | inr t ↦ within vars lits q k.1 t
]

length-map : (lits : List Literal) → length (map (λ (l : Literal). l.variable - 1) lits) ≡ length lits
length-map [] = refl
length-map (x ∷ lits) = omega (arith, length-map lits)

pub at-most : (vars : ℕ) (lits : List Literal) → AreKnown vars lits → AreDifferent lits → length lits ≤ vars
at-most vars lits k d = omega (arith, length-map lits, length-le_from_distinct_below (map (λ (l : Literal). l.variable - 1) lits) vars (distinct vars lits k d) (λ q h. within vars lits q k h))

pub length-literals : (made : List Made) → length (literals made) ≡ length made
length-literals [] = refl
length-literals (x ∷ made) = omega (arith, length-literals made)

length_snoc : (lits : List Literal) (l : Literal) → length (lits ++ l ∷ []) ≡ length lits + 1
length_snoc [] l = refl
length_snoc (x ∷ lits) l = omega (arith, length_snoc lits l)

-- there is room for one literal more
pub room : (t : Trailed) (m : Made) → IsTrail t → IsKnown t.vars m.lit → names (literals t.made) m.lit.variable ≡ false → length t.made + 1 ≤ t.vars
room t m k known unset =
    let k2 = known-push t.vars (literals t.made) m.lit k.known known in
    let d2 = different-push (literals t.made) m.lit k.different unset in
    omega (arith, at-most t.vars (literals t.made ++ m.lit ∷ []) k2 d2, length-literals t.made, length_snoc (literals t.made) m.lit)

one_way : (b p q : Bool) → (b && cond p q (not q)) || (b && cond (not p) q (not q)) ≡ b
one_way true true true = refl
one_way true true false = refl
one_way true false true = refl
one_way true false false = refl
one_way false p q = refl

swap_or : (a b c d : Bool) → ((a || b) || (c || d)) ≡ ((a || c) || (b || d))
swap_or true b c d = refl
swap_or false true true d = refl
swap_or false true false d = refl
swap_or false false c d = refl

pub set-names : (lits : List Literal) (l : Literal) → (has lits l || has lits (negated l)) ≡ names lits l.variable
set-names [] l = refl
set-names (x ∷ lits) l =
    swap_or (is_same l x) (has lits l) (is_same (negated l) x) (has lits (negated l))
    ∙ ap (λ b. b || (has lits l || has lits (negated l))) (one_way (eqb l.variable x.variable) l.positive x.positive ∙ eqb-sym l.variable x.variable)
    ∙ ap (λ b. eqb x.variable l.variable || b) (set-names lits l)

-- a literal without a value is of a variable that no literal of the trail names
pub names_unset : (trail : List Literal) (l : Literal) → is_unset trail l ≡ true → names trail l.variable ≡ false
names_unset trail l u = let p = and_parts (is_open trail l) (not (has trail l)) u in sym (set-names trail l) ∙ or_from _ _ (not-true _ p.1) (not-true _ p.0)

opposite_sign : (b p : Bool) → (b && cond (not p) p (not p)) ≡ false
opposite_sign true true = refl
opposite_sign true false = refl
opposite_sign false p = refl

opposite : (l : Literal) → is_same (negated l) l ≡ false
opposite l = opposite_sign (eqb l.variable l.variable) l.positive

not_in_rest : (xs : List Literal) (x l : Literal) → names xs x.variable ≡ false → has xs l ≡ true → is_same (negated l) x ≡ false
not_in_rest xs x l n h = elim (cases_Bool (is_same (negated l) x)) [
  | inr e ↦ e
  | inl e ↦ (
      let s = and_parts (eqb l.variable x.variable) (cond (not l.positive) x.positive (not x.positive)) e in
      let v : l.variable ≡ x.variable = eqb-true l.variable x.variable s.0 in
      let n2 : (has xs l || has xs (negated l)) ≡ false = set-names xs l ∙ ap (names xs) v ∙ n in
      let f = (or_parts (has xs l) (has xs (negated l)) n2).0 in
      absurd cc)
]

open_in : (xs whole : List Literal) → ((l : Literal) → has xs l ≡ true → is_open whole l ≡ true) → AllByRecursion (λ l. is_open whole l ≡ true) xs
open_in [] whole h = tt
open_in (x ∷ xs) whole h = (h x (or_left (is_same x x) (has xs x) (same-refl x)), open_in xs whole (λ l i. h l (or_right (is_same l x) (has xs l) i)))

apart_in : (xs : List Literal) (l : Literal) → AreDifferent xs → has xs l ≡ true → has xs (negated l) ≡ false
apart_in [] l d h = refl
apart_in (x ∷ xs) l d h = elim (or_cases (is_same l x) (has xs l) h) [
  | inl s ↦ (
      let e = same_literal l x s in
      let here = subst (λ (z : Literal). is_same (negated z) x ≡ false) (sym e) (opposite x) in
      let there = subst (λ (z : Literal). has xs (negated z) ≡ false) (sym e) (or_parts (has xs x) (has xs (negated x)) (set-names xs x ∙ d.0)).1 in
      or_from _ _ here there)
  | inr t ↦ or_from _ _ (not_in_rest xs x l d.0 t) (apart_in xs l d.1 t)
]

-- no literal of a trail stands there with its negation
pub consistent_of : (t : Trailed) → IsTrail t → IsConsistent (literals t.made)
consistent_of t k = open_in (literals t.made) (literals t.made) (λ l h. not_from_false _ (apart_in (literals t.made) l k.different h))

unnamed_step : (m : Made) (made : List Made) (v : ℕ) (t : Bool) → eqb m.lit.variable v ≡ false → names (literals made) v ≡ false → names (literals (cond t (m ∷ made) made)) v ≡ false
unnamed_step m made v true e h = or_from _ _ e h
unnamed_step m made v false e h = h

unnamed_below : (made : List Made) (level v : ℕ) → names (literals made) v ≡ false → names (literals (below level made)) v ≡ false
unnamed_below [] level v h = refl
unnamed_below (m ∷ made) level v h =
    let p = or_parts (eqb m.lit.variable v) (names (literals made) v) h in
    unnamed_step m (below level made) v (ltb m.level level) p.0 (unnamed_below made level v p.1)

different_step : (m : Made) (made : List Made) (t : Bool) → names (literals made) m.lit.variable ≡ false → AreDifferent (literals made) → AreDifferent (literals (cond t (m ∷ made) made))
different_step m made true h d = (h, d)
different_step m made false h d = d

-- what going back leaves names no variable twice either
pub different_below : (made : List Made) (level : ℕ) → AreDifferent (literals made) → AreDifferent (literals (below level made))
different_below [] level d = tt
different_below (m ∷ made) level d = different_step m (below level made) (ltb m.level level) (unnamed_below made level m.lit.variable d.0) (different_below made level d.1)

-- nor does what going back leaves of it
pub consistent_below : (t : Trailed) (level : ℕ) → IsTrail t → IsConsistent (literals (below level t.made))
consistent_below t level k =
    let rest = literals (below level t.made) in
    open_in rest rest (λ l h. not_from_false _ (apart_in rest l (different_below t.made level k.different) h))
