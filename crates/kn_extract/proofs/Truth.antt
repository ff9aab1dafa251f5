-- Clauses and counts under a list of values and under a function.
use Rattle.std.proofs.Common.{◌≡◌, ℕ, ◌+◌, ◌-◌, ◌≤◌, ◌<◌, ◌==◌, Bool, true, false, not, cond, ◌||◌, List, [], ◌∷◌, ◌++◌, map, Option, None, Some, refl, sym, ap, ap₂, subst, ◌∙◌, inl, inr, arith, true≢false}
use Rattle.std.specs.List.{list_any, AllByRecursion, range_with_len}
use Rattle.std.specs.Prelude.{◌⊎◌, option_to_list}
use Rattle.std.specs.Option.{is_none}
use Rattle.std.proofs.lemmas.Bool.{or_left, or_right, and_parts, eqb-true}
use Rattle.std.proofs.lemmas.List.{get_or_past}
use Rattle.std.proofs.lemmas.List.FromFn.{get_or-map-range_with_len, length-map-range_with_len}
use Rattle.kn_logic.specs.Literals.{Literal, places}
use Rattle.kn_logic.specs.Assignments.{value_of, is_true, true_places}
use Rattle.kn_logic.specs.Constraints.{Bounded, is_clause, named, IsOff, Holds}
use Rattle.kn_diagram.specs.Diagrams.{is_true_by}
use Rattle.kn_quant.specs.Runs.{clause_function}

-- all literals of the list have one value under the list of values and under the function
abbrev pub Same : List Bool → (ℕ → Bool) → List Literal → Type 0
Same values w lits = AllByRecursion (λ l. value_of values l.variable ≡ w l.variable) lits

pub true-same : (values : List Bool) (w : ℕ → Bool) (l : Literal) → value_of values l.variable ≡ w l.variable → is_true values l ≡ is_true_by w l
true-same values w l e = ap (λ v. cond l.positive v (not v)) e

pub places-same : (values : List Bool) (w : ℕ → Bool) (lits : List Literal) → Same values w lits → true_places values lits ≡ places (is_true_by w) lits
places-same values w [] same = refl
places-same values w (l ∷ lits) same = ap₂ {C = ℕ} (λ t n. cond t 1 0 + n) (true-same values w l same.0) (places-same values w lits same.1)

-- some literal is true exactly where at least one place is
any-split : (test : Literal → Bool) (l : Literal) (lits : List Literal) → (1 ≤ places test lits → list_any test lits ≡ true) → (t : Bool) → test l ≡ t → 1 ≤ cond (test l) 1 0 + places test lits → (test l || list_any test lits) ≡ true
any-split test l lits more true e h = or_left (test l) (list_any test lits) e
any-split test l lits more false e h = or_right (test l) (list_any test lits) (more (let low = subst (λ t. 1 ≤ cond t 1 0 + places test lits) e h in omega (arith, low)))

pub any-from-places : (test : Literal → Bool) (lits : List Literal) → 1 ≤ places test lits → list_any test lits ≡ true
any-from-places test [] h = absurd (omega (arith, h))
any-from-places test (l ∷ lits) h = any-split test l lits (any-from-places test lits) (test l) refl h

places-split : (test : Literal → Bool) (l : Literal) (lits : List Literal) → (list_any test lits ≡ true → 1 ≤ places test lits) → (t : Bool) → test l ≡ t → (test l || list_any test lits) ≡ true → 1 ≤ cond (test l) 1 0 + places test lits
places-split test l lits more true e h = subst (λ t. 1 ≤ cond t 1 0 + places test lits) (sym e) (omega arith)
places-split test l lits more false e h = let rest = more (subst (λ t. (t || list_any test lits) ≡ true) e h) in omega (arith, rest)

pub places-from-any : (test : Literal → Bool) (lits : List Literal) → list_any test lits ≡ true → 1 ≤ places test lits
places-from-any test [] h = absurd (true≢false (sym h))
places-from-any test (l ∷ lits) h = places-split test l lits (places-from-any test lits) (test l) refl h

-- a clause holds exactly where its function is true
bound-of-clause : (c : Bounded) → is_clause c ≡ true → c.bound ≡ 1
bound-of-clause c e = eqb-true c.bound 1 (and_parts (is_none c.guard) (c.bound == 1) e).1

no-guard : (guard : Option Literal) → is_none guard ≡ true → guard ≡ None
no-guard None e = refl
no-guard (Some g) e = absurd (true≢false (sym e))

guard-of-clause : (c : Bounded) → is_clause c ≡ true → c.guard ≡ None
guard-of-clause c e = no-guard c.guard (and_parts (is_none c.guard) (c.bound == 1) e).0

pub true-of-clause : (values : List Bool) (c : Bounded) → is_clause c ≡ true → Holds values c → clause_function c (value_of values) ≡ true
true-of-clause values c e (inl enough) = any-from-places (is_true values) c.lits (let b = bound-of-clause c e in omega (arith, enough, b))
true-of-clause values c e (inr off) = absurd (subst (IsOff values) (guard-of-clause c e) off)

pub clause-holds : (values : List Bool) (w : ℕ → Bool) (c : Bounded) → is_clause c ≡ true → Same values w c.lits → clause_function c w ≡ true → Holds values c
clause-holds values w c e same h = inl (
    let b = bound-of-clause c e in
    let some = places-from-any (is_true_by w) c.lits h in
    let s = places-same values w c.lits same in
    omega (arith, b, some, s))

-- a constraint whose literals keep their values holds as before
places-alike : (a b : List Bool) (lits : List Literal) → AllByRecursion (λ l. is_true b l ≡ is_true a l) lits → true_places b lits ≡ true_places a lits
places-alike a b [] same = refl
places-alike a b (l ∷ lits) same = ap₂ {C = ℕ} (λ t n. cond t 1 0 + n) same.0 (places-alike a b lits same.1)

parts-alike : (a b : List Bool) (guard : Option Literal) (bound : ℕ) (lits : List Literal) → AllByRecursion (λ l. is_true b l ≡ is_true a l) (option_to_list guard ++ lits)
    → (bound ≤ true_places a lits) ⊎ IsOff a guard → (bound ≤ true_places b lits) ⊎ IsOff b guard
parts-alike a b None bound lits same (inl enough) = inl (let s = places-alike a b lits same in omega (arith, enough, s))
parts-alike a b None bound lits same (inr off) = absurd off
parts-alike a b (Some guard) bound lits same (inl enough) = inl (let s = places-alike a b lits same.1 in omega (arith, enough, s))
parts-alike a b (Some guard) bound lits same (inr off) = inr (same.0 ∙ off)

pub holds-alike : (a b : List Bool) (c : Bounded) → AllByRecursion (λ l. is_true b l ≡ is_true a l) (named c) → Holds a c → Holds b c
holds-alike a b c same h = parts-alike a b c.guard c.bound c.lits same h

-- the values of the variables from 1 to a number, as a list
abbrev pub listing : (ℕ → Bool) → ℕ → List Bool
listing w vars = map w (range_with_len 1 vars)

pub listing-value : (w : ℕ → Bool) (vars x : ℕ) → 1 ≤ x → x ≤ vars → value_of (listing w vars) x ≡ w x
listing-value w vars x low high = get_or-map-range_with_len w 1 vars (x - 1) x false (omega (arith, low, high)) (omega (arith, low))

pub listing-past : (w : ℕ → Bool) (vars x : ℕ) → vars < x → value_of (listing w vars) x ≡ false
listing-past w vars x high = get_or_past (listing w vars) (x - 1) false (let e = length-map-range_with_len w 1 vars in omega (arith, e, high))
