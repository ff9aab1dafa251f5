-- The two sides of a border, and what follows from them.
use Rattle.std.proofs.Common.{◌≡◌, ℕ, ◌≤◌, ◌<◌, ◌==◌, Bool, true, false, not, cond, ◌&&◌, ◌||◌, List, [], ◌∷◌, ◌++◌, length, map, filter, Option, Some, None, refl, sym, ap, ap₂, subst, ◌∙◌, inl, inr, arith, true≢false}
use Rattle.std.specs.Prelude.{◌⊎◌, nat_eq, IfSome}
use Rattle.std.specs.List.{list_any, AllByRecursion}
use Rattle.std.specs.List.Sorted.{IsStrictlyIncreasing}
use Rattle.std.proofs.lemmas.Bool.{or_left, or_right, or_cases, and_parts, eqb-true, cond-true, and_from, not-true, not_from_false}
use Rattle.kn_logic.specs.Literals.{Literal, names, has, is_same, IsKnown}
use Rattle.kn_logic.specs.Constraints.{Bounded, named}
use Rattle.kn_logic.specs.Groups.{is_among}
use Rattle.kn_logic.proofs.Public.{same_literal, same-refl, same_sign}
use Rattle.kn_store.specs.Stores.{Numbered, Stored, IsStored, constraints_of, naming}
use Rattle.kn_store.proofs.Public.{all-one, all-two, IsOwn, Rises, rises}
use Rattle.kn_guess.specs.Guesses.{in_klause, touches, stands, is_border, IsBorder}
use Rattle.kn_guess.specs.Refusals.{AreApart, at_border, is_two_sided, AreBorderVariables, IsTooWide, IsTwoSided}
use Rattle.kn_guess.specs.Gathering.{outside_key, with_members}
use Rattle.kn_guess.specs.Sides.{first_in_both, sided}
use Rattle.kn_guess.proofs.Elements.{bool-same, any-with, each-any, any-map, any-filter, all-unfilter, all-among, own-among, among-append, any-among}
use Rattle.kn_guess.proofs.Lives.{IsLive, all-live, all-naming, clause-named, is-plain, own-names}
use Rattle.kn_guess.proofs.Gathers.{AllKeys, HasKeys, IsIn, all-members, missed-members, apart-members}

abbrev pub the-literal : ℕ → Bool → Literal
the-literal v positive = record { variable = v; positive = positive }

-- what a set of variables must have for its border to be gathered
pub record IsSide (s : Stored) (set aux : List ℕ) : Type 0 where
  pub stored : IsStored s
  pub alone : AllByRecursion (λ x. in_klause (constraints_of s.live) x ≡ false) aux
  pub same : (x : ℕ) → is_among set x ≡ is_among aux x

abbrev pub taken_by : Stored → List ℕ → List Bounded
taken_by s aux = filter (touches aux) (constraints_of s.live)

sign-one : (p q : Bool) → cond p q (not q) ≡ true → p ≡ q
sign-one true q e = sym e
sign-one false true e = absurd (true≢false (sym e))
sign-one false false e = refl

pub own-has : (lits : List Literal) → AllByRecursion (λ l. has lits l ≡ true) lits
own-has lits = all-one (λ l. (f : Literal → Bool) → f l ≡ true → list_any f lits ≡ true) (λ l. has lits l ≡ true) (λ l h. h (is_same l) (same-refl l)) lits (each-any lits)

-- a constraint that names one of the variables
pub touches-from : (aux : List ℕ) (c : Bounded) (x : ℕ) → is_among aux x ≡ true → names (named c) x ≡ true → touches aux c ≡ true
touches-from aux c x i n =
    let q = any-with (λ l. (f : Literal → Bool) → f l ≡ true → list_any f (named c) ≡ true) (λ l. l.variable == x) (named c) (each-any (named c)) n in
    q.2 (λ l. is_among aux l.variable) (ap (is_among aux) (eqb-true q.0.variable x q.1) ∙ i)

pub touched : (aux : List ℕ) (c : Bounded) → touches aux c ≡ true → (x : ℕ) × (is_among aux x ≡ true) × (names (named c) x ≡ true)
touched aux c e = let q = any-with (λ l. names (named c) l.variable ≡ true) (λ l. is_among aux l.variable) (named c) (own-names (named c)) e in (q.0.variable, q.1, q.2)

-- what is gathered is of the border
key-sound : (s : Stored) (set aux : List ℕ) (positive : Bool) (x : ℕ) (p : Numbered) (l : Literal) → IsSide s set aux → is_among aux x ≡ true → IsLive s p → names (named p.constraint) x ≡ true → has (named p.constraint) l ≡ true
    → IfSome (outside_key set positive l) (λ v. is_border (taken_by s aux) aux (the-literal v positive) ≡ true)
key-sound s set aux positive x p l side in' live name stand = at (cond l.positive positive (not positive) && not (is_among set l.variable)) refl
  where
    at : (t : Bool) → (cond l.positive positive (not positive) && not (is_among set l.variable)) ≡ t → IfSome (cond t (Some l.variable) None) (λ v. is_border (taken_by s aux) aux (the-literal v positive) ≡ true)
    at false e = tt
    at true e =
        let q = and_parts (cond l.positive positive (not positive)) (not (is_among set l.variable)) e in
        let here : stands (taken_by s aux) l ≡ true =
        any-filter (λ c. has (named c) l) (touches aux) (constraints_of s.live)
        ∙ live.some (λ c. has (named c) l && touches aux c) (and_from (has (named p.constraint) l) (touches aux p.constraint) stand (touches-from aux p.constraint x in' name)) in
        ap (λ b. is_border (taken_by s aux) aux (the-literal l.variable b)) (sym (sign-one l.positive positive q.0))
        ∙ and_from (stands (taken_by s aux) l) (not (is_among aux l.variable)) here (ap not (sym (side.same l.variable)) ∙ q.1)

pub side-sound : (s : Stored) (set aux : List ℕ) (positive : Bool) → IsSide s set aux → AllByRecursion (λ v. is_border (taken_by s aux) aux (the-literal v positive) ≡ true) (with_members 128 (outside_key set positive) s.live [] aux)
side-sound s set aux positive side = all-members (λ v. is_border (taken_by s aux) aux (the-literal v positive) ≡ true) 128 (outside_key set positive) s.live [] aux tt
    (all-two (λ x. in_klause (constraints_of s.live) x ≡ false) (λ x. is_among aux x ≡ true)
    (λ x. AllByRecursion (HasKeys s.live (λ v. is_border (taken_by s aux) aux (the-literal v positive) ≡ true) (outside_key set positive)) (naming x s.live))
    (λ x alone in'. all-one (λ p. IsLive s p × (names (named p.constraint) x ≡ true)) (HasKeys s.live (λ v. is_border (taken_by s aux) aux (the-literal v positive) ≡ true) (outside_key set positive))
    (λ p h. (
      h.0.own,
      all-one (λ l. has p.constraint.lits l ≡ true) (λ l. IfSome (outside_key set positive l) (λ v. is_border (taken_by s aux) aux (the-literal v positive) ≡ true))
          (λ l stand. key-sound s set aux positive x p l side in' h.0 h.1 (ap (λ z. has z l) (clause-named p.constraint (is-plain s x p h.0 alone h.1)) ∙ stand)) p.constraint.lits (own-has p.constraint.lits),
    ))
    (naming x s.live) (all-naming s x side.stored))
    aux side.alone (own-among aux))

-- and where the side is not full, all of the border is gathered
swap : {A X : Type 0} (R : A → Type 0) (Q : A → X → Type 0) (xs : List X) → ((a : A) → R a → AllByRecursion (Q a) xs) → AllByRecursion (λ x. (a : A) → R a → Q a x) xs
swap R Q [] h = tt
swap R Q (x ∷ xs) h = ((λ a r. (h a r).0), swap R Q xs (λ a r. (h a r).1))

key-full : (set end : List ℕ) (positive : Bool) (l m : Literal) → is_same l m ≡ true → l.positive ≡ positive → is_among set l.variable ≡ false → IfSome (outside_key set positive m) (IsIn end) → is_among end l.variable ≡ true
key-full set end positive l m same sign out found =
    let e = same_literal l m same in
    let test : (cond l.positive positive (not positive) && not (is_among set l.variable)) ≡ true =
    and_from (cond l.positive positive (not positive)) (not (is_among set l.variable)) (ap (λ b. cond b positive (not positive)) sign ∙ same_sign positive) (not_from_false (is_among set l.variable) out) in
    subst (λ o. IfSome o (IsIn end)) (cond-true (cond l.positive positive (not positive) && not (is_among set l.variable)) (Some l.variable) None test) (subst (λ z. IfSome (outside_key set positive z) (IsIn end)) (sym e) found)

pub side-full : (s : Stored) (set aux : List ℕ) (positive : Bool) → IsSide s set aux → length (with_members 128 (outside_key set positive) s.live [] aux) ≤ 128
    → (l : Literal) → l.positive ≡ positive → is_border (taken_by s aux) aux l ≡ true → is_among (with_members 128 (outside_key set positive) s.live [] aux) l.variable ≡ true
side-full s set aux positive side short l sign border =
    let end = with_members 128 (outside_key set positive) s.live [] aux in
    let parts = and_parts (stands (taken_by s aux) l) (not (is_among aux l.variable)) border in
    let missed = missed-members 128 (outside_key set positive) s.live [] aux
    (all-one (λ x. is_among aux x ≡ true) (λ x. AllByRecursion (IsOwn s.live) (naming x s.live)) (λ x i. all-one (λ p. IsLive s p × (names (named p.constraint) x ≡ true)) (IsOwn s.live) (λ p h. h.0.own) (naming x s.live) (all-naming s x side.stored)) aux (own-among aux)) short in
    let each = swap (λ x. is_among aux x ≡ true) (λ x p. names (named p.constraint) x ≡ true → AllKeys (IsIn end) (outside_key set positive) p.constraint.lits) s.live
    (λ x i. all-unfilter (λ p. AllKeys (IsIn end) (outside_key set positive) p.constraint.lits) (λ p. names (named p.constraint) x) s.live
    (all-among (λ x. AllByRecursion (λ p. AllKeys (IsIn end) (outside_key set positive) p.constraint.lits) (naming x s.live)) aux x missed i)) in
    let q = any-with (λ p. IsLive s p × ((x : ℕ) → is_among aux x ≡ true → names (named p.constraint) x ≡ true → AllKeys (IsIn end) (outside_key set positive) p.constraint.lits))
    (λ p. has (named p.constraint) l && touches aux p.constraint) s.live
    (all-two (IsLive s) (λ p. (x : ℕ) → is_among aux x ≡ true → names (named p.constraint) x ≡ true → AllKeys (IsIn end) (outside_key set positive) p.constraint.lits)
    (λ p. IsLive s p × ((x : ℕ) → is_among aux x ≡ true → names (named p.constraint) x ≡ true → AllKeys (IsIn end) (outside_key set positive) p.constraint.lits)) (λ p a b. (a, b)) s.live (all-live s side.stored) each)
    (sym (any-map (λ p. p.constraint) (λ c. has (named c) l && touches aux c) s.live) ∙ sym (any-filter (λ c. has (named c) l) (touches aux) (constraints_of s.live)) ∙ parts.0) in
    let p = q.0 in
    let both = and_parts (has (named p.constraint) l) (touches aux p.constraint) q.1 in
    let t = touched aux p.constraint both.1 in
    let plain = clause-named p.constraint (is-plain s t.0 p q.2.0 (all-among (λ x. in_klause (constraints_of s.live) x ≡ false) aux t.0 side.alone t.1) t.2) in
    let r = any-with (λ m. IfSome (outside_key set positive m) (IsIn end)) (is_same l) p.constraint.lits (q.2.1 t.0 t.1 t.2) (sym (ap (λ z. has z l) plain) ∙ both.0) in
    key-full set end positive l r.0 r.1 sign (side.same l.variable ∙ not-true (is_among aux l.variable) parts.1) r.2

pub side-is : (s : Stored) (set aux side : List ℕ) (positive : Bool) → IsSide s set aux → side ≡ with_members 128 (outside_key set positive) s.live [] aux → length side ≤ 128
    → (v : ℕ) → is_among side v ≡ is_border (taken_by s aux) aux (the-literal v positive)
side-is s set aux side positive is e short v =
    let end = with_members 128 (outside_key set positive) s.live [] aux in
    ap (λ z. is_among z v) e ∙ bool-same (is_among end v) (is_border (taken_by s aux) aux (the-literal v positive))
    (λ i. all-among (λ v. is_border (taken_by s aux) aux (the-literal v positive) ≡ true) end v (side-sound s set aux positive is) i)
    (λ b. side-full s set aux positive is (subst (λ z. length z ≤ 128) e short) (the-literal v positive) refl b)

-- too many on one side
pub wide-positive : (s : Stored) (set aux side : List ℕ) → IsSide s set aux → side ≡ with_members 128 (outside_key set true) s.live [] aux → 128 < length side → IsTooWide (taken_by s aux) aux
wide-positive s set aux side is e many = subst (λ z. 128 < length z → IsTooWide (taken_by s aux) aux) (sym e)
    (λ m. (
      with_members 128 (outside_key set true) s.live [] aux,
      m,
      apart-members 128 (outside_key set true) s.live [] aux tt,
      all-one (λ v. is_border (taken_by s aux) aux (the-literal v true) ≡ true) (λ v. at_border (taken_by s aux) aux v ≡ true)
          (λ v b. or_left (is_border (taken_by s aux) aux (the-literal v true)) (is_border (taken_by s aux) aux (the-literal v false)) b) (with_members 128 (outside_key set true) s.live [] aux) (side-sound s set aux true is),
    )) many

pub wide-negative : (s : Stored) (set aux side : List ℕ) → IsSide s set aux → side ≡ with_members 128 (outside_key set false) s.live [] aux → 128 < length side → IsTooWide (taken_by s aux) aux
wide-negative s set aux side is e many = subst (λ z. 128 < length z → IsTooWide (taken_by s aux) aux) (sym e)
    (λ m. (
      with_members 128 (outside_key set false) s.live [] aux,
      m,
      apart-members 128 (outside_key set false) s.live [] aux tt,
      all-one (λ v. is_border (taken_by s aux) aux (the-literal v false) ≡ true) (λ v. at_border (taken_by s aux) aux v ≡ true)
          (λ v b. or_right (is_border (taken_by s aux) aux (the-literal v true)) (is_border (taken_by s aux) aux (the-literal v false)) b) (with_members 128 (outside_key set false) s.live [] aux) (side-sound s set aux false is),
    )) many

-- the two sides are known, and their variables ascend
pub record IsJudged (taken : List Bounded) (aux on off variables : List ℕ) : Type 0 where
  pub on_is : (v : ℕ) → is_among on v ≡ is_border taken aux (the-literal v true)
  pub off_is : (v : ℕ) → is_among off v ≡ is_border taken aux (the-literal v false)
  pub ascends : IsStrictlyIncreasing variables
  pub all : (v : ℕ) → is_among variables v ≡ is_among (on ++ off) v

pub border-variables : (taken : List Bounded) (aux on off variables : List ℕ) → IsJudged taken aux on off variables → AreBorderVariables taken aux variables
border-variables taken aux on off variables j = (j.ascends, λ v. j.all v ∙ among-append on off v ∙ ap₂ (λ a b. a || b) (j.on_is v) (j.off_is v))

rises-apart : (xs : List ℕ) → Rises xs → AreApart xs
rises-apart [] h = tt
rises-apart (x ∷ xs) h = (out x xs h.0, rises-apart xs h.1)
  where
    out : (x : ℕ) (ys : List ℕ) → AllByRecursion (λ y. x < y) ys → is_among ys x ≡ false
    out x [] h = refl
    out x (y ∷ ys) h = ap₂ (λ a b. a || b) (no (y == x) refl) (out x ys h.1)
      where
        no : (t : Bool) → (y == x) ≡ t → (y == x) ≡ false
        no true e = absurd (let same = eqb-true y x e in omega (arith, same, h.0))
        no false e = e

pub wide-both : (taken : List Bounded) (aux on off variables : List ℕ) → IsJudged taken aux on off variables → 128 < length variables → IsTooWide taken aux
wide-both taken aux on off variables j many = (
  variables,
  many,
  rises-apart variables (rises variables j.ascends),
  all-one (λ v. is_among variables v ≡ true) (λ v. at_border taken aux v ≡ true) (λ v i. sym ((border-variables taken aux on off variables j).1 v) ∙ i) variables (own-among variables),
)

abbrev both : List ℕ → List ℕ → ℕ → Bool
both on off v = list_any (nat_eq v) on && list_any (nat_eq v) off

both-is : (taken : List Bounded) (aux on off variables : List ℕ) → IsJudged taken aux on off variables → (v : ℕ) → both on off v ≡ is_two_sided taken aux v
both-is taken aux on off variables j v = ap₂ (λ a b. a && b) (any-among v on ∙ j.on_is v) (any-among v off ∙ j.off_is v)

abbrev value-or : ℕ → Option ℕ → ℕ
value-or d None = d
value-or d (Some x) = x

first-some : (on off xs : List ℕ) (x : ℕ) → Rises xs → first_in_both on off xs ≡ Some x → (both on off x ≡ true) × ((y : ℕ) → is_among xs y ≡ true → y < x → both on off y ≡ false)
first-some on off [] x up e = absurd cc
first-some on off (z ∷ xs) x up e = at (both on off z) refl e (λ h. first-some on off xs x up.1 h)
  where
    at : (t : Bool) → both on off z ≡ t → cond t (Some z) (first_in_both on off xs) ≡ Some x → (first_in_both on off xs ≡ Some x → (both on off x ≡ true) × ((y : ℕ) → is_among xs y ≡ true → y < x → both on off y ≡ false))
        → (both on off x ≡ true) × ((y : ℕ) → is_among (z ∷ xs) y ≡ true → y < x → both on off y ≡ false)
    at true f e more =
        let same : z ≡ x = ap (value-or 0) e in
        (subst (λ v. both on off v ≡ true) same f, λ y i low. absurd (low-not y i (subst (λ v. y < v) (sym same) low)))
      where
        low-not : (y : ℕ) → is_among (z ∷ xs) y ≡ true → y < z → ⊥
        low-not y i low = elim (or_cases (z == y) (is_among xs y) i) [
          | inl s ↦ (let same = eqb-true z y s in omega (arith, same, low))
          | inr s ↦ (let high = all-among (λ v. z < v) xs y up.0 s in omega (arith, high, low))
        ]
    at false f e more =
        let q = more e in
        (q.0, λ y i low. elim (or_cases (z == y) (is_among xs y) i) [ inl s ↦ subst (λ v. both on off v ≡ false) (eqb-true z y s) f | inr s ↦ q.1 y s low ])

pub two-sided : (taken : List Bounded) (aux on off variables : List ℕ) (x : ℕ) → IsJudged taken aux on off variables → 3 ≤ length variables → length variables ≤ 128 → first_in_both on off variables ≡ Some x → IsTwoSided taken aux x
two-sided taken aux on off variables x j low high e =
    let f = first-some on off variables x (rises variables j.ascends) e in
    (variables, border-variables taken aux on off variables j, low, high, sym (both-is taken aux on off variables j x) ∙ f.0, λ y less. at y less (is_two_sided taken aux y) refl f.1)
  where
    at : (y : ℕ) → y < x → (t : Bool) → is_two_sided taken aux y ≡ t → ((y : ℕ) → is_among variables y ≡ true → y < x → both on off y ≡ false) → is_two_sided taken aux y ≡ false
    at y less false e none = e
    at y less true e none =
        let parts = and_parts (is_border taken aux (the-literal y true)) (is_border taken aux (the-literal y false)) e in
        let in' = (border-variables taken aux on off variables j).1 y ∙ or_left (is_border taken aux (the-literal y true)) (is_border taken aux (the-literal y false)) parts.0 in
        sym (both-is taken aux on off variables j y) ∙ none y in' less

first-none : (on off xs : List ℕ) → first_in_both on off xs ≡ None → AllByRecursion (λ v. both on off v ≡ false) xs
first-none on off [] e = tt
first-none on off (z ∷ xs) e = at (both on off z) refl e (λ h. first-none on off xs h)
  where
    at : (t : Bool) → both on off z ≡ t → cond t (Some z) (first_in_both on off xs) ≡ None → (first_in_both on off xs ≡ None → AllByRecursion (λ v. both on off v ≡ false) xs) → AllByRecursion (λ v. both on off v ≡ false) (z ∷ xs)
    at true f e more = absurd cc
    at false f e more = (f, more e)

pub map-sided : (on xs : List ℕ) → map (λ l. l.variable) (map (sided on) xs) ≡ xs
map-sided on [] = refl
map-sided on (x ∷ xs) = ap (λ z. x ∷ z) (map-sided on xs)

-- each literal of the border is there as it is sided, and no other
sided-has : (taken : List Bounded) (aux on off variables : List ℕ) → IsJudged taken aux on off variables → first_in_both on off variables ≡ None → (l : Literal) → has (map (sided on) variables) l ≡ is_border taken aux l
sided-has taken aux on off variables j e l = bool-same (has (map (sided on) variables) l) (is_border taken aux l) forth back
  where
    forth : has (map (sided on) variables) l ≡ true → is_border taken aux l ≡ true
    forth h =
        let q = any-with (λ v. is_among variables v ≡ true) (λ v. is_same l (sided on v)) variables (own-among variables) (sym (any-map (sided on) (is_same l) variables) ∙ h) in
        let v = q.0 in
        ap (is_border taken aux) (same_literal l (sided on v) q.1) ∙ at v (list_any (nat_eq v) on) refl (sym ((border-variables taken aux on off variables j).1 v) ∙ q.2)
      where
        at : (v : ℕ) (t : Bool) → list_any (nat_eq v) on ≡ t → at_border taken aux v ≡ true → is_border taken aux (sided on v) ≡ true
        at v true f b = ap (λ t. is_border taken aux (the-literal v t)) f ∙ sym (j.on_is v) ∙ sym (any-among v on) ∙ f
        at v false f b = ap (λ t. is_border taken aux (the-literal v t)) f ∙ elim (or_cases (is_border taken aux (the-literal v true)) (is_border taken aux (the-literal v false)) b) [
          | inl s ↦ absurd (true≢false (sym s ∙ sym (j.on_is v) ∙ sym (any-among v on) ∙ f))
          | inr s ↦ s
        ]

    sign : (b : Bool) (v : ℕ) → is_border taken aux (the-literal v b) ≡ true → is_among variables v ≡ true → list_any (nat_eq v) on ≡ b
    sign true v h i = any-among v on ∙ j.on_is v ∙ h
    sign false v h i =
        let none = all-among (λ v. both on off v ≡ false) variables v (first-none on off variables e) i in
        let there : list_any (nat_eq v) off ≡ true = any-among v off ∙ j.off_is v ∙ h in
        only (list_any (nat_eq v) on) (list_any (nat_eq v) off) there none
      where
        only : (a b : Bool) → b ≡ true → (a && b) ≡ false → a ≡ false
        only true b e f = absurd (true≢false (sym e ∙ f))
        only false b e f = refl

    inside : (b : Bool) (v : ℕ) → is_border taken aux (the-literal v b) ≡ true → is_among variables v ≡ true
    inside true v h = (border-variables taken aux on off variables j).1 v ∙ or_left (is_border taken aux (the-literal v true)) (is_border taken aux (the-literal v false)) h
    inside false v h = (border-variables taken aux on off variables j).1 v ∙ or_right (is_border taken aux (the-literal v true)) (is_border taken aux (the-literal v false)) h

    back : is_border taken aux l ≡ true → has (map (sided on) variables) l ≡ true
    back h =
        let i = inside l.positive l.variable h in
        let q = any-with (λ v. (f : ℕ → Bool) → f v ≡ true → list_any f variables ≡ true) (λ v. v == l.variable) variables (each-any variables) i in
        let s = sign l.positive l.variable h i in
        any-map (sided on) (is_same l) variables ∙ q.2 (λ v. is_same l (sided on v))
        (ap (λ v. is_same l (sided on v)) (eqb-true q.0 l.variable q.1) ∙ ap (λ b. is_same l (the-literal l.variable b)) s ∙ same-refl l)

pub border-is : (taken : List Bounded) (aux on off variables : List ℕ) (border : List Literal) → IsJudged taken aux on off variables → first_in_both on off variables ≡ None → border ≡ map (sided on) variables → IsBorder taken aux border
border-is taken aux on off variables border j e is = subst (IsBorder taken aux) (sym is)
    (subst IsStrictlyIncreasing (sym (map-sided on variables)) j.ascends, λ l. sided-has taken aux on off variables j e l)

pub known-variables : (taken : List Bounded) (aux on off variables : List ℕ) → IsJudged taken aux on off variables → ((l : Literal) → is_border taken aux l ≡ true → 1 ≤ l.variable) → AllByRecursion (λ v. 1 ≤ v) variables
known-variables taken aux on off variables j low = all-one (λ v. is_among variables v ≡ true) (λ v. 1 ≤ v) (λ v i. at v (or_cases (is_border taken aux (the-literal v true)) (is_border taken aux (the-literal v false)) (sym ((border-variables taken aux on off variables j).1 v) ∙ i)))
    variables (own-among variables)
  where
    at : (v : ℕ) → (is_border taken aux (the-literal v true) ≡ true) ⊎ (is_border taken aux (the-literal v false) ≡ true) → 1 ≤ v
    at v (inl b) = low (the-literal v true) b
    at v (inr b) = low (the-literal v false) b

-- a literal of the border is one of the formula
pub border-known : (s : Stored) (set aux : List ℕ) → IsSide s set aux → (l : Literal) → is_border (taken_by s aux) aux l ≡ true → 1 ≤ l.variable
border-known s set aux side l b =
    let parts = and_parts (stands (taken_by s aux) l) (not (is_among aux l.variable)) b in
    let q = any-with (IsLive s) (λ p. has (named p.constraint) l && touches aux p.constraint) s.live (all-live s side.stored)
    (sym (any-map (λ p. p.constraint) (λ c. has (named c) l && touches aux c) s.live) ∙ sym (any-filter (λ c. has (named c) l) (touches aux) (constraints_of s.live)) ∙ parts.0) in
    let p = q.0 in
    let both = and_parts (has (named p.constraint) l) (touches aux p.constraint) q.1 in
    let t = touched aux p.constraint both.1 in
    let plain = clause-named p.constraint (is-plain s t.0 p q.2 (all-among (λ x. in_klause (constraints_of s.live) x ≡ false) aux t.0 side.alone t.1) t.2) in
    let r = any-with (IsKnown s.vars) (is_same l) p.constraint.lits q.2.fits.within.lits (sym (ap (λ z. has z l) plain) ∙ both.0) in
    subst (λ z. 1 ≤ z.variable) (sym (same_literal l r.0 r.1)) r.2.0
