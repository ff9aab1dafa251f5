-- A list of literals within another: what stays true, and what stays not false.
use Rattle.std.proofs.Common.{◌≡◌, ℕ, ◌+◌, ◌≤◌, ◌⊎◌, Bool, true, false, not, ◌&&◌, cond, List, [], ◌∷◌, Option, None, Some, refl, sym, subst, inl, inr, arith}
use Rattle.std.specs.List.{AllByRecursion}
use Rattle.std.proofs.lemmas.Bool.{or_cases, cases_Bool, not_from_false, not-true}
use Rattle.kn_logic.proofs.Public.{same_literal, places-le}
use Rattle.kn_logic.specs.Literals.{Literal, negated, is_same, has}
use Rattle.kn_logic.specs.Constraints.{Bounded}
use Rattle.kn_logic.specs.Propagation.{is_open, open_places, has_unset, IsShort, IsShortUnder, LacksLiterals, IsConsistent}
use Rattle.kn_watch.specs.Watches.{true_in, IsReleased, IsSatisfied, NoneFalse, listed, lit_at}

-- each literal of the first list stands in the second
abbrev pub Within : List Literal → List Literal → Type 0
Within small large = (l : Literal) → has small l ≡ true → has large l ≡ true

pub within-same : (a b : List Literal) → a ≡ b → Within a b
within-same a b e l h = subst (λ (x : List Literal). has x l ≡ true) e h

pub consistent_at : (trail whole : List Literal) (l : Literal) → AllByRecursion (λ x. is_open whole x ≡ true) trail → has trail l ≡ true → is_open whole l ≡ true
consistent_at [] whole l c e = absurd cc
consistent_at (x ∷ xs) whole l c e =
    elim (or_cases (is_same l x) (has xs l) e) [
      | inl s ↦ subst (λ (y : Literal). is_open whole y ≡ true) (sym (same_literal l x s)) c.0
      | inr t ↦ consistent_at xs whole l c.1 t
    ]

-- a literal that is not false under more is not false under less
pub open_within : (small large : List Literal) (l : Literal) → Within small large → is_open large l ≡ true → is_open small l ≡ true
open_within small large l w h =
    elim (cases_Bool (has small (negated l))) [
      | inl e ↦ (let f = w (negated l) e in let g = not-true _ h in absurd cc)
      | inr e ↦ not_from_false _ e
    ]

-- a false literal stays false under more
pub false_within : (small large : List Literal) (l : Literal) → Within small large → is_open small l ≡ false → is_open large l ≡ false
false_within small large l w h =
    elim (cases_Bool (is_open large l)) [
      | inl e ↦ (let f = open_within small large l w e in absurd cc)
      | inr e ↦ e
    ]

pub released_within : (small large : List Literal) (guard : Option Literal) → Within small large → IsReleased small guard → IsReleased large guard
released_within small large None w r = r
released_within small large (Some g) w r = false_within small large g w r

pub satisfied_within : (small large : List Literal) (c : Bounded) → Within small large → IsSatisfied small c → IsSatisfied large c
satisfied_within small large c w s = elim s [
  | inl le ↦ inl (omega (arith, places-le (has small) (has large) w c.lits))
  | inr r ↦ inr (released_within small large c.guard w r)
]

pub none_false_within : (small large : List Literal) (c : Bounded) (watched : ℕ → Bool) → Within small large → NoneFalse large c watched → NoneFalse small c watched
none_false_within small large c watched w n = λ place lt is. open_within small large (lit_at (listed c) place) w (n place lt is)

-- Where at least so many literals as the bound are true, none that is not false lacks a value if no more are not false.
no_step : (s t : Bool) (m n : ℕ) → (s ≡ true → t ≡ true) → m ≤ n → cond t 1 0 + n ≤ cond s 1 0 + m → ((t && not s) ≡ false) × (n ≤ m)
no_step true true m n h le k = (refl, omega arith)
no_step true false m n h le k = let e = h refl in absurd cc
no_step false true m n h le k = absurd (omega arith)
no_step false false m n h le k = (refl, omega arith)

pub all_set : (trail : List Literal) (lits : List Literal) → IsConsistent trail → open_places trail lits ≤ true_in trail lits → has_unset trail lits ≡ false
all_set trail [] k le = refl
all_set trail (l ∷ lits) k le =
    let not_false = λ (x : Literal) (h : has trail x ≡ true). consistent_at trail trail x k h in
    let s = no_step (has trail l) (is_open trail l) (true_in trail lits) (open_places trail lits) (not_false l) (places-le (has trail) (is_open trail) not_false lits) le in
    rw (s.0, all_set trail lits k s.1) refl

lacks_none : (trail : List Literal) (bound : ℕ) (lits : List Literal) → IsConsistent trail → bound ≤ true_in trail lits → LacksLiterals trail bound lits → ⊥
lacks_none trail bound lits k s short =
    let le = places-le (has trail) (is_open trail) (λ x h. consistent_at trail trail x k h) lits in
    elim short [
      | inl lt ↦ omega arith
      | inr e ↦ (let all = all_set trail lits k (omega arith) in let some = e.1 in absurd cc)
    ]

satisfied_parts : (trail : List Literal) (guard : Option Literal) (bound : ℕ) (lits : List Literal) → IsConsistent trail → (bound ≤ true_in trail lits) ⊎ IsReleased trail guard → IsShortUnder trail guard bound lits → ⊥
satisfied_parts trail None bound lits k (inl s) short = lacks_none trail bound lits k s short
satisfied_parts trail None bound lits k (inr r) short = r
satisfied_parts trail (Some g) bound lits k (inl s) (inl e) = lacks_none trail bound lits k s (inl e.1)
satisfied_parts trail (Some g) bound lits k (inl s) (inr e) = lacks_none trail bound lits k s (inr (e.1, e.2))
satisfied_parts trail (Some g) bound lits k (inr r) (inl e) = let o = e.0 in absurd cc
satisfied_parts trail (Some g) bound lits k (inr r) (inr e) = let o = consistent_at trail trail g k e.0 in absurd cc

-- what is satisfied is not short
pub satisfied_quiet : (trail : List Literal) (c : Bounded) → IsConsistent trail → IsSatisfied trail c → IsShort trail c → ⊥
satisfied_quiet trail c k s short = satisfied_parts trail c.guard c.bound c.lits k s short
