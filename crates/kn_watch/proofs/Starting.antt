-- What the first watches of a constraint give, where it is not short under what going back to a lower level leaves.
use Rattle.std.proofs.Common.{◌≡◌, ℕ, zero, suc, ◌+◌, ◌≤◌, ◌<◌, ◌⊎◌, ◌++◌, Bool, true, false, not, ◌&&◌, cond, ltb, List, [], ◌∷◌, Option, Some, None, length, refl, sym, ◌∙◌, subst, inl, inr, arith}
use Rattle.std.proofs.lemmas.Bool.{not_from_false, cases_Bool, cases_lt, or_parts, cond-false, le-ltb, false_from_ne_true}
use Rattle.kn_logic.proofs.Public.{negated_twice}
use Rattle.kn_logic.specs.Constraints.{Bounded}
use Rattle.kn_logic.specs.Literals.{Literal, negated, has}
use Rattle.kn_logic.specs.Propagation.{is_open, open_places, has_unset, LacksLiterals, IsShortUnder, IsShort}
use Rattle.kn_watch.specs.declared.trail.Made.{Made}
use Rattle.kn_watch.specs.Trails.{literals, below}
use Rattle.kn_watch.specs.Watches.{listed, unguarded, lit_at, true_in, NoneFalse, IsReleased, IsSatisfied, IsSettled, IsLatest, count_watched, HasWatches, IsBroad}
use Rattle.kn_watch.proofs.Within.{false_within}
use Rattle.kn_watch.proofs.Settled.{below_all}

-- where no literal that is not false lacks a value, all of them are true
true_step : (o t : Bool) (m n : ℕ) → (o && not t) ≡ false → m ≤ n → cond o 1 0 + m ≤ cond t 1 0 + n
true_step true true m n e le = omega arith
true_step true false m n e le = absurd cc
true_step false t m n e le = omega arith

pub all_true : (trail lits : List Literal) → has_unset trail lits ≡ false → open_places trail lits ≤ true_in trail lits
all_true trail [] e = omega arith
all_true trail (l ∷ lits) e =
    let p = or_parts (is_open trail l && not (has trail l)) (has_unset trail lits) e in
    true_step (is_open trail l) (has trail l) (open_places trail lits) (true_in trail lits) p.0 (all_true trail lits p.1)

pub open_append : (trail : List Literal) (a b : List Literal) → open_places trail (a ++ b) ≡ open_places trail a + open_places trail b
open_append trail [] b = omega arith
open_append trail (l ∷ a) b = omega (arith, open_append trail a b)

enough : (trail : List Literal) (bound : ℕ) (lits : List Literal) → open_places trail lits ≤ bound → (LacksLiterals trail bound lits → ⊥) → bound ≤ true_in trail lits
enough trail bound lits le quiet = elim (cases_lt (open_places trail lits) bound) [
  | inl lt ↦ absurd (quiet (inl lt))
  | inr ge ↦ (
      let unset = false_from_ne_true (has_unset trail lits) (λ u. quiet (inr (omega (arith, le, ge), u))) in
      omega (arith, ge, all_true trail lits unset))
]

one_more : (b : Bool) → b ≡ true → cond b 1 0 + 0 ≡ 1
one_more true e = omega arith
one_more false e = absurd cc

tight_parts : (trail : List Literal) (guard : Option Literal) (bound : ℕ) (lits : List Literal) → open_places trail lits + open_places trail (unguarded guard) ≤ bound → (IsShortUnder trail guard bound lits → ⊥) → (bound ≤ true_in trail lits) ⊎ IsReleased trail guard
tight_parts trail None bound lits le quiet = inl (enough trail bound lits (omega (arith, le)) quiet)
tight_parts trail (Some g) bound lits le quiet = elim (cases_Bool (is_open trail g)) [
  | inr shut ↦ inr shut
  | inl free ↦ elim (cases_Bool (has trail g)) [
    | inl on ↦ inl (enough trail bound lits (omega (arith, le)) (λ lacks. elim lacks [
      | inl lt ↦ quiet (inl (free, lt))
      | inr e ↦ quiet (inr (on, e.0, e.1))
    ]))
    | inr off ↦ (
        let o : is_open trail (negated g) ≡ true = not_from_false _ (subst (λ (z : Literal). has trail z ≡ false) (sym (negated_twice g)) off) in
        absurd (quiet (inl (free, omega (arith, le, one_more (is_open trail (negated g)) o)))))
  ]
]

-- Where at most so many listed literals as the bound are not false, what is not short is satisfied.
pub tight : (trail : List Literal) (c : Bounded) → open_places trail (listed c) ≤ c.bound → (IsShort trail c → ⊥) → IsSatisfied trail c
tight trail c le quiet = tight_parts trail c.guard c.bound c.lits (omega (arith, le, open_append trail c.lits (unguarded c.guard))) quiet

-- every literal that is not false is watched, and a false one too: fewer are not false than are watched
step : (o w : Bool) (m n : ℕ) → (o ≡ true → w ≡ true) → m ≤ n → cond o 1 0 + m ≤ cond w 1 0 + n
step true true m n h le = omega arith
step true false m n h le = let e = h refl in absurd cc
step false true m n h le = omega arith
step false false m n h le = omega arith

strict : (o w : Bool) (m n : ℕ) → (o ≡ true → w ≡ true) → m + 1 ≤ n → cond o 1 0 + m + 1 ≤ cond w 1 0 + n
strict true true m n h le = omega arith
strict true false m n h le = let e = h refl in absurd cc
strict false true m n h le = omega arith
strict false false m n h le = omega arith

here_more : (o w : Bool) (m n : ℕ) → o ≡ false → w ≡ true → m ≤ n → cond o 1 0 + m + 1 ≤ cond w 1 0 + n
here_more true w m n e f le = absurd cc
here_more false true m n e f le = omega arith
here_more false false m n e f le = absurd cc

open_le : (trail : List Literal) (watched : ℕ → Bool) (lits : List Literal) (from : ℕ) → ((q : ℕ) → q < length lits → is_open trail (lit_at lits q) ≡ true → watched (from + q) ≡ true) → open_places trail lits ≤ count_watched watched from (length lits)
open_le trail watched [] from h = omega arith
open_le trail watched (l ∷ lits) from h =
    step (is_open trail l) (watched from) (open_places trail lits) (count_watched watched (from + 1) (length lits))
    (λ o. subst (λ (n : ℕ). watched n ≡ true) (omega arith) (h zero (omega arith) o))
    (open_le trail watched lits (from + 1) (λ q lt o. subst (λ (n : ℕ). watched n ≡ true) (omega arith) (h (suc q) (omega (arith, lt)) o)))

pub open_lt : (trail : List Literal) (watched : ℕ → Bool) (lits : List Literal) (from p : ℕ) → ((q : ℕ) → q < length lits → is_open trail (lit_at lits q) ≡ true → watched (from + q) ≡ true) → p < length lits → watched (from + p) ≡ true → is_open trail (lit_at lits p) ≡ false → open_places trail lits + 1 ≤ count_watched watched from (length lits)
open_lt trail watched [] from p h lt w o = absurd (omega (arith, lt))
open_lt trail watched (l ∷ lits) from zero h lt w o =
    here_more (is_open trail l) (watched from) (open_places trail lits) (count_watched watched (from + 1) (length lits)) o (subst (λ (n : ℕ). watched n ≡ true) (omega arith) w)
    (open_le trail watched lits (from + 1) (λ q ql x. subst (λ (n : ℕ). watched n ≡ true) (omega arith) (h (suc q) (omega (arith, ql)) x)))
open_lt trail watched (l ∷ lits) from (suc p) h lt w o =
    strict (is_open trail l) (watched from) (open_places trail lits) (count_watched watched (from + 1) (length lits))
    (λ x. subst (λ (n : ℕ). watched n ≡ true) (omega arith) (h zero (omega arith) x))
    (open_lt trail watched lits (from + 1) p (λ q ql x. subst (λ (n : ℕ). watched n ≡ true) (omega arith) (h (suc q) (omega (arith, ql)) x)) (omega (arith, lt)) (subst (λ (n : ℕ). watched n ≡ true) (omega arith) w) o)

-- is a watched literal false, up to a place?
NoneFalseTo : List Literal → Bounded → (ℕ → Bool) → ℕ → Type 0
NoneFalseTo trail c watched n = (place : ℕ) → place < n → watched place ≡ true → is_open trail (lit_at (listed c) place) ≡ true

look_step : (trail : List Literal) (c : Bounded) (watched : ℕ → Bool) (n : ℕ) (w o : Bool) → watched n ≡ w → is_open trail (lit_at (listed c) n) ≡ o → NoneFalseTo trail c watched n → NoneFalseTo trail c watched (suc n) ⊎ ((watched n ≡ true) × (is_open trail (lit_at (listed c) n) ≡ false))
unfolding NoneFalseTo
look_step trail c watched n true true we oe h = inl (λ q lt w. elim (cases_lt q n) [ inl l ↦ h q l w | inr g ↦ subst (λ (k : ℕ). is_open trail (lit_at (listed c) k) ≡ true) (omega (arith, lt, g)) oe ])
look_step trail c watched n true false we oe h = inr (we, oe)
look_step trail c watched n false o we oe h = inl (λ q lt w. elim (cases_lt q n) [ inl l ↦ h q l w | inr g ↦ (let e : q ≡ n = omega (arith, lt, g) in let w2 = subst (λ (k : ℕ). watched k ≡ true) e w in absurd cc) ])

look : (trail : List Literal) (c : Bounded) (watched : ℕ → Bool) (n : ℕ) → NoneFalseTo trail c watched n ⊎ ((p : ℕ) × (p < n) × (watched p ≡ true) × (is_open trail (lit_at (listed c) p) ≡ false))
unfolding NoneFalseTo
look trail c watched zero = inl (λ q lt w. absurd (omega (arith, lt)))
look trail c watched (suc n) = elim (look trail c watched n) [
  | inr f ↦ inr (f.0, omega (arith, f.1), f.2, f.3)
  | inl h ↦ elim (look_step trail c watched n (watched n) (is_open trail (lit_at (listed c) n)) refl refl h) [
    | inl more ↦ inl more
    | inr f ↦ inr (n, omega arith, f.0, f.1)
  ]
]

look_all : (trail : List Literal) (c : Bounded) (watched : ℕ → Bool) → NoneFalse trail c watched ⊎ ((p : ℕ) × (p < length (listed c)) × (watched p ≡ true) × (is_open trail (lit_at (listed c) p) ≡ false))
unfolding NoneFalseTo
look_all trail c watched = look trail c watched (length (listed c))

below_zero : (made : List Made) → below zero made ≡ []
below_zero [] = refl
below_zero (m ∷ made) = cond-false (ltb m.level zero) (m ∷ below zero made) (below zero made) (le-ltb m.level zero (omega arith)) ∙ below_zero made

none_open : (made : List Made) (l : Literal) → is_open (literals (below zero made)) l ≡ true
none_open made l = subst (λ (x : List Made). is_open (literals x) l ≡ true) (sym (below_zero made)) refl

-- Up to each level, no watched literal is false or the constraint is settled.
climb : (made : List Made) (c : Bounded) (watched : ℕ → Bool) (level : ℕ) → IsLatest made c watched → HasWatches c watched → IsBroad c → ((k : ℕ) → k < level → IsShort (literals (below (k + 1) made)) c → ⊥) → (k : ℕ) → k ≤ level → NoneFalse (literals (below k made)) c watched ⊎ IsSettled made c watched
climb made c watched level latest hw broad quiet zero le = inl (λ place lt w. none_open made (lit_at (listed c) place))
climb made c watched level latest hw broad quiet (suc k) le = elim (climb made c watched level latest hw broad quiet k (omega (arith, le))) [
  | inr s ↦ inr s
  | inl none ↦ (
      let trail = literals (below (k + 1) made) in
      let eq : k + 1 ≡ suc k = omega arith in
      elim (look_all trail c watched) [
        | inl h ↦ inl (subst (λ (n : ℕ). NoneFalse (literals (below n made)) c watched) eq h)
        | inr f ↦ (
            let gone = false_within trail (literals made) (lit_at (listed c) f.0) (below_all made (k + 1)) f.3 in
            let all : (q : ℕ) → q < length (listed c) → is_open trail (lit_at (listed c) q) ≡ true → watched (zero + q) ≡ true = λ q ql o. subst (λ (n : ℕ). watched n ≡ true) (omega arith) (elim (cases_Bool (watched q)) [
              | inl w ↦ w
              | inr w ↦ elim (cases_Bool (is_open (literals made) (lit_at (listed c) q))) [
                | inl x ↦ latest.open_ f.0 q f.1 ql f.2 gone x
                | inr x ↦ (let y = latest.late f.0 q (k + 1) f.1 ql f.2 w f.3 x in absurd cc)
              ]
            ]) in
            let lt = open_lt trail watched (listed c) zero f.0 all f.1 (subst (λ (n : ℕ). watched n ≡ true) (omega arith) f.2) f.3 in
            let sat = tight trail c (omega (arith, lt, hw, broad)) (quiet k (omega (arith, le))) in
            inr (k, sat, none))
      ])
]

-- The first watches: the constraint is settled, or no watched literal became false before the present level.
pub started : (made : List Made) (c : Bounded) (watched : ℕ → Bool) (level : ℕ) → IsLatest made c watched → HasWatches c watched → IsBroad c → ((k : ℕ) → k < level → IsShort (literals (below (k + 1) made)) c → ⊥) → NoneFalse (literals (below level made)) c watched ⊎ IsSettled made c watched
started made c watched level latest hw broad quiet = climb made c watched level latest hw broad quiet level (omega arith)
