-- Watched places counted against literals that are not false: the law on quiet holds of every kind that has its
-- watches.
use Rattle.std.proofs.Common.{◌≡◌, ℕ, zero, suc, ◌+◌, ◌≤◌, ◌<◌, ◌++◌, Bool, true, false, not, cond, List, [], ◌∷◌, Option, Some, None, length, refl, sym, ap, subst, inl, inr, arith}
use Rattle.std.proofs.lemmas.Bool.{not_from_true}
use Rattle.kn_logic.specs.Constraints.{Bounded}
use Rattle.kn_logic.specs.Literals.{Literal, negated, has}
use Rattle.kn_logic.specs.Propagation.{is_open, open_places, LacksLiterals, IsShortUnder}
use Rattle.kn_watch.specs.Watches.{listed, unguarded, lit_at, count_watched, QuietLaw}

abbrev the_literal : ℕ → Bool → Literal
the_literal v p = record { variable = v; positive = p }

twice : (p : Bool) → not (not p) ≡ p
twice true = refl
twice false = refl

negated_twice : (l : Literal) → negated (negated l) ≡ l
negated_twice l = ap (λ (p : Bool). the_literal l.variable p) (twice l.positive)

step : (w o : Bool) (m n : ℕ) → (w ≡ true → o ≡ true) → m ≤ n → cond w 1 0 + m ≤ cond o 1 0 + n
step true true m n h le = omega arith
step true false m n h le = let e = h refl in absurd cc
step false true m n h le = omega arith
step false false m n h le = omega arith

count_le : (trail : List Literal) (watched : ℕ → Bool) (lits : List Literal) (from : ℕ) → ((place : ℕ) → place < length lits → watched (from + place) ≡ true → is_open trail (lit_at lits place) ≡ true) → count_watched watched from (length lits) ≤ open_places trail lits
count_le trail watched [] from h = omega arith
count_le trail watched (l ∷ lits) from h =
    let first : watched from ≡ true → is_open trail l ≡ true = λ e. h zero (omega arith) (subst (λ (n : ℕ). watched n ≡ true) (omega arith) e) in
    let ih = count_le trail watched lits (from + 1) (λ place lt e. h (suc place) (omega (arith, lt)) (subst (λ (n : ℕ). watched n ≡ true) (omega arith) e)) in
    step (watched from) (is_open trail l) (count_watched watched (from + 1) (length lits)) (open_places trail lits) first ih

places-append : (trail : List Literal) (a b : List Literal) → open_places trail (a ++ b) ≡ open_places trail a + open_places trail b
places-append trail [] b = omega arith
places-append trail (l ∷ a) b = omega (arith, places-append trail a b)

lacks_many : (trail : List Literal) (bound : ℕ) (lits : List Literal) → bound < open_places trail lits → LacksLiterals trail bound lits → ⊥
lacks_many trail bound lits lt (inl l) = omega arith
lacks_many trail bound lits lt (inr e) = omega (arith, e.0)

shut : (trail : List Literal) (guard : Literal) → has trail guard ≡ true → is_open trail (negated guard) ≡ false
shut trail guard h = subst (λ (z : Literal). not (has trail z) ≡ false) (sym (negated_twice guard)) (not_from_true _ h)

one_at_most : (b : Bool) → cond b 1 0 + 0 ≤ 1
one_at_most true = omega arith
one_at_most false = omega arith

zero_at : (b : Bool) → b ≡ false → cond b 1 0 + 0 ≡ 0
zero_at true e = absurd cc
zero_at false e = omega arith

quiet_parts : (trail : List Literal) (guard : Option Literal) (bound : ℕ) (lits : List Literal) → bound < open_places trail lits + open_places trail (unguarded guard) → IsShortUnder trail guard bound lits → ⊥
quiet_parts trail None bound lits lt short = lacks_many trail bound lits (omega arith) short
quiet_parts trail (Some g) bound lits lt (inl e) = omega (arith, e.1, one_at_most (is_open trail (negated g)))
quiet_parts trail (Some g) bound lits lt (inr e) = omega (arith, e.1, zero_at (is_open trail (negated g)) (shut trail g e.0))

-- The first sentence of the law on quiet.
pub quiet_law : (c : Bounded) (watched : ℕ → Bool) → QuietLaw c watched
quiet_law c watched trail broad has none short =
    let le = count_le trail watched (listed c) zero (λ place lt e. none place lt (subst (λ (n : ℕ). watched n ≡ true) (omega arith) e)) in
    let n = places-append trail c.lits (unguarded c.guard) in
    quiet_parts trail c.guard c.bound c.lits (omega (arith, le, n, has, broad)) short
