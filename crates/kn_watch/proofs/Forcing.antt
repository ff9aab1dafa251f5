-- All that a constraint forces is made true, place by place.
use Rattle.std.proofs.Common.{◌≡◌, ℕ, zero, suc, ◌+◌, ◌≤◌, ◌<◌, ◌⊎◌, ◌++◌, Bool, true, false, not, ◌&&◌, cond, List, [], ◌∷◌, Option, Some, None, length, refl, sym, ap, ◌∙◌, subst, inl, inr, arith}
use Rattle.std.proofs.lemmas.Bool.{not_from_true, not-true, cases_eq, cases_lt, and_parts, and_cases, or_left, or_right, false_from_ne_true, not-false}
use Rattle.std.proofs.lemmas.List.Folds.{list_any-append}
use Rattle.kn_logic.specs.Constraints.{Bounded}
use Rattle.kn_logic.specs.Literals.{Literal, negated, is_same, has}
use Rattle.kn_logic.specs.Propagation.{is_open, open_places, IsConsistent}
use Rattle.kn_watch.specs.Watches.{listed, unguarded, lit_at, true_in, is_unset, IsReleased, IsBinding, IsSatisfied, IsConflicting, IsForced, IsForcing}
use Rattle.kn_watch.proofs.Within.{Within, open_within, consistent_at}
use Rattle.kn_logic.proofs.Public.{places-le, same-refl, negated_twice}

-- how far it is: just as many as the bound are left, and those before this place have a value; or too few are
-- left; or the guard has no value yet and its place is to come; or the guard is false
pub data IsForcedTo (trail : List Literal) (c : Bounded) (place : ℕ) : Type 0 where
  exact : IsBinding trail c.guard → open_places trail c.lits ≡ c.bound → ((q : ℕ) → q < place → q < length c.lits → is_unset trail (lit_at c.lits q) ≡ false) → IsForcedTo trail c place
  short : IsBinding trail c.guard → open_places trail c.lits < c.bound → IsForcedTo trail c place
  guarded : (guard : Literal) → c.guard ≡ Some guard → is_unset trail (negated guard) ≡ true → open_places trail c.lits < c.bound → place ≤ length c.lits → IsForcedTo trail c place
  released : IsReleased trail c.guard → IsForcedTo trail c place

within_push : (trail : List Literal) (l : Literal) → Within trail (trail ++ l ∷ [])
within_push trail l x h = list_any-append (is_same x) trail (l ∷ []) ∙ or_left _ _ h

has_push : (trail : List Literal) (l : Literal) → has (trail ++ l ∷ []) l ≡ true
has_push trail l = list_any-append (is_same l) trail (l ∷ []) ∙ or_right (has trail l) _ (or_left (is_same l l) false (same-refl l))

-- a literal with a value keeps it
set_within : (small large : List Literal) (l : Literal) → Within small large → is_unset small l ≡ false → is_unset large l ≡ false
set_within small large l w h = elim (and_cases (is_open small l) (not (has small l)) h) [
  | inl o ↦ false_from_ne_true _ (λ e. (let p = and_parts (is_open large l) (not (has large l)) e in let q = open_within small large l w p.0 in absurd cc))
  | inr o ↦ false_from_ne_true _ (λ e. (let p = and_parts (is_open large l) (not (has large l)) e in let t = w l (not-false _ o) in let q = not-true _ p.1 in absurd cc))
]

binding_within : (small large : List Literal) (guard : Option Literal) → Within small large → IsBinding small guard → IsBinding large guard
binding_within small large None w b = tt
binding_within small large (Some g) w b = w g b

-- where a guard is true, none of the rest is
unbound : (trail : List Literal) (guard : Option Literal) (g : Literal) → guard ≡ Some g → is_unset trail (negated g) ≡ true → IsBinding trail guard → ⊥
unbound trail None g e u b = absurd cc
unbound trail (Some x) g e u b =
    let s : x ≡ g = cc in
    let o = (and_parts (is_open trail (negated g)) _ u).0 in
    let h = subst (λ (z : Literal). has trail z ≡ true) (s ∙ sym (negated_twice g)) b in
    let f = not_from_true _ h in
    absurd cc

unreleased : (trail : List Literal) (guard : Option Literal) → IsConsistent trail → IsReleased trail guard → IsBinding trail guard → ⊥
unreleased trail None k r b = r
unreleased trail (Some g) k r b = let o = consistent_at trail trail g k b in absurd cc

released_within : (small large : List Literal) (guard : Option Literal) → Within small large → IsReleased small guard → IsReleased large guard
released_within small large None w r = r
released_within small large (Some g) w r = false_from_ne_true _ (λ e. (let q = open_within small large g w e in absurd cc))

pub lit_own : (lits more : List Literal) (place : ℕ) → place < length lits → lit_at (lits ++ more) place ≡ lit_at lits place
lit_own [] more place lt = absurd (omega (arith, lt))
lit_own (l ∷ lits) more zero lt = refl
lit_own (l ∷ lits) more (suc place) lt = lit_own lits more place (omega (arith, lt))

pub lit_last : (lits : List Literal) (x : Literal) (place : ℕ) → length lits ≡ place → lit_at (lits ++ x ∷ []) place ≡ x
lit_last [] x zero e = refl
lit_last [] x (suc place) e = absurd (omega (arith, e))
lit_last (l ∷ lits) x zero e = absurd (omega (arith, e))
lit_last (l ∷ lits) x (suc place) e = lit_last lits x place (omega (arith, e))

pub long_none : (lits : List Literal) → length (lits ++ []) ≡ length lits
long_none [] = refl
long_none (l ∷ lits) = omega (arith, long_none lits)

pub long_one : (lits : List Literal) (x : Literal) → length (lits ++ x ∷ []) ≡ length lits + 1
long_one [] x = refl
long_one (l ∷ lits) x = omega (arith, long_one lits x)

-- the last place of a list with a guard
guard_place : (lits : List Literal) (guard : Option Literal) (place : ℕ) → length lits ≤ place → place < length (lits ++ unguarded guard) → (g : Literal) × (guard ≡ Some g) × (place ≡ length lits) × (lit_at (lits ++ unguarded guard) place ≡ negated g)
guard_place lits None place le lt = absurd (omega (arith, le, lt, long_none lits))
guard_place lits (Some g) place le lt = (g, refl, omega (arith, le, lt, long_one lits (negated g)), lit_last lits (negated g) place (omega (arith, le, lt, long_one lits (negated g))))

pub forced_first : (trail : List Literal) (c : Bounded) → IsForcing trail c → IsForcedTo trail c zero
forced_first trail c f = elim (f.2.1) [
  | inl o ↦ exact o.2 o.1 (λ q lt in_. absurd (omega (arith, lt)))
  | inr o ↦ (let g = guard_place c.lits c.guard f.0 o.0 f.1 in guarded g.0 g.1 (subst (λ (z : Literal). is_unset trail z ≡ true) g.3 f.2.0) o.1 (omega arith))
]

-- a place that is not forced is passed by
pub not_forced : (trail : List Literal) (c : Bounded) (place : ℕ) → place < length (listed c) → (IsForced trail c place → ⊥) → IsForcedTo trail c place → IsForcedTo trail c (place + 1)
not_forced trail c place lt n (exact b o s) = exact b o (λ q ql qi. elim (cases_eq q place) [
  | inr d ↦ s q (omega (arith, ql, d)) qi
  | inl e ↦ false_from_ne_true _ (λ u. n (subst (λ (z : Literal). is_unset trail z ≡ true) (ap (lit_at c.lits) e ∙ sym (lit_own c.lits (unguarded c.guard) place (omega (arith, e, qi)))) u, inl (omega (arith, e, qi), o, b)))
])
not_forced trail c place lt n (short b o) = short b o
not_forced trail c place lt n (guarded g e u o le) = elim (cases_lt place (length c.lits)) [
  | inl i ↦ guarded g e u o (omega (arith, i))
  | inr i ↦ (
      let p = guard_place c.lits c.guard place i lt in
      let same : p.0 ≡ g = (let a = p.1 in cc) in
      absurd (n (subst (λ (z : Literal). is_unset trail z ≡ true) (ap negated (sym same) ∙ sym p.3) u, inr (i, o))))
]
not_forced trail c place lt n (released r) = released r

released_now : (trail : List Literal) (guard : Option Literal) (g l : Literal) → guard ≡ Some g → l ≡ negated g → IsReleased (trail ++ l ∷ []) guard
released_now trail None g l e q = absurd cc
released_now trail (Some x) g l e q =
    let s : x ≡ g = cc in
    let h = subst (λ (z : Literal). has (trail ++ l ∷ []) z ≡ true) (q ∙ ap negated (sym s)) (has_push trail l) in
    not_from_true _ h

-- what was passed by has a value where just as many as the bound are left
before : (trail : List Literal) (c : Bounded) (place : ℕ) → IsConsistent trail → IsBinding trail c.guard → open_places trail c.lits ≡ c.bound → IsForcedTo trail c place → (q : ℕ) → q < place → q < length c.lits → is_unset trail (lit_at c.lits q) ≡ false
before trail c place k b o (exact b2 o2 s) q ql qi = s q ql qi
before trail c place k b o (short b2 o2) q ql qi = absurd (omega (arith, o, o2))
before trail c place k b o (guarded g e u o2 le) q ql qi = absurd (unbound trail c.guard g e u b)
before trail c place k b o (released r) q ql qi = absurd (unreleased trail c.guard k r b)

-- a place that is forced becomes true
pub now_forced : (trail : List Literal) (c : Bounded) (place : ℕ) → IsConsistent trail → place < length (listed c) → IsForced trail c place → IsForcedTo trail c place → IsForcedTo (trail ++ lit_at (listed c) place ∷ []) c (place + 1)
now_forced trail c place k lt f to = elim (f.1) [
  | inr o ↦ (
      let p = guard_place c.lits c.guard place o.0 lt in
      released (released_now trail c.guard p.0 (lit_at (listed c) place) p.1 p.3))
  | inl o ↦ (
      let l = lit_at (listed c) place in
      let more = trail ++ l ∷ [] in
      let w = within_push trail l in
      let b = binding_within trail more c.guard w o.2 in
      let le = places-le (is_open more) (is_open trail) (λ x h. open_within trail more x w h) c.lits in
      let same = lit_own c.lits (unguarded c.guard) place o.0 in
      elim (cases_lt (open_places more c.lits) c.bound) [
        | inl s ↦ short b s
        | inr s ↦ exact b (omega (arith, s, le, o.1)) (λ q ql qi. elim (cases_eq q place) [
          | inl e ↦ false_from_ne_true _ (λ u. (
              let z = subst (λ (y : Literal). is_unset more y ≡ true) (ap (lit_at c.lits) e ∙ sym same) u in
              let n = not-true _ (and_parts (is_open more l) (not (has more l)) z).1 in
              let h = has_push trail l in
              absurd cc))
          | inr d ↦ set_within trail more (lit_at c.lits q) w (before trail c place k o.2 o.1 to q (omega (arith, ql, d)) qi)
        ])
      ])
]

-- each place has a value, and just as many as the bound are left: they are true
set_true : (s t : Bool) (m n : ℕ) → (s && not t) ≡ false → m ≤ n → cond s 1 0 + m ≤ cond t 1 0 + n
set_true true true m n e le = omega arith
set_true true false m n e le = absurd cc
set_true false t m n e le = omega arith

all_true : (trail lits : List Literal) → ((q : ℕ) → q < length lits → is_unset trail (lit_at lits q) ≡ false) → open_places trail lits ≤ true_in trail lits
all_true trail [] h = omega arith
all_true trail (l ∷ lits) h = set_true (is_open trail l) (has trail l) (open_places trail lits) (true_in trail lits) (h zero (omega arith)) (all_true trail lits (λ q lt. h (suc q) (omega (arith, lt))))

pub long_least : (lits : List Literal) (guard : Option Literal) → length lits ≤ length (lits ++ unguarded guard)
long_least lits None = omega (arith, long_none lits)
long_least lits (Some g) = omega (arith, long_one lits (negated g))

last_passed : (lits : List Literal) (guard : Option Literal) (g : Literal) → guard ≡ Some g → length (lits ++ unguarded guard) ≤ length lits → ⊥
last_passed lits None g e le = absurd cc
last_passed lits (Some x) g e le = omega (arith, le, long_one lits (negated x))

-- All places are passed by: the constraint is satisfied, or too few literals are left.
pub forced_all : (trail : List Literal) (c : Bounded) → IsForcedTo trail c (length (listed c)) → IsSatisfied trail c ⊎ IsConflicting trail c
forced_all trail c (exact b o s) = inl (inl (omega (arith, o, all_true trail c.lits (λ q lt. s q (omega (arith, lt, long_least c.lits c.guard)) lt))))
forced_all trail c (short b o) = inr (o, b)
forced_all trail c (guarded g e u o le) = absurd (last_passed c.lits c.guard g e le)
forced_all trail c (released r) = inl (inr r)
