-- How a constraint forces a literal: it stands among its literals, of which just as many as the bound are not false,
-- or it is the negation of its guard.
use Rattle.std.proofs.Common.{◌≡◌, ℕ, ◌⊎◌, ◌++◌, Bool, true, false, cond, eqb, ltb, List, [], ◌∷◌, Option, None, Some, refl, sym, ◌∙◌, subst, inl, inr}
use Rattle.std.specs.List.{filter}
use Rattle.std.proofs.lemmas.Bool.{or_cases, eqb-true, cases_Bool, not_from_false}
use Rattle.std.proofs.lemmas.Option.{same_Some}
use Rattle.kn_logic.specs.Literals.{Literal, negated, is_same, has}
use Rattle.kn_logic.specs.Constraints.{Bounded}
use Rattle.kn_logic.specs.Propagation.{is_open, open_places, after_bound, after_parts, Forces}
use Rattle.kn_logic.proofs.Public.{same_literal, has-left, has-right, has-either, has-one, has-first, has-filtered, Covers, IsOn, forces-bound}
use Rattle.kn_watch.specs.Watches.{listed, unguarded}
use Rattle.kn_learn.proofs.Runs.{Makes, not-there}

-- by the bound
pub record ByBound (t : List Literal) (guard : Option Literal) (bound : ℕ) (lits : List Literal) (l : Literal) : Type 0 where
  pub on : IsOn t guard
  pub tight : open_places t lits ≡ bound
  pub stands : has lits l ≡ true
  pub open_ : is_open t l ≡ true

-- by the guard
pub record ByGuard (t : List Literal) (guard : Option Literal) (l : Literal) : Type 0 where
  pub own : Literal
  pub is : guard ≡ Some own
  pub same : l ≡ negated own
  pub unset : has t own ≡ false
  pub unrefuted : has t (negated own) ≡ false

pub filter-passes : (test : Literal → Bool) (lits : List Literal) (l : Literal) → has (filter test lits) l ≡ true → test l ≡ true
filter-passes test [] l h = absurd cc
filter-passes test (x ∷ lits) l h = passes (test x) x (filter test lits) l refl h (filter-passes test lits l)
  where
    passes : (b : Bool) (x : Literal) (kept : List Literal) (l : Literal) → test x ≡ b → has (cond b (x ∷ kept) kept) l ≡ true → (has kept l ≡ true → test l ≡ true) → test l ≡ true
    passes true x kept l e h ih = elim (or_cases (is_same l x) (has kept l) h) [ inl s ↦ subst (λ (y : Literal). test y ≡ true) (sym (same_literal l x s)) e | inr s ↦ ih s ]
    passes false x kept l e h ih = ih h

by-bound : (s e : Bool) (t lits : List Literal) (bound : ℕ) (l : Literal) → eqb (open_places t lits) bound ≡ e → has t l ≡ false → Makes (cond s None (cond e (Some (t ++ filter (is_open t) lits)) (Some t))) l → (open_places t lits ≡ bound) × (has lits l ≡ true) × (is_open t l ≡ true)
by-bound true e t lits bound l is h (next, f, k) = absurd cc
by-bound false true t lits bound l is h (next, f, k) =
    elim (has-either t (filter (is_open t) lits) l (subst (λ (xs : List Literal). has xs l ≡ true) (sym (same_Some (t ++ filter (is_open t) lits) next f)) k)) [
      | inl s ↦ absurd (not-there t l h s)
      | inr s ↦ (eqb-true (open_places t lits) bound is, has-filtered (is_open t) lits l s, filter-passes (is_open t) lits l s)
    ]
by-bound false false t lits bound l is h (next, f, k) = absurd (not-there t l h (subst (λ (xs : List Literal). has xs l ≡ true) (sym (same_Some t next f)) k))

by-guard : (s n u : Bool) (x : Option (List Literal)) (t lits : List Literal) (bound : ℕ) (guard l : Literal) → has t guard ≡ s → has t (negated guard) ≡ n → has t l ≡ false
    → (Makes x l → (open_places t lits ≡ bound) × (has lits l ≡ true) × (is_open t l ≡ true))
    → Makes (cond s x (cond n (Some t) (cond u (Some (t ++ negated guard ∷ [])) (Some t)))) l → ByBound t (Some guard) bound lits l ⊎ ByGuard t (Some guard) l
by-guard true n u x t lits bound guard l on un h k m = (let (tight, stands, free) = k m in inl (record { on = on; tight = tight; stands = stands; open_ = free }))
by-guard false true u x t lits bound guard l on un h k (next, f, m) = absurd (not-there t l h (subst (λ (xs : List Literal). has xs l ≡ true) (sym (same_Some t next f)) m))
by-guard false false true x t lits bound guard l on un h k (next, f, m) =
    elim (has-either t (negated guard ∷ []) l (subst (λ (xs : List Literal). has xs l ≡ true) (sym (same_Some (t ++ negated guard ∷ []) next f)) m)) [
      | inl s ↦ absurd (not-there t l h s)
      | inr s ↦ inr (record { own = guard; is = refl; same = has-one (negated guard) l s; unset = on; unrefuted = un })
    ]
by-guard false false false x t lits bound guard l on un h k (next, f, m) = absurd (not-there t l h (subst (λ (xs : List Literal). has xs l ≡ true) (sym (same_Some t next f)) m))

forced-parts : (t : List Literal) (guard : Option Literal) (bound : ℕ) (lits : List Literal) (l : Literal) → has t l ≡ false → Makes (after_parts t guard bound lits) l → ByBound t guard bound lits l ⊎ ByGuard t guard l
forced-parts t None bound lits l h m =
    (let (tight, stands, free) = by-bound (ltb (open_places t lits) bound) (eqb (open_places t lits) bound) t lits bound l refl h m in inl (record { on = tt; tight = tight; stands = stands; open_ = free }))
forced-parts t (Some guard) bound lits l h m =
    by-guard (has t guard) (has t (negated guard)) (ltb (open_places t lits) bound) (after_bound t bound lits) t lits bound guard l refl refl h
    (by-bound (ltb (open_places t lits) bound) (eqb (open_places t lits) bound) t lits bound l refl h) m

pub forced-how : (t : List Literal) (c : Bounded) (l : Literal) → has t l ≡ false → Forces t c l → ByBound t c.guard c.bound c.lits l ⊎ ByGuard t c.guard l
forced-how t c l h m = forced-parts t c.guard c.bound c.lits l h m

-- a forced literal stands in its constraint, or is the negation of its guard
pub forced-listed : (t : List Literal) (c : Bounded) (l : Literal) → has t l ≡ false → Forces t c l → has (listed c) l ≡ true
forced-listed t c l h m = elim (forced-how t c l h m) [
  | inl b ↦ has-left c.lits (unguarded c.guard) l b.stands
  | inr b ↦ has-right c.lits (unguarded c.guard) l (subst (λ (o : Option Literal). has (unguarded o) l ≡ true) (sym b.is) (subst (λ (x : Literal). has (negated b.own ∷ []) x ≡ true) (sym b.same) (has-first (negated b.own) [])))
]

on-more : (small big : List Literal) (guard : Option Literal) (own : Literal) → Covers small big → IsOn small guard → guard ≡ Some own → has big own ≡ true
on-more small big None own h on e = absurd cc
on-more small big (Some guard) own h on e = h own (subst (λ (x : Literal). has small x ≡ true) (same_Some guard own e) on)

open-less : (small big : List Literal) (l : Literal) → Covers small big → is_open big l ≡ true → is_open small l ≡ true
open-less small big l h e = elim (cases_Bool (has small (negated l))) [
  | inl s ↦ (let t = h (negated l) s in absurd cc)
  | inr s ↦ not_from_false _ s
]

-- What a constraint forces after it forced another literal, it forced at that place too.
pub forced-earlier : (small big : List Literal) (c : Bounded) (l m : Literal) → Covers small big → ((x : Literal) → has big x ≡ true → has big (negated x) ≡ true → ⊥) → has small l ≡ false → Forces small c l → has big l ≡ true → has big m ≡ false → Forces big c m → Forces small c m
forced-earlier small big c l m within apart un forces there new more =
    elim (forced-how small c l un forces) [
      | inl a ↦ elim (forced-how big c m new more) [
        | inl b ↦ forces-bound small c c.guard m refl a.on a.tight b.stands (open-less small big m within b.open_)
        | inr b ↦ (let e = on-more small big c.guard b.own within a.on b.is in let f = b.unset in absurd cc)
      ]
      | inr a ↦ (let refuted : has big (negated a.own) ≡ true = subst (λ (x : Literal). has big x ≡ true) a.same there in
          elim (forced-how big c m new more) [
            | inl b ↦ absurd (apart a.own (on-more big big c.guard a.own (λ x h. h) b.on a.is) refuted)
            | inr b ↦ (let same : a.own ≡ b.own = same_Some a.own b.own (sym a.is ∙ b.is) in
                let f : has big (negated a.own) ≡ false = subst (λ (x : Literal). has big (negated x) ≡ false) (sym same) b.unrefuted in absurd cc)
          ])
    ]
