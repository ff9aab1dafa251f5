-- A clause whose other literals are false at a level, while its first has no value there, is new, and not short below.
use Rattle.std.proofs.Common.{◌≡◌, ℕ, zero, suc, ◌+◌, ◌≤◌, ◌<◌, ◌⊎◌, Bool, true, false, cond, ltb, List, [], ◌∷◌, Some, refl, sym, ap, ◌∙◌, subst, inl, inr, arith}
use Rattle.std.specs.List.{AllByRecursion, slice_get}
use Rattle.std.proofs.lemmas.Bool.{or_cases, or_right, cases_Bool, ltb-true, lt-ltb, not_from_false}
use Rattle.std.proofs.lemmas.Option.{same_Some}
use Rattle.kn_logic.specs.Literals.{Literal, negated, is_same, has, places, AreDifferent}
use Rattle.kn_logic.specs.Constraints.{clause}
use Rattle.kn_logic.specs.Propagation.{is_open, open_places, IsShort}
use Rattle.kn_logic.specs.Newness.{IsNew}
use Rattle.kn_logic.proofs.Public.{same_literal, has-first, negated_twice}
use Rattle.kn_watch.specs.declared.trail.Made.{Made}
use Rattle.kn_watch.specs.Trails.{literals, below}
use Rattle.kn_propagate.specs.Engines.{Engined, constraints, IsEngine}
use Rattle.kn_learn.specs.Lessons.{IsRefutedAt}
use Rattle.kn_learn.proofs.Places.{same-made}

kept-has : (x : Made) (kept : List Made) (l : Literal) (b : Bool) → has (literals kept) l ≡ true → has (literals (cond b (x ∷ kept) kept)) l ≡ true
kept-has x kept l true h = or_right (is_same l x.lit) (has (literals kept) l) h
kept-has x kept l false h = h

first-has : (x : Made) (kept : List Made) (b : Bool) → b ≡ true → has (literals (cond b (x ∷ kept) kept)) x.lit ≡ true
first-has x kept true e = has-first x.lit (literals kept)
first-has x kept false e = absurd cc

-- what came below a level stands in what going back leaves
below-has : (n : ℕ) (made : List Made) (q : ℕ) (m : Made) → slice_get made q ≡ Some m → m.level < n → has (literals (below n made)) m.lit ≡ true
below-has n [] q m h less = absurd cc
below-has n (x ∷ made) zero m h less =
    subst (λ (y : Made). has (literals (cond (ltb x.level n) (x ∷ below n made) (below n made))) y.lit ≡ true) (same_Some x m h)
    (first-has x (below n made) (ltb x.level n) (lt-ltb x.level n (subst (λ (y : Made). y.level < n) (sym (same_Some x m h)) less)))
below-has n (x ∷ made) (suc q) m h less = kept-has x (below n made) m.lit (ltb x.level n) (below-has n made q m h less)

abbrev Found : ℕ → List Made → Literal → Type 0
Found n made l = (q : ℕ) × (m : Made) × (slice_get made q ≡ Some m) × (l ≡ m.lit) × (m.level < n)

found-behind : (n : ℕ) (x : Made) (made : List Made) (l : Literal) → Found n made l → Found n (x ∷ made) l
found-behind n x made l (q, m, at, same, less) = (suc q, m, at, same, less)

found-here : (n : ℕ) (x : Made) (made : List Made) (l : Literal) (b : Bool) → ltb x.level n ≡ b → has (literals (cond b (x ∷ below n made) (below n made))) l ≡ true → (has (literals (below n made)) l ≡ true → Found n made l) → Found n (x ∷ made) l
found-here n x made l true e h ih = elim (or_cases (is_same l x.lit) (has (literals (below n made)) l) h) [
  | inl s ↦ (0, x, refl, same_literal l x.lit s, ltb-true x.level n e)
  | inr s ↦ found-behind n x made l (ih s)
]
found-here n x made l false e h ih = found-behind n x made l (ih h)

has-below : (n : ℕ) (made : List Made) (l : Literal) → has (literals (below n made)) l ≡ true → Found n made l
has-below n [] l h = absurd cc
has-below n (x ∷ made) l h = found-here n x made l (ltb x.level n) refl h (has-below n made l)

-- what came at a level or above has no value below it
unset-below : (n : ℕ) (made : List Made) (p : ℕ) (u : Made) (l : Literal) → AreDifferent (literals made) → slice_get made p ≡ Some u → n ≤ u.level → l.variable ≡ u.lit.variable → has (literals (below n made)) l ≡ false
unset-below n made p u l d at le same =
    elim (cases_Bool (has (literals (below n made)) l)) [
      | inl s ↦ (let (q, m, get, is, less) = has-below n made l s in
          let both = same-made made p q u m d at get (sym same ∙ ap (λ (x : Literal). x.variable) is) in
          absurd (omega (arith, le, less, ap (λ (x : Made). x.level) both)))
      | inr s ↦ s
    ]

others-refuted : (n : ℕ) (made : List Made) (last : Literal) (others : List Literal) → AllByRecursion (IsRefutedAt (λ k. k ≤ n) made) others → AllByRecursion (λ l. (l ≡ last) ⊎ (has (literals (below (n + 1) made)) (negated l) ≡ true)) others
others-refuted n made last [] h = tt
others-refuted n made last (l ∷ others) h =
    let (q, m, at, is, le) = h.0 in
    let back : negated l ≡ m.lit = ap (λ (x : Literal). negated x) is ∙ negated_twice m.lit in
    (inr (subst (λ (x : Literal). has (literals (below (n + 1) made)) x ≡ true) (sym back) (below-has (n + 1) made q m at (omega (arith, le)))), others-refuted n made last others h.1)

pub asserted-new : (g : Engined) (n : ℕ) (p : ℕ) (u : Made) (others : List Literal) → IsEngine g → n < g.trail.level → slice_get g.trail.made p ≡ Some u → n < u.level → AreDifferent (negated u.lit ∷ others) → AllByRecursion (IsRefutedAt (λ k. k ≤ n) g.trail.made) others → IsNew (constraints g.live) (negated u.lit ∷ others)
asserted-new g n p u others engine lower at less different refuted = (
  different,
  (
    negated u.lit,
    literals (below (n + 1) g.trail.made),
    record {
      stands = has-first (negated u.lit) others;
      closed = engine.closed n lower;
      others = (inl refl, others-refuted n g.trail.made (negated u.lit) others refuted);
      unset = unset-below (n + 1) g.trail.made p u (negated u.lit) engine.different at (omega (arith, less)) refl;
      unrefuted = unset-below (n + 1) g.trail.made p u (negated (negated u.lit)) engine.different at (omega (arith, less)) refl;
    },
  ),
)

-- below its level the clause has two literals without a value
places-one : (test : Literal → Bool) (lits : List Literal) (l : Literal) → has lits l ≡ true → test l ≡ true → 1 ≤ places test lits
places-one test [] l h e = absurd cc
places-one test (x ∷ lits) l h e =
    elim (or_cases (is_same l x) (has lits l) h) [
      | inl s ↦ (let t : test x ≡ true = subst (λ (y : Literal). test y ≡ true) (same_literal l x s) e in rw t (omega arith))
      | inr s ↦ (let more = places-one test lits l s e in omega (arith, more))
    ]

lacks-none : (t : List Literal) (lits : List Literal) → 2 ≤ open_places t lits → IsShort t (clause lits) → ⊥
lacks-none t lits two short = elim short [ inl s ↦ omega (arith, two, s) | inr s ↦ omega (arith, two, s.0) ]

open-below : (made : List Made) (n p : ℕ) (m : Made) → AreDifferent (literals made) → slice_get made p ≡ Some m → n ≤ m.level → is_open (literals (below n made)) (negated m.lit) ≡ true
open-below made n p m d at le =
    not_from_false _ (subst (λ (l : Literal). has (literals (below n made)) l ≡ false) (sym (negated_twice m.lit)) (unset-below n made p m m.lit d at le refl))

pub asserted-waits : (made : List Made) (k level : ℕ) (p : ℕ) (u : Made) (others : List Literal) → AreDifferent (literals made) → slice_get made p ≡ Some u → level < u.level → (level ≡ 0) ⊎ ((l : Literal) × (has others l ≡ true) × IsRefutedAt (λ n. n ≡ level) made l) → k < level → IsShort (literals (below (k + 1) made)) (clause (negated u.lit ∷ others)) → ⊥
asserted-waits made k level p u others d at top (inl z) less short = omega (arith, z, less)
asserted-waits made k level p u others d at top (inr (l, there, (q, m, get, is, same))) less short =
    let t = literals (below (k + 1) made) in
    let first = open-below made (k + 1) p u d at (omega (arith, top, less)) in
    let second = subst (λ (x : Literal). is_open t x ≡ true) (sym is) (open-below made (k + 1) q m d get (omega (arith, same, less))) in
    lacks-none t (negated u.lit ∷ others) (two (is_open t (negated u.lit)) (open_places t others) first (places-one (is_open t) others l there second)) short
  where
    two : (b : Bool) (n : ℕ) → b ≡ true → 1 ≤ n → 2 ≤ cond b 1 0 + n
    two true n e h = omega (arith, h)
    two false n e h = absurd cc
