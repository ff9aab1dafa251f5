-- Places of a trail, and what stands there.
use Rattle.std.proofs.Common.{◌≡◌, ℕ, zero, suc, ◌+◌, ◌≤◌, ◌<◌, true, false, eqb, List, [], ◌∷◌, length, take, Option, None, Some, IfSome, refl, sym, ap, ◌∙◌, subst, inl, inr, arith}
use Rattle.std.specs.List.{AllByRecursion, slice_get}
use Rattle.std.specs.Option.{option_and_then, option_map, unwrap_or}
use Rattle.std.proofs.lemmas.Bool.{or_cases, or_left, or_right, eq-eqb, cases_Bool, not-false}
use Rattle.std.proofs.lemmas.Option.{same_Some}
use Rattle.kn_logic.specs.Literals.{Literal, negated, is_same, has, names, AreDifferent}
use Rattle.kn_logic.proofs.Public.{same_literal, same-refl, has-first}
use Rattle.kn_logic.specs.Propagation.{is_open}
use Rattle.kn_watch.specs.declared.trail.Made.{Made}
use Rattle.kn_watch.specs.Trails.{Trailed, literals, lit_of, made_of, IsRising}
use Rattle.kn_watch.proofs.Public.{made_of-at}
use Rattle.kn_propagate.specs.Engines.{Engined, IsEngine}
use Rattle.kn_learn.specs.Reasons.{IsForcedTrail, id_of, reason_or, reason_at}
use Rattle.kn_learn.specs.Analyses.{IsLower, IsTop}

pub there-is : (made : List Made) (q : ℕ) → q < length made → (m : Made) × (slice_get made q ≡ Some m)
there-is [] q h = absurd (omega (arith, h))
there-is (x ∷ made) zero h = (x, refl)
there-is (x ∷ made) (suc q) h = there-is made q (omega (arith, h))

pub at-length : (made : List Made) (q : ℕ) (m : Made) → slice_get made q ≡ Some m → q < length made
at-length [] q m h = absurd cc
at-length (x ∷ made) zero m h = omega arith
at-length (x ∷ made) (suc q) m h = omega (arith, at-length made q m h)

pub lit-of : (made : List Made) (q : ℕ) (m : Made) → slice_get made q ≡ Some m → lit_of made q ≡ m.lit
lit-of [] q m h = absurd cc
lit-of (x ∷ made) zero m h = ap (λ (y : Made). y.lit) (same_Some x m h)
lit-of (x ∷ made) (suc q) m h = lit-of made q m h

pub names-at : (made : List Made) (q : ℕ) (m : Made) → slice_get made q ≡ Some m → names (literals made) m.lit.variable ≡ true
names-at [] q m h = absurd cc
names-at (x ∷ made) zero m h = or_left (eqb x.lit.variable m.lit.variable) (names (literals made) m.lit.variable) (eq-eqb x.lit.variable m.lit.variable (ap (λ (y : Made). y.lit.variable) (same_Some x m h)))
names-at (x ∷ made) (suc q) m h = or_right (eqb x.lit.variable m.lit.variable) (names (literals made) m.lit.variable) (names-at made q m h)

apart : (x : Made) (made : List Made) (q : ℕ) (a b : Made) → names (literals made) x.lit.variable ≡ false → x ≡ a → slice_get made q ≡ Some b → a.lit.variable ≡ b.lit.variable → ⊥
apart x made q a b h is at same =
    let e : x.lit.variable ≡ b.lit.variable = ap (λ (m : Made). m.lit.variable) is ∙ same in
    let n = names-at made q b at in
    let f : names (literals made) b.lit.variable ≡ false = subst (λ (v : ℕ). names (literals made) v ≡ false) e h in
    cc

-- no variable has two places of a trail
pub one-place : (made : List Made) (p q : ℕ) (a b : Made) → AreDifferent (literals made) → slice_get made p ≡ Some a → slice_get made q ≡ Some b → a.lit.variable ≡ b.lit.variable → p ≡ q
one-place [] p q a b d at get same = absurd cc
one-place (x ∷ made) zero zero a b d at get same = refl
one-place (x ∷ made) zero (suc q) a b d at get same = absurd (apart x made q a b d.0 (same_Some x a at) get same)
one-place (x ∷ made) (suc p) zero a b d at get same = absurd (apart x made p b a d.0 (same_Some x b get) at (sym same))
one-place (x ∷ made) (suc p) (suc q) a b d at get same = ap suc (one-place made p q a b d.1 at get same)

pub same-made : (made : List Made) (p q : ℕ) (a b : Made) → AreDifferent (literals made) → slice_get made p ≡ Some a → slice_get made q ≡ Some b → a.lit.variable ≡ b.lit.variable → a ≡ b
same-made made p q a b d at get same = same_Some a b (sym at ∙ subst (λ (k : ℕ). slice_get made k ≡ Some b) (sym (one-place made p q a b d at get same)) get)

get-behind : (x : Made) (made : List Made) (q : ℕ) (m : Made) → slice_get made q ≡ Some m → slice_get (x ∷ made) (q + 1) ≡ Some m
get-behind x made q m at = let e : q + 1 ≡ suc q = omega arith in rw e at

-- a literal of a front of the trail has a place there
pub has-place : (made : List Made) (n : ℕ) (l : Literal) → has (take n (literals made)) l ≡ true → (q : ℕ) × (m : Made) × (q < n) × (slice_get made q ≡ Some m) × (l ≡ m.lit)
has-place [] zero l h = absurd cc
has-place [] (suc n) l h = absurd cc
has-place (x ∷ made) zero l h = absurd cc
has-place (x ∷ made) (suc n) l h =
    elim (or_cases (is_same l x.lit) (has (take n (literals made)) l) h) [
      | inl s ↦ (0, x, omega arith, refl, same_literal l x.lit s)
      | inr s ↦ (let (q, m, less, at, same) = has-place made n l s in (q + 1, m, omega (arith, less), get-behind x made q m at, same))
    ]

pub place-has : (made : List Made) (n q : ℕ) (m : Made) → q < n → slice_get made q ≡ Some m → has (take n (literals made)) m.lit ≡ true
place-has [] n q m less at = absurd cc
place-has (x ∷ made) zero q m less at = absurd (omega (arith, less))
place-has (x ∷ made) (suc n) zero m less at = or_left (is_same m.lit x.lit) (has (take n (literals made)) m.lit) (subst (λ (y : Made). is_same m.lit y.lit ≡ true) (sym (same_Some x m at)) (same-refl m.lit))
place-has (x ∷ made) (suc n) (suc q) m less at = or_right (is_same m.lit x.lit) (has (take n (literals made)) m.lit) (place-has made n q m (omega (arith, less)) at)

-- a literal of the trail has a place
pub has-somewhere : (made : List Made) (l : Literal) → has (literals made) l ≡ true → (q : ℕ) × (m : Made) × (slice_get made q ≡ Some m) × (l ≡ m.lit)
has-somewhere [] l h = absurd cc
has-somewhere (x ∷ made) l h =
    elim (or_cases (is_same l x.lit) (has (literals made) l) h) [
      | inl s ↦ (0, x, refl, same_literal l x.lit s)
      | inr s ↦ (let (q, m, at, same) = has-somewhere made l s in (q + 1, m, get-behind x made q m at, same))
    ]

pub has-at : (made : List Made) (q : ℕ) (m : Made) → slice_get made q ≡ Some m → has (literals made) m.lit ≡ true
has-at [] q m h = absurd cc
has-at (x ∷ made) zero m h = subst (λ (y : Made). has (literals (x ∷ made)) y.lit ≡ true) (same_Some x m h) (has-first x.lit (literals made))
has-at (x ∷ made) (suc q) m h = or_right (is_same m.lit x.lit) (has (literals made) m.lit) (has-at made q m h)

-- what the trail says of the variable of a place
pub level-read : (made : List Made) (place : ℕ) (m : Made) (v level : ℕ) (o : Option ℕ) → AreDifferent (literals made) → slice_get made place ≡ Some m → v ≡ (lit_of made place).variable → o ≡ option_map (λ x. x.level) (made_of made v) → level ≡ unwrap_or o 0 → level ≡ m.level
level-read made place m v level o d at var read is =
    let here : made_of made v ≡ Some m = subst (λ (n : ℕ). made_of made n ≡ Some m) (sym (var ∙ ap (λ (l : Literal). l.variable) (lit-of made place m at))) (made_of-at made place m d at) in
    is ∙ ap (λ (x : Option ℕ). unwrap_or x 0) (read ∙ ap (λ (x : Option Made). option_map (λ y. y.level) x) here)

pub reason-read : (made : List Made) (place : ℕ) (m : Made) (v : ℕ) (o : Option ℕ) → AreDifferent (literals made) → slice_get made place ≡ Some m → v ≡ (lit_of made place).variable → o ≡ option_and_then (λ x. x.reason) (made_of made v) → o ≡ m.reason
reason-read made place m v o d at var read =
    let here : made_of made v ≡ Some m = subst (λ (n : ℕ). made_of made n ≡ Some m) (sym (var ∙ ap (λ (l : Literal). l.variable) (lit-of made place m at))) (made_of-at made place m d at) in
    read ∙ ap (λ (x : Option Made). option_and_then (λ y. y.reason) x) here

pub reason-of : (made : List Made) (place : ℕ) (m : Made) (o : Option ℕ) → slice_get made place ≡ Some m → o ≡ m.reason → unwrap_or o 0 ≡ reason_at made place
reason-of made place m o at is = ap (λ (x : Option ℕ). unwrap_or x 0) is ∙ by m.reason ∙ sym (ap reason_or at)
  where
    by : (o : Option ℕ) → unwrap_or o 0 ≡ id_of o
    by None = refl
    by (Some id) = refl

-- a literal that is not false
pub not-open : (made : List Made) (l : Literal) (q : ℕ) (m : Made) → is_open (literals made) l ≡ true → slice_get made q ≡ Some m → m.lit ≡ negated l → ⊥
not-open made l q m h at is =
    let there : has (literals made) (negated l) ≡ true = subst (λ (x : Literal). has (literals made) x ≡ true) is (has-at made q m at) in
    absurd cc

-- the place of a false literal
pub false-place : (made : List Made) (l : Literal) (p : ℕ) (m : Made) → AreDifferent (literals made) → is_open (literals made) l ≡ false → slice_get made p ≡ Some m → m.lit.variable ≡ l.variable → m.lit ≡ negated l
false-place made l p m d h at var =
    let (q, n, get, same) = has-somewhere made (negated l) (not-false (has (literals made) (negated l)) h) in
    let one = same-made made p q m n d at get (var ∙ ap (λ (x : Literal). x.variable) same) in
    ap (λ (x : Made). x.lit) one ∙ sym same

-- what is said of a place is said of what stands there
pub said-at : (P : Made → Type 0) (made : List Made) (q : ℕ) (m : Made) → slice_get made q ≡ Some m → IfSome (slice_get made q) P → P m
said-at P made q m at h = subst (λ (o : Option Made). IfSome o P) at h

pub no-name : (made : List Made) (v : ℕ) (q : ℕ) (m : Made) → names (literals made) v ≡ false → slice_get made q ≡ Some m → m.lit.variable ≡ v → ⊥
no-name made v q m h at is =
    let n = names-at made q m at in
    let f : names (literals made) m.lit.variable ≡ false = subst (λ (k : ℕ). names (literals made) k ≡ false) (sym is) h in
    absurd cc

-- levels
pub rising-at : (level : ℕ) (made : List Made) (p q : ℕ) (a b : Made) → IsRising level made → p ≤ q → slice_get made p ≡ Some a → slice_get made q ≡ Some b → a.level ≤ b.level
rising-at level [] p q a b h le at get = absurd cc
rising-at level (x ∷ made) zero zero a b h le at get = (let one : a ≡ b = same_Some a b (sym at ∙ get) in omega (arith, ap (λ (y : Made). y.level) one))
rising-at level (x ∷ made) zero (suc q) a b h le at get =
    let above = all-made (λ y. x.level ≤ y.level) made q b h.1 get in
    let same : x ≡ a = same_Some x a at in
    omega (arith, above, ap (λ (y : Made). y.level) same)
  where
    all-made : (P : Made → Type 0) (made : List Made) (q : ℕ) (m : Made) → AllByRecursion P made → slice_get made q ≡ Some m → P m
    all-made P [] q m h at = absurd cc
    all-made P (x ∷ made) zero m h at = subst P (same_Some x m at) h.0
    all-made P (x ∷ made) (suc q) m h at = all-made P made q m h.1 at
rising-at level (x ∷ made) (suc p) zero a b h le at get = absurd (omega (arith, le))
rising-at level (x ∷ made) (suc p) (suc q) a b h le at get = rising-at level made p q a b h.2 (omega (arith, le)) at get

pub level-within : (level : ℕ) (made : List Made) (p : ℕ) (m : Made) → IsRising level made → slice_get made p ≡ Some m → m.level ≤ level
level-within level [] p m h at = absurd cc
level-within level (x ∷ made) zero m h at = subst (λ (y : Made). y.level ≤ level) (same_Some x m at) h.0
level-within level (x ∷ made) (suc p) m h at = level-within level made p m h.2 at

-- no place of the present level is before one of a lower level
pub not-above : (t : Trailed) (p q : ℕ) → IsRising t.level t.made → IsTop t p → IsLower t q → p < q → ⊥
not-above t p q rising (a, at, top) (b, get, lower) less =
    omega (arith, rising-at t.level t.made p q a b rising (omega (arith, less)) at get, top, lower)

-- what an engine keeps is what a run of its reasons asks for
pub engine-trail : (g : Engined) → IsEngine g → IsForcedTrail g.live g.trail.made
engine-trail g h = record {
  different = h.different;
  forced = h.forced;
  new = λ p m at. elim (cases_Bool (has (take p (literals g.trail.made)) m.lit)) [
    | inl s ↦ (let (q, n, less, get, same) = has-place g.trail.made p m.lit s in
        let one = one-place g.trail.made p q m n h.different at get (ap (λ (l : Literal). l.variable) same) in
        absurd (omega (arith, less, one)))
    | inr s ↦ s
  ];
}
