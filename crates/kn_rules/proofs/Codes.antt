-- A clause that is new for constraints has other literals than each clause among them; so there are less than
-- 3 to the power V of them over V variables.
use Rattle.std.proofs.Common.{◌≡◌, ℕ, zero, suc, ◌+◌, ◌*◌, ◌^◌, ◌≤◌, ◌<◌, ◌⊎◌, ◌++◌, ◌&&◌, ◌==◌, if◌then◌else◌, Bool, true, false, not, cond, eqb, List, [], ◌∷◌, map, length, Some, refl, sym, ap, subst, inl, inr, arith}
use Rattle.std.specs.List.{AllByRecursion, IsDistinct, list_any, slice_get}
use Rattle.std.proofs.Math.Nat.{pow-suc}
use Rattle.std.proofs.lemmas.Bool.{and_parts, or_parts, or_cases, or_left, or_right, eqb-true, eq-eqb, ne_eqb, cases_Bool, cases_eq}
use Rattle.std.proofs.lemmas.Map.Steps.{length-le_from_distinct_below}
use Rattle.std.proofs.lemmas.Option.{same_Some}
use Rattle.kn_logic.specs.Literals.{Literal, negated, is_same, has, names, places, IsKnown, AreKnown, AreDifferent}
use Rattle.kn_logic.specs.Constraints.{Bounded, clause}
use Rattle.kn_logic.specs.Propagation.{is_open, open_places, has_unset, IsShort}
use Rattle.kn_logic.specs.Newness.{IsNewBy, IsNew}
use Rattle.kn_logic.proofs.Public.{same_literal, All-has, All-from, has-names}

-- Clauses as numbers in base 3: a digit for each variable, which says whether the clause has it, and how.
abbrev pub digit : List Literal → ℕ → ℕ
digit lits v = if has lits (record { variable = v; positive = true }) then 1 else if has lits (record { variable = v; positive = false }) then 2 else 0

abbrev pub code : ℕ → List Literal → ℕ
code zero lits = 0
code (suc n) lits = digit lits (suc n) + 3 * code n lits

-- a clause over so many variables that names none twice
pub record IsProper (vars : ℕ) (lits : List Literal) : Type 0 where
  pub known : AreKnown vars lits
  pub different : AreDifferent lits

-- No two of the clauses have the same literals, and none is empty.
pub record AreApart (vars : ℕ) (cs : List (List Literal)) : Type 0 where
  pub proper : AllByRecursion (IsProper vars) cs
  pub distinct : IsDistinct (λ m n. m == n) (map (code vars) ([] ∷ cs))

-- the clause is one of these constraints
abbrev pub Stands : List Bounded → List Literal → Type 0
Stands cs lits = (i : ℕ) × (slice_get cs i ≡ Some (clause lits))

not_itself : (p : Bool) → cond (not p) p (not p) ≡ false
not_itself true = refl
not_itself false = refl

-- a literal is not its negation
not_negated : (l : Literal) → is_same (negated l) l ≡ true → ⊥
not_negated l e =
    let parts = and_parts (eqb l.variable l.variable) (cond (not l.positive) l.positive (not l.positive)) e in
    let f : cond (not l.positive) l.positive (not l.positive) ≡ true = parts.1 in
    let g = not_itself l.positive in
    cc

apart : (x : Literal) (lits : List Literal) (l : Literal) → names lits x.variable ≡ false → l.variable ≡ x.variable → names lits l.variable ≡ true → ⊥
apart x lits l h e f =
    let g : names lits x.variable ≡ true = subst (λ (v : ℕ). names lits v ≡ true) e f in
    cc

-- not both of a variable's literals
pub not_both : (lits : List Literal) (l : Literal) → AreDifferent lits → has lits l ≡ true → has lits (negated l) ≡ true → ⊥
not_both [] l h e f = cc
not_both (x ∷ lits) l h e f =
    elim (or_cases (is_same l x) (has lits l) e) [
      | inl s ↦ elim (or_cases (is_same (negated l) x) (has lits (negated l)) f) [
        | inl t ↦ not_negated l (subst (λ (y : Literal). is_same (negated l) y ≡ true) (sym (same_literal l x s)) t)
        | inr t ↦ apart x lits l h.0 (ap (λ (y : Literal). y.variable) (same_literal l x s)) (has-names lits (negated l) t)
      ]
      | inr s ↦ elim (or_cases (is_same (negated l) x) (has lits (negated l)) f) [
        | inl t ↦ apart x lits l h.0 (ap (λ (y : Literal). y.variable) (same_literal (negated l) x t)) (has-names lits l s)
        | inr t ↦ not_both lits l h.1 s t
      ]
    ]

-- a new clause has other literals than one that is there
closed-places : (t lits : List Literal) (u : Literal) → AllByRecursion (λ l. (l ≡ u) ⊎ (has t (negated l) ≡ true)) lits → names lits u.variable ≡ false → places (is_open t) lits ≡ 0
closed-places t [] u h none = refl
closed-places t (x ∷ lits) u h none =
    let parts = or_parts (eqb x.variable u.variable) (names lits u.variable) none in
    elim h.0 [
      | inl s ↦ (let e : eqb x.variable u.variable ≡ true = eq-eqb x.variable u.variable (ap (λ (l : Literal). l.variable) s) in
          let f : eqb x.variable u.variable ≡ false = parts.0 in absurd cc)
      | inr s ↦ rw (s, closed-places t lits u h.1 parts.1) refl
    ]

cond-le : (b : Bool) → cond b 1 0 ≤ 1
cond-le true = omega arith
cond-le false = omega arith

one-open : (t lits : List Literal) (u : Literal) → AllByRecursion (λ l. (l ≡ u) ⊎ (has t (negated l) ≡ true)) lits → AreDifferent lits → places (is_open t) lits ≤ 1
one-open t [] u h d = omega arith
one-open t (x ∷ lits) u h d =
    elim h.0 [
      | inl s ↦ (let none : places (is_open t) lits ≡ 0 = closed-places t lits u h.1 (subst (λ (l : Literal). names lits l.variable ≡ false) s d.0) in
          omega (arith, none, cond-le (is_open t x)))
      | inr s ↦ (let le = one-open t lits u h.1 d.1 in rw s (omega (arith, le)))
    ]

any-at : (test : Literal → Bool) (lits : List Literal) (u : Literal) → has lits u ≡ true → test u ≡ true → list_any test lits ≡ true
any-at test [] u h e = absurd cc
any-at test (x ∷ lits) u h e =
    elim (or_cases (is_same u x) (has lits u) h) [
      | inl s ↦ or_left (test x) (list_any test lits) (subst (λ (l : Literal). test l ≡ true) (same_literal u x s) e)
      | inr s ↦ or_right (test x) (list_any test lits) (any-at test lits u s e)
    ]

one_or_none : (n : ℕ) → n ≤ 1 → (n < 1) ⊎ (n ≡ 1)
one_or_none n h = elim (cases_eq n 1) [ inl e ↦ inr e | inr e ↦ inl (omega (arith, ne-below n h e)) ]
  where
    ne-below : (n : ℕ) → n ≤ 1 → (n ≡ 1 → ⊥) → n < 1
    ne-below zero h d = omega arith
    ne-below (suc zero) h d = absurd (d refl)
    ne-below (suc (suc n)) h d = absurd (omega (arith, h))

is-short : (t old new : List Literal) (u : Literal) (cs : List Bounded) → IsNewBy cs new u t → AreDifferent old → ((l : Literal) → has old l ≡ true → has new l ≡ true) → has old u ≡ true → IsShort t (clause old)
is-short t old new u cs n different within stands =
    let each = All-from (λ l. (l ≡ u) ⊎ (has t (negated l) ≡ true)) old (λ l h. All-has (λ l. (l ≡ u) ⊎ (has t (negated l) ≡ true)) new l n.others (within l h)) in
    let unset : has_unset t old ≡ true = any-at (λ l. is_open t l && not (has t l)) old u stands (rw (n.unset, n.unrefuted) refl) in
    elim (one_or_none (open_places t old) (one-open t old u each different)) [ inl s ↦ inl s | inr s ↦ inr (s, unset) ]

quiet-at : (t : List Literal) (cs : List Bounded) (i : ℕ) (c : Bounded) → AllByRecursion (λ d. IsShort t d → ⊥) cs → slice_get cs i ≡ Some c → IsShort t c → ⊥
quiet-at t [] i c h at = absurd cc
quiet-at t (x ∷ cs) zero c h at = subst (λ (d : Bounded). IsShort t d → ⊥) (same_Some x c at) h.0
quiet-at t (x ∷ cs) (suc i) c h at = quiet-at t cs i c h.1 at

-- digits
digit-of : (p q : Bool) → cond p 1 (cond q 2 0) < 3
digit-of true q = omega arith
digit-of false true = omega arith
digit-of false false = omega arith

code-below : (n : ℕ) (lits : List Literal) → code n lits < 3 ^ n
code-below zero lits = omega arith
code-below (suc n) lits =
    let d = digit-of (has lits (record { variable = suc n; positive = true })) (has lits (record { variable = suc n; positive = false })) in
    let less = code-below n lits in
    subst (λ (m : ℕ). code (suc n) lits < m) (sym (pow-suc 3 n)) (omega (arith, d, less))

same-digits : (n : ℕ) (a b : List Literal) → code n a ≡ code n b → (v : ℕ) → 1 ≤ v → v ≤ n → digit a v ≡ digit b v
same-digits zero a b e v first last = absurd (omega (arith, first, last))
same-digits (suc n) a b e v first last =
    let d = digit-of (has a (record { variable = suc n; positive = true })) (has a (record { variable = suc n; positive = false })) in
    let f = digit-of (has b (record { variable = suc n; positive = true })) (has b (record { variable = suc n; positive = false })) in
    elim (cases_eq v (suc n)) [
      | inl s ↦ subst (λ (m : ℕ). digit a m ≡ digit b m) (sym s) (low (digit a (suc n)) (digit b (suc n)) (code n a) (code n b) e d f)
      | inr s ↦ same-digits n a b (high (digit a (suc n)) (digit b (suc n)) (code n a) (code n b) e d f) v first (less v n last s)
    ]
  where
    low : (c d m k : ℕ) → c + 3 * m ≡ d + 3 * k → c < 3 → d < 3 → c ≡ d
    low c d m k e f g = omega (arith, e, f, g)

    high : (c d m k : ℕ) → c + 3 * m ≡ d + 3 * k → c < 3 → d < 3 → m ≡ k
    high c d m k e f g = omega (arith, e, f, g)

    less : (v n : ℕ) → v ≤ suc n → (v ≡ suc n → ⊥) → v ≤ n
    less v n h d = omega (arith, h, d)

positive-digit : (p q r s : Bool) → ◌≡◌ {A = ℕ} (cond p 1 (cond q 2 0)) (cond r 1 (cond s 2 0)) → p ≡ true → r ≡ true
positive-digit true q true s e h = refl
positive-digit true q false true e h = absurd (omega (arith, e))
positive-digit true q false false e h = absurd (omega (arith, e))
positive-digit false q r s e h = absurd cc

negative-digit : (p q r s : Bool) → ◌≡◌ {A = ℕ} (cond p 1 (cond q 2 0)) (cond r 1 (cond s 2 0)) → p ≡ false → q ≡ true → s ≡ true
negative-digit true q r s e h k = absurd cc
negative-digit false false r s e h k = absurd cc
negative-digit false true true s e h k = absurd (omega (arith, e))
negative-digit false true false true e h k = refl
negative-digit false true false false e h k = absurd (omega (arith, e))

sign-within : (a b : List Literal) (v : ℕ) (p : Bool) → AreDifferent a → digit a v ≡ digit b v → has a (record { variable = v; positive = p }) ≡ true → has b (record { variable = v; positive = p }) ≡ true
sign-within a b v true d e h = positive-digit (has a (record { variable = v; positive = true })) (has a (record { variable = v; positive = false })) (has b (record { variable = v; positive = true })) (has b (record { variable = v; positive = false })) e h
sign-within a b v false d e h =
    negative-digit (has a (record { variable = v; positive = true })) (has a (record { variable = v; positive = false })) (has b (record { variable = v; positive = true })) (has b (record { variable = v; positive = false })) e
    (elim (cases_Bool (has a (record { variable = v; positive = true }))) [ inl s ↦ absurd (not_both a (record { variable = v; positive = true }) d s h) | inr s ↦ s ])
    h

-- clauses of one code have the same literals
same-within : (vars : ℕ) (a b : List Literal) → IsProper vars a → code vars a ≡ code vars b → (l : Literal) → has a l ≡ true → has b l ≡ true
same-within vars a b proper e l h =
    let known = All-has (IsKnown vars) a l proper.known h in
    sign-within a b l.variable l.positive proper.different (same-digits vars a b e l.variable known.0 known.1) h

pub new-differs : (vars : ℕ) (cs : List Bounded) (old new : List Literal) → IsNew cs new → Stands cs old → IsProper vars old → AreKnown vars new → code vars old ≡ code vars new → ⊥
new-differs vars cs old new (different, (u, t, n)) (i, at) proper known e =
    quiet-at t cs i (clause old) n.closed.quiet at
    (is-short t old new u cs n proper.different (same-within vars old new proper e)
    (same-within vars new old (record { known = known; different = different }) (sym e) u n.stands))

pub new-not-empty : (vars : ℕ) (cs : List Bounded) (new : List Literal) → IsNew cs new → AreKnown vars new → code vars [] ≡ code vars new → ⊥
new-not-empty vars cs new (different, (u, t, n)) known e =
    let none : has [] u ≡ true = same-within vars new [] (record { known = known; different = different }) (sym e) u n.stands in
    cc

-- the codes, one more
distinct-push : (ns : List ℕ) (n : ℕ) → IsDistinct eqb ns → AllByRecursion (λ m. eqb m n ≡ false) ns → IsDistinct eqb (ns ++ n ∷ [])
unfolding IsDistinct
distinct-push [] n d h = (tt, tt)
distinct-push (m ∷ ns) n d h = (all-push m ns n d.0 h.0, distinct-push ns n d.1 h.1)
  where
    all-push : (m : ℕ) (ns : List ℕ) (n : ℕ) → AllByRecursion (λ k. eqb m k ≡ false) ns → eqb m n ≡ false → AllByRecursion (λ k. eqb m k ≡ false) (ns ++ n ∷ [])
    all-push m [] n h e = (e, tt)
    all-push m (k ∷ ns) n h e = (h.0, all-push m ns n h.1 e)

all-codes : (vars : ℕ) (cs : List Bounded) (live : List (List Literal)) (new : List Literal) → IsNew cs new → AreKnown vars new → AllByRecursion (Stands cs) live → AllByRecursion (IsProper vars) live → AllByRecursion (λ m. eqb m (code vars new) ≡ false) (map (code vars) live)
all-codes vars cs [] new n known stand proper = tt
all-codes vars cs (old ∷ live) new n known stand proper =
    (ne_eqb (code vars old) (code vars new) (λ e. new-differs vars cs old new n stand.0 proper.0 known e), all-codes vars cs live new n known stand.1 proper.1)

map-push : (vars : ℕ) (live : List (List Literal)) (new : List Literal) → map (code vars) (live ++ new ∷ []) ≡ map (code vars) live ++ code vars new ∷ []
map-push vars [] new = refl
map-push vars (x ∷ live) new = ap (λ (ns : List ℕ). code vars x ∷ ns) (map-push vars live new)

proper-push : (vars : ℕ) (live : List (List Literal)) (new : List Literal) → AllByRecursion (IsProper vars) live → IsProper vars new → AllByRecursion (IsProper vars) (live ++ new ∷ [])
proper-push vars [] new h p = (p, tt)
proper-push vars (x ∷ live) new h p = (h.0, proper-push vars live new h.1 p)

-- a new clause beside those that are live
pub apart-push : (vars : ℕ) (cs : List Bounded) (live : List (List Literal)) (new : List Literal) → AreApart vars live → AllByRecursion (Stands cs) live → IsNew cs new → AreKnown vars new → AreApart vars (live ++ new ∷ [])
apart-push vars cs live new h stand n known = record {
  proper = proper-push vars live new h.proper (record { known = known; different = n.0 });
  distinct = subst (λ (ns : List ℕ). IsDistinct eqb (code vars [] ∷ ns)) (sym (map-push vars live new))
      (distinct-push (code vars [] ∷ map (code vars) live) (code vars new) h.distinct
      (ne_eqb (code vars []) (code vars new) (new-not-empty vars cs new n known), all-codes vars cs live new n known stand h.proper));
}

codes-below : (vars : ℕ) (cs : List (List Literal)) (q : ℕ) → list_any (eqb q) (map (code vars) cs) ≡ true → q < 3 ^ vars
codes-below vars [] q h = absurd cc
codes-below vars (c ∷ cs) q h =
    elim (or_cases (eqb q (code vars c)) (list_any (eqb q) (map (code vars) cs)) h) [
      | inl s ↦ subst (λ (n : ℕ). n < 3 ^ vars) (sym (eqb-true q (code vars c) s)) (code-below vars c)
      | inr s ↦ codes-below vars cs q s
    ]

length-codes : (vars : ℕ) (cs : List (List Literal)) → length (map (code vars) cs) ≡ length cs
length-codes vars [] = refl
length-codes vars (c ∷ cs) = ap suc (length-codes vars cs)

-- there are fewer than 3 to the power V of them
pub apart-few : (vars : ℕ) (cs : List (List Literal)) → AreApart vars cs → length cs < 3 ^ vars
apart-few vars cs h =
    let le = length-le_from_distinct_below (map (code vars) ([] ∷ cs)) (3 ^ vars) h.distinct (codes-below vars ([] ∷ cs)) in
    let n = length-codes vars cs in
    omega (arith, le, n)
