-- Numbers that stand once: as many are in each list that has them all.
use Rattle.std.proofs.Common.{◌≡◌, ℕ, suc, ◌+◌, ◌≤◌, ◌<◌, ◌==◌, Bool, true, false, not, cond, ◌||◌, List, [], ◌∷◌, length, map, filter, refl, sym, ap, ap₂, ◌∙◌, inl, inr, arith, true≢false}
use Rattle.std.specs.Prelude.{◌⊎◌}
use Rattle.std.specs.List.{AllByRecursion}
use Rattle.std.proofs.lemmas.Bool.{or_left, or_right, or_cases, or_parts, eqb-true, eq-eqb, ne_eqb}
use Rattle.kn_logic.specs.Literals.{Literal, names, AreDifferent}
use Rattle.kn_logic.specs.Groups.{is_among}
use Rattle.kn_store.proofs.Public.{all-two, Rises}
use Rattle.kn_guess.specs.Refusals.{AreApart}
use Rattle.kn_guess.proofs.Joined.{filter-yes, filter-no}

abbrev but : ℕ → List ℕ → List ℕ
but x xs = filter (λ v. not (v == x)) xs

-- without one of its numbers a list is shorter
but-short : (x : ℕ) (xs : List ℕ) → length (but x xs) ≤ length xs
but-short x [] = omega arith
but-short x (y ∷ xs) = at (not (y == x)) (but-short x xs)
  where
    at : (t : Bool) → length (but x xs) ≤ length xs → length (cond t (y ∷ but x xs) (but x xs)) ≤ suc (length xs)
    at true h = omega (arith, h)
    at false h = omega (arith, h)

but-less : (x : ℕ) (xs : List ℕ) → is_among xs x ≡ true → length (but x xs) + 1 ≤ length xs
but-less x [] e = absurd (true≢false (sym e))
but-less x (y ∷ xs) e = at (y == x) refl e (λ h. but-less x xs h)
  where
    at : (t : Bool) → (y == x) ≡ t → (t || is_among xs x) ≡ true → (is_among xs x ≡ true → length (but x xs) + 1 ≤ length xs) → length (but x (y ∷ xs)) + 1 ≤ suc (length xs)
    at true s h more = let low = but-short x xs in let same = ap length (filter-no (λ v. not (v == x)) y xs (ap not s)) in omega (arith, low, same)
    at false s h more = let low = more h in let same = ap length (filter-yes (λ v. not (v == x)) y xs (ap not s)) in omega (arith, low, same)

but-among : (x v : ℕ) (xs : List ℕ) → is_among xs v ≡ true → (v ≡ x → ⊥) → is_among (but x xs) v ≡ true
but-among x v [] e d = absurd (true≢false (sym e))
but-among x v (y ∷ xs) e d = at (y == x) refl (or_cases (y == v) (is_among xs v) e) (λ h. but-among x v xs h d)
  where
    at : (t : Bool) → (y == x) ≡ t → ((y == v) ≡ true) ⊎ (is_among xs v ≡ true) → (is_among xs v ≡ true → is_among (but x xs) v ≡ true) → is_among (cond (not t) (y ∷ but x xs) (but x xs)) v ≡ true
    at true s (inl h) more = absurd (d (sym (eqb-true y v h) ∙ eqb-true y x s))
    at true s (inr h) more = more h
    at false s (inl h) more = or_left (y == v) (is_among (but x xs) v) h
    at false s (inr h) more = or_right (y == v) (is_among (but x xs) v) (more h)

pub apart-few : (xs ys : List ℕ) → AreApart xs → AllByRecursion (λ x. is_among ys x ≡ true) xs → length xs ≤ length ys
apart-few [] ys a h = omega arith
apart-few (x ∷ xs) ys a h =
    let more = apart-few xs (but x ys) a.1 (all-two (λ v. is_among ys v ≡ true) (λ v. v ≡ x → ⊥) (λ v. is_among (but x ys) v ≡ true) (λ v i d. but-among x v ys i d) xs h.1 (others xs a.0)) in
    let less = but-less x ys h.0 in
    omega (arith, more, less)
  where
    others : (zs : List ℕ) → is_among zs x ≡ false → AllByRecursion (λ v. v ≡ x → ⊥) zs
    others [] e = tt
    others (z ∷ zs) e = let q = or_parts (z == x) (is_among zs x) e in ((λ s. true≢false (sym (eq-eqb z x s) ∙ q.0)), others zs q.1)

out-low : (x : ℕ) (ys : List ℕ) → AllByRecursion (λ y. x < y) ys → is_among ys x ≡ false
out-low x [] h = refl
out-low x (y ∷ ys) h = ap₂ (λ a b. a || b) (ne_eqb y x (λ e. absurd (let low = h.0 in omega (arith, e, low)))) (out-low x ys h.1)

pub rising-apart : (xs : List ℕ) → Rises xs → AreApart xs
rising-apart [] h = tt
rising-apart (x ∷ xs) h = (out-low x xs h.0, rising-apart xs h.1)

-- the variables of literals
pub names-among : (lits : List Literal) (v : ℕ) → is_among (map (λ l. l.variable) lits) v ≡ names lits v
names-among [] v = refl
names-among (l ∷ lits) v = ap (λ b. l.variable == v || b) (names-among lits v)

pub variables-apart : (lits : List Literal) → AreDifferent lits → AreApart (map (λ l. l.variable) lits)
variables-apart [] d = tt
variables-apart (l ∷ lits) d = (names-among lits l.variable ∙ d.0, variables-apart lits d.1)
