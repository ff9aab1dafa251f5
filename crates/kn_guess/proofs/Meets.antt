-- Two rows that rise are met: a place is found by its rank, and what stands there tells whether a literal is in.
use Rattle.std.proofs.Common.{◌≡◌, ℕ, suc, ◌+◌, ◌≤◌, ◌<◌, Bool, true, false, ◌&&◌, ◌||◌, List, [], ◌∷◌, ◌++◌, length, filter, take, drop, get_or, Option, Some, None, refl, sym, ap, ap₂, subst, ◌∙◌, arith, append_assoc}
use Rattle.std.specs.Prelude.{zero, slice_get, IfSome}
use Rattle.std.specs.List.{AllByRecursion}
use Rattle.std.specs.List.Sorted.{IsStrictlyIncreasing}
use Rattle.std.proofs.lemmas.List.{drop_more}
use Rattle.std.proofs.lemmas.Option.{slice_get-get_or}
use Rattle.kn_logic.specs.Literals.{Literal, is_same}
use Rattle.kn_logic.proofs.Public.{same_literal}
use Rattle.kn_store.specs.Stores.{Numbered}
use Rattle.kn_store.proofs.Public.{all-one, from-map, Rises, rises}
use Rattle.kn_guess.specs.Tables.{Paired, rank, ranks, is_left}
use Rattle.kn_guess.specs.Pairing.{is_common, IsMet}
use Rattle.kn_guess.proofs.Joined.{is_there, filter-yes, filter-no}

-- what a place tells
abbrev pub is_at : List Numbered → Option Paired → Literal → Bool
is_at live None l = false
is_at live (Some y) l = is_same y.lit l && is_left live y

apart-ranks : (live : List Numbered) (y : Paired) (l : Literal) → (rank y.lit ≡ rank l → ⊥) → (is_same y.lit l && is_left live y) ≡ false
apart-ranks live y l differ = at (is_same y.lit l) refl
  where
    at : (t : Bool) → is_same y.lit l ≡ t → (t && is_left live y) ≡ false
    at true e = absurd (differ (ap rank (same_literal y.lit l e)))
    at false e = refl

none-high : (live : List Numbered) (l : Literal) (r : ℕ) (ys : List Paired) → rank l ≤ r → AllByRecursion (λ y. r < rank y.lit) ys → is_there live ys l ≡ false
none-high live l r [] low h = refl
none-high live l r (y ∷ ys) low h = ap₂ (λ a b. a || b) (apart-ranks live y l (λ e. let high = h.0 in omega (arith, e, low, high))) (none-high live l r ys low h.1)

or-none : (a b : Bool) → b ≡ false → (a || b) ≡ a
or-none true b e = refl
or-none false b e = e

met-at : (live : List Numbered) (ys : List Paired) (l : Literal) (at : ℕ) → Rises (ranks ys) → AllByRecursion (λ y. rank y.lit < rank l) (take at ys) → IfSome (slice_get ys at) (λ y. rank l ≤ rank y.lit) → is_there live ys l ≡ is_at live (slice_get ys at) l
met-at live [] l at up before here = refl
met-at live (y ∷ ys) l zero up before here = or-none (is_same y.lit l && is_left live y) (is_there live ys l) (none-high live l (rank y.lit) ys here (from-map (λ q. rank q.lit) (λ r. rank y.lit < r) ys up.0))
met-at live (y ∷ ys) l (suc at) up before here =
    ap (λ b. b || is_there live ys l) (apart-ranks live y l (λ e. let low = before.0 in omega (arith, e, low))) ∙ met-at live ys l at up.1 before.1 here

and-turned : (a b c : Bool) → ((a && b) && c) ≡ (c && (a && b))
and-turned true true true = refl
and-turned true true false = refl
and-turned true false true = refl
and-turned true false false = refl
and-turned false b true = refl
and-turned false b false = refl

pub met-is : (live : List Numbered) (ys : List Paired) (x : Paired) (at : ℕ) → IsStrictlyIncreasing (ranks ys) → IsMet ys x.lit at → is_common live ys x ≡ (is_left live x && is_at live (slice_get ys at) x.lit)
met-is live ys x at up met = ap (λ b. is_left live x && b) (met-at live ys x.lit at (rises (ranks ys) up) met.before met.here)

pub met-some : (live : List Numbered) (ys : List Paired) (x y : Paired) (at : ℕ) → IsStrictlyIncreasing (ranks ys) → IsMet ys x.lit at → slice_get ys at ≡ Some y → ((is_same y.lit x.lit && is_left live y) && is_left live x) ≡ is_common live ys x
met-some live ys x y at up met e =
    and-turned (is_same y.lit x.lit) (is_left live y) (is_left live x) ∙ sym (met-is live ys x at up met ∙ ap (λ o. is_left live x && is_at live o x.lit) e)

pub met-none : (live : List Numbered) (ys : List Paired) (x : Paired) (at : ℕ) → IsStrictlyIncreasing (ranks ys) → IsMet ys x.lit at → slice_get ys at ≡ None → false ≡ is_common live ys x
met-none live ys x at up met e = sym (met-is live ys x at up met ∙ ap (λ o. is_left live x && is_at live o x.lit) e ∙ no-more (is_left live x))
  where
    no-more : (b : Bool) → (b && false) ≡ false
    no-more true = refl
    no-more false = refl

-- places by rank
high-at : (r k : ℕ) (d : Paired) (ys : List Paired) → AllByRecursion (λ n. r < n) (ranks ys) → k < length ys → r < rank (get_or ys k d).lit
high-at r k d [] h i = absurd (omega (arith, i))
high-at r zero d (y ∷ ys) h i = h.0
high-at r (suc k) d (y ∷ ys) h i = high-at r k d ys h.1 (omega (arith, i))

all-below : (ys : List Paired) (r k : ℕ) (d : Paired) → Rises (ranks ys) → k < length ys → rank (get_or ys k d).lit < r → AllByRecursion (λ y. rank y.lit < r) (take (suc k) ys)
all-below [] r k d up i low = absurd (omega (arith, i))
all-below (y ∷ ys) r zero d up i low = (low, tt)
all-below (y ∷ ys) r (suc k) d up i low =
    let high = high-at (rank y.lit) k d ys up.0 (omega (arith, i)) in
    (omega (arith, high, low), all-below ys r k d up.1 (omega (arith, i)) low)

pub below-at : (ys : List Paired) (l : Literal) (k n : ℕ) (d : Paired) → IsStrictlyIncreasing (ranks ys) → k < length ys → d ≡ get_or ys k d → rank d.lit < rank l → n ≡ k + 1 → AllByRecursion (λ y. rank y.lit < rank l) (take n ys)
below-at ys l k n d up i is low e = subst (λ m. AllByRecursion (λ y. rank y.lit < rank l) (take m ys)) (let s : suc k ≡ n = omega (arith, e) in s)
    (all-below ys (rank l) k d (rises (ranks ys) up) i (subst (λ q. rank q.lit < rank l) is low))

here-place : (ys : List Paired) (r k : ℕ) (d : Paired) → k < length ys → r ≤ rank (get_or ys k d).lit → IfSome (slice_get ys k) (λ y. r ≤ rank y.lit)
here-place [] r k d i h = tt
here-place (y ∷ ys) r zero d i h = h
here-place (y ∷ ys) r (suc k) d i h = here-place ys r k d (omega (arith, i)) h

pub here-at : (ys : List Paired) (l : Literal) (k n : ℕ) (d : Paired) → k < length ys → d ≡ get_or ys k d → rank l ≤ rank d.lit → n ≡ k → IfSome (slice_get ys n) (λ y. rank l ≤ rank y.lit)
here-at ys l k n d i is low e = subst (λ m. IfSome (slice_get ys m) (λ y. rank l ≤ rank y.lit)) (sym e) (here-place ys (rank l) k d i (subst (λ q. rank l ≤ rank q.lit) is low))

end-place : (P : Paired → Type 0) (ys : List Paired) → IfSome (slice_get ys (length ys)) P
end-place P [] = tt
end-place P (y ∷ ys) = end-place P ys

pub here-end : (ys : List Paired) (l : Literal) (n : ℕ) → n ≡ length ys → IfSome (slice_get ys n) (λ y. rank l ≤ rank y.lit)
here-end ys l n e = subst (λ m. IfSome (slice_get ys m) (λ y. rank l ≤ rank y.lit)) (sym e) (end-place (λ y. rank l ≤ rank y.lit) ys)

-- one after another is met
abbrev pub AreBefore : List Paired → List Paired → Type 0
AreBefore ys xs = AllByRecursion (λ y. AllByRecursion (λ x. rank y.lit < rank x.lit) xs) ys

rises-drop : (k : ℕ) (xs : List Paired) → Rises (ranks xs) → Rises (ranks (drop k xs))
rises-drop zero xs up = up
rises-drop (suc k) [] up = tt
rises-drop (suc k) (x ∷ xs) up = rises-drop k xs up.1

pub before-first : (ys xs more : List Paired) (x : Paired) → xs ≡ x ∷ more → AreBefore ys xs → AllByRecursion (λ y. rank y.lit < rank x.lit) ys
before-first ys xs more x e h = all-one (λ y. AllByRecursion (λ x. rank y.lit < rank x.lit) xs) (λ y. rank y.lit < rank x.lit)
    (λ y k. (subst (AllByRecursion (λ x. rank y.lit < rank x.lit)) e k).0) ys h

pub before-rest : (ys xs more : List Paired) (k : ℕ) (x : Paired) → Rises (ranks xs) → drop k xs ≡ x ∷ more → AllByRecursion (λ y. rank y.lit < rank x.lit) ys → AreBefore ys more
before-rest ys xs more k x up e h =
    let later = from-map (λ q. rank q.lit) (λ n. rank x.lit < n) more (subst (λ z. Rises (ranks z)) e (rises-drop k xs up)).0 in
    all-one (λ y. rank y.lit < rank x.lit) (λ y. AllByRecursion (λ x. rank y.lit < rank x.lit) more)
    (λ y low. all-one (λ z. rank x.lit < rank z.lit) (λ z. rank y.lit < rank z.lit) (λ z high. omega (arith, low, high)) more later) ys h

pub none-before : (ys xs : List Paired) → AreBefore (take 0 ys) xs
none-before ys xs = tt

pub kept-yes : (live : List Numbered) (ys kept new xs more all : List Paired) (x : Paired) → is_common live ys x ≡ true → xs ≡ x ∷ more → new ≡ kept ++ x ∷ [] → kept ++ filter (is_common live ys) xs ≡ all
    → new ++ filter (is_common live ys) more ≡ all
kept-yes live ys kept new xs more all x met cut is h =
    ap (λ z. z ++ filter (is_common live ys) more) is ∙ append_assoc kept (x ∷ []) (filter (is_common live ys) more)
    ∙ ap (λ z. kept ++ z) (sym (filter-yes (is_common live ys) x more met) ∙ ap (filter (is_common live ys)) (sym cut)) ∙ h

pub kept-no : (live : List Numbered) (ys kept xs more all : List Paired) (x : Paired) → is_common live ys x ≡ false → xs ≡ x ∷ more → kept ++ filter (is_common live ys) xs ≡ all → kept ++ filter (is_common live ys) more ≡ all
kept-no live ys kept xs more all x met cut h = ap (λ z. kept ++ z) (sym (filter-no (is_common live ys) x more met) ∙ ap (filter (is_common live ys)) (sym cut)) ∙ h

pub place-none : (ys : List Paired) (k : ℕ) → length ys ≤ k → slice_get ys k ≡ None
place-none [] k h = refl
place-none (y ∷ ys) zero h = absurd (omega (arith, h))
place-none (y ∷ ys) (suc k) h = place-none ys k (omega (arith, h))

pub place-some : (ys : List Paired) (k : ℕ) (y : Paired) → k < length ys → y ≡ get_or ys k y → slice_get ys k ≡ Some y
place-some ys k y h e = slice_get-get_or ys k y h ∙ ap (λ z. Some z) (sym e)

-- another literal stands there
pub met-other : (live : List Numbered) (ys : List Paired) (x y : Paired) (at : ℕ) → IsStrictlyIncreasing (ranks ys) → IsMet ys x.lit at → slice_get ys at ≡ Some y → is_same y.lit x.lit ≡ false → false ≡ is_common live ys x
met-other live ys x y at up place e other = sym (ap (λ t. (t && is_left live y) && is_left live x) other) ∙ met-some live ys x y at up place e

-- it does
pub met-same : (live : List Numbered) (ys : List Paired) (x y : Paired) (at : ℕ) → IsStrictlyIncreasing (ranks ys) → IsMet ys x.lit at → slice_get ys at ≡ Some y → is_same y.lit x.lit ≡ true → (is_left live y && is_left live x) ≡ is_common live ys x
met-same live ys x y at up place e same = sym (ap (λ t. (t && is_left live y) && is_left live x) same) ∙ met-some live ys x y at up place e

-- the next element of the list
pub item-cut : (xs : List Paired) (k : ℕ) (x : Paired) → k < length xs → x ≡ get_or xs k x → drop k xs ≡ x ∷ drop (k + 1) xs
item-cut xs k x h e = drop_more xs k x h ∙ ap (λ z. z ∷ drop (k + 1) xs) (sym e)

pub met-gone : (live : List Numbered) (ys : List Paired) (x y : Paired) (at : ℕ) → IsStrictlyIncreasing (ranks ys) → IsMet ys x.lit at → slice_get ys at ≡ Some y → is_left live y ≡ false → false ≡ is_common live ys x
met-gone live ys x y at up place e gone = sym (ap (λ t. (is_same y.lit x.lit && t) && is_left live x) gone ∙ off (is_same y.lit x.lit)) ∙ met-some live ys x y at up place e
  where
    off : (a : Bool) → ((a && false) && is_left live x) ≡ false
    off true = refl
    off false = refl
