-- Lists of numbers that rise: two with the same members are one, and what sorting leaves.
use Rattle.std.proofs.Common.{◌≡◌, ℕ, suc, ◌<◌, ◌==◌, Bool, true, false, ◌||◌, eqb, List, [], ◌∷◌, filter, refl, sym, ap, ap₂, subst, ◌∙◌, inl, inr, arith, true≢false, cond}
use Rattle.std.specs.Prelude.{◌⊎◌, zero, Contains}
use Rattle.std.specs.List.{AllByRecursion}
use Rattle.std.specs.List.{dedup}
use Rattle.std.specs.List.Sorted.{IsPermutation}
use Rattle.std.proofs.lemmas.Bool.{or_left, or_cases, eqb-true, eq-eqb}
use Rattle.std.proofs.lemmas.List.Sorted.{Contains-permutation, IsPermutation-sym}
use Rattle.std.proofs.lemmas.List.Kept.{Contains-dedup_nat, Contains-from_dedup}
use Rattle.std.proofs.lemmas.List.Elements.{All-from_recursion}
use Rattle.kn_logic.specs.Groups.{is_among}
use Rattle.kn_store.specs.Stores.{Numbered, ids_of}
use Rattle.kn_store.proofs.Public.{to-map, from-map, all-filter, Rises}
use Rattle.kn_guess.proofs.Elements.{bool-same, own-among}

low-out : (x : ℕ) (ys : List ℕ) → AllByRecursion (λ y. x < y) ys → is_among ys x ≡ false
low-out x [] h = refl
low-out x (y ∷ ys) h = at (y == x) refl (low-out x ys h.1)
  where
    at : (t : Bool) → (y == x) ≡ t → is_among ys x ≡ false → (y == x || is_among ys x) ≡ false
    at true e more = absurd (let same = eqb-true y x e in omega (arith, same, h.0))
    at false e more = ap₂ (λ a b. a || b) e more

member-low : (k x : ℕ) (ys : List ℕ) → AllByRecursion (λ y. k < y) ys → is_among ys x ≡ true → k < x
member-low k x [] h e = absurd (true≢false (sym e))
member-low k x (y ∷ ys) h e = at (or_cases (y == x) (is_among ys x) e) (λ i. member-low k x ys h.1 i)
  where
    at : ((y == x) ≡ true) ⊎ (is_among ys x ≡ true) → (is_among ys x ≡ true → k < x) → k < x
    at (inl i) more = subst (λ z. k < z) (eqb-true y x i) h.0
    at (inr i) more = more i

heads-one : (x y : ℕ) (xs ys : List ℕ) → AllByRecursion (λ z. x < z) xs → AllByRecursion (λ z. y < z) ys → is_among (y ∷ ys) x ≡ true → is_among (x ∷ xs) y ≡ true → x ≡ y
heads-one x y xs ys a b i j = at (or_cases (y == x) (is_among ys x) i) (or_cases (x == y) (is_among xs y) j)
  where
    at : ((y == x) ≡ true) ⊎ (is_among ys x ≡ true) → ((x == y) ≡ true) ⊎ (is_among xs y ≡ true) → x ≡ y
    at (inl e) q = sym (eqb-true y x e)
    at (inr e) (inl f) = eqb-true x y f
    at (inr e) (inr f) = absurd (let low = member-low y x ys b e in let high = member-low x y xs a f in omega (arith, low, high))

tails-one : (x z : ℕ) (xs ys : List ℕ) → AllByRecursion (λ k. x < k) xs → AllByRecursion (λ k. x < k) ys → (x == z || is_among xs z) ≡ (x == z || is_among ys z) → is_among xs z ≡ is_among ys z
tails-one x z xs ys a b h = at (x == z) refl h
  where
    at : (t : Bool) → (x == z) ≡ t → (t || is_among xs z) ≡ (t || is_among ys z) → is_among xs z ≡ is_among ys z
    at true e h =
        let f = eqb-true x z e in
        low-out z xs (subst (λ w. AllByRecursion (λ k. w < k) xs) f a) ∙ sym (low-out z ys (subst (λ w. AllByRecursion (λ k. w < k) ys) f b))
    at false e h = h

pub numbers-one : (xs ys : List ℕ) → Rises xs → Rises ys → ((z : ℕ) → is_among xs z ≡ is_among ys z) → xs ≡ ys
numbers-one [] [] a b h = refl
numbers-one [] (y ∷ ys) a b h = absurd (true≢false (sym (or_left (y == y) (is_among ys y) (eq-eqb y y refl)) ∙ sym (h y)))
numbers-one (x ∷ xs) [] a b h = absurd (true≢false (sym (or_left (x == x) (is_among xs x) (eq-eqb x x refl)) ∙ h x))
numbers-one (x ∷ xs) (y ∷ ys) a b h =
    let e = heads-one x y xs ys a.0 b.0 (sym (h x) ∙ or_left (x == x) (is_among xs x) (eq-eqb x x refl)) (h y ∙ or_left (y == y) (is_among ys y) (eq-eqb y y refl)) in
    let below = subst (λ w. AllByRecursion (λ k. w < k) ys) (sym e) b.0 in
    ap₂ (λ u v. u ∷ v) e (numbers-one xs ys a.1 b.1 (λ z. tails-one x z xs ys a.0 below (h z ∙ ap (λ w. w == z || is_among ys z) (sym e))))

-- ids that rise, chosen
pub rises-ids : (test : Numbered → Bool) (ps : List Numbered) → Rises (ids_of ps) → Rises (ids_of (filter test ps))
rises-ids test [] h = tt
rises-ids test (p ∷ ps) h = at (test p) (rises-ids test ps h.1)
  where
    at : (t : Bool) → Rises (ids_of (filter test ps)) → Rises (ids_of (cond t (p ∷ filter test ps) (filter test ps)))
    at true more = (to-map (λ q. q.id) (λ y. p.id < y) (filter test ps) (all-filter (λ q. p.id < q.id) test ps (from-map (λ q. q.id) (λ y. p.id < y) ps h.0)), more)
    at false more = more

-- membership by place
contains-among : (xs : List ℕ) (x : ℕ) → is_among xs x ≡ true → Contains xs x
contains-among [] x e = absurd (true≢false (sym e))
contains-among (y ∷ xs) x e = at (or_cases (y == x) (is_among xs x) e) (λ h. contains-among xs x h)
  where
    at : ((y == x) ≡ true) ⊎ (is_among xs x ≡ true) → (is_among xs x ≡ true → Contains xs x) → Contains (y ∷ xs) x
    at (inl h) more = (zero, omega arith, eqb-true y x h)
    at (inr h) more = let q = more h in (suc q.0, omega (arith, q.1), q.2)

among-contains : (xs : List ℕ) (x : ℕ) → Contains xs x → is_among xs x ≡ true
among-contains xs x q = subst (λ v. is_among xs v ≡ true) q.2 (All-from_recursion (λ v. is_among xs v ≡ true) xs (own-among xs) q.0 x q.1)

pub sorted-same : (xs ys : List ℕ) → IsPermutation xs ys → (x : ℕ) → is_among (dedup eqb ys) x ≡ is_among xs x
sorted-same xs ys moved x = bool-same (is_among (dedup eqb ys) x) (is_among xs x)
    (λ e. among-contains xs x (Contains-permutation ys xs x (IsPermutation-sym xs ys moved) (Contains-from_dedup eqb ys x (contains-among (dedup eqb ys) x e))))
    (λ e. among-contains (dedup eqb ys) x (Contains-dedup_nat ys x (Contains-permutation xs ys x moved (contains-among xs x e))))
