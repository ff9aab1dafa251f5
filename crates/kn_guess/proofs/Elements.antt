-- Elements of lists: one that passes a test, and membership of numbers.
use Rattle.std.proofs.Common.{◌≡◌, ℕ, ◌==◌, Bool, true, false, cond, ◌&&◌, ◌||◌, List, [], ◌∷◌, ◌++◌, map, filter, refl, sym, ap, ap₂, subst, ◌∙◌, inl, inr, true≢false}
use Rattle.std.specs.Prelude.{◌⊎◌, nat_eq}
use Rattle.std.specs.List.{list_any, AllByRecursion}
use Rattle.std.proofs.lemmas.Bool.{or_left, or_right, or_cases, eqb-true, eq-eqb}
use Rattle.kn_logic.specs.Groups.{is_among}
use Rattle.kn_store.proofs.Public.{all-one}

pub bool-same : (a b : Bool) → (a ≡ true → b ≡ true) → (b ≡ true → a ≡ true) → a ≡ b
bool-same true b f g = sym (f refl)
bool-same false true f g = g refl
bool-same false false f g = refl

-- one that passes has what all have
pub any-with : {X : Type 0} (P : X → Type 0) (f : X → Bool) (xs : List X) → AllByRecursion P xs → list_any f xs ≡ true → (x : X) × (f x ≡ true) × P x
any-with P f [] h e = absurd (true≢false (sym e))
any-with {X} P f (x ∷ xs) h e = at (or_cases (f x) (list_any f xs) e) (λ s. any-with P f xs h.1 s)
  where
    at : (f x ≡ true) ⊎ (list_any f xs ≡ true) → (list_any f xs ≡ true → (y : X) × (f y ≡ true) × P y) → (y : X) × (f y ≡ true) × P y
    at (inl s) more = (x, s, h.0)
    at (inr s) more = more s

-- where one passes, some does
pub each-any : {X : Type 0} (xs : List X) → AllByRecursion (λ x. (f : X → Bool) → f x ≡ true → list_any f xs ≡ true) xs
each-any [] = tt
each-any {X} (x ∷ xs) = (
  (λ f e. or_left (f x) (list_any f xs) e),
  all-one (λ y. (f : X → Bool) → f y ≡ true → list_any f xs ≡ true) (λ y. (f : X → Bool) → f y ≡ true → list_any f (x ∷ xs) ≡ true)
      (λ y h f e. or_right (f x) (list_any f xs) (h f e)) xs (each-any xs),
)

pub any-map : {X Y : Type 0} (h : X → Y) (f : Y → Bool) (xs : List X) → list_any f (map h xs) ≡ list_any (λ x. f (h x)) xs
any-map h f [] = refl
any-map h f (x ∷ xs) = ap (λ b. f (h x) || b) (any-map h f xs)

pub any-alike : {X : Type 0} (f g : X → Bool) → ((x : X) → f x ≡ g x) → (xs : List X) → list_any f xs ≡ list_any g xs
any-alike f g h [] = refl
any-alike f g h (x ∷ xs) = ap₂ (λ a b. a || b) (h x) (any-alike f g h xs)

and-true : (b : Bool) → (b && true) ≡ b
and-true true = refl
and-true false = refl

and-false : (b : Bool) → (b && false) ≡ false
and-false true = refl
and-false false = refl

pub any-filter : {X : Type 0} (f g : X → Bool) (xs : List X) → list_any f (filter g xs) ≡ list_any (λ x. f x && g x) xs
any-filter f g [] = refl
any-filter f g (x ∷ xs) = at (g x) (any-filter f g xs)
  where
    at : (t : Bool) → list_any f (filter g xs) ≡ list_any (λ x. f x && g x) xs → list_any f (cond t (x ∷ filter g xs) (filter g xs)) ≡ ((f x && t) || list_any (λ x. f x && g x) xs)
    at true e = ap₂ (λ a b. a || b) (sym (and-true (f x))) e
    at false e = e ∙ ap (λ a. a || list_any (λ x. f x && g x) xs) (sym (and-false (f x)))

-- what all have that pass
pub all-unfilter : {X : Type 0} (P : X → Type 0) (test : X → Bool) (xs : List X) → AllByRecursion P (filter test xs) → AllByRecursion (λ x. test x ≡ true → P x) xs
all-unfilter P test [] h = tt
all-unfilter {X} P test (x ∷ xs) h = at (test x) refl h (λ k. all-unfilter P test xs k)
  where
    at : (t : Bool) → test x ≡ t → AllByRecursion P (cond t (x ∷ filter test xs) (filter test xs)) → (AllByRecursion P (filter test xs) → AllByRecursion (λ x. test x ≡ true → P x) xs) → AllByRecursion (λ x. test x ≡ true → P x) (x ∷ xs)
    at true e h more = ((λ s. h.0), more h.1)
    at false e h more = ((λ s. absurd (true≢false (sym s ∙ e))), more h)

-- numbers in a list
pub all-among : (P : ℕ → Type 0) (xs : List ℕ) (v : ℕ) → AllByRecursion P xs → is_among xs v ≡ true → P v
all-among P xs v h e = let q = any-with P (λ x. x == v) xs h e in subst P (eqb-true q.0 v q.1) q.2

pub own-among : (xs : List ℕ) → AllByRecursion (λ x. is_among xs x ≡ true) xs
own-among xs = all-one (λ x. (f : ℕ → Bool) → f x ≡ true → list_any f xs ≡ true) (λ x. is_among xs x ≡ true) (λ x h. h (λ v. v == x) (eq-eqb x x refl)) xs (each-any xs)

pub among-front : (xs ys : List ℕ) (x : ℕ) → is_among xs x ≡ true → is_among (xs ++ ys) x ≡ true
among-front [] ys x e = absurd (true≢false (sym e))
among-front (y ∷ xs) ys x e = at (or_cases (y == x) (is_among xs x) e) (λ h. among-front xs ys x h)
  where
    at : ((y == x) ≡ true) ⊎ (is_among xs x ≡ true) → (is_among xs x ≡ true → is_among (xs ++ ys) x ≡ true) → is_among (y ∷ (xs ++ ys)) x ≡ true
    at (inl h) more = or_left (y == x) (is_among (xs ++ ys) x) h
    at (inr h) more = or_right (y == x) (is_among (xs ++ ys) x) (more h)

pub among-append : (xs ys : List ℕ) (x : ℕ) → is_among (xs ++ ys) x ≡ (is_among xs x || is_among ys x)
among-append [] ys x = refl
among-append (y ∷ xs) ys x = ap (λ b. y == x || b) (among-append xs ys x) ∙ or_turn (y == x) (is_among xs x) (is_among ys x)
  where
    or_turn : (a b c : Bool) → (a || (b || c)) ≡ ((a || b) || c)
    or_turn true b c = refl
    or_turn false b c = refl

pub among-last : (xs : List ℕ) (v : ℕ) → is_among (xs ++ v ∷ []) v ≡ true
among-last [] v = or_left (v == v) false (eq-eqb v v refl)
among-last (x ∷ xs) v = or_right (x == v) (is_among (xs ++ v ∷ []) v) (among-last xs v)

pub among-end : (xs : List ℕ) (v x : ℕ) → is_among (xs ++ v ∷ []) x ≡ true → (is_among xs x ≡ true) ⊎ (x ≡ v)
among-end xs v x e = at (or_cases (is_among xs x) (is_among (v ∷ []) x) (sym (among-append xs (v ∷ []) x) ∙ e))
  where
    last : ((v == x) ≡ true) ⊎ (false ≡ true) → x ≡ v
    last (inl h) = sym (eqb-true v x h)
    last (inr h) = absurd (true≢false (sym h))

    at : (is_among xs x ≡ true) ⊎ (is_among (v ∷ []) x ≡ true) → (is_among xs x ≡ true) ⊎ (x ≡ v)
    at (inl h) = inl h
    at (inr h) = inr (last (or_cases (v == x) false h))

-- the two tests of membership are one
pub any-among : (v : ℕ) (xs : List ℕ) → list_any (nat_eq v) xs ≡ is_among xs v
any-among v xs = any-alike (nat_eq v) (λ x. x == v) (λ x. turn v x) xs
  where
    turn : (a b : ℕ) → (a == b) ≡ (b == a)
    turn a b = bool-same (a == b) (b == a) (λ e. eq-eqb b a (sym (eqb-true a b e))) (λ e. eq-eqb a b (sym (eqb-true b a e)))
