-- A number leaves a list, and the last one comes to its place.
use Rattle.std.proofs.Common.{◌≡◌, ℕ, suc, ◌+◌, ◌-◌, ◌<◌, ◌==◌, Bool, true, false, ◌||◌, List, [], ◌∷◌, length, take, drop, set, get_or, refl, sym, ap, ◌∙◌, arith}
use Rattle.std.specs.Prelude.{zero}
use Rattle.std.specs.List.{swap_remove}
use Rattle.std.proofs.lemmas.List.{get_or_default}
use Rattle.kn_logic.specs.Groups.{is_among}

or-turned : (a b : Bool) → (a || b) ≡ (b || a)
or-turned true true = refl
or-turned true false = refl
or-turned false true = refl
or-turned false false = refl

or-three : (a b c : Bool) → (a || (b || c)) ≡ ((a || b) || c)
or-three true b c = refl
or-three false b c = refl

front-last : (v : ℕ) (xs : List ℕ) (n : ℕ) → length xs ≡ suc n → is_among xs v ≡ (is_among (take n xs) v || (get_or xs n 0 == v))
front-last v [] n e = absurd (omega (arith, e))
front-last v (x ∷ []) zero e = or-turned (x == v) false
front-last v (x ∷ y ∷ xs) zero e = absurd (omega (arith, e))
front-last v (x ∷ xs) (suc n) e = ap (λ b. x == v || b) (front-last v xs n (omega (arith, e))) ∙ or-three (x == v) (is_among (take n xs) v) (get_or xs n 0 == v)

behind : (v : ℕ) (xs : List ℕ) (i n l : ℕ) → length xs ≡ suc n → i < length xs → l ≡ get_or xs n 0 → is_among (drop i (take n (set xs i l))) v ≡ is_among (drop (suc i) xs) v
behind v [] i n l e h k = absurd (omega (arith, e))
behind v (x ∷ []) zero zero l e h k = refl
behind v (x ∷ y ∷ xs) zero zero l e h k = absurd (omega (arith, e))
behind v (x ∷ xs) zero (suc n) l e h k =
    ap (λ z. z == v || is_among (take n xs) v) k ∙ or-turned (get_or xs n 0 == v) (is_among (take n xs) v) ∙ sym (front-last v xs n (omega (arith, e)))
behind v (x ∷ xs) (suc i) zero l e h k = absurd (omega (arith, e, h))
behind v (x ∷ xs) (suc i) (suc n) l e h k = behind v xs i n l (omega (arith, e)) (omega (arith, h)) k

among : (v : ℕ) (xs : List ℕ) (i n l : ℕ) → length xs ≡ suc n → i < length xs → l ≡ get_or xs n 0 → is_among xs v ≡ (is_among (take n (set xs i l)) v || (get_or xs i 0 == v))
among v [] i n l e h k = absurd (omega (arith, e))
among v (x ∷ []) zero zero l e h k = or-turned (x == v) false
among v (x ∷ y ∷ xs) zero zero l e h k = absurd (omega (arith, e))
among v (x ∷ xs) zero (suc n) l e h k =
    ap (λ b. x == v || b) (front-last v xs n (omega (arith, e)) ∙ or-turned (is_among (take n xs) v) (get_or xs n 0 == v) ∙ ap (λ z. z == v || is_among (take n xs) v) (sym k))
    ∙ or-turned (x == v) (l == v || is_among (take n xs) v)
among v (x ∷ xs) (suc i) zero l e h k = absurd (omega (arith, e, h))
among v (x ∷ xs) (suc i) (suc n) l e h k =
    ap (λ b. x == v || b) (among v xs i n l (omega (arith, e)) (omega (arith, h)) k) ∙ or-three (x == v) (is_among (take n (set xs i l)) v) (get_or xs i 0 == v)

size : (xs : List ℕ) (i : ℕ) → i < length xs → length xs ≡ suc (length xs - 1)
size xs i h = omega (arith, h)

pub swapped-among : (xs new : List ℕ) (i d : ℕ) → i < length xs → new ≡ swap_remove xs i d → (v : ℕ) → is_among xs v ≡ (is_among new v || (get_or xs i 0 == v))
swapped-among xs new i d h is v =
    among v xs i (length xs - 1) (get_or xs (length xs - 1) d) (size xs i h) h (get_or_default xs (length xs - 1) d 0 (omega (arith, h))) ∙ ap (λ z. is_among z v || (get_or xs i 0 == v)) (sym is)

pub swapped-behind : (xs new : List ℕ) (i d : ℕ) → i < length xs → new ≡ swap_remove xs i d → (v : ℕ) → is_among (drop i new) v ≡ is_among (drop (i + 1) xs) v
swapped-behind xs new i d h is v =
    ap (λ z. is_among (drop i z) v) is
    ∙ behind v xs i (length xs - 1) (get_or xs (length xs - 1) d) (size xs i h) h (get_or_default xs (length xs - 1) d 0 (omega (arith, h)))
    ∙ ap (λ n. is_among (drop n xs) v) (let e : suc i ≡ i + 1 = omega arith in e)
