-- A seed is refused for one reason alone, and what is refused has no guess.
use Rattle.std.proofs.Common.{◌≡◌, ℕ, ◌≤◌, ◌<◌, ◌==◌, Bool, true, false, not, ◌&&◌, ◌||◌, List, length, map, filter, refl, sym, ap, ap₂, subst, ◌∙◌, inl, inr, arith, true≢false}
use Rattle.std.proofs.lemmas.Bool.{or_left, or_right, or_cases, and_parts, eqb-true, cases_lt}
use Rattle.std.proofs.lemmas.List.{length-map}
use Rattle.kn_logic.proofs.Public.{has-names}
use Rattle.kn_logic.specs.Literals.{Literal, has, names, AreDifferent}
use Rattle.kn_logic.specs.Constraints.{Bounded, named}
use Rattle.kn_logic.specs.Groups.{Gathered, is_among}
use Rattle.kn_store.specs.Stores.{Stored, constraints_of}
use Rattle.kn_store.proofs.Public.{all-one, rises}
use Rattle.kn_guess.specs.declared.error.NoGuess.{NoGuess}
use Rattle.kn_guess.specs.declared.error.NoGuess.TheVariants.{NotSeed, TooMany, SmallBorder, TooWideBorder, TwoSided, Memory}
use Rattle.kn_guess.specs.Guesses.{is_seed, IsLeastFrom, touches, stands, is_border, IsBorder, IsSeedGuess}
use Rattle.kn_guess.specs.Refusals.{IsTooMany, at_border, is_two_sided, AreBorderVariables, IsSmall, IsTooWide, IsTwoSided, IsBorderRefused, IsLeastRefused, IsRefused}
use Rattle.kn_guess.proofs.Elements.{bool-same, any-with, any-alike, own-among}
use Rattle.kn_guess.proofs.Rising.{numbers-one}
use Rattle.kn_guess.proofs.Taken.{taken-same}
use Rattle.kn_guess.proofs.Bordered.{the-literal}
use Rattle.kn_guess.proofs.Joined.{filter-same, all-of, own-literal}
use Rattle.kn_guess.proofs.Clique.{rises-different, one-literal}
use Rattle.kn_guess.proofs.Apart.{apart-few, names-among}

named-literal : (lits : List Literal) (x : ℕ) → names lits x ≡ true → (l : Literal) × (l.variable ≡ x) × (has lits l ≡ true)
named-literal lits x e = let q = any-with (λ l. has lits l ≡ true) (λ l. l.variable == x) lits (own-literal lits) e in (q.0, eqb-true q.0.variable x q.1, q.2)

-- the variables of the border are those of both lists
same-variables : (taken : List Bounded) (set : List ℕ) (xs ys : List ℕ) → AreBorderVariables taken set xs → AreBorderVariables taken set ys → xs ≡ ys
same-variables taken set xs ys a b = numbers-one xs ys (rises xs a.0) (rises ys b.0) (λ x. a.1 x ∙ sym (b.1 x))

wide-many : (taken : List Bounded) (set : List ℕ) (xs : List ℕ) → IsTooWide taken set → AreBorderVariables taken set xs → 128 < length xs
wide-many taken set xs w b =
    let few = apart-few w.0 xs w.2 (all-one (λ x. at_border taken set x ≡ true) (λ x. is_among xs x ≡ true) (λ x e. b.1 x ∙ e) w.0 w.3) in
    let many = w.1 in
    omega (arith, few, many)

-- a border as the guess has it: its variables
border-has : (taken : List Bounded) (set : List ℕ) (border : List Literal) → IsBorder taken set border → (x : ℕ) → names border x ≡ at_border taken set x
border-has taken set border b x = bool-same (names border x) (at_border taken set x) forth back
  where
    side : (t : Bool) → is_border taken set (the-literal x t) ≡ true → names border x ≡ true
    side t e = has-names border (the-literal x t) (b.1 (the-literal x t) ∙ e)

    back : at_border taken set x ≡ true → names border x ≡ true
    back e = elim (or_cases (is_border taken set (the-literal x true)) (is_border taken set (the-literal x false)) e) [ inl s ↦ side true s | inr s ↦ side false s ]

    forth : names border x ≡ true → at_border taken set x ≡ true
    forth e = let q = named-literal border x e in at q.0 q.1 q.2 q.0.positive refl
      where
        at : (l : Literal) → l.variable ≡ x → has border l ≡ true → (t : Bool) → l.positive ≡ t → at_border taken set x ≡ true
        at l v h true p = or_left (is_border taken set (the-literal x true)) (is_border taken set (the-literal x false)) (ap (is_border taken set) (ap₂ the-literal (sym v) (sym p)) ∙ sym (b.1 l) ∙ h)
        at l v h false p = or_right (is_border taken set (the-literal x true)) (is_border taken set (the-literal x false)) (ap (is_border taken set) (ap₂ the-literal (sym v) (sym p)) ∙ sym (b.1 l) ∙ h)

border-variables-of : (taken : List Bounded) (set : List ℕ) (border : List Literal) → IsBorder taken set border → AreBorderVariables taken set (map (λ l. l.variable) border)
border-variables-of taken set border b = (b.0, λ x. names-among border x ∙ border-has taken set border b x)

-- a fair border: its variables are 3 to 128, and none is on both sides
pub record IsFair (taken : List Bounded) (set : List ℕ) : Type 0 where
  pub variables : List ℕ
  pub are : AreBorderVariables taken set variables
  pub low : 3 ≤ length variables
  pub high : length variables ≤ 128
  pub one : (x : ℕ) → is_two_sided taken set x ≡ false

fair-border : (taken : List Bounded) (set : List ℕ) (border : List Literal) → IsBorder taken set border → 3 ≤ length border → length border ≤ 128 → IsFair taken set
fair-border taken set border b low high = record {
  variables = map (λ l. l.variable) border;
  are = border-variables-of taken set border b;
  low = let n = length-map border (λ l. l.variable) in omega (arith, n, low);
  high = let n = length-map border (λ l. l.variable) in omega (arith, n, high);
  one = λ x. at x (is_two_sided taken set x) refl;
}
  where
    different : AreDifferent border
    different = rises-different border (rises (map (λ l. l.variable) border) b.0)

    at : (x : ℕ) (t : Bool) → is_two_sided taken set x ≡ t → is_two_sided taken set x ≡ false
    at x false e = e
    at x true e =
        let both = and_parts (is_border taken set (the-literal x true)) (is_border taken set (the-literal x false)) e in
        absurd (true≢false (ap (λ z. z.positive) (one-literal border (the-literal x true) (the-literal x false) different (b.1 (the-literal x true) ∙ both.0) (b.1 (the-literal x false) ∙ both.1) refl)))

small-wide : (taken : List Bounded) (set : List ℕ) → IsSmall taken set → IsTooWide taken set → ⊥
small-wide taken set a b = let many = wide-many taken set a.0 b a.1 in let few = a.2 in omega (arith, many, few)

small-sided : (taken : List Bounded) (set : List ℕ) (x : ℕ) → IsSmall taken set → IsTwoSided taken set x → ⊥
small-sided taken set x a b = let same = ap length (same-variables taken set a.0 b.0 a.1 b.1) in let few = a.2 in let low = b.2 in omega (arith, same, few, low)

small-fair : (taken : List Bounded) (set : List ℕ) → IsSmall taken set → IsFair taken set → ⊥
small-fair taken set a b = let same = ap length (same-variables taken set a.0 b.variables a.1 b.are) in let few = a.2 in let low = b.low in omega (arith, same, few, low)

wide-sided : (taken : List Bounded) (set : List ℕ) (x : ℕ) → IsTooWide taken set → IsTwoSided taken set x → ⊥
wide-sided taken set x a b = let many = wide-many taken set b.0 a b.1 in let high = b.3 in omega (arith, many, high)

wide-fair : (taken : List Bounded) (set : List ℕ) → IsTooWide taken set → IsFair taken set → ⊥
wide-fair taken set a b = let many = wide-many taken set b.variables a b.are in let high = b.high in omega (arith, many, high)

sided-one : (taken : List Bounded) (set : List ℕ) (x y : ℕ) → IsTwoSided taken set x → IsTwoSided taken set y → x ≡ y
sided-one taken set x y a b = elim (cases_lt x y) [
  | inl low ↦ absurd (true≢false (sym a.4 ∙ b.5 x low))
  | inr high ↦ elim (cases_lt y x) [ inl low ↦ absurd (true≢false (sym b.4 ∙ a.5 y low)) | inr low ↦ omega (arith, high, low) ]
]

sided-fair : (taken : List Bounded) (set : List ℕ) (x : ℕ) → IsTwoSided taken set x → IsFair taken set → ⊥
sided-fair taken set x a b = true≢false (sym a.4 ∙ b.one x)

border-one : (taken : List Bounded) (set : List ℕ) (a b : NoGuess) → IsBorderRefused taken set a → IsBorderRefused taken set b → (a ≡ Memory → ⊥) → (b ≡ Memory → ⊥) → a ≡ b
border-one taken set NotSeed b h k m n = absurd h
border-one taken set TooMany b h k m n = absurd h
border-one taken set Memory b h k m n = absurd (m refl)
border-one taken set SmallBorder NotSeed h k m n = absurd k
border-one taken set SmallBorder TooMany h k m n = absurd k
border-one taken set SmallBorder SmallBorder h k m n = refl
border-one taken set SmallBorder TooWideBorder h k m n = absurd (small-wide taken set h k)
border-one taken set SmallBorder (TwoSided x) h k m n = absurd (small-sided taken set x h k)
border-one taken set SmallBorder Memory h k m n = absurd (n refl)
border-one taken set TooWideBorder NotSeed h k m n = absurd k
border-one taken set TooWideBorder TooMany h k m n = absurd k
border-one taken set TooWideBorder SmallBorder h k m n = absurd (small-wide taken set k h)
border-one taken set TooWideBorder TooWideBorder h k m n = refl
border-one taken set TooWideBorder (TwoSided x) h k m n = absurd (wide-sided taken set x h k)
border-one taken set TooWideBorder Memory h k m n = absurd (n refl)
border-one taken set (TwoSided x) NotSeed h k m n = absurd k
border-one taken set (TwoSided x) TooMany h k m n = absurd k
border-one taken set (TwoSided x) SmallBorder h k m n = absurd (small-sided taken set x k h)
border-one taken set (TwoSided x) TooWideBorder h k m n = absurd (wide-sided taken set x k h)
border-one taken set (TwoSided x) (TwoSided y) h k m n = ap (λ z. TwoSided z) (sided-one taken set x y h k)
border-one taken set (TwoSided x) Memory h k m n = absurd (n refl)

border-fair : (taken : List Bounded) (set : List ℕ) (a : NoGuess) → IsBorderRefused taken set a → (a ≡ Memory → ⊥) → IsFair taken set → ⊥
border-fair taken set NotSeed h m f = absurd h
border-fair taken set TooMany h m f = absurd h
border-fair taken set SmallBorder h m f = small-fair taken set h f
border-fair taken set TooWideBorder h m f = wide-fair taken set h f
border-fair taken set (TwoSided x) h m f = sided-fair taken set x h f
border-fair taken set Memory h m f = m refl

-- two sets with the same members have the same border
pub sets-same : (cs : List Bounded) (seed : ℕ) (xs ys : List ℕ) → IsLeastFrom cs seed xs → IsLeastFrom cs seed ys → (x : ℕ) → is_among xs x ≡ is_among ys x
sets-same cs seed xs ys a b x = bool-same (is_among xs x) (is_among ys x) (a.1 ys b.0 x) (b.1 xs a.0 x)

touches-same : (xs ys : List ℕ) → ((x : ℕ) → is_among xs x ≡ is_among ys x) → (c : Bounded) → touches xs c ≡ touches ys c
touches-same xs ys same c = any-alike (λ l. is_among xs l.variable) (λ l. is_among ys l.variable) (λ l. same l.variable) (named c)

taken-both : (cs : List Bounded) (xs ys : List ℕ) → ((x : ℕ) → is_among xs x ≡ is_among ys x) → filter (touches xs) cs ≡ filter (touches ys) cs
taken-both cs xs ys same = filter-same (touches xs) (touches ys) cs (all-of (λ c. touches xs c ≡ touches ys c) (touches-same xs ys same) cs)

border-both : (taken : List Bounded) (xs ys : List ℕ) → ((x : ℕ) → is_among xs x ≡ is_among ys x) → (l : Literal) → is_border taken xs l ≡ is_border taken ys l
border-both taken xs ys same l = ap (λ b. stands taken l && not b) (same l.variable)

at-both : (taken : List Bounded) (xs ys : List ℕ) → ((x : ℕ) → is_among xs x ≡ is_among ys x) → (x : ℕ) → at_border taken xs x ≡ at_border taken ys x
at-both taken xs ys same x = ap₂ (λ a b. a || b) (border-both taken xs ys same (the-literal x true)) (border-both taken xs ys same (the-literal x false))

sided-both : (taken : List Bounded) (xs ys : List ℕ) → ((x : ℕ) → is_among xs x ≡ is_among ys x) → (x : ℕ) → is_two_sided taken xs x ≡ is_two_sided taken ys x
sided-both taken xs ys same x = ap₂ (λ a b. a && b) (border-both taken xs ys same (the-literal x true)) (border-both taken xs ys same (the-literal x false))

variables-both : (taken : List Bounded) (xs ys vs : List ℕ) → ((x : ℕ) → is_among xs x ≡ is_among ys x) → AreBorderVariables taken xs vs → AreBorderVariables taken ys vs
variables-both taken xs ys vs same h = (h.0, λ x. h.1 x ∙ at-both taken xs ys same x)

refused-both : (taken : List Bounded) (xs ys : List ℕ) (why : NoGuess) → ((x : ℕ) → is_among xs x ≡ is_among ys x) → IsBorderRefused taken xs why → IsBorderRefused taken ys why
refused-both taken xs ys NotSeed same h = h
refused-both taken xs ys TooMany same h = h
refused-both taken xs ys SmallBorder same h = (h.0, variables-both taken xs ys h.0 same h.1, h.2)
refused-both taken xs ys TooWideBorder same h = (h.0, h.1, h.2, all-one (λ x. at_border taken xs x ≡ true) (λ x. at_border taken ys x ≡ true) (λ x e. sym (at-both taken xs ys same x) ∙ e) h.0 h.3)
refused-both taken xs ys (TwoSided v) same h = (h.0, variables-both taken xs ys h.0 same h.1, h.2, h.3, sym (sided-both taken xs ys same v) ∙ h.4, λ y low. sym (sided-both taken xs ys same y) ∙ h.5 y low)
refused-both taken xs ys Memory same h = tt

moved : (cs : List Bounded) (seed : ℕ) (xs ys : List ℕ) (why : NoGuess) → IsLeastFrom cs seed xs → IsLeastFrom cs seed ys → IsBorderRefused (filter (touches xs) cs) xs why → IsBorderRefused (filter (touches ys) cs) ys why
moved cs seed xs ys why a b h =
    let same = sets-same cs seed xs ys a b in
    refused-both (filter (touches ys) cs) xs ys why same (subst (λ z. IsBorderRefused z xs why) (taken-both cs xs ys same) h)

-- a set that is too large is not the least one
many-least : (cs : List Bounded) (seed : ℕ) (set : List ℕ) → IsTooMany cs seed → IsLeastFrom cs seed set → length set ≤ 256 → ⊥
many-least cs seed set m least few =
    let more = apart-few m.0 set m.2 (all-one (λ x. is_among m.0 x ≡ true) (λ x. is_among set x ≡ true) (λ x i. m.3 set least.0 x i) m.0 (own-among m.0)) in
    let many = m.1 in
    omega (arith, more, many, few)

least-one : (cs : List Bounded) (seed : ℕ) (a b : NoGuess) → IsLeastRefused cs seed a → IsLeastRefused cs seed b → (a ≡ Memory → ⊥) → (b ≡ Memory → ⊥) → a ≡ b
least-one cs seed a b h k m n = border-one (filter (touches k.1.0) cs) k.1.0 a b (moved cs seed h.1.0 k.1.0 a h.1.1 k.1.1 h.1.3) k.1.3 m n

no-seed : (cs : List Bounded) (seed : ℕ) → is_seed cs seed ≡ false → is_seed cs seed ≡ true → ⊥
no-seed cs seed e f = true≢false (sym f ∙ e)

many-refused : (cs : List Bounded) (seed : ℕ) (a : NoGuess) → IsTooMany cs seed → IsLeastRefused cs seed a → ⊥
many-refused cs seed a m h = many-least cs seed h.1.0 m h.1.1 h.1.2

from-least : (cs : List Bounded) (seed : ℕ) (a b : NoGuess) → IsLeastRefused cs seed a → IsRefused cs seed b → (a ≡ Memory → ⊥) → (b ≡ Memory → ⊥) → a ≡ b
from-least cs seed a NotSeed h k m n = absurd (no-seed cs seed k h.0)
from-least cs seed a TooMany h k m n = absurd (many-refused cs seed a k.1 h)
from-least cs seed a SmallBorder h k m n = least-one cs seed a SmallBorder h k m n
from-least cs seed a TooWideBorder h k m n = least-one cs seed a TooWideBorder h k m n
from-least cs seed a (TwoSided x) h k m n = least-one cs seed a (TwoSided x) h k m n
from-least cs seed a Memory h k m n = absurd (n refl)

pub refusals-one : (cs : List Bounded) (seed : ℕ) (a b : NoGuess) → IsRefused cs seed a → IsRefused cs seed b → (a ≡ Memory → ⊥) → (b ≡ Memory → ⊥) → a ≡ b
refusals-one cs seed Memory b h k m n = absurd (m refl)
refusals-one cs seed NotSeed NotSeed h k m n = refl
refusals-one cs seed NotSeed TooMany h k m n = absurd (no-seed cs seed h k.0)
refusals-one cs seed NotSeed SmallBorder h k m n = absurd (no-seed cs seed h k.0)
refusals-one cs seed NotSeed TooWideBorder h k m n = absurd (no-seed cs seed h k.0)
refusals-one cs seed NotSeed (TwoSided x) h k m n = absurd (no-seed cs seed h k.0)
refusals-one cs seed NotSeed Memory h k m n = absurd (n refl)
refusals-one cs seed TooMany NotSeed h k m n = absurd (no-seed cs seed k h.0)
refusals-one cs seed TooMany TooMany h k m n = refl
refusals-one cs seed TooMany SmallBorder h k m n = absurd (many-refused cs seed SmallBorder h.1 k)
refusals-one cs seed TooMany TooWideBorder h k m n = absurd (many-refused cs seed TooWideBorder h.1 k)
refusals-one cs seed TooMany (TwoSided x) h k m n = absurd (many-refused cs seed (TwoSided x) h.1 k)
refusals-one cs seed TooMany Memory h k m n = absurd (n refl)
refusals-one cs seed SmallBorder b h k m n = from-least cs seed SmallBorder b h k m n
refusals-one cs seed TooWideBorder b h k m n = from-least cs seed TooWideBorder b h k m n
refusals-one cs seed (TwoSided x) b h k m n = from-least cs seed (TwoSided x) b h k m n

-- and a seed with a guess is not refused
pub no-guess : (s : Stored) (seed : ℕ) (why : NoGuess) (g : Gathered) (ids : List ℕ) → IsRefused (constraints_of s.live) seed why → (why ≡ Memory → ⊥) → IsSeedGuess s seed g ids → ⊥
no-guess s seed why g ids h m guess = at why h m
  where
    cs : List Bounded
    cs = constraints_of s.live

    fair : IsFair (filter (touches g.aux) cs) g.aux
    fair = fair-border (filter (touches g.aux) cs) g.aux g.border (subst (λ z. IsBorder z g.aux g.border) (guess.taken ∙ taken-same (touches g.aux) s.live) guess.border) guess.low guess.high

    from : (a : NoGuess) → IsLeastRefused cs seed a → (a ≡ Memory → ⊥) → ⊥
    from a k n = border-fair (filter (touches g.aux) cs) g.aux a (moved cs seed k.1.0 g.aux a k.1.1 guess.least k.1.3) n fair

    at : (a : NoGuess) → IsRefused cs seed a → (a ≡ Memory → ⊥) → ⊥
    at NotSeed k n = no-seed cs seed k guess.starts
    at TooMany k n = many-least cs seed g.aux k.1 guess.least guess.few
    at SmallBorder k n = from SmallBorder k n
    at TooWideBorder k n = from TooWideBorder k n
    at (TwoSided x) k n = from (TwoSided x) k n
    at Memory k n = n refl
