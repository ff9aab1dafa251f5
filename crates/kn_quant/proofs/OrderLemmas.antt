-- The order of the diagrams' variables: they differ, and each variable of a group is among them.
use Rattle.std.proofs.Common.{ℕ, ◌≡◌, ◌+◌, ◌<◌, ◌==◌, ◌⊎◌, inl, inr, true, false, not, ◌||◌, if◌then◌else◌, List, [], ◌∷◌, ◌++◌, length, map, nat_eq, sym, ◌∙◌, arith, true≢false}
use Rattle.std.specs.List.{AllByRecursion, IsDistinct}
use Rattle.std.specs.List.Sorted.{IsStrictlyIncreasing}
use Rattle.std.proofs.lemmas.Bool.{eqb-true, eq-eqb, ne_eqb, cond-true, cond-false, and_parts, or_cases, or_left, or_right, cases_Bool, false_from_ne_true}
use Rattle.std.proofs.lemmas.List.Kept.{AllPairs-from_increasing}
use Rattle.std.proofs.lemmas.List.Folds.{list_any-append}
use Rattle.std.proofs.lemmas.List.Sorted.{IsPermutation-reverse, list_any-IsPermutation}
use Rattle.std.proofs.lemmas.Map.Keys.{IsDistinct-IsPermutation, IsDistinct-from_apart}
use Rattle.kn_logic.specs.Literals.{Literal, has, is_same}
use Rattle.kn_logic.specs.Constraints.{Bounded}
use Rattle.kn_logic.specs.Groups.{Gathered, IsGroup, IsCovered, is_among}
use Rattle.kn_diagram.specs.Diagrams.{depth_in}
use Rattle.kn_quant.specs.Runs.{order_of}
use Rattle.kn_quant.specs.Eliminations.{AreInOrder}

increasing-distinct : (xs : List ℕ) → IsStrictlyIncreasing xs → IsDistinct nat_eq xs
increasing-distinct xs h =
    IsDistinct-from_apart nat_eq xs (λ i j d l k. ne_eqb _ _ (λ e. let less = AllPairs-from_increasing xs h i j d l k in omega arith))

distinct-append : (xs ys : List ℕ) → IsDistinct nat_eq xs → IsDistinct nat_eq ys → AllByRecursion (λ x. is_among ys x ≡ false) xs → IsDistinct nat_eq (xs ++ ys)
unfolding IsDistinct
distinct-append [] ys h k apart = k
distinct-append (x ∷ xs) ys h k apart = (both xs h.0, distinct-append xs ys h.1 k apart.1)
  where
    others : (zs : List ℕ) → is_among zs x ≡ false → AllByRecursion (λ y. nat_eq x y ≡ false) zs
    others [] e = tt
    others (z ∷ zs) e = (
      ne_eqb x z (λ s. true≢false (sym (or_left (z == x) (is_among zs x) (eq-eqb z x (sym s))) ∙ e)),
      others zs (false_from_ne_true (is_among zs x) (λ t. true≢false (sym (or_right (z == x) (is_among zs x) t) ∙ e))),
    )

    both : (zs : List ℕ) → AllByRecursion (λ y. nat_eq x y ≡ false) zs → AllByRecursion (λ y. nat_eq x y ≡ false) (zs ++ ys)
    both [] a = others ys apart.0
    both (z ∷ zs) a = (a.0, both zs a.1)

flips : (x y : ℕ) → nat_eq x y ≡ nat_eq y x
flips x y = by (cases_Bool (nat_eq x y)) (cases_Bool (nat_eq y x))
  where
    by : ((nat_eq x y ≡ true) ⊎ (nat_eq x y ≡ false)) → ((nat_eq y x ≡ true) ⊎ (nat_eq y x ≡ false)) → nat_eq x y ≡ nat_eq y x
    by (inl a) b = a ∙ sym (eq-eqb y x (sym (eqb-true x y a)))
    by (inr a) (inl b) = absurd (true≢false (sym (eq-eqb x y (sym (eqb-true y x b))) ∙ a))
    by (inr a) (inr b) = a ∙ sym b

pub order-distinct : (g : Gathered) → IsGroup g → IsDistinct nat_eq (order_of g)
order-distinct g h =
    IsDistinct-IsPermutation nat_eq flips (map (λ l. l.variable) g.border ++ g.aux) (order_of g) (IsPermutation-reverse (map (λ l. l.variable) g.border ++ g.aux))
    (distinct-append (map (λ l. l.variable) g.border) g.aux (increasing-distinct (map (λ l. l.variable) g.border) h.border) (increasing-distinct g.aux h.aux) (apart g.border h.apart))
  where
    apart : (ls : List Literal) → AllByRecursion (λ l. is_among g.aux l.variable ≡ false) ls → AllByRecursion (λ x. is_among g.aux x ≡ false) (map (λ l. l.variable) ls)
    apart [] a = tt
    apart (l ∷ ls) a = (a.0, apart ls a.1)

-- a variable that is among a list has a place there
among-within : (order : List ℕ) (x : ℕ) → is_among order x ≡ true → depth_in order x < length order
among-within [] x e = absurd (true≢false (sym e))
among-within (y ∷ ys) x e = by (cases_Bool (x == y)) (among-within ys x)
  where
    by : (((x == y) ≡ true) ⊎ ((x == y) ≡ false)) → (is_among ys x ≡ true → depth_in ys x < length ys) → (if x == y then 0 else 1 + depth_in ys x) < length (y ∷ ys)
    by (inl t) rest = let s = cond-true (x == y) 0 (1 + depth_in ys x) t in omega (arith, s)
    by (inr t) rest = which (or_cases (y == x) (is_among ys x) e)
      where
        which : ((y == x) ≡ true) ⊎ (is_among ys x ≡ true) → (if x == y then 0 else 1 + depth_in ys x) < length (y ∷ ys)
        which (inl s) = absurd (true≢false (sym (eq-eqb x y (sym (eqb-true y x s))) ∙ t))
        which (inr s) = let c = cond-false (x == y) 0 (1 + depth_in ys x) t in omega (arith, c, rest s)

order-within : (g : Gathered) (x : ℕ) → (is_among (map (λ l. l.variable) g.border) x || is_among g.aux x) ≡ true → depth_in (order_of g) x < length (order_of g)
order-within g x e =
    among-within (order_of g) x
    (sym (list_any-IsPermutation (λ v. v == x) (map (λ l. l.variable) g.border ++ g.aux) (order_of g) (IsPermutation-reverse (map (λ l. l.variable) g.border ++ g.aux)))
    ∙ list_any-append (λ v. v == x) (map (λ l. l.variable) g.border) g.aux ∙ e)

-- the variable of a literal of the border is one of the border's
pub has-variable : (ls : List Literal) (l : Literal) → has ls l ≡ true → is_among (map (λ k. k.variable) ls) l.variable ≡ true
has-variable [] l e = absurd (true≢false (sym e))
has-variable (k ∷ ls) l e = by (or_cases (is_same l k) (has ls l) e) (has-variable ls l)
  where
    by : (is_same l k ≡ true) ⊎ (has ls l ≡ true) → (has ls l ≡ true → is_among (map (λ x. x.variable) ls) l.variable ≡ true) → is_among (map (λ x. x.variable) (k ∷ ls)) l.variable ≡ true
    by (inl s) rest = or_left (k.variable == l.variable) (is_among (map (λ x. x.variable) ls) l.variable)
        (eq-eqb k.variable l.variable (sym (eqb-true l.variable k.variable (and_parts (l.variable == k.variable) (if l.positive then k.positive else not k.positive) s).0)))
    by (inr s) rest = or_right (k.variable == l.variable) (is_among (map (λ x. x.variable) ls) l.variable) (rest s)

covered-within : (g : Gathered) (ls : List Literal) → AllByRecursion (IsCovered g) ls → AllByRecursion (λ l. depth_in (order_of g) l.variable < length (order_of g)) ls
covered-within g [] h = tt
covered-within g (l ∷ ls) h = (order-within g l.variable (by (or_cases (is_among g.aux l.variable) (has g.border l) h.0)), covered-within g ls h.1)
  where
    by : (is_among g.aux l.variable ≡ true) ⊎ (has g.border l ≡ true) → (is_among (map (λ k. k.variable) g.border) l.variable || is_among g.aux l.variable) ≡ true
    by (inl s) = or_right (is_among (map (λ k. k.variable) g.border) l.variable) (is_among g.aux l.variable) s
    by (inr s) = or_left (is_among (map (λ k. k.variable) g.border) l.variable) (is_among g.aux l.variable) (has-variable g.border l s)

pub all-in-order : (g : Gathered) (cs : List Bounded) → AllByRecursion (λ c. AllByRecursion (IsCovered g) c.lits) cs → AllByRecursion (AreInOrder (order_of g)) cs
all-in-order g [] h = tt
all-in-order g (c ∷ cs) h = (covered-within g c.lits h.0, all-in-order g cs h.1)
