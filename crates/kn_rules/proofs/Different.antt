-- Looking for a variable at two places: the literals so far, and those that are left.
use Rattle.std.proofs.Common.{◌≡◌, ℕ, suc, ◌+◌, ◌<◌, ◌==◌, ◌++◌, ◌&&◌, ◌||◌, Bool, true, false, not, List, [], ◌∷◌, length, drop, get_or, refl, sym, ap, ◌∙◌, subst, drop-cons, add-one, arith}
use Rattle.std.specs.List.{list_all}
use Rattle.std.proofs.lemmas.List.Folds.{list_any-append}
use Rattle.kn_logic.specs.Literals.{Literal, names}
use Rattle.kn_rules.specs.Steps.{are_different}

-- no literal has the variable of one of these
abbrev pub are_apart : List Literal → List Literal → Bool
are_apart seen lits = list_all (λ l. not (names seen l.variable)) lits

-- no variable is there twice, in the list or with those so far
abbrev pub goes_on_different : List Literal → List Literal → Bool
goes_on_different seen lits = are_apart seen lits && are_different lits

names-push : (seen : List Literal) (l : Literal) (v : ℕ) → names (seen ++ l ∷ []) v ≡ (names seen v || (l.variable == v))
names-push seen l v = list_any-append (λ x. x.variable == v) seen (l ∷ []) ∙ ap (λ b. names seen v || b) (or-false (l.variable == v))
  where
    or-false : (b : Bool) → (b || false) ≡ b
    or-false true = refl
    or-false false = refl

shuffled : (s n a m : Bool) → (not (s || n) && (a && not m)) ≡ ((not s && a) && not (n || m))
shuffled true n a m = refl
shuffled false true true m = refl
shuffled false true false m = refl
shuffled false false true m = refl
shuffled false false false m = refl

turned : (a b : ℕ) → (a == b) ≡ (b == a)
turned a b = grind arith

apart-push : (seen : List Literal) (x : Literal) (lits : List Literal) → are_apart (seen ++ x ∷ []) lits ≡ (are_apart seen lits && not (names lits x.variable))
apart-push seen x [] = refl
apart-push seen x (l ∷ lits) =
    ap (λ t. not t && are_apart (seen ++ x ∷ []) lits) (names-push seen x l.variable)
    ∙ ap (λ b. not (names seen l.variable || (x.variable == l.variable)) && b) (apart-push seen x lits)
    ∙ shuffled (names seen l.variable) (x.variable == l.variable) (are_apart seen lits) (names lits x.variable)
    ∙ ap (λ t. (not (names seen l.variable) && are_apart seen lits) && not (t || names lits x.variable)) (turned x.variable l.variable)

-- one literal more, of a new variable
different-more : (seen : List Literal) (l : Literal) (lits : List Literal) → names seen l.variable ≡ false → goes_on_different (seen ++ l ∷ []) lits ≡ goes_on_different seen (l ∷ lits)
different-more seen l lits e =
    ap (λ b. b && are_different lits) (apart-push seen l lits)
    ∙ regrouped (names seen l.variable) (are_apart seen lits) (names lits l.variable) (are_different lits) e
  where
    regrouped : (s a n d : Bool) → s ≡ false → ((a && not n) && d) ≡ ((not s && a) && (not n && d))
    regrouped true a n d e = absurd cc
    regrouped false true n d e = refl
    regrouped false false n d e = refl

apart-none : (lits : List Literal) → are_apart [] lits ≡ true
apart-none [] = refl
apart-none (l ∷ lits) = apart-none lits

pub different-init : (seen lits : List Literal) → seen ≡ [] → goes_on_different seen lits ≡ are_different lits
different-init seen lits e = ap (λ (s : List Literal). goes_on_different s lits) e ∙ ap (λ b. b && are_different lits) (apart-none lits)

split-at : (lits : List Literal) (k : ℕ) (l : Literal) → l ≡ get_or lits k l → k < length lits → drop k lits ≡ l ∷ drop (k + 1) lits
split-at lits k l at within = rw (add-one k) (subst (λ (x : Literal). drop k lits ≡ x ∷ drop (suc k) lits) (sym at) (drop-cons lits k l within))

-- one turn of the loop, which goes on behind a variable that is new
pub different-step : (seen new lits : List Literal) (k : ℕ) (l : Literal) (named whole : Bool) → l ≡ get_or lits k l → k < length lits → named ≡ names seen l.variable → named ≡ false → new ≡ seen ++ l ∷ [] → goes_on_different seen (drop k lits) ≡ whole → goes_on_different new (drop (k + 1) lits) ≡ whole
different-step seen new lits k l named whole at within is fresh list rest =
    ap (λ (s : List Literal). goes_on_different s (drop (k + 1) lits)) list ∙ different-more seen l (drop (k + 1) lits) (sym is ∙ fresh)
    ∙ ap (goes_on_different seen) (sym (split-at lits k l at within)) ∙ rest

-- and stops at one that is there
pub different-stop : (seen lits : List Literal) (k : ℕ) (l : Literal) (named whole : Bool) → l ≡ get_or lits k l → k < length lits → named ≡ names seen l.variable → named ≡ true → goes_on_different seen (drop k lits) ≡ whole → false ≡ whole
different-stop seen lits k l named whole at within is there rest =
    ap (λ t. (not t && are_apart seen (drop (k + 1) lits)) && are_different (l ∷ drop (k + 1) lits)) (sym there ∙ is)
    ∙ ap (goes_on_different seen) (sym (split-at lits k l at within)) ∙ rest
