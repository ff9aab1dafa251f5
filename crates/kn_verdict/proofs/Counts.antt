-- How many literals of a list are true, and how one variable changes it.
use Rattle.std.proofs.Common.{◌≡◌, ℕ, suc, ◌+◌, ◌≤◌, ◌==◌, ◌⊎◌, ◌||◌, inl, inr, Bool, true, false, not, if◌then◌else◌, cond, List, [], ◌∷◌, length, map, filter, refl, sym, ap, ◌∙◌, subst, arith}
use Rattle.std.proofs.lemmas.Bool.{cases_Bool, cond-true, cond-false, eqb-true, eq-eqb, or_cases, false_from_ne_true, or_parts, or_left, or_right, true≢false}
use Rattle.kn_logic.specs.Literals.{Literal, negated, is_same, has, names, places, AreDifferent}
use Rattle.kn_logic.proofs.Public.{same_literal, same-refl, has-names}
use Rattle.kn_diagram.specs.Diagrams.{with_value, is_true_by}
use Rattle.kn_verdict.specs.Numbers.{adds, asked, asked_literal}

abbrev pub count : (ℕ → Bool) → List Literal → ℕ
count v lits = places (is_true_by v) lits

one : (b : Bool) → cond b 1 0 ≤ 1
one true = omega arith
one false = omega arith

pub count_le : (v : ℕ → Bool) (lits : List Literal) → count v lits ≤ length lits
count_le v [] = omega arith
count_le v (l ∷ lits) = omega (arith, one (is_true_by v l), count_le v lits)

pub own-value : (v : ℕ → Bool) (x : ℕ) (b : Bool) → with_value v x b x ≡ b
own-value v x b = cond-true (x == x) b (v x) (eq-eqb x x refl)

pub other-value : (v : ℕ → Bool) (x y : ℕ) (b : Bool) → (y == x) ≡ false → with_value v x b y ≡ v y
other-value v x y b e = cond-false (y == x) b (v y) e

-- the literals of other variables
abbrev pub others : ℕ → List Literal → List Literal
others x lits = filter (λ l. not (l.variable == x)) lits

others_none : (x : ℕ) (lits : List Literal) → names lits x ≡ false → others x lits ≡ lits
others_none x [] h = refl
others_none x (l ∷ lits) h =
    let parts = or_parts (l.variable == x) (names lits x) h in
    cond-true (not (l.variable == x)) (l ∷ others x lits) (others x lits) (ap not parts.0) ∙ ap (λ ls. l ∷ ls) (others_none x lits parts.1)

-- a literal of the list has its variable named there
swap : (a b c : ℕ) → a + (b + c) ≡ b + (a + c)
swap a b c = omega arith

-- the literal, and the others
pub count-split : (v : ℕ → Bool) (lits : List Literal) (l : Literal) → AreDifferent lits → has lits l ≡ true
    → count v lits ≡ adds l (v l.variable) + count v (others l.variable lits)
count-split v [] l d h = absurd (true≢false (sym h))
count-split v (k ∷ lits) l d h = by (or_cases (is_same l k) (has lits l) h) (count-split v lits l d.1)
  where
    by : ((is_same l k ≡ true) ⊎ (has lits l ≡ true)) → (has lits l ≡ true → count v lits ≡ adds l (v l.variable) + count v (others l.variable lits))
        → count v (k ∷ lits) ≡ adds l (v l.variable) + count v (others l.variable (k ∷ lits))
    by (inl s) rest =
        let e : k ≡ l = sym (same_literal l k s) in
        let dropped : others l.variable (k ∷ lits) ≡ lits =
        cond-false (not (k.variable == l.variable)) (k ∷ others l.variable lits) (others l.variable lits) (ap not (eq-eqb k.variable l.variable (ap (λ x. x.variable) e)))
        ∙ others_none l.variable lits (subst (λ x. names lits x.variable ≡ false) e d.0) in
        ap (λ x. adds x (v x.variable) + count v lits) e ∙ ap (λ ls. adds l (v l.variable) + count v ls) (sym dropped)
    by (inr s) rest =
        let apart : (k.variable == l.variable) ≡ false =
        false_from_ne_true (k.variable == l.variable) (λ t. true≢false (sym (has-names lits l s) ∙ ap (names lits) (sym (eqb-true k.variable l.variable t)) ∙ d.0)) in
        let kept : others l.variable (k ∷ lits) ≡ k ∷ others l.variable lits =
        cond-true (not (k.variable == l.variable)) (k ∷ others l.variable lits) (others l.variable lits) (ap not apart) in
        let own = cond {A = ℕ} (is_true_by v k) 1 0 in
        ap (λ n. own + n) (rest s) ∙ swap own (adds l (v l.variable)) (count v (others l.variable lits)) ∙ ap (λ ls. adds l (v l.variable) + count v ls) (sym kept)

-- one variable changes nothing of the others
pub others-stay : (v : ℕ → Bool) (x : ℕ) (b : Bool) (lits : List Literal) → count (with_value v x b) (others x lits) ≡ count v (others x lits)
others-stay v x b [] = refl
others-stay v x b (l ∷ lits) = by (cases_Bool (l.variable == x)) (others-stay v x b lits)
  where
    by : (((l.variable == x) ≡ true) ⊎ ((l.variable == x) ≡ false)) → count (with_value v x b) (others x lits) ≡ count v (others x lits)
        → count (with_value v x b) (others x (l ∷ lits)) ≡ count v (others x (l ∷ lits))
    by (inl t) rest =
        let e = cond-false (not (l.variable == x)) (l ∷ others x lits) (others x lits) (ap not t) in
        ap (count (with_value v x b)) e ∙ rest ∙ ap (count v) (sym e)
    by (inr f) rest =
        let e = cond-true (not (l.variable == x)) (l ∷ others x lits) (others x lits) (ap not f) in
        let own : is_true_by (with_value v x b) l ≡ is_true_by v l = ap (λ c. if l.positive then c else not c) (other-value v x l.variable b f) in
        ap (count (with_value v x b)) e
        ∙ ap (λ c. (if c then 1 else 0) + count (with_value v x b) (others x lits)) own
        ∙ ap (λ n. (if is_true_by v l then 1 else 0) + n) rest ∙ ap (count v) (sym e)

pub count-set : (v : ℕ → Bool) (lits : List Literal) (l : Literal) (b : Bool) → AreDifferent lits → has lits l ≡ true
    → count (with_value v l.variable b) lits ≡ adds l b + count v (others l.variable lits)
count-set v lits l b d h =
    count-split (with_value v l.variable b) lits l d h
    ∙ ap (λ c. adds l c + count (with_value v l.variable b) (others l.variable lits)) (own-value v l.variable b)
    ∙ ap (λ n. adds l b + n) (others-stay v l.variable b lits)

pub adds-not : (l : Literal) → adds l (not l.positive) ≡ 0
adds-not l = by l.positive
  where
    by : (p : Bool) → cond {A = ℕ} (if p then not p else not (not p)) 1 0 ≡ 0
    by true = refl
    by false = refl

pub adds-either : (l : Literal) → adds l true + adds l false ≡ 1
adds-either l = by l.positive
  where
    by : (p : Bool) → cond {A = ℕ} (if p then true else false) 1 0 + cond {A = ℕ} (if p then false else true) 1 0 ≡ 1
    by true = omega arith
    by false = omega arith

pub adds-le : (l : Literal) (b : Bool) → adds l b ≤ 1
adds-le l b = one (if l.positive then b else not b)

-- ---- negations

pub different-negated : (lits : List Literal) → AreDifferent lits → AreDifferent (map negated lits)
different-negated [] d = tt
different-negated (l ∷ lits) d = (names_negated lits l.variable ∙ d.0, different-negated lits d.1)
  where
    names_negated : (ls : List Literal) (x : ℕ) → names (map negated ls) x ≡ names ls x
    names_negated [] x = refl
    names_negated (k ∷ ls) x = ap (λ b. (k.variable == x) || b) (names_negated ls x)

pub has-negated : (lits : List Literal) (l : Literal) → has lits l ≡ true → has (map negated lits) (negated l) ≡ true
has-negated [] l h = h
has-negated (k ∷ lits) l h = by (or_cases (is_same l k) (has lits l) h) (has-negated lits l)
  where
    by : ((is_same l k ≡ true) ⊎ (has lits l ≡ true)) → (has lits l ≡ true → has (map negated lits) (negated l) ≡ true) → has (map negated (k ∷ lits)) (negated l) ≡ true
    by (inl s) rest = or_left (is_same (negated l) (negated k)) (has (map negated lits) (negated l))
        (subst (λ x. is_same (negated l) (negated x) ≡ true) (same_literal l k s) (same-refl (negated l)))
    by (inr s) rest = or_right (is_same (negated l) (negated k)) (has (map negated lits) (negated l)) (rest s)

pub length-negated : (lits : List Literal) → length (map negated lits) ≡ length lits
length-negated [] = refl
length-negated (l ∷ lits) = ap suc (length-negated lits)

-- what is not true is false
pub both-counts : (v : ℕ → Bool) (lits : List Literal) → count v lits + count v (map negated lits) ≡ length lits
both-counts v [] = omega arith
both-counts v (l ∷ lits) = omega (arith, both-counts v lits, each l.positive (v l.variable))
  where
    each : (p b : Bool) → (if (if p then b else not b) then 1 else 0) + (if (if not p then b else not b) then 1 else 0) ≡ 1
    each true true = omega arith
    each true false = omega arith
    each false true = omega arith
    each false false = omega arith

pub different-asked : (want : Bool) (lits : List Literal) → AreDifferent lits → AreDifferent (asked want lits)
different-asked true lits d = d
different-asked false lits d = different-negated lits d

pub has-asked : (want : Bool) (lits : List Literal) (l : Literal) → has lits l ≡ true → has (asked want lits) (asked_literal want l) ≡ true
has-asked true lits l h = h
has-asked false lits l h = has-negated lits l h

pub length-asked : (want : Bool) (lits : List Literal) → length (asked want lits) ≡ length lits
length-asked true lits = refl
length-asked false lits = length-negated lits
