-- Values of variables that make chosen literals of a list true.
use Rattle.std.proofs.Common.{◌≡◌, ℕ, zero, suc, ◌+◌, ◌-◌, ◌≤◌, ◌<◌, ◌==◌, ◌++◌, Bool, true, false, not, if◌then◌else◌, cond, List, [], ◌∷◌, length, map, replicate, slice_get, slice_set, get_or, inl, inr, ◌⊎◌, nat_lt, Some, refl, sym, ap, ◌∙◌, arith, length-append}
use Rattle.std.proofs.lemmas.Bool.{cases_lt, lt-ltb, le-ltb, or_parts, or_left, or_right, eq-eqb, eqb-true, false_from_ne_true, true≢false}
use Rattle.std.proofs.lemmas.List.{get_or-map}
use mathlib.Core.Bool.{beq}
use Rattle.std.proofs.lemmas.Simd.{length-replicate}
use Rattle.kn_logic.specs.Literals.{Literal, negated, names, AreDifferent}
use Rattle.kn_diagram.specs.Diagrams.{with_value, is_true_by}
use Rattle.kn_verdict.specs.Numbers.{asked}
use Rattle.kn_verdict.proofs.Counts.{count, own-value, other-value}

head_same : (a b : Bool) (xs ys : List Bool) → a ∷ xs ≡ b ∷ ys → a ≡ b
head_same a b xs ys e = cc

tail_same : (a b : Bool) (xs ys : List Bool) → a ∷ xs ≡ b ∷ ys → xs ≡ ys
tail_same a b xs ys e = cc

-- a variable that no literal names changes none
truths-other : (v : ℕ → Bool) (x : ℕ) (b : Bool) (lits : List Literal) → names lits x ≡ false → map (is_true_by (with_value v x b)) lits ≡ map (is_true_by v) lits
truths-other v x b [] h = refl
truths-other v x b (l ∷ lits) h =
    let parts = or_parts (l.variable == x) (names lits x) h in
    (λ i. (if l.positive then other-value v x l.variable b parts.0 i else not (other-value v x l.variable b parts.0 i)) ∷ truths-other v x b lits parts.1 i)

values-other : (v : ℕ → Bool) (x : ℕ) (b : Bool) (lits : List Literal) → names lits x ≡ false → map (λ l. with_value v x b l.variable) lits ≡ map (λ l. v l.variable) lits
values-other v x b [] h = refl
values-other v x b (l ∷ lits) h =
    let parts = or_parts (l.variable == x) (names lits x) h in
    (λ i. other-value v x l.variable b parts.0 i ∷ values-other v x b lits parts.1 i)

twice : (p b : Bool) → (if p then (if p then b else not b) else not (if p then b else not b)) ≡ b
twice true b = refl
twice false true = refl
twice false false = refl

-- some values give the literals these truth values
pub truths-exist : (lits : List Literal) (truths : List Bool) → AreDifferent lits → length truths ≡ length lits → (v : ℕ → Bool) × (map (is_true_by v) lits ≡ truths)
truths-exist [] [] d e = ((λ x. false), refl)
truths-exist [] (t ∷ ts) d e = absurd (omega (arith, e))
truths-exist (l ∷ lits) [] d e = absurd (omega (arith, e))
truths-exist (l ∷ lits) (t ∷ ts) d e =
    let (v, h) = truths-exist lits ts d.1 (omega (arith, e)) in
    let b = if l.positive then t else not t in
    let own : is_true_by (with_value v l.variable b) l ≡ t = ap (λ c. if l.positive then c else not c) (own-value v l.variable b) ∙ twice l.positive t in
    (with_value v l.variable b, (λ i. own i ∷ (truths-other v l.variable b lits d.0 ∙ h) i))

-- and some give the variables these
pub values-exist : (lits : List Literal) (values : List Bool) → AreDifferent lits → length values ≡ length lits → (v : ℕ → Bool) × (map (λ l. v l.variable) lits ≡ values)
values-exist [] [] d e = ((λ x. false), refl)
values-exist [] (t ∷ ts) d e = absurd (omega (arith, e))
values-exist (l ∷ lits) [] d e = absurd (omega (arith, e))
values-exist (l ∷ lits) (t ∷ ts) d e =
    let (v, h) = values-exist lits ts d.1 (omega (arith, e)) in
    (with_value v l.variable t, (λ i. own-value v l.variable t i ∷ (values-other v l.variable t lits d.0 ∙ h) i))

abbrev pub trues : List Bool → ℕ
trues [] = 0
trues (t ∷ ts) = (if t then 1 else 0) + trues ts

pub count-trues : (v : ℕ → Bool) (lits : List Literal) → count v lits ≡ trues (map (is_true_by v) lits)
count-trues v [] = refl
count-trues v (l ∷ lits) = ap (λ n. (if is_true_by v l then 1 else 0) + n) (count-trues v lits)

trues-none : (m : ℕ) → trues (replicate m false) ≡ 0
trues-none zero = refl
trues-none (suc m) = omega (arith, trues-none m)

pub trues-first : (k m : ℕ) → trues (replicate k true ++ replicate m false) ≡ k
trues-first zero m = trues-none m
trues-first (suc k) m = omega (arith, trues-first k m)

-- the truth values where exactly the first literals are true
abbrev pub first_truths : ℕ → ℕ → List Bool
first_truths n first = replicate first true ++ replicate (n - first) false

pub length-first : (n first : ℕ) → first ≤ n → length (first_truths n first) ≡ n
length-first n first h =
    length-append (replicate first true) (replicate (n - first) false)
    ∙ omega (arith, length-replicate first true, length-replicate (n - first) false, h)

pub count-first : (v : ℕ → Bool) (lits : List Literal) (first : ℕ) → map (is_true_by v) lits ≡ first_truths (length lits) first → count v lits ≡ first
count-first v lits first e = count-trues v lits ∙ ap trues e ∙ trues-first first (length lits - first)

pub first-exist : (lits : List Literal) (first : ℕ) → AreDifferent lits → first ≤ length lits → (v : ℕ → Bool) × (map (is_true_by v) lits ≡ first_truths (length lits) first)
first-exist lits first d h = truths-exist lits (first_truths (length lits) first) d (length-first (length lits) first h)

-- some values make so many literals true
pub some-values : (lits : List Literal) (n : ℕ) → AreDifferent lits → n ≤ length lits → (v : ℕ → Bool) × (count v lits ≡ n)
some-values lits n d h =
    let (v, e) = first-exist lits n d h in (v, count-first v lits n e)

named_at : (lits : List Literal) (place x : ℕ) → slice_get (map (λ l. l.variable) lits) place ≡ Some x → names lits x ≡ true
named_at [] place x h = absurd (cc)
named_at (l ∷ lits) zero x h = or_left (l.variable == x) (names lits x) (eq-eqb l.variable x (some_same l.variable x h))
  where
    some_same : (a b : ℕ) → Some a ≡ Some b → a ≡ b
    some_same a b e = cc
named_at (l ∷ lits) (suc place) x h = or_right (l.variable == x) (names lits x) (named_at lits place x h)

-- a value that is written at the place of a variable
pub values-set : (v : ℕ → Bool) (lits : List Literal) (place x : ℕ) (b : Bool) → AreDifferent lits → slice_get (map (λ l. l.variable) lits) place ≡ Some x
    → map (λ l. with_value v x b l.variable) lits ≡ slice_set (map (λ l. v l.variable) lits) place b
values-set v [] place x b d h = absurd (cc)
values-set v (l ∷ lits) zero x b d h =
    let e : l.variable ≡ x = some_same l.variable x h in
    (λ i. (ap (with_value v x b) e ∙ own-value v x b) i ∷ values-other v x b lits (ap (names lits) (sym e) ∙ d.0) i)
  where
    some_same : (a c : ℕ) → Some a ≡ Some c → a ≡ c
    some_same a c e = cc
values-set v (l ∷ lits) (suc place) x b d h =
    let apart : (l.variable == x) ≡ false =
    false_from_ne_true (l.variable == x) (λ t. true≢false (sym (named_at lits place x h) ∙ ap (names lits) (sym (eqb-true l.variable x t)) ∙ d.0)) in
    (λ i. other-value v x l.variable b apart i ∷ values-set v lits place x b d.1 h i)

first-zero : (m place : ℕ) → get_or (replicate m false) place false ≡ false
first-zero zero place = refl
first-zero (suc m) zero = refl
first-zero (suc m) (suc place) = first-zero m place

get_or-first : (first m place : ℕ) → get_or (replicate first true ++ replicate m false) place false ≡ nat_lt place first
get_or-first zero m place = first-zero m place ∙ sym (le-ltb place 0 (omega arith))
get_or-first (suc first) m zero = sym (lt-ltb 0 (suc first) (omega arith))
get_or-first (suc first) m (suc place) = get_or-first first m place ∙ shift (cases_lt place first)
  where
    shift : ((place < first) ⊎ (first ≤ place)) → nat_lt place first ≡ nat_lt (suc place) (suc first)
    shift (inl less) = lt-ltb place first less ∙ sym (lt-ltb (suc place) (suc first) (omega arith))
    shift (inr more) = le-ltb place first more ∙ sym (le-ltb (suc place) (suc first) (omega arith))

agrees : (p t b : Bool) → (if p then b else not b) ≡ t → b ≡ beq t p
agrees true true b h = h
agrees true false b h = h
agrees false true true h = absurd (true≢false (sym h))
agrees false true false h = refl
agrees false false true h = refl
agrees false false false h = absurd (true≢false h)

-- the value of a literal's variable where exactly the first literals are true
pub value-first : (v : ℕ → Bool) (lits : List Literal) (first place : ℕ) (l : Literal) → map (is_true_by v) lits ≡ first_truths (length lits) first
    → place < length lits → l ≡ get_or lits place l → v l.variable ≡ beq (nat_lt place first) l.positive
value-first v lits first place l e within is =
    agrees l.positive (nat_lt place first) (v l.variable)
    (ap (is_true_by v) is ∙ sym (get_or-map (is_true_by v) lits place l false within) ∙ ap (λ ts. get_or ts place false) e ∙ get_or-first first (length lits - first) place)

-- values that make none of the literals that are asked for true
pub avoided : (want : Bool) (v : ℕ → Bool) (lits : List Literal) → map (λ l. v l.variable) lits ≡ map (λ l. if want then not l.positive else l.positive) lits → count v (asked want lits) ≡ 0
avoided true v [] e = refl
avoided true v (l ∷ lits) e =
    let own : is_true_by v l ≡ false = ap (λ b. if l.positive then b else not b) (head_same _ _ _ _ e) ∙ opposite l.positive in
    omega (arith, ap (λ (b : Bool). cond {A = ℕ} b 1 0) own, avoided true v lits (tail_same _ _ _ _ e))
  where
    opposite : (p : Bool) → (if p then not p else not (not p)) ≡ false
    opposite true = refl
    opposite false = refl
avoided false v [] e = refl
avoided false v (l ∷ lits) e =
    let own : is_true_by v (negated l) ≡ false = ap (λ b. if not l.positive then b else not b) (head_same _ _ _ _ e) ∙ opposite l.positive in
    omega (arith, ap (λ (b : Bool). cond {A = ℕ} b 1 0) own, avoided false v lits (tail_same _ _ _ _ e))
  where
    opposite : (p : Bool) → (if not p then p else not p) ≡ false
    opposite true = refl
    opposite false = refl
