-- For the crates above: literals in lists, how many places pass a test, and what a hint makes of a longer
-- list. It ends in conflict wherever it did, and what joined the shorter list is in the longer one.
use Rattle.std.proofs.Common.{◌≡◌, ℕ, zero, suc, ◌+◌, ◌≤◌, ◌<◌, ◌⊎◌, ◌++◌, Bool, true, false, not, ◌||◌, cond, eqb, ltb, List, [], ◌∷◌, length, set, get_or, IfSome, Option, None, Some, refl, sym, ap, ◌∙◌, subst, inl, inr, arith}
use Rattle.std.specs.List.{AllByRecursion, filter, slice_get}
use Rattle.std.proofs.lemmas.Bool.{and_parts, and_from, or_cases, or_parts, or_left, or_right, cases_Bool, cond_both, cond-true, cond-false, eqb-true, eqb-false, eq-eqb, ne_eqb, ltb-true, ltb-false, lt-ltb, le-ltb, or_from, not_from_false}
use Rattle.std.proofs.lemmas.List.Elements.{All-from_recursion}
use Rattle.std.proofs.lemmas.List.Folds.{list_any-append}
use Rattle.kn_logic.specs.Literals.{Literal, negated, is_same, has, names, places, IsKnown, AreKnown, AreDifferent}
use Rattle.kn_logic.specs.Assignments.{is_true}
use Rattle.kn_logic.specs.Constraints.{Bounded}
use Rattle.kn_logic.specs.Propagation.{is_open, open_places, after_bound, after_guard, after_parts, after_hint, Forces}

-- what holds of each element
pub All-at : {X : Type 0} (P : X → Type 0) (xs : List X) (k : ℕ) → AllByRecursion P xs → IfSome (slice_get xs k) P
All-at P [] k h = tt
All-at P (x ∷ xs) zero h = h.0
All-at P (x ∷ xs) (suc k) h = All-at P xs k h.1

pub All-set : {X : Type 0} (P : X → Type 0) (xs : List X) (k : ℕ) (y : X) → AllByRecursion P xs → P y → AllByRecursion P (set xs k y)
All-set P [] k y h p = tt
All-set P (x ∷ xs) zero y h p = (p, h.1)
All-set P (x ∷ xs) (suc k) y h p = (h.0, All-set P xs k y h.1 p)

pub All-push : {X : Type 0} (P : X → Type 0) (xs : List X) (y : X) → AllByRecursion P xs → P y → AllByRecursion P (xs ++ y ∷ [])
All-push P [] y h p = (p, tt)
All-push P (x ∷ xs) y h p = (h.0, All-push P xs y h.1 p)

pub All-append : {X : Type 0} (P : X → Type 0) (xs ys : List X) → AllByRecursion P xs → AllByRecursion P ys → AllByRecursion P (xs ++ ys)
All-append P [] ys h k = k
All-append P (x ∷ xs) ys h k = (h.0, All-append P xs ys h.1 k)

-- what holds of each element and its place
pub at-push : {X : Type 0} (P : ℕ → X → Type 0) (xs : List X) (y : X) → ((k : ℕ) → IfSome (slice_get xs k) (P k)) → P (length xs) y → (k : ℕ) → IfSome (slice_get (xs ++ y ∷ []) k) (P k)
at-push P [] y h p zero = p
at-push P [] y h p (suc k) = tt
at-push P (x ∷ xs) y h p zero = h zero
at-push P (x ∷ xs) y h p (suc k) = at-push (λ n. P (suc n)) xs y (λ n. h (suc n)) p k

-- known literals
pub known-append : (vars : ℕ) (a b : List Literal) → AreKnown vars a → AreKnown vars b → AreKnown vars (a ++ b)
known-append vars [] b h k = k
known-append vars (l ∷ a) b h k = (h.0, known-append vars a b h.1 k)

pub are_known-more : (vars more : ℕ) (lits : List Literal) → vars ≤ more → AreKnown vars lits → AreKnown more lits
are_known-more vars more [] le h = tt
are_known-more vars more (l ∷ lits) le h = ((h.0.0, omega (arith, h.0.1, le)), are_known-more vars more lits le h.1)

keep_known : (vars : ℕ) (l : Literal) (lits : List Literal) (t : Bool) → IsKnown vars l → AreKnown vars lits → AreKnown vars (cond t (l ∷ lits) lits)
keep_known vars l lits true h k = (h, k)
keep_known vars l lits false h k = k

pub known-filter : (vars : ℕ) (p : Literal → Bool) (lits : List Literal) → AreKnown vars lits → AreKnown vars (filter p lits)
known-filter vars p [] h = tt
known-filter vars p (l ∷ lits) h = keep_known vars l (filter p lits) (p l) h.0 (known-filter vars p lits h.1)

pub known-front : (vars : ℕ) (front back : List Literal) → AreKnown vars (front ++ back) → AreKnown vars front
known-front vars [] back h = tt
known-front vars (l ∷ front) back h = (h.0, known-front vars front back h.1)

pub known-last : (vars : ℕ) (front : List Literal) (l : Literal) → AreKnown vars (front ++ l ∷ []) → IsKnown vars l
known-last vars [] l h = h.0
known-last vars (x ∷ front) l h = known-last vars front l h.1

pub known_at : (vars : ℕ) (lits : List Literal) (k : ℕ) (d : Literal) → AreKnown vars lits → k < length lits → IsKnown vars (get_or lits k d)
known_at vars lits k d h i = All-from_recursion (IsKnown vars) lits h k d i

-- literals in a list
same_record : (v w : ℕ) (p q : Bool) → v ≡ w → p ≡ q → ◌≡◌ {A = Literal} (record { variable = v; positive = p }) (record { variable = w; positive = q })
same_record v w p q e f = cc

alike : (p q : Bool) → cond p q (not q) ≡ true → p ≡ q
alike true q e = sym e
alike false true e = e
alike false false e = refl

pub same_literal : (a b : Literal) → is_same a b ≡ true → a ≡ b
same_literal a b e =
    let parts = and_parts (eqb a.variable b.variable) (cond a.positive b.positive (not b.positive)) e in
    same_record a.variable b.variable a.positive b.positive (eqb-true _ _ parts.0) (alike _ _ parts.1)

pub same_sign : (p : Bool) → cond p p (not p) ≡ true
same_sign true = refl
same_sign false = refl

pub not_twice : (p : Bool) → not (not p) ≡ p
not_twice true = refl
not_twice false = refl

pub negated_twice : (l : Literal) → negated (negated l) ≡ l
negated_twice l = same_record l.variable l.variable (not (not l.positive)) l.positive refl (not_twice l.positive)

pub same-refl : (l : Literal) → is_same l l ≡ true
same-refl l = and_from _ _ (eq-eqb l.variable l.variable refl) (same_sign l.positive)

pub has-left : (a b : List Literal) (l : Literal) → has a l ≡ true → has (a ++ b) l ≡ true
has-left a b l e = list_any-append (is_same l) a b ∙ or_left (has a l) (has b l) e

pub has-right : (a b : List Literal) (l : Literal) → has b l ≡ true → has (a ++ b) l ≡ true
has-right a b l e = list_any-append (is_same l) a b ∙ or_right (has a l) (has b l) e

pub has-either : (a b : List Literal) (l : Literal) → has (a ++ b) l ≡ true → (has a l ≡ true) ⊎ (has b l ≡ true)
has-either a b l e = or_cases (has a l) (has b l) (sym (list_any-append (is_same l) a b) ∙ e)

pub has-first : (l : Literal) (lits : List Literal) → has (l ∷ lits) l ≡ true
has-first l lits = or_left (is_same l l) (has lits l) (same-refl l)

-- a list of one literal has no other
pub has-one : (x l : Literal) → has (x ∷ []) l ≡ true → l ≡ x
has-one x l e = elim (or_cases (is_same l x) false e) [ inl s ↦ same_literal l x s | inr f ↦ absurd cc ]

-- what holds of each literal of a list holds of one that stands there
pub All-has : (P : Literal → Type 0) (lits : List Literal) (l : Literal) → AllByRecursion P lits → has lits l ≡ true → P l
All-has P [] l h e = absurd cc
All-has P (x ∷ lits) l h e =
    elim (or_cases (is_same l x) (has lits l) e) [
      | inl s ↦ subst P (sym (same_literal l x s)) h.0
      | inr t ↦ All-has P lits l h.1 t
    ]

-- and what holds of each one that stands there holds of all
pub All-from : (P : Literal → Type 0) (lits : List Literal) → ((l : Literal) → has lits l ≡ true → P l) → AllByRecursion P lits
All-from P [] h = tt
All-from P (x ∷ lits) h = (h x (has-first x lits), All-from P lits (λ l k. h l (or_right (is_same l x) (has lits l) k)))

filter_first : (test : Literal → Bool) (x l : Literal) (rest : List Literal) (t : Bool) → test x ≡ t → is_same l x ≡ true → test l ≡ true → has (cond t (x ∷ rest) rest) l ≡ true
filter_first test x l rest true e s k = or_left (is_same l x) (has rest l) s
filter_first test x l rest false e s k = let same = same_literal l x s in absurd cc

filter_behind : (x l : Literal) (rest : List Literal) (t : Bool) → has rest l ≡ true → has (cond t (x ∷ rest) rest) l ≡ true
filter_behind x l rest true h = or_right (is_same l x) (has rest l) h
filter_behind x l rest false h = h

-- a literal of the list that passes the test
pub has-filter : (test : Literal → Bool) (lits : List Literal) (l : Literal) → has lits l ≡ true → test l ≡ true → has (filter test lits) l ≡ true
has-filter test [] l h e = absurd cc
has-filter test (x ∷ lits) l h e =
    elim (or_cases (is_same l x) (has lits l) h) [
      | inl s ↦ filter_first test x l (filter test lits) (test x) refl s e
      | inr t ↦ filter_behind x l (filter test lits) (test x) (has-filter test lits l t e)
    ]

filter_cases : (x l : Literal) (rest lits : List Literal) (t : Bool) → has (cond t (x ∷ rest) rest) l ≡ true → (has rest l ≡ true → has lits l ≡ true) → has (x ∷ lits) l ≡ true
filter_cases x l rest lits true h ih =
    elim (or_cases (is_same l x) (has rest l) h) [ inl s ↦ or_left (is_same l x) (has lits l) s | inr t ↦ or_right (is_same l x) (has lits l) (ih t) ]
filter_cases x l rest lits false h ih = or_right (is_same l x) (has lits l) (ih h)

pub has-filtered : (test : Literal → Bool) (lits : List Literal) (l : Literal) → has (filter test lits) l ≡ true → has lits l ≡ true
has-filtered test [] l h = h
has-filtered test (x ∷ lits) l h = filter_cases x l (filter test lits) lits (test x) h (has-filtered test lits l)

-- one literal more
pub has-push : (lits : List Literal) (l x : Literal) → has (lits ++ l ∷ []) x ≡ (has lits x || is_same x l)
has-push [] l x = elim (is_same x l) as (λ b. (b || false) ≡ b) [ true ↦ refl | false ↦ refl ]
has-push (y ∷ lits) l x = or_under (is_same x y) _ _ _ (has-push lits l x)
  where
    or_under : (a b c d : Bool) → b ≡ (c || d) → (a || b) ≡ (a || c || d)
    or_under true b c d e = refl
    or_under false b c d e = e

-- the variables that a list names
pub has-names : (lits : List Literal) (l : Literal) → has lits l ≡ true → names lits l.variable ≡ true
has-names [] l e = absurd cc
has-names (x ∷ lits) l e =
    elim (or_cases (is_same l x) (has lits l) e) [
      | inl s ↦ (let same = same_literal l x s in or_left (eqb x.variable l.variable) (names lits l.variable) (eq-eqb x.variable l.variable (sym (ap (λ (y : Literal). y.variable) same))))
      | inr t ↦ or_right (eqb x.variable l.variable) (names lits l.variable) (has-names lits l t)
    ]

pub different-push : (lits : List Literal) (l : Literal) → AreDifferent lits → names lits l.variable ≡ false → AreDifferent (lits ++ l ∷ [])
different-push [] l h n = (refl, tt)
different-push (x ∷ lits) l h n =
    let parts = or_parts (eqb x.variable l.variable) (names lits l.variable) n in
    let other : eqb l.variable x.variable ≡ false = ne_eqb l.variable x.variable (λ e. eqb-false x.variable l.variable parts.0 (sym e)) in
    (list_any-append (λ y. eqb y.variable x.variable) lits (l ∷ []) ∙ or_from (names lits x.variable) (eqb l.variable x.variable || false) h.0 (or_from (eqb l.variable x.variable) false other refl), different-push lits l h.1 parts.1)

-- a literal of a variable that the list does not name
pub unnamed : (lits : List Literal) (x : Literal) → names lits x.variable ≡ false → has lits x ≡ false
unnamed [] x h = refl
unnamed (l ∷ lits) x h =
    let parts = or_parts (eqb l.variable x.variable) (names lits x.variable) h in
    let differs : eqb x.variable l.variable ≡ false = ne_eqb _ _ (λ e. eqb-false _ _ parts.0 (sym e)) in
    rw differs (unnamed lits x parts.1)

-- how many places pass a test
step-le : (s t : Bool) → (s ≡ true → t ≡ true) → cond s 1 0 ≤ cond t 1 0
step-le true true h = omega arith
step-le true false h = let e = h refl in absurd cc
step-le false t h = omega arith

pub places-le : (p q : Literal → Bool) → ((l : Literal) → p l ≡ true → q l ≡ true) → (lits : List Literal) → places p lits ≤ places q lits
places-le p q h [] = omega arith
places-le p q h (l ∷ lits) = omega (arith, step-le (p l) (q l) (h l), places-le p q h lits)

kept_at : (p : Literal → Bool) (l : Literal) (rest : List Literal) (s t : Bool) (m n : ℕ) → p l ≡ s → (s ≡ true → t ≡ true) → m ≤ n → cond t 1 0 + n ≤ cond s 1 0 + m → (n ≤ m → AllByRecursion (λ x. p x ≡ true) rest) → AllByRecursion (λ x. p x ≡ true) (cond t (l ∷ rest) rest)
kept_at p l rest true true m n e h le k ih = (e, ih (omega arith))
kept_at p l rest true false m n e h le k ih = let x = h refl in absurd cc
kept_at p l rest false true m n e h le k ih = absurd (omega arith)
kept_at p l rest false false m n e h le k ih = ih (omega arith)

-- where a weaker test passes at no more places, all that pass it pass both
pub all-kept : (p q : Literal → Bool) → ((l : Literal) → p l ≡ true → q l ≡ true) → (lits : List Literal) → places q lits ≤ places p lits → AllByRecursion (λ x. p x ≡ true) (filter q lits)
all-kept p q h [] k = tt
all-kept p q h (l ∷ lits) k =
    kept_at p l (filter q lits) (p l) (q l) (places p lits) (places q lits) refl (h l) (places-le p q h lits) k (λ le. all-kept p q h lits le)

-- a literal, its negation and its like under an assignment
flipped : (p v : Bool) → cond (not p) v (not v) ≡ not (cond p v (not v))
flipped true v = refl
flipped false true = refl
flipped false false = refl

pub true-negated : (values : List Bool) (l : Literal) → is_true values (negated l) ≡ not (is_true values l)
true-negated values l = flipped l.positive _

pub true-same : (values : List Bool) (a b : Literal) → is_same a b ≡ true → is_true values a ≡ is_true values b
true-same values a b e =
    let parts = and_parts (eqb a.variable b.variable) (cond a.positive b.positive (not b.positive)) e in
    let variable : a.variable ≡ b.variable = eqb-true _ _ parts.0 in
    let positive : a.positive ≡ b.positive = alike _ _ parts.1 in
    cc

-- what a hint forces
-- there is no guard, or it is true
abbrev pub IsOn : List Literal → Option Literal → Type 0
IsOn trail None = Unit {0}
IsOn trail (Some guard) = has trail guard ≡ true

-- without a guard that is not true, a hint is run by its bound
pub after-on : (trail : List Literal) (guard : Option Literal) (bound : ℕ) (lits : List Literal) → IsOn trail guard → after_parts trail guard bound lits ≡ after_bound trail bound lits
after-on trail None bound lits on = refl
after-on trail (Some guard) bound lits on = cond-true (has trail guard) _ _ on

bound_short : (trail : List Literal) (bound : ℕ) (lits : List Literal) → open_places trail lits < bound → after_bound trail bound lits ≡ None
bound_short trail bound lits h = cond-true _ _ _ (lt-ltb _ _ h)

bound_met : (trail : List Literal) (bound : ℕ) (lits : List Literal) → open_places trail lits ≡ bound → after_bound trail bound lits ≡ Some (trail ++ filter (is_open trail) lits)
bound_met trail bound lits h =
    cond-false _ None (cond (eqb (open_places trail lits) bound) (Some (trail ++ filter (is_open trail) lits)) (Some trail)) (le-ltb _ _ (omega arith))
    ∙ cond-true _ _ _ (eq-eqb _ _ h)

-- fewer literals than the bound are not false: a conflict
pub short-conflict : (trail : List Literal) (c : Bounded) (guard : Option Literal) → c.guard ≡ guard → IsOn trail guard → open_places trail c.lits < c.bound → after_hint trail c ≡ None
short-conflict trail c guard is on h =
    after-on trail c.guard c.bound c.lits (subst (IsOn trail) (sym is) on) ∙ bound_short trail c.bound c.lits h

-- just as many are: each of them is forced
pub forces-bound : (trail : List Literal) (c : Bounded) (guard : Option Literal) (l : Literal) → c.guard ≡ guard → IsOn trail guard → open_places trail c.lits ≡ c.bound → has c.lits l ≡ true → is_open trail l ≡ true → Forces trail c l
forces-bound trail c guard l is on e stands free = (
  trail ++ filter (is_open trail) c.lits,
  after-on trail c.guard c.bound c.lits (subst (IsOn trail) (sym is) on) ∙ bound_met trail c.bound c.lits e,
  has-right trail (filter (is_open trail) c.lits) l (has-filter (is_open trail) c.lits l stands free),
)

guard_refuted : (trail : List Literal) (guard : Literal) (bound : ℕ) (lits : List Literal) → has trail guard ≡ false → has trail (negated guard) ≡ false → open_places trail lits < bound → after_guard trail guard bound lits ≡ Some (trail ++ negated guard ∷ [])
guard_refuted trail guard bound lits e f h =
    cond-false (has trail guard) (after_bound trail bound lits) (cond (has trail (negated guard)) (Some trail) (cond (ltb (open_places trail lits) bound) (Some (trail ++ negated guard ∷ [])) (Some trail))) e
    ∙ cond-false (has trail (negated guard)) (Some trail) (cond (ltb (open_places trail lits) bound) (Some (trail ++ negated guard ∷ [])) (Some trail)) f
    ∙ cond-true _ _ _ (lt-ltb _ _ h)

-- the guard has no value, and fewer literals than the bound are not false: the guard's negation is forced
pub forces-guard : (trail : List Literal) (c : Bounded) (guard : Literal) → c.guard ≡ Some guard → has trail guard ≡ false → has trail (negated guard) ≡ false → open_places trail c.lits < c.bound → Forces trail c (negated guard)
forces-guard trail c guard is e f h = (
  trail ++ negated guard ∷ [],
  subst (λ (o : Option Literal). after_parts trail o c.bound c.lits ≡ Some (trail ++ negated guard ∷ [])) (sym is) (guard_refuted trail guard c.bound c.lits e f h),
  has-right trail (negated guard ∷ []) (negated guard) (has-first (negated guard) []),
)

-- longer lists
abbrev pub Covers : List Literal → List Literal → Type 0
Covers small big = (l : Literal) → has small l ≡ true → has big l ≡ true

-- of two runs: a conflict of the first is one of the second, and else the second has all literals of the
-- first, if it is no conflict
abbrev pub Grows : Option (List Literal) → Option (List Literal) → Type 0
Grows None after = after ≡ None
Grows (Some next) None = Unit {0}
Grows (Some next) (Some more) = Covers next more

Grows-less : (small big : List Literal) (after : Option (List Literal)) → Covers small big → Grows (Some big) after → Grows (Some small) after
Grows-less small big None h k = tt
Grows-less small big (Some next) h k = λ l e. k l (h l e)

pub Covers-append : (small big more : List Literal) → Covers small big → Covers more big → Covers (small ++ more) big
Covers-append small big more h k l e = elim (has-either small more l e) [ inl s ↦ h l s | inr t ↦ k l t ]

-- what is not false in the longer list is not false in the shorter one
open_shrinks : (small big : List Literal) → Covers small big → (l : Literal) → is_open big l ≡ true → is_open small l ≡ true
open_shrinks small big h l e =
    elim (cases_Bool (has small (negated l))) [
      | inl s ↦ (let t = h (negated l) s in absurd cc)
      | inr s ↦ not_from_false _ s
    ]

fewer_open : (small big : List Literal) (lits : List Literal) → Covers small big → open_places big lits ≤ open_places small lits
fewer_open small big lits h = places-le (is_open big) (is_open small) (open_shrinks small big h) lits

-- where just as many literals are not false, they are the same
same_open : (small big lits : List Literal) → Covers small big → open_places small lits ≤ open_places big lits → Covers (filter (is_open small) lits) (filter (is_open big) lits)
same_open small big lits h le l e =
    has-filter (is_open big) lits l (has-filtered (is_open small) lits l e)
    (All-has (λ x. is_open big x ≡ true) (filter (is_open small) lits) l (all-kept (is_open big) (is_open small) (open_shrinks small big h) lits le) e)

-- a hint takes no literal away
bound_keeps : (trail : List Literal) (bound : ℕ) (lits : List Literal) → Grows (Some trail) (after_bound trail bound lits)
bound_keeps trail bound lits =
    cond_both (ltb (open_places trail lits) bound) _ _ (Grows (Some trail))
    (λ _. tt)
    (λ _. cond_both (eqb (open_places trail lits) bound) _ _ (Grows (Some trail))
    (λ _ l e. has-left trail (filter (is_open trail) lits) l e)
    (λ _ l e. e))

guard_keeps : (trail : List Literal) (guard : Literal) (bound : ℕ) (lits : List Literal) → Grows (Some trail) (after_guard trail guard bound lits)
guard_keeps trail guard bound lits =
    cond_both (has trail guard) _ _ (Grows (Some trail))
    (λ _. bound_keeps trail bound lits)
    (λ _. cond_both (has trail (negated guard)) _ _ (Grows (Some trail))
    (λ _ l e. e)
    (λ _. cond_both (ltb (open_places trail lits) bound) _ _ (Grows (Some trail))
    (λ _ l e. has-left trail (negated guard ∷ []) l e)
    (λ _ l e. e)))

parts_keep : (trail : List Literal) (guard : Option Literal) (bound : ℕ) (lits : List Literal) → Grows (Some trail) (after_parts trail guard bound lits)
parts_keep trail None bound lits = bound_keeps trail bound lits
parts_keep trail (Some guard) bound lits = guard_keeps trail guard bound lits

pub hint-keeps : (trail : List Literal) (c : Bounded) → Grows (Some trail) (after_hint trail c)
hint-keeps trail c = parts_keep trail c.guard c.bound c.lits

-- a hint on a longer list
bound_grows : (small big : List Literal) (bound : ℕ) (lits : List Literal) → Covers small big → Grows (after_bound small bound lits) (after_bound big bound lits)
bound_grows small big bound lits h =
    let fewer = fewer_open small big lits h in
    cond_both (ltb (open_places small lits) bound) _ _ (λ o. Grows o (after_bound big bound lits))
    (λ e. bound_short big bound lits (omega (arith, fewer, ltb-true _ _ e)))
    (λ _. cond_both (eqb (open_places small lits) bound) _ _ (λ o. Grows o (after_bound big bound lits))
    (λ e. cond_both (ltb (open_places big lits) bound) _ _ (Grows (Some (small ++ filter (is_open small) lits)))
    (λ _. tt)
    (λ f.
    let met : open_places small lits ≡ bound = eqb-true _ _ e in
    let meets : open_places big lits ≡ bound = omega (arith, fewer, met, ltb-false _ _ f) in
    subst (Grows (Some (small ++ filter (is_open small) lits))) (sym (cond-true _ (Some (big ++ filter (is_open big) lits)) (Some big) (eq-eqb _ _ meets)))
    (Covers-append small (big ++ filter (is_open big) lits) (filter (is_open small) lits)
    (λ l k. has-left big (filter (is_open big) lits) l (h l k))
    (λ l k. has-right big (filter (is_open big) lits) l (same_open small big lits h (omega arith) l k)))))
    (λ _. Grows-less small big (after_bound big bound lits) h (bound_keeps big bound lits)))

-- the guard of the shorter list has no value there, and its negation joins
guard_joins : (small big : List Literal) (guard : Literal) (bound : ℕ) (lits : List Literal) → Covers small big → open_places big lits < bound → Grows (Some (small ++ negated guard ∷ [])) (after_guard big guard bound lits)
guard_joins small big guard bound lits h less =
    let base : List Literal = small ++ negated guard ∷ [] in
    cond_both (has big guard) _ _ (Grows (Some base))
    (λ _. subst (Grows (Some base)) (sym (bound_short big bound lits less)) tt)
    (λ _. cond_both (has big (negated guard)) _ _ (Grows (Some base))
    (λ e. Covers-append small big (negated guard ∷ []) h (λ l k. subst (λ (x : Literal). has big x ≡ true) (sym (has-one (negated guard) l k)) e))
    (λ _. cond_both (ltb (open_places big lits) bound) _ _ (Grows (Some base))
    (λ _. Covers-append small (big ++ negated guard ∷ []) (negated guard ∷ []) (λ l k. has-left big (negated guard ∷ []) l (h l k)) (λ l k. has-right big (negated guard ∷ []) l k))
    (λ e. absurd (omega (arith, ltb-false _ _ e)))))

guard_grows : (small big : List Literal) (guard : Literal) (bound : ℕ) (lits : List Literal) → Covers small big → Grows (after_guard small guard bound lits) (after_guard big guard bound lits)
guard_grows small big guard bound lits h =
    let fewer = fewer_open small big lits h in
    let kept = Grows-less small big (after_guard big guard bound lits) h (guard_keeps big guard bound lits) in
    cond_both (has small guard) _ _ (λ o. Grows o (after_guard big guard bound lits))
    (λ e. subst (Grows (after_bound small bound lits)) (sym (cond-true _ (after_bound big bound lits) (cond (has big (negated guard)) (Some big) (cond (ltb (open_places big lits) bound) (Some (big ++ negated guard ∷ [])) (Some big))) (h guard e))) (bound_grows small big bound lits h))
    (λ _. cond_both (has small (negated guard)) _ _ (λ o. Grows o (after_guard big guard bound lits))
    (λ _. kept)
    (λ _. cond_both (ltb (open_places small lits) bound) _ _ (λ o. Grows o (after_guard big guard bound lits))
    (λ e. guard_joins small big guard bound lits h (omega (arith, fewer, ltb-true _ _ e)))
    (λ _. kept)))

parts_grow : (small big : List Literal) (guard : Option Literal) (bound : ℕ) (lits : List Literal) → Covers small big → Grows (after_parts small guard bound lits) (after_parts big guard bound lits)
parts_grow small big None bound lits h = bound_grows small big bound lits h
parts_grow small big (Some guard) bound lits h = guard_grows small big guard bound lits h

pub hint-grows : (small big : List Literal) (c : Bounded) → Covers small big → Grows (after_hint small c) (after_hint big c)
hint-grows small big c h = parts_grow small big c.guard c.bound c.lits h

-- what is a conflict stays one
pub hint-conflict-grows : (small big : List Literal) (c : Bounded) → Covers small big → after_hint small c ≡ None → after_hint big c ≡ None
hint-conflict-grows small big c h e = subst (λ (o : Option (List Literal)). Grows o (after_hint big c)) e (hint-grows small big c h)
