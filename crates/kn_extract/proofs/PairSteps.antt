-- The group of a start is a step: its clauses say that all but one of its literals are true.
use Rattle.std.proofs.Common.{◌≡◌, ℕ, suc, ◌+◌, ◌≤◌, ◌==◌, Bool, true, false, not, cond, ◌&&◌, ◌||◌, List, [], ◌∷◌, ◌++◌, length, map, Option, Some, None, refl, sym, ap, ap₂, subst, ◌∙◌, inl, inr, arith, true≢false}
use Rattle.std.specs.Prelude.{◌⊎◌, nat_lt, zero, option_to_list}
use Rattle.std.specs.List.{list_any, list_all, AllByRecursion, range_with_len, flat_map}
use Rattle.std.proofs.lemmas.Bool.{or_left, or_right, or_parts, and_parts, or_cases, eqb-true, eq-eqb, ne_eqb, and_from}
use Rattle.kn_logic.specs.Literals.{Literal, is_same, has, names, places, AreDifferent, IsKnown}
use Rattle.kn_logic.specs.Constraints.{Bounded, is_clause, named, Fits}
use Rattle.kn_logic.specs.Formulas.{IsFormula}
use Rattle.kn_logic.specs.Groups.{Gathered, is_among, is_pair, is_binary, is_pair_of, has_pair, is_covered}
use Rattle.kn_logic.proofs.Public.{same_literal, same-refl, All-has, has-right, has-names}
use Rattle.kn_diagram.specs.Diagrams.{is_true_by}
use Rattle.kn_quant.specs.Runs.{clause_function, AgreeBut, CanHold}
use Rattle.kn_verdict.specs.Cardinals.{IsCardinal}
use Rattle.kn_store.specs.Stores.{Numbered, Stored, constraints_of, constraint_at, chosen, problem_of}
use Rattle.kn_store.proofs.Public.{all-one, all-two, rises}
use Rattle.kn_guess.specs.Guesses.{joins, joined, candidates, pair_group, IsPairGuess}
use Rattle.kn_extract.specs.Extractions.{Found, IsPairTaken}
use Rattle.kn_extract.proofs.Steps.{IsStep, named_in, go}
use Rattle.kn_extract.proofs.SeedSteps.{named-from, any-kept, any-some}
use Rattle.kn_extract.proofs.Lists.{filter-yes, filter-no, own-has, rises-different}

-- what each literal of a list does to a count
one-false : (test : Literal → Bool) (lits : List Literal) → places test lits ≤ length lits
one-false test [] = omega arith
one-false test (l ∷ lits) = let more = one-false test lits in one-more (test l) (places test lits) (length lits) more
  where
    one-more : (t : Bool) (n m : ℕ) → n ≤ m → cond t 1 0 + n ≤ suc m
    one-more true n m h = omega (arith, h)
    one-more false n m h = omega (arith, h)

abbrev Different : Literal → Literal → Type 0
Different a b = (a.variable == b.variable) ≡ false

-- any two are not both false: all but one are true
abbrev AnyTwo : (Literal → Bool) → List Literal → Type 0
AnyTwo test lits = (a b : Literal) → has lits a ≡ true → has lits b ≡ true → Different a b → (test a || test b) ≡ true

any-tail : (test : Literal → Bool) (l : Literal) (lits : List Literal) → AnyTwo test (l ∷ lits) → AnyTwo test lits
any-tail test l lits h a b i j d = h a b (or_right (is_same a l) (has lits a) i) (or_right (is_same b l) (has lits b) j) d

apart-from : (v : ℕ) (lits : List Literal) → names lits v ≡ false → AllByRecursion (λ m. (m.variable == v) ≡ false) lits
apart-from v [] e = tt
apart-from v (m ∷ lits) e = let q = or_parts (m.variable == v) (names lits v) e in (q.0, apart-from v lits q.1)

all-true : (test : Literal → Bool) (lits : List Literal) → AllByRecursion (λ m. test m ≡ true) lits → places test lits ≡ length lits
all-true test [] h = refl
all-true test (l ∷ lits) h = let more = all-true test lits h.1 in subst (λ t. cond t 1 0 + places test lits ≡ length (l ∷ lits)) (sym h.0) (omega (arith, more))

second : (a b : Bool) → a ≡ false → (a || b) ≡ true → b ≡ true
second true b e h = absurd (true≢false e)
second false b e h = h

all-but-one : (test : Literal → Bool) (lits : List Literal) → AreDifferent lits → AnyTwo test lits → length lits ≤ places test lits + 1
all-but-one test [] d h = omega arith
all-but-one test (l ∷ lits) d h = at (test l) refl (all-but-one test lits d.1 (any-tail test l lits h))
  where
    at : (t : Bool) → test l ≡ t → length lits ≤ places test lits + 1 → length (l ∷ lits) ≤ cond (test l) 1 0 + places test lits + 1
    at true e more = subst (λ t. length (l ∷ lits) ≤ cond t 1 0 + places test lits + 1) (sym e) (omega (arith, more))
    at false e more =
        let rest = all-two (λ m. has lits m ≡ true) (λ m. (m.variable == l.variable) ≡ false) (λ m. test m ≡ true)
        (λ m i n. second (test l) (test m) e (h l m (or_left (is_same l l) (has lits l) (same-refl l)) (or_right (is_same m l) (has lits m) i)
        (ne_eqb l.variable m.variable (λ s. true≢false (sym (eq-eqb m.variable l.variable (sym s)) ∙ n)))))
        lits (own-has lits) (apart-from l.variable lits d.0) in
        let all = all-true test lits rest in
        subst (λ t. length (l ∷ lits) ≤ cond t 1 0 + places test lits + 1) (sym e) (omega (arith, all))

-- two that are false are missing
miss-one : (test : Literal → Bool) (lits : List Literal) (a : Literal) → has lits a ≡ true → test a ≡ false → places test lits + 1 ≤ length lits
miss-one test [] a i e = absurd (true≢false (sym i))
miss-one test (l ∷ lits) a i e = at (or_cases (is_same a l) (has lits a) i) (λ h. miss-one test lits a h e)
  where
    at : (is_same a l ≡ true) ⊎ (has lits a ≡ true) → (has lits a ≡ true → places test lits + 1 ≤ length lits) → cond (test l) 1 0 + places test lits + 1 ≤ length (l ∷ lits)
    at (inl s) more = subst (λ t. cond t 1 0 + places test lits + 1 ≤ length (l ∷ lits)) (sym (sym (ap test (same_literal a l s)) ∙ e)) (let low = one-false test lits in omega (arith, low))
    at (inr s) more = let low = more s in count (test l) (places test lits) (length lits) low
      where
        count : (t : Bool) (n m : ℕ) → n + 1 ≤ m → cond t 1 0 + n + 1 ≤ suc m
        count true n m h = omega (arith, h)
        count false n m h = omega (arith, h)

not-same : (a b : Literal) → Different a b → is_same b a ≡ true → ⊥
not-same a b d e = true≢false (sym (eq-eqb a.variable b.variable (ap (λ l. l.variable) (sym (same_literal b a e)))) ∙ d)

turned : (a b : Literal) → Different a b → Different b a
turned a b d = ne_eqb b.variable a.variable (λ e. true≢false (sym (eq-eqb a.variable b.variable (sym e)) ∙ d))

tail-has : (a b : Literal) (lits : List Literal) → Different a b → has (a ∷ lits) b ≡ true → has lits b ≡ true
tail-has a b lits d i = at (or_cases (is_same b a) (has lits b) i)
  where
    at : (is_same b a ≡ true) ⊎ (has lits b ≡ true) → has lits b ≡ true
    at (inl s) = absurd (not-same a b d s)
    at (inr s) = s

count-two : (t : Bool) (n m : ℕ) → n + 2 ≤ m → cond t 1 0 + n + 2 ≤ suc m
count-two true n m h = omega (arith, h)
count-two false n m h = omega (arith, h)

miss-two : (test : Literal → Bool) (lits : List Literal) (a b : Literal) → has lits a ≡ true → has lits b ≡ true → Different a b → test a ≡ false → test b ≡ false → places test lits + 2 ≤ length lits
miss-two test [] a b i j d e f = absurd (true≢false (sym i))
miss-two test (l ∷ lits) a b i j d e f = at (or_cases (is_same a l) (has lits a) i) (or_cases (is_same b l) (has lits b) j) (λ h k. miss-two test lits a b h k d e f)
  where
    first : (x y : Literal) → Different x y → test x ≡ false → test y ≡ false → has (l ∷ lits) y ≡ true → is_same x l ≡ true → cond (test l) 1 0 + places test lits + 2 ≤ length (l ∷ lits)
    first x y d e f j s =
        let k = tail-has l y lits (subst (λ z. Different z y) (same_literal x l s) d) j in
        let low = miss-one test lits y k f in
        subst (λ t. cond t 1 0 + places test lits + 2 ≤ length (l ∷ lits)) (sym (sym (ap test (same_literal x l s)) ∙ e)) (omega (arith, low))

    at : (is_same a l ≡ true) ⊎ (has lits a ≡ true) → (is_same b l ≡ true) ⊎ (has lits b ≡ true) → (has lits a ≡ true → has lits b ≡ true → places test lits + 2 ≤ length lits) → cond (test l) 1 0 + places test lits + 2 ≤ length (l ∷ lits)
    at (inl s) q more = first a b d e f j s
    at (inr s) (inl r) more = first b a (turned a b d) f e i r
    at (inr s) (inr r) more = count-two (test l) (places test lits) (length lits) (more s r)

-- a clause of two literals has no others
binary-lits : (lits : List Literal) → is_pair lits ≡ true → (x : Literal) × (y : Literal) × (lits ≡ x ∷ y ∷ []) × Different x y
binary-lits [] e = absurd (true≢false (sym e))
binary-lits (x ∷ []) e = absurd (true≢false (sym e))
binary-lits (x ∷ y ∷ []) e = (x, y, refl, not-true (x.variable == y.variable) e)
  where
    not-true : (b : Bool) → not b ≡ true → b ≡ false
    not-true true e = absurd (true≢false (sym e))
    not-true false e = refl
binary-lits (x ∷ y ∷ z ∷ more) e = absurd (true≢false (sym e))

one-of : (x y a : Literal) → has (x ∷ y ∷ []) a ≡ true → (a ≡ x) ⊎ (a ≡ y)
one-of x y a i = at (or_cases (is_same a x) (has (y ∷ []) a) i)
  where
    last : (is_same a y ≡ true) ⊎ (false ≡ true) → a ≡ y
    last (inl s) = same_literal a y s
    last (inr s) = absurd (true≢false (sym s))

    at : (is_same a x ≡ true) ⊎ (has (y ∷ []) a ≡ true) → (a ≡ x) ⊎ (a ≡ y)
    at (inl s) = inl (same_literal a x s)
    at (inr s) = inr (last (or_cases (is_same a y) false s))

self-differs : (a b : Literal) → a ≡ b → Different a b → ⊥
self-differs a b e d = true≢false (sym (eq-eqb a.variable b.variable (ap (λ l. l.variable) e)) ∙ d)

exactly : (lits : List Literal) (a b : Literal) → is_pair lits ≡ true → has lits a ≡ true → has lits b ≡ true → Different a b → (lits ≡ a ∷ b ∷ []) ⊎ (lits ≡ b ∷ a ∷ [])
exactly lits a b p i j d =
    let q = binary-lits lits p in
    at q.0 q.1 q.2 (one-of q.0 q.1 a (subst (λ z. has z a ≡ true) q.2 i)) (one-of q.0 q.1 b (subst (λ z. has z b ≡ true) q.2 j))
  where
    at : (x y : Literal) → lits ≡ x ∷ y ∷ [] → (a ≡ x) ⊎ (a ≡ y) → (b ≡ x) ⊎ (b ≡ y) → (lits ≡ a ∷ b ∷ []) ⊎ (lits ≡ b ∷ a ∷ [])
    at x y e (inl s) (inl r) = absurd (self-differs a b (s ∙ sym r) d)
    at x y e (inl s) (inr r) = inl (e ∙ ap₂ (λ u v. u ∷ v ∷ []) (sym s) (sym r))
    at x y e (inr s) (inl r) = inr (e ∙ ap₂ (λ u v. u ∷ v ∷ []) (sym r) (sym s))
    at x y e (inr s) (inr r) = absurd (self-differs a b (s ∙ sym r) d)

-- what joins is a clique
abbrev Clique : List Bounded → List Literal → Type 0
Clique cs group = (a b : Literal) → has group a ≡ true → has group b ≡ true → Different a b → has_pair cs a b ≡ true

pair-turned : (cs : List Bounded) (a b : Literal) → has_pair cs a b ≡ true → has_pair cs b a ≡ true
pair-turned [] a b e = e
pair-turned (c ∷ cs) a b e = at (or_cases (is_pair_of a b c) (has_pair cs a b) e) (λ h. pair-turned cs a b h)
  where
    at : (is_pair_of a b c ≡ true) ⊎ (has_pair cs a b ≡ true) → (has_pair cs a b ≡ true → has_pair cs b a ≡ true) → has_pair (c ∷ cs) b a ≡ true
    at (inl s) more =
        let p = and_parts (is_binary c) (has c.lits a && has c.lits b) s in
        let q = and_parts (has c.lits a) (has c.lits b) p.1 in
        or_left (is_pair_of b a c) (has_pair cs b a) (and_from (is_binary c) (has c.lits b && has c.lits a) p.0 (and_from (has c.lits b) (has c.lits a) q.1 q.0))
    at (inr s) more = or_right (is_pair_of b a c) (has_pair cs b a) (more s)

has-end : (xs : List Literal) (l a : Literal) → has (xs ++ l ∷ []) a ≡ true → (has xs a ≡ true) ⊎ (a ≡ l)
has-end [] l a e = at (or_cases (is_same a l) false e)
  where
    at : (is_same a l ≡ true) ⊎ (false ≡ true) → (false ≡ true) ⊎ (a ≡ l)
    at (inl s) = inr (same_literal a l s)
    at (inr s) = inl s
has-end (x ∷ xs) l a e = at (or_cases (is_same a x) (has (xs ++ l ∷ []) a) e) (λ h. has-end xs l a h)
  where
    at : (is_same a x ≡ true) ⊎ (has (xs ++ l ∷ []) a ≡ true) → (has (xs ++ l ∷ []) a ≡ true → (has xs a ≡ true) ⊎ (a ≡ l)) → (has (x ∷ xs) a ≡ true) ⊎ (a ≡ l)
    at (inl s) more = inl (or_left (is_same a x) (has xs a) s)
    at (inr s) more = last (more s)
      where
        last : (has xs a ≡ true) ⊎ (a ≡ l) → (has (x ∷ xs) a ≡ true) ⊎ (a ≡ l)
        last (inl r) = inl (or_right (is_same a x) (has xs a) r)
        last (inr r) = inr r

all-of : (p : Literal → Bool) (xs : List Literal) → list_all p xs ≡ true → AllByRecursion (λ x. p x ≡ true) xs
all-of p [] e = tt
all-of p (x ∷ xs) e = let q = and_parts (p x) (list_all p xs) e in (q.0, all-of p xs q.1)

clique-more : (cs : List Bounded) (group : List Literal) (l : Literal) → Clique cs group → joins cs group l ≡ true → Clique cs (group ++ l ∷ [])
clique-more cs group l clique e a b i j d = at (has-end group l a i) (has-end group l b j)
  where
    with : (x : Literal) → has group x ≡ true → has_pair cs l x ≡ true
    with x i =
        let p = and_parts (not (names group l.variable)) (nat_lt (length group) 256 && list_all (has_pair cs l) group) e in
        let q = and_parts (nat_lt (length group) 256) (list_all (has_pair cs l) group) p.1 in
        All-has (λ m. has_pair cs l m ≡ true) group x (all-of (has_pair cs l) group q.1) i

    at : (has group a ≡ true) ⊎ (a ≡ l) → (has group b ≡ true) ⊎ (b ≡ l) → has_pair cs a b ≡ true
    at (inl s) (inl r) = clique a b s r d
    at (inl s) (inr r) = subst (λ z. has_pair cs a z ≡ true) (sym r) (pair-turned cs l a (with a s))
    at (inr s) (inl r) = subst (λ z. has_pair cs z b ≡ true) (sym s) (with b r)
    at (inr s) (inr r) = absurd (self-differs a b (s ∙ sym r) d)

clique-joined : (cs : List Bounded) (group ls : List Literal) → Clique cs group → Clique cs (joined cs group ls)
clique-joined cs group [] clique = clique
clique-joined cs group (l ∷ ls) clique = at (joins cs group l) refl (λ e. clique-joined cs (group ++ l ∷ []) ls (clique-more cs group l clique e)) (clique-joined cs group ls clique)
  where
    at : (t : Bool) → joins cs group l ≡ t → (joins cs group l ≡ true → Clique cs (joined cs (group ++ l ∷ []) ls)) → Clique cs (joined cs group ls) → Clique cs (joined cs (cond (joins cs group l) (group ++ l ∷ []) group) ls)
    at true e on off = subst (λ t. Clique cs (joined cs (cond t (group ++ l ∷ []) group) ls)) (sym e) (on e)
    at false e on off = subst (λ t. Clique cs (joined cs (cond t (group ++ l ∷ []) group) ls)) (sym e) off

-- what holds of the start and of each candidate holds of all that joined
all-end : (P : Literal → Type 0) (xs : List Literal) (l : Literal) → AllByRecursion P xs → P l → AllByRecursion P (xs ++ l ∷ [])
all-end P [] l a b = (b, tt)
all-end P (x ∷ xs) l a b = (a.0, all-end P xs l a.1 b)

all-of-joined : (P : Literal → Type 0) (cs : List Bounded) (group ls : List Literal) → AllByRecursion P group → AllByRecursion P ls → AllByRecursion P (joined cs group ls)
all-of-joined P cs group [] a b = a
all-of-joined P cs group (l ∷ ls) a b = at (joins cs group l) (all-of-joined P cs (group ++ l ∷ []) ls (all-end P group l a b.0) b.1) (all-of-joined P cs group ls a b.1)
  where
    at : (t : Bool) → AllByRecursion P (joined cs (group ++ l ∷ []) ls) → AllByRecursion P (joined cs group ls) → AllByRecursion P (joined cs (cond t (group ++ l ∷ []) group) ls)
    at true on off = on
    at false on off = off

candidates-known : (vars from n : ℕ) → 1 ≤ from → from + n ≤ vars + 1 → AllByRecursion (IsKnown vars) (flat_map (λ v. record { variable = v; positive = true } ∷ record { variable = v; positive = false } ∷ []) (range_with_len from n))
candidates-known vars from zero low high = tt
candidates-known vars from (suc n) low high =
    let k : (1 ≤ from) × (from ≤ vars) = (low, omega (arith, high)) in
    (k, (k, candidates-known vars (from + 1) n (omega (arith, low)) (omega (arith, high))))

-- the constraint of an id is one of the list
abbrev value-or : Bounded → Option Bounded → Bounded
value-or c None = c
value-or c (Some d) = d

pub Some-inj : (a c : Bounded) → Some a ≡ Some c → a ≡ c
Some-inj a c e = ap (value-or a) e

found-any : (p : Bounded → Bool) (ps : List Numbered) (id : ℕ) (c : Bounded) → constraint_at ps id ≡ Some c → p c ≡ true → list_any p (constraints_of ps) ≡ true
found-any p [] id c e h = absurd (none e)
  where
    none : None ≡ Some c → ⊥
    none e = cc e
found-any p (q ∷ ps) id c e h = at (q.id == id) e (λ e. found-any p ps id c e h)
  where
    at : (t : Bool) → cond t (Some q.constraint) (constraint_at ps id) ≡ Some c → (constraint_at ps id ≡ Some c → list_any p (constraints_of ps) ≡ true) → list_any p (constraints_of (q ∷ ps)) ≡ true
    at true e more = or_left (p q.constraint) (list_any p (constraints_of ps)) (ap p (Some-inj q.constraint c e) ∙ h)
    at false e more = or_right (p q.constraint) (list_any p (constraints_of ps)) (more e)

found-has : (P : Bounded → Type 0) (ps : List Numbered) (id : ℕ) (c : Bounded) → constraint_at ps id ≡ Some c → AllByRecursion P (constraints_of ps) → P c
found-has P [] id c e h = absurd (none e)
  where
    none : None ≡ Some c → ⊥
    none e = cc e
found-has P (q ∷ ps) id c e h = at (q.id == id) e (λ e. found-has P ps id c e h.1)
  where
    at : (t : Bool) → cond t (Some q.constraint) (constraint_at ps id) ≡ Some c → (constraint_at ps id ≡ Some c → P c) → P c
    at true e more = subst P (Some-inj q.constraint c e) h.0
    at false e more = more e

-- a clause of two literals of the list is covered by it
covered-of : (border : List Literal) (c : Bounded) (a b : Literal) → has border a ≡ true → has border b ≡ true → Different a b → is_pair_of a b c ≡ true → is_covered border c ≡ true
covered-of border c a b i j d e =
    let p = and_parts (is_binary c) (has c.lits a && has c.lits b) e in
    let q = and_parts (has c.lits a) (has c.lits b) p.1 in
    let r = and_parts (is_clause c) (is_pair c.lits) p.0 in
    and_from (is_binary c) (list_all (has border) c.lits) p.0 (at (exactly c.lits a b r.1 q.0 q.1 d))
  where
    two : (x y : Literal) → has border x ≡ true → has border y ≡ true → list_all (has border) (x ∷ y ∷ []) ≡ true
    two x y f g = and_from (has border x) (has border y && true) f (and_from (has border y) true g refl)

    at : (c.lits ≡ a ∷ b ∷ []) ⊎ (c.lits ≡ b ∷ a ∷ []) → list_all (has border) c.lits ≡ true
    at (inl s) = ap (list_all (has border)) s ∙ two a b i j
    at (inr s) = ap (list_all (has border)) s ∙ two b a j i

chosen-any : (p test : Bounded → Bool) (ps : List Numbered) → ((c : Bounded) → p c ≡ true → test c ≡ true) → list_any p (constraints_of ps) ≡ true → list_any p (constraints_of (chosen test ps)) ≡ true
chosen-any p test [] f e = e
chosen-any p test (q ∷ ps) f e = at (or_cases (p q.constraint) (list_any p (constraints_of ps)) e) (λ h. chosen-any p test ps f h)
  where
    here : p q.constraint ≡ true → list_any p (constraints_of (chosen test (q ∷ ps))) ≡ true
    here h = ap (λ z. list_any p (constraints_of z)) (filter-yes (λ r. test r.constraint) q ps (f q.constraint h)) ∙ or_left (p q.constraint) (list_any p (constraints_of (chosen test ps))) h

    later : list_any p (constraints_of (chosen test ps)) ≡ true → (t : Bool) → test q.constraint ≡ t → list_any p (constraints_of (chosen test (q ∷ ps))) ≡ true
    later h true s = ap (λ z. list_any p (constraints_of z)) (filter-yes (λ r. test r.constraint) q ps s) ∙ or_right (p q.constraint) (list_any p (constraints_of (chosen test ps))) h
    later h false s = ap (λ z. list_any p (constraints_of z)) (filter-no (λ r. test r.constraint) q ps s) ∙ h

    at : (p q.constraint ≡ true) ⊎ (list_any p (constraints_of ps) ≡ true) → (list_any p (constraints_of ps) ≡ true → list_any p (constraints_of (chosen test ps)) ≡ true) → list_any p (constraints_of (chosen test (q ∷ ps))) ≡ true
    at (inl h) more = here h
    at (inr h) more = later (more h) (test q.constraint) refl

some-one : (p : Bounded → Bool) (P : Bounded → Type 0) (cs : List Bounded) → list_any p cs ≡ true → AllByRecursion P cs → (c : Bounded) × (p c ≡ true) × P c
some-one p P [] e h = absurd (true≢false (sym e))
some-one p P (c ∷ cs) e h = at (or_cases (p c) (list_any p cs) e) (λ k. some-one p P cs k h.1)
  where
    at : (p c ≡ true) ⊎ (list_any p cs ≡ true) → (list_any p cs ≡ true → (d : Bounded) × (p d ≡ true) × P d) → (d : Bounded) × (p d ≡ true) × P d
    at (inl k) more = (c, k, h.0)
    at (inr k) more = more k

either-true : (w : ℕ → Bool) (c : Bounded) (a b : Literal) → Different a b → is_pair_of a b c ≡ true → clause_function c w ≡ true → (is_true_by w a || is_true_by w b) ≡ true
either-true w c a b d e h =
    let p = and_parts (is_binary c) (has c.lits a && has c.lits b) e in
    let q = and_parts (has c.lits a) (has c.lits b) p.1 in
    let r = and_parts (is_clause c) (is_pair c.lits) p.0 in
    at (exactly c.lits a b r.1 q.0 q.1 d)
  where
    two : (x y : Bool) → (x || (y || false)) ≡ true → (x || y) ≡ true
    two true y h = refl
    two false true h = refl
    two false false h = h

    swap : (x y : Bool) → (x || (y || false)) ≡ true → (y || x) ≡ true
    swap true true h = refl
    swap true false h = refl
    swap false true h = refl
    swap false false h = h

    at : (c.lits ≡ a ∷ b ∷ []) ⊎ (c.lits ≡ b ∷ a ∷ []) → (is_true_by w a || is_true_by w b) ≡ true
    at (inl s) = two (is_true_by w a) (is_true_by w b) (sym (ap (list_any (is_true_by w)) s) ∙ h)
    at (inr s) = swap (is_true_by w b) (is_true_by w a) (sym (ap (list_any (is_true_by w)) s) ∙ h)

-- where all but one are true, each clause of two has a true one
covered-true : (v : ℕ → Bool) (border : List Literal) (c : Bounded) → length border ≤ places (is_true_by v) border + 1 → is_covered border c ≡ true → clause_function c v ≡ true
covered-true v border c many e =
    let p = and_parts (is_binary c) (list_all (has border) c.lits) e in
    let r = and_parts (is_clause c) (is_pair c.lits) p.0 in
    let q = binary-lits c.lits r.1 in
    let k = subst (λ z. list_all (has border) z ≡ true) q.2 p.1 in
    let m = and_parts (has border q.0) (has border q.1 && true) k in
    let n = and_parts (has border q.1) true m.1 in
    ap (list_any (is_true_by v)) q.2 ∙ at q.0 q.1 q.3 m.0 n.0 (is_true_by v q.0) (is_true_by v q.1) refl refl
  where
    at : (x y : Literal) → Different x y → has border x ≡ true → has border y ≡ true → (s t : Bool) → is_true_by v x ≡ s → is_true_by v y ≡ t → (is_true_by v x || (is_true_by v y || false)) ≡ true
    at x y d i j true t f g = or_left (is_true_by v x) (is_true_by v y || false) f
    at x y d i j false true f g = or_right (is_true_by v x) (is_true_by v y || false) (or_left (is_true_by v y) false g)
    at x y d i j false false f g = absurd (let low = miss-two (is_true_by v) border x y i j d f g in omega (arith, low, many))

places-agree : (v w : ℕ → Bool) → AgreeBut [] v w → (lits : List Literal) → places (is_true_by w) lits ≡ places (is_true_by v) lits
places-agree v w agree [] = refl
places-agree v w agree (l ∷ lits) = ap₂ {C = ℕ} (λ t n. cond t 1 0 + n) (ap (λ b. cond l.positive b (not b)) (agree l.variable refl)) (places-agree v w agree lits)

-- ---- any two literals of the border have their clause

pub pair-each : (s : Stored) (start : ℕ) (g : Gathered) (ids : List ℕ) → IsPairGuess s start g ids
    → (a b : Literal) → has g.border a ≡ true → has g.border b ≡ true → Different a b → has_pair g.taken a b ≡ true
pair-each s start g ids h a b i j d =
    let cs = constraints_of s.live in
    let clique : Clique cs (pair_group s h.first) = clique-joined cs h.first.lits (candidates s.vars)
    (λ a b i j d. found-any (is_pair_of a b) s.live start h.first h.there (and_from (is_binary h.first) (has h.first.lits a && has h.first.lits b) h.binary (and_from (has h.first.lits a) (has h.first.lits b) i j))) in
    let pair = clique a b (sym (h.members a) ∙ i) (sym (h.members b) ∙ j) d in
    ap (λ cs. has_pair cs a b) h.taken ∙ chosen-any (is_pair_of a b) (is_covered g.border) s.live (λ c e. covered-of g.border c a b i j d e) pair

pub pair-covered : (s : Stored) (start : ℕ) (g : Gathered) (ids : List ℕ) → IsPairGuess s start g ids → AllByRecursion (λ c. is_covered g.border c ≡ true) g.taken
pair-covered s start g ids h = subst (AllByRecursion (λ c. is_covered g.border c ≡ true)) (sym h.taken) (go (is_covered g.border) s.live)

pub pair-different : (s : Stored) (start : ℕ) (g : Gathered) (ids : List ℕ) → IsPairGuess s start g ids → AreDifferent g.border
pair-different s start g ids h = rises-different g.border (rises (map (λ l. l.variable) g.border) h.ascends)

pub pair-cardinal : (s : Stored) (start bound : ℕ) (g : Gathered) (ids : List ℕ) → IsPairGuess s start g ids → bound + 1 ≡ length g.border → IsCardinal g bound
pair-cardinal s start bound g ids h is = record { within = omega (arith, is); counts = λ v. (down v, up v) }
  where
    two : (w : ℕ → Bool) → AllByRecursion (λ c. clause_function c w ≡ true) g.taken → AnyTwo (is_true_by w) g.border
    two w hold a b i j d =
        let q = some-one (is_pair_of a b) (λ c. clause_function c w ≡ true) g.taken (pair-each s start g ids h a b i j d) hold in
        either-true w q.0 a b d q.1 q.2

    down : (v : ℕ → Bool) → CanHold g v → bound ≤ places (is_true_by v) g.border
    down v (w, agree, hold) =
        let low = all-but-one (is_true_by w) g.border (pair-different s start g ids h) (two w hold) in
        let same = places-agree v w (subst (λ z. AgreeBut z v w) h.aux agree) g.border in
        omega (arith, low, same, is)

    up : (v : ℕ → Bool) → bound ≤ places (is_true_by v) g.border → CanHold g v
    up v low = (
      v,
      (λ x e. refl),
      all-one (λ c. is_covered g.border c ≡ true) (λ c. clause_function c v ≡ true)
          (λ c e. covered-true v g.border c (omega (arith, low, is)) e) g.taken (pair-covered s start g ids h),
    )

none-among : (aux : List ℕ) → aux ≡ [] → (lits : List Literal) → AllByRecursion (λ l. is_among aux l.variable ≡ false) lits
none-among aux e [] = tt
none-among aux e (l ∷ lits) = (ap (λ z. is_among z l.variable) e, none-among aux e lits)

never-among : (aux : List ℕ) (v : ℕ) → aux ≡ [] → is_among aux v ≡ true → ⊥
never-among aux v e i = true≢false (sym i ∙ ap (λ z. is_among z v) e)

-- ---- each literal of the border stands in a clause, as it has a partner there

another : (lits : List Literal) → AreDifferent lits → 3 ≤ length lits → (l : Literal) → (m : Literal) × (has lits m ≡ true) × Different l m
another [] d low l = absurd (omega (arith, low))
another (a ∷ []) d low l = absurd (omega (arith, low))
another (a ∷ b ∷ more) d low l = at (l.variable == a.variable) refl
  where
    at : (t : Bool) → (l.variable == a.variable) ≡ t → (m : Literal) × (has (a ∷ b ∷ more) m ≡ true) × Different l m
    at false e = (a, or_left (is_same a a) (has (b ∷ more) a) (same-refl a), e)
    at true e = (
      b,
      or_right (is_same b a) (has (b ∷ more) b) (or_left (is_same b b) (has more b) (same-refl b)),
      ne_eqb l.variable b.variable (λ s. true≢false (sym (eq-eqb b.variable a.variable (sym s ∙ eqb-true l.variable a.variable e)) ∙ (or_parts (b.variable == a.variable) (names more a.variable) d.0).0)),
    )

pair-named : (cs : List Bounded) (a b : Literal) → has_pair cs a b ≡ true → named_in cs a.variable ≡ true
pair-named cs a b e = named-from cs (is_pair_of a b) a.variable (λ c k. at c k) e
  where
    at : (c : Bounded) → is_pair_of a b c ≡ true → names (named c) a.variable ≡ true
    at c k =
        let p = and_parts (is_binary c) (has c.lits a && has c.lits b) k in
        let q = and_parts (has c.lits a) (has c.lits b) p.1 in
        has-names (named c) a (has-right (option_to_list c.guard) c.lits a q.0)

pair-some : (s : Stored) (start : ℕ) (g : Gathered) (ids : List ℕ) → IsPairGuess s start g ids → 1 ≤ length g.taken
pair-some s start g ids h = at g.border refl
  where
    at : (lits : List Literal) → g.border ≡ lits → 1 ≤ length g.taken
    at [] e = absurd (let low = subst (λ z. 3 ≤ length z) e h.three in omega (arith, low))
    at (l ∷ lits) e =
        let m = another g.border (pair-different s start g ids h) h.three l in
        any-some (is_pair_of l m.0) g.taken (pair-each s start g ids h l m.0 (ap (λ z. has z l) e ∙ (own-has (l ∷ lits)).0) m.1 m.2)

-- its border is known
pub pair-known : (s : Stored) (start : ℕ) (g : Gathered) (ids : List ℕ) → IsFormula (problem_of s) → IsPairGuess s start g ids → AllByRecursion (IsKnown s.vars) g.border
pair-known s start g ids fits h =
    let all_known = all-of-joined (IsKnown s.vars) (constraints_of s.live) h.first.lits (candidates s.vars) (found-has (Fits s.vars) s.live start h.first h.there fits).within.lits
    (candidates-known s.vars 1 s.vars (omega arith) (omega arith)) in
    all-one (λ l. has g.border l ≡ true) (IsKnown s.vars) (λ l e. All-has (IsKnown s.vars) (pair_group s h.first) l all_known (sym (h.members l) ∙ e)) g.border (own-has g.border)

pub pair-step : (s : Stored) (start : ℕ) (x : Found) (t : Stored) → IsFormula (problem_of s) → IsPairTaken s start x t → IsStep s x t
pair-step s start x t fits h =
    let g = x.group in
    let cs = constraints_of s.live in
    let different = pair-different s start g x.ids h.guess in
    record {
      test = is_covered g.border;
      cardinal = pair-cardinal s start x.bound g x.ids h.guess h.bound;
      taken = h.guess.taken;
      clauses = all-one (λ c. is_covered g.border c ≡ true) (λ c. is_clause c ≡ true)
          (λ c e. (and_parts (is_clause c) (is_pair c.lits) (and_parts (is_binary c) (list_all (has g.border) c.lits) e).0).0) (constraints_of (chosen (is_covered g.border) s.live)) (go (is_covered g.border) s.live);
      apart = λ c e. none-among g.aux h.guess.aux (named c);
      known = pair-known s start g x.ids fits h.guess;
      ascends = h.guess.ascends;
      different = different;
      next = h.next;
      ids = h.guess.ids_are;
      some = pair-some s start g x.ids h.guess;
      low = omega (arith, h.bound, h.guess.three);
      high = omega (arith, h.bound);
      aux_free = λ v i. absurd (never-among g.aux v h.guess.aux i);
      aux_named = λ v i. absurd (never-among g.aux v h.guess.aux i);
      border_named = all-one (λ l. has g.border l ≡ true) (λ l. named_in cs l.variable ≡ true)
          (λ l e.
          let m = another g.border different h.guess.three l in
          any-kept (λ c. names (named c) l.variable) (is_covered g.border) s.live
          (ap (λ z. named_in z l.variable) (sym h.guess.taken) ∙ pair-named g.taken l m.0 (pair-each s start g x.ids h.guess l m.0 e m.1 m.2)))
          g.border (own-has g.border);
      border_apart = none-among g.aux h.guess.aux g.border;
    }
