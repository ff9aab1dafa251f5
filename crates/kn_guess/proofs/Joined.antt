-- Which candidates need to be tried: those that are partners of one member, whichever. So those that join are
-- found by cutting what is left to the partners of each literal that joins.
use Rattle.std.proofs.Common.{◌≡◌, ℕ, suc, ◌+◌, ◌*◌, ◌≤◌, ◌<◌, ◌==◌, Bool, true, false, not, cond, ◌&&◌, ◌||◌, List, [], ◌∷◌, ◌++◌, length, filter, get_or, nat_lt, refl, sym, ap, ap₂, subst, ◌∙◌, inl, inr, arith, true≢false}
use Rattle.std.specs.Prelude.{◌⊎◌, zero}
use Rattle.std.specs.List.{list_any, list_all, flat_map, range_with_len, AllByRecursion}
use Rattle.std.specs.List.Sorted.{IsStrictlyIncreasing}
use Rattle.std.proofs.lemmas.Bool.{or_left, or_right, or_cases, and_parts, eqb-true, eqb-false, ne_eqb, cond-true, cond-false, lt-ltb, ltb-true, and_from, not-true}
use Rattle.kn_logic.specs.Literals.{Literal, is_same, has, names, IsKnown, AreKnown}
use Rattle.kn_logic.specs.Constraints.{Bounded}
use Rattle.kn_logic.specs.Groups.{is_pair, has_pair}
use Rattle.kn_logic.proofs.Public.{same_literal, same-refl, All-push, has-names}
use Rattle.kn_store.specs.Stores.{Numbered, Stored, constraints_of}
use Rattle.kn_store.proofs.Public.{all-one, all-two, all-filter, all-pass, from-map, to-map, Rises, rises, increasing}
use Rattle.kn_guess.specs.Guesses.{joins, joined, candidates}
use Rattle.kn_guess.specs.Tables.{Paired, PairTable, rank, row, lits_of, ranks, is_partner, is_left, IsPairTable}
use Rattle.kn_guess.specs.Pairing.{is_common, AreLeft}
use Rattle.kn_guess.proofs.Elements.{bool-same, any-with, each-any, any-map, any-filter}

-- lists and filters
pub filter-yes : {X : Type 0} (f : X → Bool) (x : X) (xs : List X) → f x ≡ true → filter f (x ∷ xs) ≡ x ∷ filter f xs
filter-yes f x xs e = cond-true (f x) (x ∷ filter f xs) (filter f xs) e

pub filter-no : {X : Type 0} (f : X → Bool) (x : X) (xs : List X) → f x ≡ false → filter f (x ∷ xs) ≡ filter f xs
filter-no f x xs e = cond-false (f x) (x ∷ filter f xs) (filter f xs) e

pub filter-same : {X : Type 0} (f g : X → Bool) (xs : List X) → AllByRecursion (λ x. f x ≡ g x) xs → filter f xs ≡ filter g xs
filter-same f g [] h = refl
filter-same f g (x ∷ xs) h = ap₂ (λ t z. cond t (x ∷ z) z) h.0 (filter-same f g xs h.1)

pub filter-all : {X : Type 0} (f : X → Bool) (xs : List X) → AllByRecursion (λ x. f x ≡ true) xs → filter f xs ≡ xs
filter-all f [] h = refl
filter-all f (x ∷ xs) h = filter-yes f x xs h.0 ∙ ap (λ z. x ∷ z) (filter-all f xs h.1)

pub all-of : {X : Type 0} (P : X → Type 0) → ((x : X) → P x) → (xs : List X) → AllByRecursion P xs
all-of P f [] = tt
all-of P f (x ∷ xs) = (f x, all-of P f xs)

pub rises-some : (test : Paired → Bool) (ps : List Paired) → Rises (ranks ps) → Rises (ranks (filter test ps))
rises-some test [] h = tt
rises-some test (p ∷ ps) h = at (test p) (rises-some test ps h.1)
  where
    at : (t : Bool) → Rises (ranks (filter test ps)) → Rises (ranks (cond t (p ∷ filter test ps) (filter test ps)))
    at true more = (to-map (λ q. rank q.lit) (λ y. rank p.lit < y) (filter test ps) (all-filter (λ q. rank p.lit < rank q.lit) test ps (from-map (λ q. rank q.lit) (λ y. rank p.lit < y) ps h.0)), more)
    at false more = more

-- a literal of a list
pub own-literal : (lits : List Literal) → AllByRecursion (λ l. has lits l ≡ true) lits
own-literal lits = all-one (λ l. (f : Literal → Bool) → f l ≡ true → list_any f lits ≡ true) (λ l. has lits l ≡ true) (λ l h. h (is_same l) (same-refl l)) lits (each-any lits)

pub has-end : (lits : List Literal) (l x : Literal) → has lits x ≡ true → has (lits ++ l ∷ []) x ≡ true
has-end [] l x e = absurd (true≢false (sym e))
has-end (m ∷ lits) l x e = at (or_cases (is_same x m) (has lits x) e) (λ h. has-end lits l x h)
  where
    at : (is_same x m ≡ true) ⊎ (has lits x ≡ true) → (has lits x ≡ true → has (lits ++ l ∷ []) x ≡ true) → (is_same x m || has (lits ++ l ∷ []) x) ≡ true
    at (inl h) more = or_left (is_same x m) (has (lits ++ l ∷ []) x) h
    at (inr h) more = or_right (is_same x m) (has (lits ++ l ∷ []) x) (more h)

pub has-last : (lits : List Literal) (l : Literal) → has (lits ++ l ∷ []) l ≡ true
has-last [] l = or_left (is_same l l) false (same-refl l)
has-last (m ∷ lits) l = or_right (is_same l m) (has (lits ++ l ∷ []) l) (has-last lits l)

-- the candidates, from a variable on
abbrev pub cands : ℕ → ℕ → List Literal
cands from n = flat_map (λ v. record { variable = v; positive = true } ∷ record { variable = v; positive = false } ∷ []) (range_with_len from n)

abbrev pub of-variable : ℕ → Bool → Literal
of-variable v positive = record { variable = v; positive = positive }

pub cands-more : (from n : ℕ) → cands from (suc n) ≡ cands from n ++ of-variable (from + n) true ∷ of-variable (from + n) false ∷ []
cands-more from zero = ap (λ v. of-variable v true ∷ of-variable v false ∷ []) (let e : from ≡ from + 0 = omega arith in e)
cands-more from (suc n) = ap (λ z. of-variable from true ∷ of-variable from false ∷ z) (cands-more (from + 1) n
    ∙ ap (λ v. cands (from + 1) n ++ of-variable v true ∷ of-variable v false ∷ []) (let e : from + 1 + n ≡ from + suc n = omega arith in e))

pub cands-known : (vars from n : ℕ) → 1 ≤ from → from + n ≤ vars + 1 → AllByRecursion (IsKnown vars) (cands from n)
cands-known vars from zero low high = tt
cands-known vars from (suc n) low high =
    let k : (1 ≤ from) × (from ≤ vars) = (low, omega (arith, high)) in
    (k, (k, cands-known vars (from + 1) n (omega (arith, low)) (omega (arith, high))))

cands-has : (from n v : ℕ) (b : Bool) → from ≤ v → v < from + n → has (cands from n) (of-variable v b) ≡ true
cands-has from zero v b low high = absurd (omega (arith, low, high))
cands-has from (suc n) v b low high = at (from == v) refl b (λ d. cands-has (from + 1) n v b (omega (arith, low, d)) (omega (arith, high)))
  where
    at : (t : Bool) → (from == v) ≡ t → (b : Bool) → ((from ≡ v → ⊥) → has (cands (from + 1) n) (of-variable v b) ≡ true) → has (cands from (suc n)) (of-variable v b) ≡ true
    at true e true more = or_left (is_same (of-variable v true) (of-variable from true)) _ (ap (λ z. is_same (of-variable v true) (of-variable z true)) (eqb-true from v e) ∙ same-refl (of-variable v true))
    at true e false more = or_right (is_same (of-variable v false) (of-variable from true)) _
        (or_left (is_same (of-variable v false) (of-variable from false)) _ (ap (λ z. is_same (of-variable v false) (of-variable z false)) (eqb-true from v e) ∙ same-refl (of-variable v false)))
    at false e b more = or_right (is_same (of-variable v b) (of-variable from true)) _ (or_right (is_same (of-variable v b) (of-variable from false)) _ (more (eqb-false from v e)))

pub candidate-has : (vars : ℕ) (l : Literal) → IsKnown vars l → has (candidates vars) l ≡ true
candidate-has vars l known = cands-has 1 vars l.variable l.positive known.0 (omega (arith, known.1))

pub candidates-known : (vars : ℕ) → AllByRecursion (IsKnown vars) (candidates vars)
candidates-known vars = cands-known vars 1 vars (omega arith) (omega arith)

-- what is no partner of a member does not join
not-all : (cs : List Bounded) (l m : Literal) (group : List Literal) → has group m ≡ true → has_pair cs l m ≡ false → list_all (has_pair cs l) group ≡ false
not-all cs l m [] i e = absurd (true≢false (sym i))
not-all cs l m (x ∷ xs) i e = at (or_cases (is_same m x) (has xs m) i) (λ h. not-all cs l m xs h e)
  where
    left-false : (a b : Bool) → a ≡ false → (a && b) ≡ false
    left-false a b e = ap (λ t. t && b) e

    right-false : (a b : Bool) → b ≡ false → (a && b) ≡ false
    right-false true b e = e
    right-false false b e = refl

    at : (is_same m x ≡ true) ⊎ (has xs m ≡ true) → (has xs m ≡ true → list_all (has_pair cs l) xs ≡ false) → (has_pair cs l x && list_all (has_pair cs l) xs) ≡ false
    at (inl s) more = left-false (has_pair cs l x) (list_all (has_pair cs l) xs) (ap (has_pair cs l) (sym (same_literal m x s)) ∙ e)
    at (inr s) more = right-false (has_pair cs l x) (list_all (has_pair cs l) xs) (more s)

no-join : (cs : List Bounded) (l m : Literal) (group : List Literal) → has group m ≡ true → is_partner cs m l ≡ false → joins cs group l ≡ false
no-join cs l m group i e = at (l.variable == m.variable) refl e
  where
    first : (a b : Bool) → a ≡ true → (not a && b) ≡ false
    first a b h = ap (λ t. not t && b) h

    last : (a b c : Bool) → c ≡ false → (a && (b && c)) ≡ false
    last false b c e = refl
    last true false c e = refl
    last true true c e = e

    at : (t : Bool) → (l.variable == m.variable) ≡ t → (not t && has_pair cs l m) ≡ false → joins cs group l ≡ false
    at true s e = first (names group l.variable) (nat_lt (length group) 256 && list_all (has_pair cs l) group) (ap (names group) (eqb-true l.variable m.variable s) ∙ has-names group m i)
    at false s e = last (not (names group l.variable)) (nat_lt (length group) 256) (list_all (has_pair cs l) group) (not-all cs l m group i e)

pub joined-filter : (cs : List Bounded) (m : Literal) (group ls : List Literal) → has group m ≡ true → joined cs group ls ≡ joined cs group (filter (is_partner cs m) ls)
joined-filter cs m group [] i = refl
joined-filter cs m group (l ∷ ls) i = at (is_partner cs m l) refl (joined-filter cs m (group ++ l ∷ []) ls (has-end group l m i)) (joined-filter cs m group ls i)
  where
    rest : List Literal
    rest = filter (is_partner cs m) ls

    step : (t : Bool) → joined cs (group ++ l ∷ []) ls ≡ joined cs (group ++ l ∷ []) rest → joined cs group ls ≡ joined cs group rest
        → joined cs (cond t (group ++ l ∷ []) group) ls ≡ joined cs (cond t (group ++ l ∷ []) group) rest
    step true on off = on
    step false on off = off

    at : (s : Bool) → is_partner cs m l ≡ s → joined cs (group ++ l ∷ []) ls ≡ joined cs (group ++ l ∷ []) rest → joined cs group ls ≡ joined cs group rest
        → joined cs group (l ∷ ls) ≡ joined cs group (filter (is_partner cs m) (l ∷ ls))
    at true e on off = step (joins cs group l) on off ∙ sym (ap (joined cs group) (filter-yes (is_partner cs m) l ls e))
    at false e on off =
        ap (λ b. joined cs (cond b (group ++ l ∷ []) group) ls) (no-join cs l m group i e) ∙ off ∙ sym (ap (joined cs group) (filter-no (is_partner cs m) l ls e))

-- a full group takes no more
pub joined-full : (cs : List Bounded) (group ls : List Literal) → 256 ≤ length group → joined cs group ls ≡ group
joined-full cs group [] h = refl
joined-full cs group (l ∷ ls) h = ap (λ b. joined cs (cond b (group ++ l ∷ []) group) ls) (at (not (names group l.variable)) (nat_lt (length group) 256) (list_all (has_pair cs l) group) full) ∙ joined-full cs group ls h
  where
    full : nat_lt (length group) 256 ≡ false
    full = no-lt (nat_lt (length group) 256) refl
      where
        no-lt : (t : Bool) → nat_lt (length group) 256 ≡ t → nat_lt (length group) 256 ≡ false
        no-lt true e = absurd (let low = ltb-true (length group) 256 e in omega (arith, low, h))
        no-lt false e = e

    at : (a b c : Bool) → b ≡ false → (a && (b && c)) ≡ false
    at false b c e = refl
    at true b c e = ap (λ t. t && c) e

-- what is a partner of all members joins
partner-parts : (cs : List Bounded) (m l : Literal) → is_partner cs m l ≡ true → ((l.variable == m.variable) ≡ false) × (has_pair cs l m ≡ true)
partner-parts cs m l e = let q = and_parts (not (l.variable == m.variable)) (has_pair cs l m) e in (not-true (l.variable == m.variable) q.0, q.1)

no-name : (cs : List Bounded) (l : Literal) (group : List Literal) → AllByRecursion (λ m. is_partner cs m l ≡ true) group → names group l.variable ≡ false
no-name cs l [] h = refl
no-name cs l (m ∷ group) h =
    ap₂ (λ a b. a || b) (ne_eqb m.variable l.variable (λ e. eqb-false l.variable m.variable (partner-parts cs m l h.0).0 (sym e))) (no-name cs l group h.1)

all-pairs : (cs : List Bounded) (l : Literal) (group : List Literal) → AllByRecursion (λ m. is_partner cs m l ≡ true) group → list_all (has_pair cs l) group ≡ true
all-pairs cs l [] h = refl
all-pairs cs l (m ∷ group) h = and_from (has_pair cs l m) (list_all (has_pair cs l) group) (partner-parts cs m l h.0).1 (all-pairs cs l group h.1)

pub does-join : (cs : List Bounded) (l : Literal) (group : List Literal) → AllByRecursion (λ m. is_partner cs m l ≡ true) group → length group < 256 → joins cs group l ≡ true
does-join cs l group h low = and_from (not (names group l.variable)) (nat_lt (length group) 256 && list_all (has_pair cs l) group) (ap not (no-name cs l group h))
    (and_from (nat_lt (length group) 256) (list_all (has_pair cs l) group) (lt-ltb (length group) 256 low) (all-pairs cs l group h))

-- what is met of two rows
abbrev pub is_there : List Numbered → List Paired → Literal → Bool
is_there live ys l = list_any (λ y. is_same y.lit l && is_left live y) ys

lits-common : (live : List Numbered) (ys xs : List Paired) → lits_of (filter (is_common live ys) xs) ≡ filter (is_there live ys) (lits_of (filter (is_left live) xs))
lits-common live ys [] = refl
lits-common live ys (x ∷ xs) = at (is_left live x) (is_there live ys x.lit) refl (lits-common live ys xs)
  where
    rest : List Paired
    rest = filter (is_common live ys) xs

    others : List Paired
    others = filter (is_left live) xs

    at : (a b : Bool) → is_there live ys x.lit ≡ b → lits_of rest ≡ filter (is_there live ys) (lits_of others) → lits_of (cond (a && b) (x ∷ rest) rest) ≡ filter (is_there live ys) (lits_of (cond a (x ∷ others) others))
    at true true e more = ap (λ z. x.lit ∷ z) more ∙ sym (filter-yes (is_there live ys) x.lit (lits_of others) e)
    at true false e more = more ∙ sym (filter-no (is_there live ys) x.lit (lits_of others) e)
    at false b e more = more

same-turned : (a b : Literal) → is_same a b ≡ is_same b a
same-turned a b = bool-same (is_same a b) (is_same b a) (λ e. turn a b (same_literal a b e)) (λ e. turn b a (same_literal b a e))
  where
    turn : (a b : Literal) → a ≡ b → is_same b a ≡ true
    turn a b e = ap (is_same b) e ∙ same-refl b

there-is : (s : Stored) (table : PairTable) (m l : Literal) → IsPairTable s table → IsKnown s.vars m → IsKnown s.vars l → is_there s.live (row table m) l ≡ is_partner (constraints_of s.live) m l
there-is s table m l h known in' =
    let cs = constraints_of s.live in
    let ps = row table m in
    sym (any-filter (λ y. is_same y.lit l) (is_left s.live) ps)
    ∙ sym (any-map (λ y. y.lit) (λ k. is_same k l) (filter (is_left s.live) ps))
    ∙ ap (list_any (λ k. is_same k l)) (h.partners m known)
    ∙ any-filter (λ k. is_same k l) (is_partner cs m) (candidates s.vars)
    ∙ bool-same (list_any (λ k. is_same k l && is_partner cs m k) (candidates s.vars)) (is_partner cs m l) (forth cs) (back cs)
  where
    forth : (cs : List Bounded) → list_any (λ k. is_same k l && is_partner cs m k) (candidates s.vars) ≡ true → is_partner cs m l ≡ true
    forth cs e =
        let q = any-with (λ k. Unit {0}) (λ k. is_same k l && is_partner cs m k) (candidates s.vars) (all-of (λ k. Unit {0}) (λ k. tt) (candidates s.vars)) e in
        let both = and_parts (is_same q.0 l) (is_partner cs m q.0) q.1 in
        ap (is_partner cs m) (sym (same_literal q.0 l both.0)) ∙ both.1

    back : (cs : List Bounded) → is_partner cs m l ≡ true → list_any (λ k. is_same k l && is_partner cs m k) (candidates s.vars) ≡ true
    back cs e =
        let q = any-with (λ k. (f : Literal → Bool) → f k ≡ true → list_any f (candidates s.vars) ≡ true) (is_same l) (candidates s.vars) (each-any (candidates s.vars)) (candidate-has s.vars l in') in
        let same = same_literal l q.0 q.1 in
        q.2 (λ k. is_same k l && is_partner cs m k) (and_from (is_same q.0 l) (is_partner cs m q.0) (same-turned q.0 l ∙ q.1) (ap (is_partner cs m) (sym same) ∙ e))

-- what is left to be tried: partners of all literals that have joined
pub record IsRest (s : Stored) (first group : List Literal) (rest : List Paired) : Type 0 where
  pub ascend : Rises (ranks rest)
  pub known : AreKnown s.vars (lits_of rest)
  pub left : AreLeft s.live rest
  pub partners : AllByRecursion (λ x. AllByRecursion (λ m. is_partner (constraints_of s.live) m x.lit ≡ true) group) rest
  pub here : joined (constraints_of s.live) group (lits_of rest) ≡ joined (constraints_of s.live) first (candidates s.vars)

common-lits : (s : Stored) (table : PairTable) (m : Literal) (xs : List Paired) → IsPairTable s table → IsKnown s.vars m → AreKnown s.vars (lits_of (filter (is_left s.live) xs))
    → lits_of (filter (is_common s.live (row table m)) xs) ≡ filter (is_partner (constraints_of s.live) m) (lits_of (filter (is_left s.live) xs))
common-lits s table m xs h known lits = lits-common s.live (row table m) xs
    ∙ filter-same (is_there s.live (row table m)) (is_partner (constraints_of s.live) m) (lits_of (filter (is_left s.live) xs))
    (all-one (IsKnown s.vars) (λ l. is_there s.live (row table m) l ≡ is_partner (constraints_of s.live) m l) (λ l k. there-is s table m l h known k) (lits_of (filter (is_left s.live) xs)) lits)

common-left : (live : List Numbered) (ys xs : List Paired) → AreLeft live (filter (is_common live ys) xs)
common-left live ys xs = all-one (λ x. is_common live ys x ≡ true) (λ x. is_left live x ≡ true) (λ x e. (and_parts (is_left live x) (is_there live ys x.lit) e).0) (filter (is_common live ys) xs) (all-pass (is_common live ys) xs)

-- at the start: partners of both
pub rest-first : (s : Stored) (table : PairTable) (a b x y : Literal) → IsPairTable s table → IsKnown s.vars x → IsKnown s.vars y → ((a ≡ x) × (b ≡ y)) ⊎ ((a ≡ y) × (b ≡ x))
    → IsRest s (a ∷ b ∷ []) (a ∷ b ∷ []) (filter (is_common s.live (row table y)) (row table x))
rest-first s table a b x y h kx ky are =
    let cs = constraints_of s.live in
    let rest = filter (is_common s.live (row table y)) (row table x) in
    let met : lits_of rest ≡ filter (is_partner cs y) (filter (is_partner cs x) (candidates s.vars)) =
    common-lits s table y (row table x) h ky (subst (AreKnown s.vars) (sym (h.partners x kx)) (all-filter (IsKnown s.vars) (is_partner cs x) (candidates s.vars) (candidates-known s.vars)))
    ∙ ap (filter (is_partner cs y)) (h.partners x kx) in
    let both = all-two (λ l. is_partner cs y l ≡ true) (λ l. is_partner cs x l ≡ true) (λ l. (is_partner cs y l ≡ true) × (is_partner cs x l ≡ true)) (λ l p q. (p, q)) (lits_of rest)
    (subst (AllByRecursion (λ l. is_partner cs y l ≡ true)) (sym met) (all-pass (is_partner cs y) (filter (is_partner cs x) (candidates s.vars))))
    (subst (AllByRecursion (λ l. is_partner cs x l ≡ true)) (sym met) (all-filter (λ l. is_partner cs x l ≡ true) (is_partner cs y) (filter (is_partner cs x) (candidates s.vars)) (all-pass (is_partner cs x) (candidates s.vars)))) in
    record {
      ascend = rises-some (is_common s.live (row table y)) (row table x) (rises (ranks (row table x)) (h.ascend x kx));
      known = subst (AreKnown s.vars) (sym met) (all-filter (IsKnown s.vars) (is_partner cs y) (filter (is_partner cs x) (candidates s.vars)) (all-filter (IsKnown s.vars) (is_partner cs x) (candidates s.vars) (candidates-known s.vars)));
      left = common-left s.live (row table y) (row table x);
      partners = from-map (λ p. p.lit) (λ l. AllByRecursion (λ m. is_partner cs m l ≡ true) (a ∷ b ∷ [])) rest
          (all-one (λ l. (is_partner cs y l ≡ true) × (is_partner cs x l ≡ true)) (λ l. AllByRecursion (λ m. is_partner cs m l ≡ true) (a ∷ b ∷ [])) (λ l q. two cs l are q.0 q.1) (lits_of rest) both);
      here = ap (joined cs (a ∷ b ∷ [])) met
          ∙ sym (joined-filter cs y (a ∷ b ∷ []) (filter (is_partner cs x) (candidates s.vars)) (has-y are))
          ∙ sym (joined-filter cs x (a ∷ b ∷ []) (candidates s.vars) (has-x are));
    }
  where
    two : (cs : List Bounded) (l : Literal) → ((a ≡ x) × (b ≡ y)) ⊎ ((a ≡ y) × (b ≡ x)) → is_partner cs y l ≡ true → is_partner cs x l ≡ true → AllByRecursion (λ m. is_partner cs m l ≡ true) (a ∷ b ∷ [])
    two cs l (inl e) p q = (ap (λ m. is_partner cs m l) e.0 ∙ q, (ap (λ m. is_partner cs m l) e.1 ∙ p, tt))
    two cs l (inr e) p q = (ap (λ m. is_partner cs m l) e.0 ∙ p, (ap (λ m. is_partner cs m l) e.1 ∙ q, tt))

    has-a : has (a ∷ b ∷ []) a ≡ true
    has-a = or_left (is_same a a) (has (b ∷ []) a) (same-refl a)

    has-b : has (a ∷ b ∷ []) b ≡ true
    has-b = or_right (is_same b a) (has (b ∷ []) b) (or_left (is_same b b) false (same-refl b))

    has-x : ((a ≡ x) × (b ≡ y)) ⊎ ((a ≡ y) × (b ≡ x)) → has (a ∷ b ∷ []) x ≡ true
    has-x (inl e) = ap (has (a ∷ b ∷ [])) (sym e.0) ∙ has-a
    has-x (inr e) = ap (has (a ∷ b ∷ [])) (sym e.1) ∙ has-b

    has-y : ((a ≡ x) × (b ≡ y)) ⊎ ((a ≡ y) × (b ≡ x)) → has (a ∷ b ∷ []) y ≡ true
    has-y (inl e) = ap (has (a ∷ b ∷ [])) (sym e.1) ∙ has-b
    has-y (inr e) = ap (has (a ∷ b ∷ [])) (sym e.0) ∙ has-a

-- one joins
pub rest-next : (s : Stored) (table : PairTable) (first group : List Literal) (x : Paired) (xs : List Paired) → IsPairTable s table → IsRest s first group (x ∷ xs) → length group < 256
    → IsRest s first (group ++ x.lit ∷ []) (filter (is_common s.live (row table x.lit)) xs)
rest-next s table first group x xs h rest low =
    let cs = constraints_of s.live in
    let next = filter (is_common s.live (row table x.lit)) xs in
    let kx = rest.known.0 in
    let same = filter-all (is_left s.live) xs rest.left.1 in
    let met : lits_of next ≡ filter (is_partner cs x.lit) (lits_of xs) =
    common-lits s table x.lit xs h kx (subst (λ z. AreKnown s.vars (lits_of z)) (sym same) rest.known.1) ∙ ap (λ z. filter (is_partner cs x.lit) (lits_of z)) same in
    record {
      ascend = rises-some (is_common s.live (row table x.lit)) xs rest.ascend.1;
      known = subst (AreKnown s.vars) (sym met) (all-filter (IsKnown s.vars) (is_partner cs x.lit) (lits_of xs) rest.known.1);
      left = common-left s.live (row table x.lit) xs;
      partners = all-two (λ p. is_partner cs x.lit p.lit ≡ true) (λ p. AllByRecursion (λ m. is_partner cs m p.lit ≡ true) group) (λ p. AllByRecursion (λ m. is_partner cs m p.lit ≡ true) (group ++ x.lit ∷ []))
          (λ p e f. All-push (λ m. is_partner cs m p.lit ≡ true) group x.lit f e) next
          (from-map (λ p. p.lit) (λ l. is_partner cs x.lit l ≡ true) next (subst (AllByRecursion (λ l. is_partner cs x.lit l ≡ true)) (sym met) (all-pass (is_partner cs x.lit) (lits_of xs))))
          (all-filter (λ p. AllByRecursion (λ m. is_partner cs m p.lit ≡ true) group) (is_common s.live (row table x.lit)) xs rest.partners.1);
      here = ap (joined cs (group ++ x.lit ∷ [])) met
          ∙ sym (joined-filter cs x.lit (group ++ x.lit ∷ []) (lits_of xs) (has-last group x.lit))
          ∙ sym (ap (λ b. joined cs (cond b (group ++ x.lit ∷ []) group) (lits_of xs)) (does-join cs x.lit group rest.partners.0 low))
          ∙ rest.here;
    }

-- none is left, or no more may come
pub rest-none : (s : Stored) (first group : List Literal) (rest : List Paired) → IsRest s first group rest → rest ≡ [] → group ≡ joined (constraints_of s.live) first (candidates s.vars)
rest-none s first group rest h e = sym (ap (λ z. joined (constraints_of s.live) group (lits_of z)) e) ∙ h.here

pub rest-full : (s : Stored) (first group : List Literal) (rest : List Paired) → IsRest s first group rest → 256 ≤ length group → group ≡ joined (constraints_of s.live) first (candidates s.vars)
rest-full s first group rest h full = sym (joined-full (constraints_of s.live) group (lits_of rest) full) ∙ h.here

-- each literal has a row
pub rank-within : (vars : ℕ) (l : Literal) → IsKnown vars l → rank l < 2 * vars + 2
rank-within vars l known = at l.positive
  where
    at : (b : Bool) → 2 * l.variable + cond b 0 1 < 2 * vars + 2
    at true = omega (arith, known.1)
    at false = omega (arith, known.1)

-- the rows of the two literals of a clause, in whatever order
pub rest-start : (s : Stored) (table : PairTable) (first : List Literal) (x y : Literal) (rx ry few many rest : List Paired) (group : List Literal) → IsPairTable s table → AreKnown s.vars first → is_pair first ≡ true
    → x ≡ get_or first 0 x → y ≡ get_or first 1 y → rx ≡ row table x → ry ≡ row table y → ((few ≡ rx) × (many ≡ ry)) ⊎ ((few ≡ ry) × (many ≡ rx)) → rest ≡ filter (is_common s.live many) few → group ≡ first → IsRest s first group rest
rest-start s table [] x y rx ry few many rest group h known pair ix iy ex ey are is same = absurd (true≢false (sym pair))
rest-start s table (a ∷ []) x y rx ry few many rest group h known pair ix iy ex ey are is same = absurd (true≢false (sym pair))
rest-start s table (a ∷ b ∷ []) x y rx ry few many rest group h known pair ix iy ex ey are is same = subst (λ z. IsRest s (a ∷ b ∷ []) z rest) (sym same) (at are)
  where
    ra : rx ≡ row table a
    ra = ex ∙ ap (row table) ix

    rb : ry ≡ row table b
    rb = ey ∙ ap (row table) iy

    at : ((few ≡ rx) × (many ≡ ry)) ⊎ ((few ≡ ry) × (many ≡ rx)) → IsRest s (a ∷ b ∷ []) (a ∷ b ∷ []) rest
    at (inl e) = subst (IsRest s (a ∷ b ∷ []) (a ∷ b ∷ [])) (sym (is ∙ ap₂ (λ u v. filter (is_common s.live u) v) (e.1 ∙ rb) (e.0 ∙ ra)))
        (rest-first s table a b a b h known.0 known.1.0 (inl (refl, refl)))
    at (inr e) = subst (IsRest s (a ∷ b ∷ []) (a ∷ b ∷ [])) (sym (is ∙ ap₂ (λ u v. filter (is_common s.live u) v) (e.1 ∙ ra) (e.0 ∙ rb)))
        (rest-first s table a b b a h known.1.0 known.0 (inr (refl, refl)))
rest-start s table (a ∷ b ∷ k ∷ more) x y rx ry few many rest group h known pair ix iy ex ey are is same = absurd (true≢false (sym pair))

-- the next that joins
pub rest-step : (s : Stored) (table : PairTable) (first group new : List Literal) (all behind next : List Paired) (x : Paired) (l : Literal) (r : List Paired) → IsPairTable s table → IsRest s first group all → all ≡ x ∷ behind → length group < 256
    → new ≡ group ++ l ∷ [] → l ≡ x.lit → r ≡ row table x.lit → next ≡ filter (is_common s.live r) behind → IsRest s first new next
rest-step s table first group new all behind next x l r h rest cut low is same there e =
    subst (λ z. IsRest s first z next) (sym (is ∙ ap (λ z. group ++ z ∷ []) same))
    (subst (IsRest s first (group ++ x.lit ∷ [])) (sym (e ∙ ap (λ u. filter (is_common s.live u) behind) there)) (rest-next s table first group x behind h (subst (IsRest s first group) cut rest) low))

filter-few : (test : Paired → Bool) (xs : List Paired) → length (filter test xs) ≤ length xs
filter-few test [] = omega arith
filter-few test (x ∷ xs) = at (test x) (filter-few test xs)
  where
    at : (t : Bool) → length (filter test xs) ≤ length xs → length (cond t (x ∷ filter test xs) (filter test xs)) ≤ suc (length xs)
    at true h = omega (arith, h)
    at false h = omega (arith, h)

pub rest-less : (live : List Numbered) (all behind next r : List Paired) (x : Paired) → all ≡ x ∷ behind → next ≡ filter (is_common live r) behind → length next < length all
rest-less live all behind next r x cut e =
    let few = filter-few (is_common live r) behind in let a = ap length cut in let b = ap length e in omega (arith, few, a, b)

pub rest-known : (s : Stored) (first group : List Literal) (all behind : List Paired) (x : Paired) → IsRest s first group all → all ≡ x ∷ behind → IsKnown s.vars x.lit
rest-known s first group all behind x rest cut = (subst (λ z. AreKnown s.vars (lits_of z)) cut rest.known).0

pub rest-ascend : (s : Stored) (first group : List Literal) (all behind : List Paired) (x : Paired) → IsRest s first group all → all ≡ x ∷ behind → IsStrictlyIncreasing (ranks behind)
rest-ascend s first group all behind x rest cut = increasing (ranks behind) (subst (λ z. Rises (ranks z)) cut rest.ascend).1

pub rows-ascend : (s : Stored) (table : PairTable) (l : Literal) (r : List Paired) → IsPairTable s table → IsKnown s.vars l → r ≡ row table l → IsStrictlyIncreasing (ranks r)
rows-ascend s table l r h known e = subst (λ z. IsStrictlyIncreasing (ranks z)) (sym e) (h.ascend l known)
