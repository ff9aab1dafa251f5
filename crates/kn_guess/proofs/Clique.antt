-- The guess of a start is a pair group.
use Rattle.std.proofs.Common.{◌≡◌, ℕ, ◌≤◌, ◌<◌, ◌==◌, Bool, true, false, not, cond, ◌&&◌, ◌||◌, List, [], ◌∷◌, ◌++◌, length, map, Option, Some, nat_lt, refl, sym, ap, ap₂, subst, ◌∙◌, inl, inr, arith, true≢false}
use Rattle.std.specs.Prelude.{◌⊎◌}
use Rattle.std.specs.List.{list_any, list_all, AllByRecursion}
use Rattle.std.specs.List.Sorted.{IsStrictlyIncreasing}
use Rattle.std.proofs.lemmas.Bool.{or_left, or_right, or_cases, and_parts, eqb-false, ne_eqb, and_from, not-true}
use Rattle.std.proofs.lemmas.List.{length-map}
use Rattle.kn_logic.specs.Literals.{Literal, is_same, has, names, AreDifferent, IsKnown, AreKnown}
use Rattle.kn_logic.specs.Constraints.{Bounded, is_clause, Fits}
use Rattle.kn_logic.specs.Groups.{Gathered, is_among, is_pair, is_binary, is_pair_of, has_pair, is_covered, IsGroup, IsPairGroup}
use Rattle.kn_logic.proofs.Public.{same_literal, same-refl, has-push, All-push, All-has, has-names, different-push}
use Rattle.kn_store.specs.Stores.{Numbered, Stored, IsStored, constraints_of, constraint_at, chosen}
use Rattle.kn_store.proofs.Public.{all-one, all-pass, to-map, Rises, rises}
use Rattle.kn_guess.specs.Guesses.{joins, joined, candidates, pair_group, IsPairGuess, IsNoPairGuess}
use Rattle.kn_guess.specs.Pairing.{IsCoverOf}
use Rattle.kn_guess.proofs.Apart.{apart-few, rising-apart, names-among}
use Rattle.kn_guess.proofs.Elements.{any-with, each-any, any-map, any-filter}
use Rattle.kn_guess.proofs.Joined.{own-literal, candidates-known}
use Rattle.kn_guess.proofs.Entered.{either, no-self, found-all}

abbrev pub Differ : Literal → Literal → Type 0
Differ a b = (a.variable == b.variable) ≡ false

-- the literals of a binary clause
pub pair-lits : (lits : List Literal) → is_pair lits ≡ true → (a : Literal) × (b : Literal) × (lits ≡ a ∷ b ∷ []) × Differ a b
pair-lits [] e = absurd (true≢false (sym e))
pair-lits (a ∷ []) e = absurd (true≢false (sym e))
pair-lits (a ∷ b ∷ []) e = (a, b, refl, not-true (a.variable == b.variable) e)
pair-lits (a ∷ b ∷ c ∷ more) e = absurd (true≢false (sym e))

exactly : (lits : List Literal) (a b : Literal) → is_pair lits ≡ true → has lits a ≡ true → has lits b ≡ true → Differ a b → (lits ≡ a ∷ b ∷ []) ⊎ (lits ≡ b ∷ a ∷ [])
exactly lits a b p i j d =
    let q = pair-lits lits p in
    at q.0 q.1 q.2 (either q.0 q.1 a (subst (λ z. has z a ≡ true) q.2 i)) (either q.0 q.1 b (subst (λ z. has z b ≡ true) q.2 j))
  where
    at : (x y : Literal) → lits ≡ x ∷ y ∷ [] → (a ≡ x) ⊎ (a ≡ y) → (b ≡ x) ⊎ (b ≡ y) → (lits ≡ a ∷ b ∷ []) ⊎ (lits ≡ b ∷ a ∷ [])
    at x y e (inl s) (inl r) = absurd (no-self a b (s ∙ sym r) d)
    at x y e (inl s) (inr r) = inl (e ∙ ap₂ (λ u v. u ∷ v ∷ []) (sym s) (sym r))
    at x y e (inr s) (inl r) = inr (e ∙ ap₂ (λ u v. u ∷ v ∷ []) (sym r) (sym s))
    at x y e (inr s) (inr r) = absurd (no-self a b (s ∙ sym r) d)

-- a clause of two literals is covered exactly where both stand in the list
all-two-has : (border : List Literal) (a b : Literal) → list_all (has border) (a ∷ b ∷ []) ≡ (has border a && has border b)
all-two-has border a b = ap (λ t. has border a && t) (keep (has border b))
  where
    keep : (t : Bool) → (t && true) ≡ t
    keep true = refl
    keep false = refl

and-turned : (a b : Bool) → (a && b) ≡ (b && a)
and-turned true true = refl
and-turned true false = refl
and-turned false true = refl
and-turned false false = refl

pub covered-is : (border : List Literal) (c : Bounded) (a b : Literal) → Differ a b → is_pair_of a b c ≡ true → is_covered border c ≡ (has border a && has border b)
covered-is border c a b d e =
    let p = and_parts (is_binary c) (has c.lits a && has c.lits b) e in
    let q = and_parts (has c.lits a) (has c.lits b) p.1 in
    let r = and_parts (is_clause c) (is_pair c.lits) p.0 in
    ap (λ t. t && list_all (has border) c.lits) p.0 ∙ at (exactly c.lits a b r.1 q.0 q.1 d)
  where
    at : (c.lits ≡ a ∷ b ∷ []) ⊎ (c.lits ≡ b ∷ a ∷ []) → list_all (has border) c.lits ≡ (has border a && has border b)
    at (inl s) = ap (list_all (has border)) s ∙ all-two-has border a b
    at (inr s) = ap (list_all (has border)) s ∙ all-two-has border b a ∙ and-turned (has border b) (has border a)

-- what joins is paired with all that is there
abbrev pub IsClique : List Bounded → List Literal → Type 0
IsClique cs group = (a b : Literal) → has group a ≡ true → has group b ≡ true → Differ a b → has_pair cs a b ≡ true

pair-turned : (cs : List Bounded) (a b : Literal) → has_pair cs a b ≡ true → has_pair cs b a ≡ true
pair-turned [] a b e = e
pair-turned (c ∷ cs) a b e = at (or_cases (is_pair_of a b c) (has_pair cs a b) e) (λ h. pair-turned cs a b h)
  where
    at : (is_pair_of a b c ≡ true) ⊎ (has_pair cs a b ≡ true) → (has_pair cs a b ≡ true → has_pair cs b a ≡ true) → has_pair (c ∷ cs) b a ≡ true
    at (inl s) more = or_left (is_pair_of b a c) (has_pair cs b a) (ap (λ t. is_binary c && t) (and-turned (has c.lits b) (has c.lits a)) ∙ s)
    at (inr s) more = or_right (is_pair_of b a c) (has_pair cs b a) (more s)

pub has-last-or : (xs : List Literal) (l a : Literal) → has (xs ++ l ∷ []) a ≡ true → (has xs a ≡ true) ⊎ (a ≡ l)
has-last-or xs l a e = at (or_cases (has xs a) (is_same a l) (sym (has-push xs l a) ∙ e))
  where
    at : (has xs a ≡ true) ⊎ (is_same a l ≡ true) → (has xs a ≡ true) ⊎ (a ≡ l)
    at (inl s) = inl s
    at (inr s) = inr (same_literal a l s)

all-from : (p : Literal → Bool) (xs : List Literal) → list_all p xs ≡ true → AllByRecursion (λ x. p x ≡ true) xs
all-from p [] e = tt
all-from p (x ∷ xs) e = let q = and_parts (p x) (list_all p xs) e in (q.0, all-from p xs q.1)

clique-more : (cs : List Bounded) (group : List Literal) (l : Literal) → IsClique cs group → joins cs group l ≡ true → IsClique cs (group ++ l ∷ [])
clique-more cs group l clique e a b i j d = at (has-last-or group l a i) (has-last-or group l b j)
  where
    paired : (x : Literal) → has group x ≡ true → has_pair cs l x ≡ true
    paired x i =
        let p = and_parts (not (names group l.variable)) (nat_lt (length group) 256 && list_all (has_pair cs l) group) e in
        let q = and_parts (nat_lt (length group) 256) (list_all (has_pair cs l) group) p.1 in
        All-has (λ m. has_pair cs l m ≡ true) group x (all-from (has_pair cs l) group q.1) i

    at : (has group a ≡ true) ⊎ (a ≡ l) → (has group b ≡ true) ⊎ (b ≡ l) → has_pair cs a b ≡ true
    at (inl s) (inl r) = clique a b s r d
    at (inl s) (inr r) = subst (λ z. has_pair cs a z ≡ true) (sym r) (pair-turned cs l a (paired a s))
    at (inr s) (inl r) = subst (λ z. has_pair cs z b ≡ true) (sym s) (paired b r)
    at (inr s) (inr r) = absurd (no-self a b (s ∙ sym r) d)

-- what is kept by each that joins is kept in the end
pub keep-joined : (P : List Literal → Type 0) (cs : List Bounded) → ((group : List Literal) (l : Literal) → P group → joins cs group l ≡ true → P (group ++ l ∷ [])) → (group ls : List Literal) → P group → P (joined cs group ls)
keep-joined P cs step group [] h = h
keep-joined P cs step group (l ∷ ls) h = at (joins cs group l) refl (λ e. keep-joined P cs step (group ++ l ∷ []) ls (step group l h e)) (keep-joined P cs step group ls h)
  where
    at : (t : Bool) → joins cs group l ≡ t → (joins cs group l ≡ true → P (joined cs (group ++ l ∷ []) ls)) → P (joined cs group ls) → P (joined cs (cond (joins cs group l) (group ++ l ∷ []) group) ls)
    at true e on off = subst (λ t. P (joined cs (cond t (group ++ l ∷ []) group) ls)) (sym e) (on e)
    at false e on off = subst (λ t. P (joined cs (cond t (group ++ l ∷ []) group) ls)) (sym e) off

pub all-joined : (P : Literal → Type 0) (cs : List Bounded) (group ls : List Literal) → AllByRecursion P group → AllByRecursion P ls → AllByRecursion P (joined cs group ls)
all-joined P cs group [] a b = a
all-joined P cs group (l ∷ ls) a b = at (joins cs group l) (all-joined P cs (group ++ l ∷ []) ls (All-push P group l a b.0) b.1) (all-joined P cs group ls a b.1)
  where
    at : (t : Bool) → AllByRecursion P (joined cs (group ++ l ∷ []) ls) → AllByRecursion P (joined cs group ls) → AllByRecursion P (joined cs (cond t (group ++ l ∷ []) group) ls)
    at true on off = on
    at false on off = off

-- no variable stands twice
pub different-joined : (cs : List Bounded) (group ls : List Literal) → AreDifferent group → AreDifferent (joined cs group ls)
different-joined cs group ls d = keep-joined AreDifferent cs
    (λ group l h e. different-push group l h (not-true (names group l.variable) (and_parts (not (names group l.variable)) (nat_lt (length group) 256 && list_all (has_pair cs l) group) e).0)) group ls d

pub pair-different : (lits : List Literal) → is_pair lits ≡ true → AreDifferent lits
pair-different lits p = let q = pair-lits lits p in subst AreDifferent (sym q.2) (turned q.0 q.1 q.3, (refl, tt))
  where
    turned : (a b : Literal) → Differ a b → names (b ∷ []) a.variable ≡ false
    turned a b d = ap (λ t. t || false) (ne_eqb b.variable a.variable (λ s. eqb-false a.variable b.variable d (sym s)))

-- two literals of one variable are one
pub one-literal : (lits : List Literal) (a b : Literal) → AreDifferent lits → has lits a ≡ true → has lits b ≡ true → a.variable ≡ b.variable → a ≡ b
one-literal [] a b d i j e = absurd (true≢false (sym i))
one-literal (l ∷ lits) a b d i j e = at (or_cases (is_same a l) (has lits a) i) (or_cases (is_same b l) (has lits b) j) (λ h k. one-literal lits a b d.1 h k e)
  where
    at : (is_same a l ≡ true) ⊎ (has lits a ≡ true) → (is_same b l ≡ true) ⊎ (has lits b ≡ true) → (has lits a ≡ true → has lits b ≡ true → a ≡ b) → a ≡ b
    at (inl s) (inl r) more = same_literal a l s ∙ sym (same_literal b l r)
    at (inl s) (inr r) more = absurd (true≢false (sym (ap (names lits) (ap (λ z. z.variable) (sym (same_literal a l s)) ∙ e) ∙ has-names lits b r) ∙ d.0))
    at (inr s) (inl r) more = absurd (true≢false (sym (ap (names lits) (ap (λ z. z.variable) (sym (same_literal b l r)) ∙ sym e) ∙ has-names lits a s) ∙ d.0))
    at (inr s) (inr r) more = more s r

-- variables that rise
out-of : (v : ℕ) (lits : List Literal) → AllByRecursion (λ w. v < w) (map (λ l. l.variable) lits) → names lits v ≡ false
out-of v [] h = refl
out-of v (l ∷ lits) h = ap₂ (λ s t. s || t) (ne_eqb l.variable v (λ e. absurd (let low = h.0 in omega (arith, e, low)))) (out-of v lits h.1)

pub rises-different : (lits : List Literal) → Rises (map (λ l. l.variable) lits) → AreDifferent lits
rises-different [] h = tt
rises-different (l ∷ lits) h = (out-of l.variable lits h.0, rises-different lits h.1)

-- the clauses that are taken
any-chosen : (p test : Bounded → Bool) (ps : List Numbered) → ((c : Bounded) → p c ≡ true → test c ≡ true) → list_any p (constraints_of ps) ≡ true → list_any p (constraints_of (chosen test ps)) ≡ true
any-chosen p test ps f e =
    any-map (λ q. q.constraint) p (chosen test ps) ∙ any-filter (λ q. p q.constraint) (λ q. test q.constraint) ps
    ∙ (let q = any-with (λ q. (g : Numbered → Bool) → g q ≡ true → list_any g ps ≡ true) (λ q. p q.constraint) ps (each-any ps) (sym (any-map (λ q. q.constraint) p ps) ∙ e) in
    q.2 (λ r. p r.constraint && test r.constraint) (and_from (p q.0.constraint) (test q.0.constraint) q.1 (f q.0.constraint q.1)))

pub taken-covered : (border : List Literal) (ps : List Numbered) → AllByRecursion (λ c. is_covered border c ≡ true) (constraints_of (chosen (is_covered border) ps))
taken-covered border ps = to-map (λ q. q.constraint) (λ c. is_covered border c ≡ true) (chosen (is_covered border) ps) (all-pass (λ q. is_covered border q.constraint) ps)

cover-group : (g : Gathered) → g.aux ≡ [] → IsStrictlyIncreasing (map (λ l. l.variable) g.border) → AllByRecursion (λ c. is_covered g.border c ≡ true) g.taken → IsGroup g
cover-group g aux up taken = record {
  counted = subst (AllByRecursion (λ v. 1 ≤ v)) (sym aux) tt;
  aux = subst IsStrictlyIncreasing (sym aux) none;
  border = up;
  apart = apart g.border;
  clauses = all-one (λ c. is_covered g.border c ≡ true) (λ c. is_clause c ≡ true)
      (λ c e. (and_parts (is_clause c) (is_pair c.lits) (and_parts (is_binary c) (list_all (has g.border) c.lits) e).0).0) g.taken taken;
  covered = all-one (λ c. is_covered g.border c ≡ true) (λ c. AllByRecursion (λ l. (is_among g.aux l.variable || has g.border l) ≡ true) c.lits)
      (λ c e. all-one (λ l. has g.border l ≡ true) (λ l. (is_among g.aux l.variable || has g.border l) ≡ true) (λ l h. or_right (is_among g.aux l.variable) (has g.border l) h) c.lits
      (all-from (has g.border) c.lits (and_parts (is_binary c) (list_all (has g.border) c.lits) e).1)) g.taken taken;
}
  where
    none : IsStrictlyIncreasing []
    none k i = absurd (omega (arith, i))

    apart : (lits : List Literal) → AllByRecursion (λ l. is_among g.aux l.variable ≡ false) lits
    apart [] = tt
    apart (l ∷ lits) = (ap (λ z. is_among z l.variable) aux, apart lits)

pub group-of-cover : (g : Gathered) (ps : List Numbered) → g.aux ≡ [] → IsStrictlyIncreasing (map (λ l. l.variable) g.border) → g.taken ≡ constraints_of (chosen (is_covered g.border) ps) → IsGroup g
group-of-cover g ps aux up is = cover-group g aux up (subst (AllByRecursion (λ c. is_covered g.border c ≡ true)) (sym is) (taken-covered g.border ps))

-- the group of the start's own literals
pub pair-clique : (s : Stored) (start : ℕ) (first : Bounded) → constraint_at s.live start ≡ Some first → is_binary first ≡ true → IsClique (constraints_of s.live) (pair_group s first)
pair-clique s start first there binary = keep-joined (IsClique (constraints_of s.live)) (constraints_of s.live) (λ group l h e. clique-more (constraints_of s.live) group l h e) first.lits (candidates s.vars)
    (λ a b i j d. found-all (λ c. (p : Bounded → Bool) → p c ≡ true → list_any p (constraints_of s.live) ≡ true) s.live start first there (each-any (constraints_of s.live)) (is_pair_of a b)
    (and_from (is_binary first) (has first.lits a && has first.lits b) binary (and_from (has first.lits a) (has first.lits b) i j)))

pub pair-group-is : (s : Stored) (start : ℕ) (g : Gathered) (ids : List ℕ) → IsPairGuess s start g ids → IsPairGroup g
pair-group-is s start g ids h =
    let cs = constraints_of s.live in
    let different = rises-different g.border (rises (map (λ l. l.variable) g.border) h.ascends) in
    record {
      group = group-of-cover g s.live h.aux h.ascends h.taken;
      aux = h.aux;
      three = h.three;
      pairs = subst (AllByRecursion (λ c. is_covered g.border c ≡ true)) (sym h.taken) (taken-covered g.border s.live);
      each = λ a b i j n.
          let d = apart different a b i j n in
          ap (λ z. has_pair z a b) h.taken
          ∙ any-chosen (is_pair_of a b) (is_covered g.border) s.live (λ c e. covered-is g.border c a b d e ∙ and_from (has g.border a) (has g.border b) i j)
          (pair-clique s start h.first h.there h.binary a b (sym (h.members a) ∙ i) (sym (h.members b) ∙ j) d);
    }
  where
    apart : AreDifferent g.border → (a b : Literal) → has g.border a ≡ true → has g.border b ≡ true → is_same a b ≡ false → Differ a b
    apart different a b i j n = ne_eqb a.variable b.variable (λ e. true≢false (sym (ap (is_same a) (sym (one-literal g.border a b different i j e)) ∙ same-refl a) ∙ n))

-- what is known of the group of a clause
pub first-known : (s : Stored) (start : ℕ) (first : Bounded) (lits : List Literal) → IsStored s → constraint_at s.live start ≡ Some first → lits ≡ first.lits → AreKnown s.vars lits
first-known s start first lits stored there is = subst (AreKnown s.vars) (sym is) (found-all (Fits s.vars) s.live start first there stored.formula).within.lits

pub binary-pair : (first : Bounded) (lits : List Literal) → is_binary first ≡ true → lits ≡ first.lits → is_pair lits ≡ true
binary-pair first lits binary is = ap is_pair is ∙ (and_parts (is_clause first) (is_pair first.lits) binary).1

pub group-known : (s : Stored) (lits group asked : List Literal) → AreKnown s.vars lits → group ≡ joined (constraints_of s.live) lits (candidates s.vars) → asked ≡ group → AreKnown s.vars asked
group-known s lits group asked known is was = subst (AreKnown s.vars) (sym (was ∙ is)) (all-joined (IsKnown s.vars) (constraints_of s.live) lits (candidates s.vars) known (candidates-known s.vars))

pub group-different : (s : Stored) (lits group asked : List Literal) → is_pair lits ≡ true → group ≡ joined (constraints_of s.live) lits (candidates s.vars) → asked ≡ group → AreDifferent asked
group-different s lits group asked pair is was = subst AreDifferent (sym (was ∙ is)) (different-joined (constraints_of s.live) lits (candidates s.vars) (pair-different lits pair))

pub guess-of-cover : (s : Stored) (start : ℕ) (first : Bounded) (lits group asked : List Literal) (g : Gathered) (ids : List ℕ) → constraint_at s.live start ≡ Some first → is_binary first ≡ true → lits ≡ first.lits
    → group ≡ joined (constraints_of s.live) lits (candidates s.vars) → asked ≡ group → 3 ≤ length group → IsCoverOf s asked g ids → IsPairGuess s start g ids
guess-of-cover s start first lits group asked g ids there binary lits-are is was three cover = record {
  first = first;
  there = there;
  binary = binary;
  aux = cover.aux;
  ascends = cover.ascends;
  members = λ l. cover.members l ∙ ap (λ z. has z l) (was ∙ is ∙ ap (λ z. joined (constraints_of s.live) z (candidates s.vars)) lits-are);
  three = let long = cover.long in let same = ap length was in omega (arith, three, long, same);
  taken = cover.taken;
  ids_are = cover.ids_are;
}

-- no group starts there
pub same-constraint : (a b : Bounded) (o : Option Bounded) → o ≡ Some a → o ≡ Some b → a ≡ b
same-constraint a b o e f = some-same (sym e ∙ f)
  where
    some-same : Some a ≡ Some b → a ≡ b
    some-same e = cc e

pub no-group-few : (s : Stored) (start : ℕ) (first : Bounded) (lits group : List Literal) → constraint_at s.live start ≡ Some first → lits ≡ first.lits → group ≡ joined (constraints_of s.live) lits (candidates s.vars) → length group < 3 → IsNoPairGuess s start
no-group-few s start first lits group there lits-are is few other there-other binary =
    let same = same-constraint first other (constraint_at s.live start) there there-other in
    let e = ap length (is ∙ ap (λ z. joined (constraints_of s.live) z (candidates s.vars)) (lits-are ∙ ap (λ c. c.lits) same)) in
    omega (arith, few, e)

pub no-group-none : (s : Stored) (start : ℕ) → ((c : Bounded) → constraint_at s.live start ≡ Some c → is_binary c ≡ false) → IsNoPairGuess s start
no-group-none s start none first there binary = absurd (true≢false (sym binary ∙ none first there))

-- and where none does, there is no guess
pub no-guess-few : (s : Stored) (start : ℕ) (g : Gathered) (ids : List ℕ) → IsNoPairGuess s start → IsPairGuess s start g ids → ⊥
no-guess-few s start g ids none h =
    let few = none h.first h.there h.binary in
    let three = h.three in
    let members = all-one (λ l. has g.border l ≡ true) (λ l. is_among (map (λ m. m.variable) (pair_group s h.first)) l.variable ≡ true)
    (λ l i. names-among (pair_group s h.first) l.variable ∙ has-names (pair_group s h.first) l (sym (h.members l) ∙ i)) g.border (own-literal g.border) in
    let long = apart-few (map (λ m. m.variable) g.border) (map (λ m. m.variable) (pair_group s h.first)) (rising-apart (map (λ m. m.variable) g.border) (rises (map (λ m. m.variable) g.border) h.ascends))
    (to-map (λ m. m.variable) (λ v. is_among (map (λ m. m.variable) (pair_group s h.first)) v ≡ true) g.border members) in
    let a = length-map g.border (λ m. m.variable) in
    let b = length-map (pair_group s h.first) (λ m. m.variable) in
    omega (arith, few, three, long, a, b)
