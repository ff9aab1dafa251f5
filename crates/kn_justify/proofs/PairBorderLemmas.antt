-- What a pair group whose clauses are live gives: each border literal is known, and each two are in a clause whose id was noted.
use Rattle.std.proofs.Common.{◌≡◌, ℕ, ◌≤◌, ◌<◌, ◌==◌, ◌&&◌, ◌||◌, ◌⊎◌, Bool, true, false, not, cond, eqb, ltb, List, [], ◌∷◌, length, map, Option, None, Some, IfSome, IsSome, refl, sym, ap, ◌∙◌, subst, inl, inr, arith}
use Rattle.std.specs.List.{AllByRecursion, list_any, list_all}
use Rattle.std.specs.List.Sorted.{IsStrictlyIncreasing, IsStrictlySortedBy}
use Rattle.std.specs.Option.{is_none}
use Rattle.std.specs.declared.cmp.Ordering.TheVariants.{Less}
use Rattle.std.specs.Cmp.{ranks}
use Rattle.std.specs.Ordering.{nat_cmp, MatchOrdering}
use Rattle.std.proofs.lemmas.Map.Keys.{sorted_from_strictly_increasing}
use Rattle.std.proofs.lemmas.Bool.{and_parts, or_cases, or_right, cases_Bool, cond-true, cond-false, eqb-true, ne_eqb, lt-ltb, le-ltb}
use Rattle.std.proofs.lemmas.Option.{same_Some}
use Rattle.kn_logic.specs.Literals.{Literal, is_same, has, IsKnown, AreKnown, names, AreDifferent}
use Rattle.kn_logic.specs.Constraints.{Bounded, clause, is_clause}
use Rattle.kn_logic.specs.Groups.{Gathered, is_among, is_pair, is_binary, is_pair_of, has_pair, is_covered, IsPairGroup}
use Rattle.kn_logic.proofs.Public.{same_literal, has-first, has-one, All-has, unnamed, All-from}
use Rattle.kn_rules.specs.declared.given.Given.{Given}
use Rattle.kn_rules.specs.States.{ProofState, live_at}
use Rattle.kn_justify.specs.Closings.{AreLive}
use Rattle.kn_justify.specs.Taken.{AreTaken}
use Rattle.kn_justify.specs.PairIds.{id_of, smaller, larger, IsOver, IsNoted, IsNotedFor, AreNoted}
use Rattle.kn_justify.specs.PairGroups.{IsPaired, ArePaired}

-- constraints that are live under ids
pub taken-live : (given : List Given) (cs : List Bounded) (ids : List ℕ) → AreTaken given ids cs → AreLive given ids
taken-live given cs [] h = tt
taken-live given [] (id ∷ ids) h = absurd h
taken-live given (c ∷ cs) (id ∷ ids) h = (subst (λ (o : Option Bounded). IsSome o) (sym h.0) refl, taken-live given cs ids h.1)

each-taken : (given : List Given) (P : Bounded → Type 0) (cs : List Bounded) (ids : List ℕ) → AreTaken given ids cs → AllByRecursion (λ id. IfSome (live_at given id) P) ids → AllByRecursion P cs
each-taken given P [] ids h k = tt
each-taken given P (c ∷ cs) [] h k = absurd h
each-taken given P (c ∷ cs) (id ∷ ids) h k = (subst (λ (o : Option Bounded). IfSome o P) h.0 k.0, each-taken given P cs ids h.1 k.1)

one-taken : (given : List Given) (P : Bounded → Type 0) (cs : List Bounded) (ids : List ℕ) (id : ℕ) (c : Bounded) → AreTaken given ids cs → AllByRecursion P cs → is_among ids id ≡ true → live_at given id ≡ Some c → P c
one-taken given P cs [] id c h k among live = absurd cc
one-taken given P [] (x ∷ ids) id c h k among live = absurd h
one-taken given P (b ∷ cs) (x ∷ ids) id c h k among live =
    elim (or_cases (x == id) (is_among ids id) among) [
      | inl e ↦ subst P (same_Some b c (sym h.0 ∙ ap (λ (n : ℕ). live_at given n) (eqb-true x id e) ∙ live)) k.0
      | inr e ↦ one-taken given P cs ids id c h.1 k.1 e live
    ]

-- numbers that rise
abbrev Rises : List ℕ → Type 0
Rises [] = Unit {0}
Rises (x ∷ xs) = AllByRecursion (λ y. x < y) xs × Rises xs

below-one : (x y : ℕ) → nat_cmp x y ≡ Less → x < y
below-one x y e = subst (λ r. MatchOrdering r (x < y) (x ≡ y) (y < x)) e (ranks x y)

below-all : (x : ℕ) (xs : List ℕ) → AllByRecursion (λ y. nat_cmp x y ≡ Less) xs → AllByRecursion (λ y. x < y) xs
below-all x [] h = tt
below-all x (y ∷ xs) h = (below-one x y h.0, below-all x xs h.1)

unroll : (xs : List ℕ) → IsStrictlySortedBy nat_cmp xs → Rises xs
unfolding IsStrictlySortedBy
unroll [] h = tt
unroll (x ∷ xs) h = (below-all x xs h.0, unroll xs h.1)

rises : (xs : List ℕ) → IsStrictlyIncreasing xs → Rises xs
rises xs h = unroll xs (sorted_from_strictly_increasing xs h)

-- border literals ascend
above : (u : ℕ) (lits : List Literal) (k : Literal) → AllByRecursion (λ y. u < y) (map (λ l. l.variable) lits) → has lits k ≡ true → u < k.variable
above u [] k h e = absurd cc
above u (x ∷ lits) k h e =
    elim (or_cases (is_same k x) (has lits k) e) [
      | inl s ↦ subst (λ (y : Literal). u < y.variable) (sym (same_literal k x s)) h.0
      | inr t ↦ above u lits k h.1 t
    ]

unnamed-above : (u : ℕ) (lits : List Literal) → AllByRecursion (λ y. u < y) (map (λ l. l.variable) lits) → names lits u ≡ false
unnamed-above u [] h = refl
unnamed-above u (x ∷ lits) h =
    let first = h.0 in
    ap (λ (b : Bool). b || names lits u) (ne_eqb x.variable u (λ e. omega (arith, e, first))) ∙ unnamed-above u lits h.1

different : (lits : List Literal) → Rises (map (λ l. l.variable) lits) → AreDifferent lits
different [] h = tt
different (l ∷ lits) h = (unnamed-above l.variable lits h.0, different lits h.1)

pub border-different : (g : Gathered) → IsPairGroup g → AreDifferent g.border
border-different g p = different g.border (rises (map (λ l. l.variable) g.border) p.group.border)

-- one literal for each variable
first-only : (x l : Literal) (lits : List Literal) → names lits l.variable ≡ false → has lits x ≡ true → x.variable ≡ l.variable → ⊥
first-only x l lits n h e =
    let none : has lits x ≡ false = unnamed lits x (ap (λ (v : ℕ). names lits v) e ∙ n) in
    absurd cc

same-variable : (lits : List Literal) (x y : Literal) → AreDifferent lits → has lits x ≡ true → has lits y ≡ true → x.variable ≡ y.variable → x ≡ y
same-variable [] x y d hx hy e = absurd cc
same-variable (l ∷ lits) x y d hx hy e =
    elim (or_cases (is_same x l) (has lits x) hx) [
      | inl s ↦ elim (or_cases (is_same y l) (has lits y) hy) [
        | inl t ↦ same_literal x l s ∙ sym (same_literal y l t)
        | inr t ↦ absurd (first-only y l lits d.0 t (sym e ∙ ap (λ (k : Literal). k.variable) (same_literal x l s)))
      ]
      | inr s ↦ elim (or_cases (is_same y l) (has lits y) hy) [
        | inl t ↦ absurd (first-only x l lits d.0 s (e ∙ ap (λ (k : Literal). k.variable) (same_literal y l t)))
        | inr t ↦ same-variable lits x y d.1 s t e
      ]
    ]

-- the smaller one of two variables, and the larger one
smaller-first : (u v : ℕ) → ltb u v ≡ true → smaller u v ≡ u
smaller-first u v e = cond-true (ltb u v) u v e

larger-first : (u v : ℕ) → ltb u v ≡ true → larger u v ≡ v
larger-first u v e = cond-true (ltb u v) v u e

smaller-second : (u v : ℕ) → ltb u v ≡ false → smaller u v ≡ v
smaller-second u v e = cond-false (ltb u v) u v e

larger-second : (u v : ℕ) → ltb u v ≡ false → larger u v ≡ u
larger-second u v e = cond-false (ltb u v) v u e

-- a clause of two literals is noted for their variables
either-of : (x y l : Literal) → has (x ∷ y ∷ []) l ≡ true → (l ≡ x) ⊎ (l ≡ y)
either-of x y l h =
    elim (or_cases (is_same l x) (has (y ∷ []) l) h) [
      | inl s ↦ inl (same_literal l x s)
      | inr t ↦ inr (has-one y l t)
    ]

noted-as : (pairs : List ((ℕ × ℕ) × ℕ)) (x y a b : Literal) → smaller x.variable y.variable ≡ a.variable → larger x.variable y.variable ≡ b.variable → IsNoted pairs (x ∷ y ∷ []) → IsSome (id_of pairs a.variable b.variable)
noted-as pairs x y a b s t h =
    subst (λ (u : ℕ). IsSome (id_of pairs u b.variable)) s (subst (λ (v : ℕ). IsSome (id_of pairs (smaller x.variable y.variable) v)) t h)

noted-by : (pairs : List ((ℕ × ℕ) × ℕ)) (x y a b : Literal) → (a ≡ x) ⊎ (a ≡ y) → (b ≡ x) ⊎ (b ≡ y) → a.variable < b.variable → IsNoted pairs (x ∷ y ∷ []) → IsSome (id_of pairs a.variable b.variable)
noted-by pairs x y a b (inl e) (inl f) less h = (let same : a.variable ≡ b.variable = ap (λ (k : Literal). k.variable) (e ∙ sym f) in absurd (omega (arith, less, same)))
noted-by pairs x y a b (inr e) (inr f) less h = (let same : a.variable ≡ b.variable = ap (λ (k : Literal). k.variable) (e ∙ sym f) in absurd (omega (arith, less, same)))
noted-by pairs x y a b (inl e) (inr f) less h =
    let p : a.variable ≡ x.variable = ap (λ (k : Literal). k.variable) e in
    let q : b.variable ≡ y.variable = ap (λ (k : Literal). k.variable) f in
    let first : ltb x.variable y.variable ≡ true = lt-ltb x.variable y.variable (omega (arith, less, p, q)) in
    noted-as pairs x y a b (smaller-first x.variable y.variable first ∙ sym p) (larger-first x.variable y.variable first ∙ sym q) h
noted-by pairs x y a b (inr e) (inl f) less h =
    let p : a.variable ≡ y.variable = ap (λ (k : Literal). k.variable) e in
    let q : b.variable ≡ x.variable = ap (λ (k : Literal). k.variable) f in
    let second : ltb x.variable y.variable ≡ false = le-ltb x.variable y.variable (omega (arith, less, p, q)) in
    noted-as pairs x y a b (smaller-second x.variable y.variable second ∙ sym p) (larger-second x.variable y.variable second ∙ sym q) h

pair-noted : (pairs : List ((ℕ × ℕ) × ℕ)) (lits : List Literal) (a b : Literal) → is_pair lits ≡ true → has lits a ≡ true → has lits b ≡ true → a.variable < b.variable → IsNoted pairs lits → IsSome (id_of pairs a.variable b.variable)
pair-noted pairs [] a b p ha hb less h = absurd cc
pair-noted pairs (x ∷ []) a b p ha hb less h = absurd cc
pair-noted pairs (x ∷ y ∷ []) a b p ha hb less h = noted-by pairs x y a b (either-of x y a ha) (either-of x y b hb) less h
pair-noted pairs (x ∷ y ∷ z ∷ more) a b p ha hb less h = absurd cc

-- a clause that is over the variables of two border literals is theirs
lits-over : (border lits : List Literal) (a b : Literal) → AreDifferent border → has border a ≡ true → has border b ≡ true → list_all (has border) lits ≡ true → IsOver lits a.variable b.variable → (lits ≡ a ∷ b ∷ []) ⊎ (lits ≡ b ∷ a ∷ [])
lits-over border [] a b d ha hb all h = absurd h
lits-over border (x ∷ []) a b d ha hb all h = absurd h
lits-over border (x ∷ y ∷ []) a b d ha hb all h =
    let (hx, rest) = and_parts (has border x) (list_all (has border) (y ∷ [])) all in
    let (hy, _) = and_parts (has border y) (list_all (has border) []) rest in
    elim (cases_Bool (ltb x.variable y.variable)) [
      | inl t ↦ inl (two x y a b (same-variable border x a d hx ha (sym (h.0 ∙ smaller-first x.variable y.variable t))) (same-variable border y b d hy hb (sym (h.1 ∙ larger-first x.variable y.variable t))))
      | inr f ↦ inr (two x y b a (same-variable border x b d hx hb (sym (h.1 ∙ larger-second x.variable y.variable f))) (same-variable border y a d hy ha (sym (h.0 ∙ smaller-second x.variable y.variable f))))
    ]
  where
    two : (x y a b : Literal) → x ≡ a → y ≡ b → x ∷ y ∷ [] ≡ a ∷ b ∷ []
    two x y a b e f = cc
lits-over border (x ∷ y ∷ z ∷ more) a b d ha hb all h = absurd h

clause-of : (guard : Option Literal) (bound : ℕ) (lits more : List Literal) → guard ≡ None → bound ≡ 1 → lits ≡ more → ◌≡◌ {A = Bounded} (record { guard = guard; bound = bound; lits = lits }) (clause more)
clause-of guard bound lits more e f g = cc

no-guard : (guard : Option Literal) → is_none guard ≡ true → guard ≡ None
no-guard None e = refl
no-guard (Some l) e = absurd cc

clause-is : (c : Bounded) (lits : List Literal) → is_clause c ≡ true → c.lits ≡ lits → c ≡ clause lits
clause-is c lits e f =
    let (g, b) = and_parts (is_none c.guard) (eqb c.bound 1) e in
    clause-of c.guard c.bound c.lits lits (no-guard c.guard g) (eqb-true c.bound 1 b) f

covered-is : (border : List Literal) (c : Bounded) (a b : Literal) → AreDifferent border → has border a ≡ true → has border b ≡ true → is_covered border c ≡ true → IsOver c.lits a.variable b.variable → (c ≡ clause (a ∷ b ∷ [])) ⊎ (c ≡ clause (b ∷ a ∷ []))
covered-is border c a b d ha hb covered h =
    let (binary, all) = and_parts (is_binary c) (list_all (has border) c.lits) covered in
    let (is, _) = and_parts (is_clause c) (is_pair c.lits) binary in
    elim (lits-over border c.lits a b d ha hb all h) [
      | inl e ↦ inl (clause-is c (a ∷ b ∷ []) is e)
      | inr e ↦ inr (clause-is c (b ∷ a ∷ []) is e)
    ]

-- each two border literals
other-variable : (a b : Literal) → (a.variable ≡ b.variable → ⊥) → is_same a b ≡ false
other-variable a b n = ap (λ (t : Bool). t && cond a.positive b.positive (not b.positive)) (ne_eqb a.variable b.variable n)

one-of : (P : Bounded → Type 0) (test : Bounded → Bool) (cs : List Bounded) → list_any test cs ≡ true → AllByRecursion P cs → (c : Bounded) × (test c ≡ true) × P c
one-of P test [] e h = absurd cc
one-of P test (c ∷ cs) e h =
    elim (or_cases (test c) (list_any test cs) e) [
      | inl t ↦ (c, t, h.0)
      | inr t ↦ one-of P test cs t h.1
    ]

some-id : (o : Option ℕ) → IsSome o → (id : ℕ) × (o ≡ Some id)
some-id None h = absurd cc
some-id (Some id) h = (id, refl)

live-as : (given : List Given) (id : ℕ) (c : Bounded) (a b : Literal) → live_at given id ≡ Some c → (c ≡ clause (a ∷ b ∷ [])) ⊎ (c ≡ clause (b ∷ a ∷ [])) → (live_at given id ≡ Some (clause (a ∷ b ∷ []))) ⊎ (live_at given id ≡ Some (clause (b ∷ a ∷ [])))
live-as given id c a b live (inl e) = inl (live ∙ ap (λ (x : Bounded). Some x) e)
live-as given id c a b live (inr e) = inr (live ∙ ap (λ (x : Bounded). Some x) e)

two-paired : (s : ProofState) (g : Gathered) (ids : List ℕ) (pairs : List ((ℕ × ℕ) × ℕ)) (a b : Literal) → IsPairGroup g → AreTaken s.given ids g.taken → AreNoted s ids pairs → has g.border a ≡ true → has g.border b ≡ true → a.variable < b.variable → IsPaired s.given pairs a b
two-paired s g ids pairs a b p taken noted ha hb less =
    let any : has_pair g.taken a b ≡ true = p.each a b ha hb (other-variable a b (λ e. omega (arith, e, less))) in
    let (c, of, for) = one-of (IsNotedFor s pairs) (is_pair_of a b) g.taken any (each-taken s.given (IsNotedFor s pairs) g.taken ids taken noted.each) in
    let (binary, both) = and_parts (is_binary c) (has c.lits a && has c.lits b) of in
    let (ca, cb) = and_parts (has c.lits a) (has c.lits b) both in
    let (_, two) = and_parts (is_clause c) (is_pair c.lits) binary in
    let (id, found) = some-id (id_of pairs a.variable b.variable) (pair-noted pairs c.lits a b two ca cb less for.noted) in
    let over = noted.right a.variable b.variable id found in
    let covered : is_covered g.border over.c ≡ true = one-taken s.given (λ x. is_covered g.border x ≡ true) g.taken ids id over.c taken p.pairs over.among over.live in
    (id, found, live-as s.given id over.c a b over.live (covered-is g.border over.c a b (border-different g p) ha hb covered over.over))

all-paired : (s : ProofState) (g : Gathered) (ids : List ℕ) (pairs : List ((ℕ × ℕ) × ℕ)) (lits : List Literal) → IsPairGroup g → AreTaken s.given ids g.taken → AreNoted s ids pairs
    → ((l : Literal) → has lits l ≡ true → has g.border l ≡ true) → Rises (map (λ l. l.variable) lits) → ArePaired s.given pairs lits
all-paired s g ids pairs [] p taken noted inside r = tt
all-paired s g ids pairs (l ∷ lits) p taken noted inside r = (
  All-from (IsPaired s.given pairs l) lits (λ k h. two-paired s g ids pairs l k p taken noted (inside l (has-first l lits)) (inside k (or_right (is_same k l) (has lits k) h)) (above l.variable lits k r.0 h)),
  all-paired s g ids pairs lits p taken noted (λ k h. inside k (or_right (is_same k l) (has lits k) h)) r.1,
)

pub border-paired : (s : ProofState) (g : Gathered) (ids : List ℕ) (pairs : List ((ℕ × ℕ) × ℕ)) (border : List Literal) → IsPairGroup g → AreTaken s.given ids g.taken → AreNoted s ids pairs → border ≡ g.border → ArePaired s.given pairs border
border-paired s g ids pairs border p taken noted is =
    subst (ArePaired s.given pairs) (sym is) (all-paired s g ids pairs g.border p taken noted (λ l h. h) (rises (map (λ l. l.variable) g.border) p.group.border))

-- each border literal is known
another : (lits : List Literal) (l : Literal) → AreDifferent lits → 3 ≤ length lits → has lits l ≡ true → (k : Literal) × (has lits k ≡ true) × (is_same l k ≡ false)
another [] l d three h = absurd (omega (arith, three))
another (a ∷ []) l d three h = absurd (omega (arith, three))
another (a ∷ b ∷ more) l d three h =
    elim (cases_Bool (is_same l a)) [
      | inl s ↦ (b, or_right (is_same b a) (has (b ∷ more) b) (has-first b more), other-variable l b (λ e. apart (ap (λ (k : Literal). k.variable) (sym (same_literal l a s)) ∙ e)))
      | inr f ↦ (a, has-first a (b ∷ more), f)
    ]
  where
    apart : a.variable ≡ b.variable → ⊥
    apart e = first-only b a (b ∷ more) d.0 (has-first b more) (sym e)

one-known : (s : ProofState) (g : Gathered) (ids : List ℕ) (pairs : List ((ℕ × ℕ) × ℕ)) (l : Literal) → IsPairGroup g → AreTaken s.given ids g.taken → AreNoted s ids pairs → has g.border l ≡ true → IsKnown s.vars l
one-known s g ids pairs l p taken noted h =
    let (k, hk, apart) = another g.border l (border-different g p) p.three h in
    let (c, of, for) = one-of (IsNotedFor s pairs) (is_pair_of l k) g.taken (p.each l k h hk apart) (each-taken s.given (IsNotedFor s pairs) g.taken ids taken noted.each) in
    let (binary, both) = and_parts (is_binary c) (has c.lits l && has c.lits k) of in
    let (cl, _) = and_parts (has c.lits l) (has c.lits k) both in
    All-has (IsKnown s.vars) c.lits l for.within.lits cl

pub border-known : (s : ProofState) (g : Gathered) (ids : List ℕ) (pairs : List ((ℕ × ℕ) × ℕ)) (border : List Literal) → IsPairGroup g → AreTaken s.given ids g.taken → AreNoted s ids pairs → border ≡ g.border → AreKnown s.vars border
border-known s g ids pairs border p taken noted is =
    subst (AreKnown s.vars) (sym is) (All-from (IsKnown s.vars) g.border (λ l h. one-known s g ids pairs l p taken noted h))
