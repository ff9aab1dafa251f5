-- One group after another: those before it stay done, and at the end all clauses hold.
use Rattle.std.proofs.Common.{ℕ, zero, suc, ◌≡◌, ◌+◌, ◌-◌, ◌≤◌, ◌<◌, ◌==◌, Bool, true, false, cond, ◌||◌, List, [], ◌∷◌, ◌++◌, length, map, get_or, Option, None, Some, refl, sym, ap₂, subst, ◌∙◌, inl, inr, arith, true≢false}
use Rattle.std.specs.Prelude.{take, slice_index, reverse}
use Rattle.std.specs.List.{list_any, AllByRecursion}
use Rattle.std.specs.Option.{is_none}
use Rattle.std.proofs.lemmas.Bool.{eqb-true, or_parts, and_parts}
use Rattle.std.proofs.lemmas.List.{get_or-reverse, length-reverse, length-map, take_more}
use Rattle.std.proofs.lemmas.List.Folds.{list_any-append}
use Rattle.std.proofs.lemmas.List.Elements.{All-from_recursion}
use Rattle.kn_logic.specs.Literals.{Literal, AreKnown, places}
use Rattle.kn_logic.specs.Assignments.{value_of, is_true}
use Rattle.kn_logic.specs.Constraints.{Bounded, is_clause, Holds}
use Rattle.kn_logic.specs.Formulas.{Satisfies}
use Rattle.kn_logic.specs.Groups.{Gathered, is_among}
use Rattle.kn_logic.proofs.Public.{All-append}
use Rattle.kn_diagram.specs.Diagrams.{Table, IsNode, is_true_by, function_of}
use Rattle.kn_quant.specs.declared.stage.Bucket.{Bucket}
use Rattle.kn_quant.specs.Eliminations.{Eliminated, IsEliminationOf, buckets_of, steps_of}
use Rattle.kn_quant.specs.Runs.{clause_function, order_of}
use Rattle.kn_quant.specs.Rebuilt.{rebuilt}
use Rattle.kn_store.proofs.Public.{Rises, rises, from-map}
use Rattle.kn_extract.specs.Extractions.{Found, klause_of, listed}
use Rattle.kn_extract.specs.Structure.{IsClear, IsOver, StandApart, Pairwise, HoldTaken}
use Rattle.kn_extract.specs.Kept.{Took, Extracted, IsTaken, IsExtracted, IsEliminated, found_of}
use Rattle.kn_rebuild.specs.Rebuilding.{AreAlike, AreByRule, IsDone, IsPartly, buckets_in, IsOrderWithin, IsBucketWithin}
use Rattle.kn_rebuild.proofs.Ignoring.{AreApart, buckets-among}
use Rattle.kn_rebuild.proofs.Grouping.{has-run, among-all, own-done, other-done, kept-off, all-hold}

-- ---- an element at a place

at : {X : Type 0} (P : X → Type 0) (xs : List X) (k : ℕ) (d : X) → AllByRecursion P xs → k < length xs → P (get_or xs k d)
at P xs k d h less = All-from_recursion P xs h k d less

take-at : {X : Type 0} (P : X → Type 0) (xs : List X) (k : ℕ) (d : X) → k < length xs → AllByRecursion P (take k xs) → P (get_or xs k d) → AllByRecursion P (take (k + 1) xs)
take-at P xs k d less h p = subst (AllByRecursion P) (sym (take_more xs k d less)) (All-append P (take k xs) (get_or xs k d ∷ []) h (p, tt))

all-before : {X : Type 0} (P : X → Type 0) (xs : List X) (k : ℕ) → AllByRecursion P xs → AllByRecursion P (take k xs)
all-before P xs zero h = tt
all-before P [] (suc k) h = tt
all-before P (x ∷ xs) (suc k) h = (h.0, all-before P xs k h.1)

pairwise-at : {X : Type 0} (R : X → X → Type 0) (xs : List X) (k : ℕ) (d : X) → Pairwise R xs → k < length xs → AllByRecursion (λ y. R y (get_or xs k d)) (take k xs)
pairwise-at R [] k d h less = absurd (omega (arith, less))
pairwise-at R (x ∷ xs) zero d h less = tt
pairwise-at R (x ∷ xs) (suc k) d h less = (at (R x) xs k d h.0 (omega (arith, less)), pairwise-at R xs k d h.1 (omega (arith, less)))

pairwise-map : {X Y : Type 0} (f : X → Y) (R : Y → Y → Type 0) (xs : List X) → Pairwise R (map f xs) → Pairwise (λ x y. R (f x) (f y)) xs
pairwise-map f R [] h = tt
pairwise-map f R (x ∷ xs) h = (from-map f (R (f x)) xs h.0, pairwise-map f R xs h.1)

-- ---- what the bodies ask for: the variables of a group are those of the assignment

rises-above : (x y : ℕ) (xs : List ℕ) → y ≤ x → AllByRecursion (λ z. x < z) xs → is_among xs y ≡ false
rises-above x y [] le h = refl
rises-above x y (z ∷ xs) le h = ap₂ (λ s t. s || t) (differs (z == y) refl) (rises-above x y xs le h.1)
  where
    differs : (b : Bool) → (z == y) ≡ b → (z == y) ≡ false
    differs false e = e
    differs true e = let k = eqb-true z y e in absurd (omega (arith, k, le, h.0))

rises-apart : (xs : List ℕ) → Rises xs → AreApart xs
rises-apart [] h = tt
rises-apart (x ∷ xs) h = (rises-above x x xs (omega arith) h.0, rises-apart xs h.1)

abbrev pub IsIn : ℕ → ℕ → Type 0
IsIn vars x = (1 ≤ x) × (x ≤ vars)

known-in : (vars : ℕ) (lits : List Literal) → AreKnown vars lits → AllByRecursion (IsIn vars) (map (λ l. l.variable) lits)
known-in vars [] h = tt
known-in vars (l ∷ lits) h = (h.0, known-in vars lits h.1)

reverse-at : (P : ℕ → Type 0) (xs : List ℕ) (k : ℕ) → AllByRecursion P xs → k < length (reverse xs) → P (slice_index (reverse xs) k)
reverse-at P xs k h less =
    let long = length-reverse xs in
    subst P (sym (get_or-reverse xs k 0 (omega (arith, less, long)))) (at P xs (length xs - 1 - k) 0 h (omega (arith, less, long)))

pub order-within : (vars : ℕ) (g : Gathered) (d : Table) → IsOver vars g → d.order ≡ order_of g → IsOrderWithin vars d
order-within vars g d over is depth less =
    subst (λ o. IsIn vars (slice_index o depth)) (sym is)
    (reverse-at (IsIn vars) (map (λ l. l.variable) g.border ++ g.aux) depth (All-append (IsIn vars) (map (λ l. l.variable) g.border) g.aux (known-in vars g.border over.border) over.aux)
    (subst (λ o. depth < length o) is less))

among-in : (vars : ℕ) (xs : List ℕ) (x : ℕ) → AllByRecursion (IsIn vars) xs → is_among xs x ≡ true → IsIn vars x
among-in vars xs x h e = among-all (IsIn vars) xs x h e

buckets-in : (vars : ℕ) (aux : List ℕ) (d : Table) (buckets : List Bucket) → AllByRecursion (IsIn vars) aux → AllByRecursion (λ c. is_among aux c.0 ≡ true) (buckets_of d buckets)
    → AllByRecursion (λ b. IsNode d b.function) buckets → AllByRecursion (IsBucketWithin vars d) buckets
buckets-in vars aux d [] over among there = tt
buckets-in vars aux d (b ∷ buckets) over among there = let p = among-in vars aux b.var over among.0 in ((there.0, p.0, p.1), buckets-in vars aux d buckets over among.1 there.1)

pub buckets-within : (vars : ℕ) (g : Gathered) (e : Eliminated) → IsOver vars g → IsEliminationOf g e → AllByRecursion (λ b. IsNode e.table b.function) e.buckets → AllByRecursion (IsBucketWithin vars e.table) e.buckets
buckets-within vars g e over made there =
    buckets-in vars g.aux e.table e.buckets over.aux
    (buckets-among g.aux (map clause_function g.taken) (steps_of e.table e.stages) (buckets_of e.table e.buckets) (function_of e.table e.result) made.run) there

made-of : (g : Gathered) (o : Option Eliminated) (e : Eliminated) → IsEliminated g o → o ≡ Some e → IsEliminationOf g e
made-of g None e h k = absurd cc
made-of g (Some x) e h k = subst (λ z. IsEliminationOf g z) (one x e k) h.1
  where
    one : (x e : Eliminated) → ◌≡◌ {A = Option Eliminated} (Some x) (Some e) → x ≡ e
    one x e k = cc

pub elimination-of : (t : Took) (e : Eliminated) → IsTaken t → t.elimination ≡ Some e → IsEliminationOf t.group e
elimination-of t e taken is = made-of t.group t.elimination e taken.elimination is

-- ---- one group

listed-all : (found : List Found) (k : ℕ) (d : Found) (x : ℕ) → k < length found → is_among (listed found) x ≡ false → is_among (get_or found k d).group.aux x ≡ false
listed-all [] k d x less off = absurd (omega (arith, less))
listed-all (y ∷ found) zero d x less off = (or_parts (is_among y.group.aux x) (is_among (listed found) x) (sym (list_any-append (λ v. v == x) y.group.aux (listed found)) ∙ off)).0
listed-all (y ∷ found) (suc k) d x less off =
    listed-all found k d x (omega (arith, less)) (or_parts (is_among y.group.aux x) (is_among (listed found) x) (sym (list_any-append (λ v. v == x) y.group.aux (listed found)) ∙ off)).1

get-map : {X Y : Type 0} (f : X → Y) (xs : List X) (k : ℕ) (d : X) → get_or (map f xs) k (f d) ≡ f (get_or xs k d)
get-map f [] k d = refl
get-map f (x ∷ xs) zero d = refl
get-map f (x ∷ xs) (suc k) d = get-map f xs k d

enough : (values : List Bool) (t : Took) → Holds values (klause_of (found_of t)) → t.klause.bound ≤ places (is_true_by (value_of values)) t.group.border
enough values t (inl h) = h
enough values t (inr off) = absurd off

abbrev pub Laws : Extracted → Type 0
Laws e = AllByRecursion (λ t. IsOver e.original.vars t.group) e.taken × AllByRecursion (λ t. AllByRecursion (IsClear t.group.aux) e.formula.constraints) e.taken
    × Pairwise (λ t y. StandApart (found_of t) (found_of y)) e.taken × (e.formula.vars ≡ e.original.vars)

pub step-partly : (e : Extracted) (old m new : List Bool) (k : ℕ) (t : Took) → IsExtracted e → Laws e
    → ((values : List Bool) → Satisfies values e.formula → AllByRecursion (λ x. Holds values (klause_of (found_of x))) e.taken)
    → IsPartly e old m k → k < length e.taken → t ≡ get_or e.taken k t → length new ≡ length m
    → AreAlike (rebuilt (buckets_in t.elimination) (value_of m)) (value_of new) → IsPartly e old new (k + 1)
step-partly e old m new k t extracted laws klauses partly less is long alike =
    let vars = e.original.vars in
    let taken : IsTaken t = subst IsTaken (sym is) (at IsTaken e.taken k t extracted.taken less) in
    let over : IsOver vars t.group = subst (λ x. IsOver vars x.group) (sym is) (at (λ x. IsOver vars x.group) e.taken k t laws.0 less) in
    let clear : AllByRecursion (IsClear t.group.aux) e.formula.constraints = subst (λ x. AllByRecursion (IsClear x.group.aux) e.formula.constraints) (sym is) (at (λ x. AllByRecursion (IsClear x.group.aux) e.formula.constraints) e.taken k t laws.1 less) in
    let klause : Holds m (klause_of (found_of t)) = subst (λ x. Holds m (klause_of (found_of x))) (sym is) (at (λ x. Holds m (klause_of (found_of x))) e.taken k t (klauses m partly.model) less) in
    let apart : AllByRecursion (λ y. StandApart (found_of y) (found_of t)) (take k e.taken) = subst (λ x. AllByRecursion (λ y. StandApart (found_of y) (found_of x)) (take k e.taken)) (sym is) (pairwise-at (λ x y. StandApart (found_of x) (found_of y)) e.taken k t laws.2 less) in
    let own : IsDone (value_of new) t = own-done vars t (value_of m) (value_of new) taken over (rises-apart t.group.aux (rises t.group.aux taken.group.aux)) (enough m t klause) alike in
    record {
      model = record {
        vars = long ∙ partly.model.vars;
        hold = all-hold t.group.aux m new e.formula.vars e.formula.constraints (kept-off t (value_of m) (value_of new) taken alike) clear extracted.formula partly.model.hold;
      };
      done = take-at (IsDone (value_of new)) e.taken k t less
          (all-three (λ y. IsTaken y) (λ y. IsOver vars y.group) (λ y. StandApart (found_of y) (found_of t)) (IsDone (value_of m)) (IsDone (value_of new))
          (λ y own_taken own_over foreign done. other-done vars t y (value_of m) (value_of new) taken own_taken own_over foreign.1 alike done)
          (take k e.taken) (all-before IsTaken e.taken k extracted.taken) (all-before (λ y. IsOver vars y.group) e.taken k laws.0) apart partly.done)
          (subst (IsDone (value_of new)) is own);
      changed = λ x low off.
          kept-off t (value_of m) (value_of new) taken alike x low
          (subst (λ y. is_among y.group.aux x ≡ false) (sym is) (subst (λ y. is_among y.group.aux x ≡ false) (get-map found_of e.taken k t) (listed-all (map found_of e.taken) k (found_of t) x (let n = length-map e.taken found_of in omega (arith, n, less)) off)))
          ∙ partly.changed x low off;
    }
  where
    all-three : (P Q R S U : Took → Type 0) → ((x : Took) → P x → Q x → R x → S x → U x) → (xs : List Took) → AllByRecursion P xs → AllByRecursion Q xs → AllByRecursion R xs → AllByRecursion S xs → AllByRecursion U xs
    all-three P Q R S U f [] p q r s = tt
    all-three P Q R S U f (x ∷ xs) p q r s = (f x p.0 q.0 r.0 s.0, all-three P Q R S U f xs p.1 q.1 r.1 s.1)

-- ---- all groups

places-from-any : (test : Literal → Bool) (lits : List Literal) → list_any test lits ≡ true → 1 ≤ places test lits
places-from-any test [] h = absurd (true≢false (sym h))
places-from-any test (l ∷ lits) h = by (places-from-any test lits) (test l) refl h
  where
    by : (list_any test lits ≡ true → 1 ≤ places test lits) → (b : Bool) → test l ≡ b → (test l || list_any test lits) ≡ true → 1 ≤ cond (test l) 1 0 + places test lits
    by more true e k = subst (λ b. 1 ≤ cond b 1 0 + places test lits) (sym e) (omega arith)
    by more false e k = let rest = more (subst (λ b. (b || list_any test lits) ≡ true) e k) in omega (arith, rest)

clause-holds : (values : List Bool) (c : Bounded) → is_clause c ≡ true → clause_function c (value_of values) ≡ true → Holds values c
clause-holds values c is h = inl (
    let bound = eqb-true c.bound 1 (and_parts (is_none c.guard) (c.bound == 1) is).1 in
    let some = places-from-any (is_true values) c.lits h in
    omega (arith, bound, some))

clauses-hold : (values : List Bool) (cs : List Bounded) → AllByRecursion (λ c. is_clause c ≡ true) cs → AllByRecursion (λ c. clause_function c (value_of values) ≡ true) cs → AllByRecursion (Holds values) cs
clauses-hold values [] is h = tt
clauses-hold values (c ∷ cs) is h = (clause-holds values c is.0 h.0, clauses-hold values cs is.1 h.1)

pub taken-hold : (values : List Bool) (ts : List Took) → AllByRecursion IsTaken ts → AllByRecursion (IsDone (value_of values)) ts → HoldTaken values (map found_of ts)
taken-hold values [] taken done = tt
taken-hold values (t ∷ ts) taken done = (clauses-hold values t.group.taken taken.0.group.clauses done.0.0, taken-hold values ts taken.1 done.1)

pub rules-hold : (values : List Bool) (ts : List Took) → AllByRecursion IsTaken ts → AllByRecursion (IsDone (value_of values)) ts → AllByRecursion (λ t. AreByRule values t.group) ts
rules-hold values [] taken done = tt
rules-hold values (t ∷ ts) taken done = (
  (let r = has-run t taken.0 in (r.steps, buckets_in t.elimination, r.function, r.run, done.0.1)),
  rules-hold values ts taken.1 done.1,
)

take-all : {X : Type 0} (P : X → Type 0) (xs : List X) (k : ℕ) → length xs ≤ k → AllByRecursion P (take k xs) → AllByRecursion P xs
take-all P [] k le h = tt
take-all P (x ∷ xs) zero le h = absurd (omega (arith, le))
take-all P (x ∷ xs) (suc k) le h = (h.0, take-all P xs k (omega (arith, le)) h.1)

pub all-done : (e : Extracted) (old m : List Bool) (k : ℕ) → length e.taken ≤ k → IsPartly e old m k → AllByRecursion (IsDone (value_of m)) e.taken
all-done e old m k le partly = take-all (IsDone (value_of m)) e.taken k le partly.done

pub laws-of : (e : Extracted) → IsExtracted e → AllByRecursion (λ x. IsOver e.original.vars x.group) (map found_of e.taken) → AllByRecursion (λ x. AllByRecursion (IsClear x.group.aux) e.formula.constraints) (map found_of e.taken)
    → Pairwise StandApart (map found_of e.taken) → e.formula.vars ≡ e.original.vars → Laws e
laws-of e extracted over clear apart same = (
  from-map found_of (λ x. IsOver e.original.vars x.group) e.taken over,
  from-map found_of (λ x. AllByRecursion (IsClear x.group.aux) e.formula.constraints) e.taken clear,
  pairwise-map found_of StandApart e.taken apart,
  same,
)
