-- What the buckets of a group do to the values: its clauses become true, those of other groups stay so, and so does
-- what remains of the formula.
use Rattle.std.proofs.Common.{ℕ, zero, suc, ◌≡◌, ◌+◌, ◌≤◌, ◌==◌, Bool, true, false, not, cond, ◌||◌, List, [], ◌∷◌, ◌++◌, map, Option, None, Some, refl, sym, ap, ap₂, subst, ◌∙◌, inl, inr, arith, true≢false}
use Rattle.std.specs.Prelude.{◌⊎◌, option_to_list, IfSome}
use Rattle.std.specs.List.{list_any, AllByRecursion}
use Rattle.std.proofs.lemmas.Bool.{cond-true, cond-false, eq-eqb, eqb-true, or_cases, or_left, or_right, or_parts, false_from_ne_true}
use Rattle.kn_logic.specs.Literals.{Literal, has, AreKnown, places}
use Rattle.kn_logic.specs.Assignments.{value_of, is_true, true_places}
use Rattle.kn_logic.specs.Constraints.{Bounded, Holds, IsOff, Fits}
use Rattle.kn_logic.specs.Groups.{Gathered, is_among, IsCovered}
use Rattle.kn_logic.proofs.Public.{All-has}
use Rattle.kn_diagram.specs.Diagrams.{with_value, is_true_by, function_of}
use Rattle.kn_diagram.specs.Wide.{Ignores}
use Rattle.kn_quant.specs.Eliminations.{Eliminated, steps_of}
use Rattle.kn_quant.specs.Runs.{Function, Step, all_joins, all_whole, Runs, clause_function, AgreeBut}
use Rattle.kn_quant.specs.Rebuilt.{rebuilt}
use Rattle.kn_quant.proofs.Public.{AreTrue, holds-run, rebuilt-hold, rebuilt-kept}
use Rattle.kn_extract.specs.Structure.{IsClear, IsOver, IsForeign}
use Rattle.kn_extract.specs.Kept.{Took, IsTaken, IsEliminated}
use Rattle.kn_rebuild.specs.Rebuilding.{AreAlike, IsByBucket, IsDone, buckets_in}
use Rattle.kn_rebuild.proofs.Ignoring.{same-value, buckets-ignore, buckets-among, rebuilt-by-rule, later-stay, AreApart}

-- ---- the run of a group that was taken

pub record HasRun (t : Took) : Type 0 where
  pub steps : List Step
  pub function : Function
  pub run : Runs t.group.aux (map clause_function t.group.taken) steps (buckets_in t.elimination) function

run-by : (t : Took) (o : Option Eliminated) → IsEliminated t.group o → t.elimination ≡ o → HasRun t
run-by t None pairs is = record {
  steps = all_joins (map clause_function t.group.taken);
  function = all_whole (map clause_function t.group.taken);
  run = subst (λ ys. Runs ys (map clause_function t.group.taken) (all_joins (map clause_function t.group.taken)) (buckets_in t.elimination) (all_whole (map clause_function t.group.taken))) (sym pairs.aux)
      (refl, ap buckets_in is, refl);
}
run-by t (Some e) made is = record {
  steps = steps_of e.table e.stages;
  function = function_of e.table e.result;
  run = subst (λ b. Runs t.group.aux (map clause_function t.group.taken) (steps_of e.table e.stages) b (function_of e.table e.result)) (sym (ap buckets_in is)) made.1.run;
}

pub has-run : (t : Took) → IsTaken t → HasRun t
has-run t taken = run-by t t.elimination taken.elimination refl

-- ---- a variable that is none of a group

pub record IsStrange (z : ℕ) (g : Gathered) : Type 0 where
  pub aux : is_among g.aux z ≡ false
  pub border : AllByRecursion (λ l. (l.variable == z) ≡ false) g.border

covered-other : (z : ℕ) (g : Gathered) (l : Literal) → IsStrange z g → IsCovered g l → (l.variable == z) ≡ false
covered-other z g l strange h = by (or_cases (is_among g.aux l.variable) (has g.border l) h)
  where
    by : (is_among g.aux l.variable ≡ true) ⊎ (has g.border l ≡ true) → (l.variable == z) ≡ false
    by (inl i) = false_from_ne_true (l.variable == z) (λ e. true≢false (sym i ∙ ap (is_among g.aux) (eqb-true l.variable z e) ∙ strange.aux))
    by (inr i) = All-has (λ x. (x.variable == z) ≡ false) g.border l strange.border i

lits-ignore : (z : ℕ) (g : Gathered) (lits : List Literal) (v : ℕ → Bool) (b : Bool) → IsStrange z g → AllByRecursion (IsCovered g) lits
    → list_any (is_true_by (with_value v z b)) lits ≡ list_any (is_true_by v) lits
lits-ignore z g [] v b strange h = refl
lits-ignore z g (l ∷ lits) v b strange h =
    ap₂ (λ s t. s || t) (ap (λ q. cond l.positive q (not q)) (cond-false (l.variable == z) b (v l.variable) (covered-other z g l strange h.0))) (lits-ignore z g lits v b strange h.1)

pieces-ignore : (z : ℕ) (g : Gathered) (cs : List Bounded) → IsStrange z g → AllByRecursion (λ c. AllByRecursion (IsCovered g) c.lits) cs → AllByRecursion (λ p. Ignores p z) (map clause_function cs)
pieces-ignore z g [] strange h = tt
pieces-ignore z g (c ∷ cs) strange h = (λ v b. lits-ignore z g c.lits v b strange h.0, pieces-ignore z g cs strange h.1)

-- ---- a group that is done stays so when strange variables change

clauses-set : (z : ℕ) (g : Gathered) (cs : List Bounded) (v : ℕ → Bool) (b : Bool) → IsStrange z g → AllByRecursion (λ c. AllByRecursion (IsCovered g) c.lits) cs
    → AllByRecursion (λ c. clause_function c v ≡ true) cs → AllByRecursion (λ c. clause_function c (with_value v z b) ≡ true) cs
clauses-set z g [] v b strange h k = tt
clauses-set z g (c ∷ cs) v b strange h k = (lits-ignore z g c.lits v b strange h.0 ∙ k.0, clauses-set z g cs v b strange h.1 k.1)

done-set : (z : ℕ) (t : Took) (v : ℕ → Bool) (b : Bool) → IsTaken t → IsStrange z t.group → IsDone v t → IsDone (with_value v z b) t
done-set z t v b taken strange done =
    let r = has-run t taken in (
      clauses-set z t.group t.group.taken v b strange taken.group.covered done.0,
      later-stay z t.group.aux b v (buckets_in t.elimination) strange.aux
          (buckets-among t.group.aux (map clause_function t.group.taken) r.steps (buckets_in t.elimination) r.function r.run)
          (buckets-ignore z t.group.aux (map clause_function t.group.taken) r.steps (buckets_in t.elimination) r.function r.run (pieces-ignore z t.group t.group.taken strange taken.group.covered))
          done.1,
    )

clauses-same : (cs : List Bounded) (v w : ℕ → Bool) → ((x : ℕ) → w x ≡ v x) → AllByRecursion (λ c. clause_function c v ≡ true) cs → AllByRecursion (λ c. clause_function c w ≡ true) cs
clauses-same [] v w h k = tt
clauses-same (c ∷ cs) v w h k = (same-value (clause_function c) w v h ∙ k.0, clauses-same cs v w h k.1)

buckets-same : (b : List (ℕ × Function)) (v w : ℕ → Bool) → ((x : ℕ) → w x ≡ v x) → AllByRecursion (IsByBucket v) b → AllByRecursion (IsByBucket w) b
buckets-same [] v w h k = tt
buckets-same (c ∷ b) v w h k = (
  h c.0 ∙ k.0 ∙ same-value c.1 (with_value v c.0 true) (with_value w c.0 true) (λ x. ap (λ q. cond (x == c.0) true q) (sym (h x))),
  buckets-same b v w h k.1,
)

pub done-moves : (t : Took) (zs : List ℕ) (v w : ℕ → Bool) → IsTaken t → AllByRecursion (λ z. IsStrange z t.group) zs → AgreeBut zs v w → IsDone v t → IsDone w t
done-moves t [] v w taken strange agree done = (
  clauses-same t.group.taken v w (λ x. agree x refl) done.0,
  buckets-same (buckets_in t.elimination) v w (λ x. agree x refl) done.1,
)
done-moves t (z ∷ zs) v w taken strange agree done =
    done-moves t zs (with_value v z (w z)) w taken strange.1 (λ x e. at x e (x == z) refl) (done-set z t v (w z) taken strange.0 done)
  where
    other : (x : ℕ) → (x == z) ≡ false → (z == x) ≡ false
    other x e = false_from_ne_true (z == x) (λ k. true≢false (sym (eq-eqb x z (sym (eqb-true z x k))) ∙ e))

    at : (x : ℕ) → is_among zs x ≡ false → (s : Bool) → (x == z) ≡ s → w x ≡ with_value v z (w z) x
    at x e true k = ap w (eqb-true x z k) ∙ sym (cond-true (x == z) (w z) (v x) k)
    at x e false k = agree x (ap₂ (λ s t. s || t) (other x k) e) ∙ sym (cond-false (x == z) (w z) (v x) k)

-- ---- no variable is 0

over-zero : (vars : ℕ) (xs : List ℕ) → AllByRecursion (λ v. (1 ≤ v) × (v ≤ vars)) xs → is_among xs 0 ≡ false
over-zero vars [] h = refl
over-zero vars (x ∷ xs) h = ap₂ (λ s t. s || t) (false_from_ne_true (x == 0) (λ e. let k = eqb-true x 0 e in absurd (omega (arith, k, h.0.0)))) (over-zero vars xs h.1)

known-zero : (vars : ℕ) (lits : List Literal) → AreKnown vars lits → AllByRecursion (λ l. (l.variable == 0) ≡ false) lits
known-zero vars [] h = tt
known-zero vars (l ∷ lits) h = (false_from_ne_true (l.variable == 0) (λ e. let k = eqb-true l.variable 0 e in absurd (omega (arith, k, h.0.0))), known-zero vars lits h.1)

pub zero-strange : (vars : ℕ) (g : Gathered) → IsOver vars g → IsStrange 0 g
zero-strange vars g over = record { aux = over-zero vars g.aux over.aux; border = known-zero vars g.border over.border }

above-zero : (v w : ℕ → Bool) → AreAlike v w → AgreeBut (0 ∷ []) v w
above-zero v w alike x e = alike x (by x (or_parts (0 == x) false e).0)
  where
    by : (x : ℕ) → (0 == x) ≡ false → 1 ≤ x
    by zero k = absurd (true≢false (sym (eq-eqb 0 0 refl) ∙ k))
    by (suc x) k = omega arith

-- ---- the group itself becomes done

pieces-from : (cs : List Bounded) (v : ℕ → Bool) → AreTrue (map clause_function cs) v → AllByRecursion (λ c. clause_function c v ≡ true) cs
pieces-from [] v h = tt
pieces-from (c ∷ cs) v h = (h.0, pieces-from cs v h.1)

pub own-done : (vars : ℕ) (t : Took) (v w : ℕ → Bool) → IsTaken t → IsOver vars t.group → AreApart t.group.aux → t.klause.bound ≤ places (is_true_by v) t.group.border
    → AreAlike (rebuilt (buckets_in t.elimination) v) w → IsDone w t
own-done vars t v w taken over apart enough alike =
    let r = has-run t taken in
    let holds = (taken.cardinal.counts v).1 enough in
    let truth = holds-run t.group r.steps (buckets_in t.elimination) r.function v r.run holds in
    let u = rebuilt (buckets_in t.elimination) v in
    done-moves t (0 ∷ []) u w taken (zero-strange vars t.group over, tt) (above-zero u w alike) (
      pieces-from t.group.taken u (rebuilt-hold t.group.aux (map clause_function t.group.taken) r.steps (buckets_in t.elimination) r.function v r.run truth),
      rebuilt-by-rule t.group.aux (map clause_function t.group.taken) r.steps (buckets_in t.elimination) r.function v r.run apart,
    )

-- ---- what changes: auxiliary variables of the group alone

pub kept-off : (t : Took) (v w : ℕ → Bool) → IsTaken t → AreAlike (rebuilt (buckets_in t.elimination) v) w → (x : ℕ) → 1 ≤ x → is_among t.group.aux x ≡ false → w x ≡ v x
kept-off t v w taken alike x low off =
    let r = has-run t taken in
    alike x low ∙ rebuilt-kept t.group.aux (map clause_function t.group.taken) r.steps (buckets_in t.elimination) r.function v r.run x off

-- another group stays done
pub among-all : (P : ℕ → Type 0) (xs : List ℕ) (x : ℕ) → AllByRecursion P xs → is_among xs x ≡ true → P x
among-all P [] x a e = absurd (true≢false (sym e))
among-all P (y ∷ xs) x a e = by (λ m. among-all P xs x a.1 m) (or_cases (y == x) (is_among xs x) e)
  where
    by : (is_among xs x ≡ true → P x) → ((y == x) ≡ true) ⊎ (is_among xs x ≡ true) → P x
    by more (inl s) = subst P (eqb-true y x s) a.0
    by more (inr m) = more m

lits-strange : (all : List ℕ) (z : ℕ) (lits : List Literal) → is_among all z ≡ true → AllByRecursion (λ l. is_among all l.variable ≡ false) lits → AllByRecursion (λ l. (l.variable == z) ≡ false) lits
lits-strange all z [] i a = tt
lits-strange all z (l ∷ lits) i a = (
  false_from_ne_true (l.variable == z) (λ e. true≢false (sym i ∙ ap (is_among all) (sym (eqb-true l.variable z e)) ∙ a.0)),
  lits-strange all z lits i a.1,
)

strange-all : (zs : List ℕ) (all : List ℕ) (g : Gathered) → IsForeign all g → ((z : ℕ) → is_among zs z ≡ true → is_among all z ≡ true) → AllByRecursion (λ z. IsStrange z g) zs
strange-all [] all g foreign h = tt
strange-all (z ∷ zs) all g foreign h =
    let i = h z (or_left (z == z) (is_among zs z) (eq-eqb z z refl)) in (
      record {
        aux = false_from_ne_true (is_among g.aux z) (λ e. true≢false (sym i ∙ among-all (λ x. is_among all x ≡ false) g.aux z foreign.aux e));
        border = lits-strange all z g.border i foreign.border;
      },
      strange-all zs all g foreign (λ y e. h y (or_right (z == y) (is_among zs y) e)),
    )

pub other-done : (vars : ℕ) (t y : Took) (v w : ℕ → Bool) → IsTaken t → IsTaken y → IsOver vars y.group → IsForeign t.group.aux y.group
    → AreAlike (rebuilt (buckets_in t.elimination) v) w → IsDone v y → IsDone w y
other-done vars t y v w taken own over foreign alike done =
    done-moves y (0 ∷ t.group.aux) v w own (zero-strange vars y.group over, strange-all t.group.aux t.group.aux y.group foreign (λ z e. e)) (λ x e. at x (or_parts (0 == x) (is_among t.group.aux x) e)) done
  where
    low : (x : ℕ) → (0 == x) ≡ false → 1 ≤ x
    low zero k = absurd (true≢false (sym (eq-eqb 0 0 refl) ∙ k))
    low (suc x) k = omega arith

    at : (x : ℕ) → ((0 == x) ≡ false) × (is_among t.group.aux x ≡ false) → w x ≡ v x
    at x p = kept-off t v w taken alike x (low x p.0) p.1

-- ---- constraints that name no auxiliary variable of the group

truth-stays : (aux : List ℕ) (a b : List Bool) (vars : ℕ) (l : Literal) → ((x : ℕ) → 1 ≤ x → is_among aux x ≡ false → value_of b x ≡ value_of a x) → is_among aux l.variable ≡ false → (1 ≤ l.variable) × (l.variable ≤ vars)
    → is_true b l ≡ is_true a l
truth-stays aux a b vars l same off known = ap (λ q. cond l.positive q (not q)) (same l.variable known.0 off)

places-stay : (aux : List ℕ) (a b : List Bool) (vars : ℕ) (lits : List Literal) → ((x : ℕ) → 1 ≤ x → is_among aux x ≡ false → value_of b x ≡ value_of a x) → AllByRecursion (λ l. is_among aux l.variable ≡ false) lits → AreKnown vars lits
    → true_places b lits ≡ true_places a lits
places-stay aux a b vars [] same off known = refl
places-stay aux a b vars (l ∷ lits) same off known =
    ap₂ {C = ℕ} (λ t n. cond t 1 0 + n) (truth-stays aux a b vars l same off.0 known.0) (places-stay aux a b vars lits same off.1 known.1)

parts-hold : (aux : List ℕ) (a b : List Bool) (vars bound : ℕ) (guard : Option Literal) (lits : List Literal) → ((x : ℕ) → 1 ≤ x → is_among aux x ≡ false → value_of b x ≡ value_of a x)
    → AllByRecursion (λ l. is_among aux l.variable ≡ false) (option_to_list guard ++ lits) → IfSome guard (λ l. (1 ≤ l.variable) × (l.variable ≤ vars)) → AreKnown vars lits
    → (bound ≤ true_places a lits) ⊎ IsOff a guard → (bound ≤ true_places b lits) ⊎ IsOff b guard
parts-hold aux a b vars bound None lits same off g known (inl h) = inl (let e = places-stay aux a b vars lits same off known in omega (arith, e, h))
parts-hold aux a b vars bound None lits same off g known (inr h) = absurd h
parts-hold aux a b vars bound (Some guard) lits same off g known (inl h) = inl (let e = places-stay aux a b vars lits same off.1 known in omega (arith, e, h))
parts-hold aux a b vars bound (Some guard) lits same off g known (inr h) = inr (truth-stays aux a b vars guard same off.0 g ∙ h)

pub all-hold : (aux : List ℕ) (a b : List Bool) (vars : ℕ) (cs : List Bounded) → ((x : ℕ) → 1 ≤ x → is_among aux x ≡ false → value_of b x ≡ value_of a x) → AllByRecursion (IsClear aux) cs → AllByRecursion (Fits vars) cs
    → AllByRecursion (Holds a) cs → AllByRecursion (Holds b) cs
all-hold aux a b vars [] same clear fits h = tt
all-hold aux a b vars (c ∷ cs) same clear fits h = (
  parts-hold aux a b vars c.bound c.guard c.lits same clear.0 fits.0.within.guard fits.0.within.lits h.0,
  all-hold aux a b vars cs same clear.1 fits.1 h.1,
)
