-- The klause of an elimination: its result is the diagram of a count over the border, and the line of the klause steps.
use Rattle.std.proofs.Common.{◌≡◌, ℕ, suc, ◌+◌, ◌-◌, ◌≤◌, ◌<◌, ◌==◌, ◌||◌, ◌⊎◌, ◌↔◌, ◌++◌, inl, inr, Bool, true, false, not, if◌then◌else◌, cond, List, [], ◌∷◌, length, map, reverse, nat_le, slice_index, get_or, Option, Some, Result, Ok, Err, refl, sym, ap, ◌∙◌, subst, arith, length-append}
use Rattle.std.specs.List.{AllByRecursion}
use Rattle.std.specs.Result.{IsOk}
use Rattle.std.proofs.lemmas.Bool.{cases_eq, cases_lt, cond-true, ne_eqb, eq-eqb, and_from, and_parts, le-leb, lt-leb, true≢false}
use Rattle.std.proofs.lemmas.List.{length-reverse, get_or-reverse, get_or-append_right, get_or-map, length-map, reverse-append}
use Rattle.std.proofs.lemmas.List.Folds.{list_any-append, list_any_at, list_any_none}
use Rattle.std.proofs.lemmas.List.Kept.{AllPairs-from_increasing}
use Rattle.indexmap.proofs.ReorderLemmas.{map-reverse}
use Rattle.kn_logic.specs.Literals.{Literal, names, places, AreDifferent, IsKnown, AreKnown}
use Rattle.kn_logic.specs.Constraints.{Bounded, clause, klause}
use Rattle.kn_logic.specs.Groups.{Gathered, IsGroup, is_among}
use Rattle.kn_logic.proofs.Public.{different-push}
use Rattle.kn_lines.specs.declared.line.Arm.{Arm}
use Rattle.kn_lines.specs.declared.line.Arm.TheVariants as arm
use Rattle.kn_rules.specs.declared.given.Origin.TheVariants as origin
use Rattle.kn_rules.specs.Grids.{stands_for, is_root}
use Rattle.kn_rules.specs.States.{ProofState, definition_of, live_at}
use Rattle.kn_rules.specs.Steps.{are_known, are_different, is_unit, if_unit, count, with_one}
use Rattle.kn_diagram.specs.Diagrams.{Table, IsTable, IsNode, with_value, function_of, depth_of, is_true_by}
use Rattle.kn_diagram.proofs.Public.{not_above, is-branch}
use Rattle.kn_quant.specs.Eliminations.{Eliminated, IsEliminationOf}
use Rattle.kn_justify.specs.declared.name.Name.{Name}
use Rattle.kn_justify.specs.Arms.{literals_of}
use Rattle.kn_justify.specs.Names.{name_of, positive_of, HasNames, IsUnit}
use Rattle.kn_justify.specs.Counts.{IsCount}
use Rattle.kn_justify.specs.Taken.{CountsBorder}
use Rattle.kn_justify.proofs.NameLemmas.{arm_named, has-own, name-right}
use Rattle.kn_justify.proofs.GridLemmas.{count-stands, at_depth, within}

-- lists that are turned
turned : (l : Literal) (lits : List Literal) → reverse (l ∷ lits) ≡ reverse lits ++ l ∷ []
turned l lits = reverse-append (l ∷ []) lits

or_turned : (a b : Bool) → (a || (b || false)) ≡ (b || a)
or_turned true true = refl
or_turned true false = refl
or_turned false true = refl
or_turned false false = refl

names-turned : (lits : List Literal) (x : ℕ) → names (reverse lits) x ≡ names lits x
names-turned [] x = refl
names-turned (l ∷ lits) x =
    ap (λ (xs : List Literal). names xs x) (turned l lits) ∙ list_any-append (λ k. k.variable == x) (reverse lits) (l ∷ [])
    ∙ ap (λ (b : Bool). b || ((l.variable == x) || false)) (names-turned lits x) ∙ or_turned (names lits x) (l.variable == x)

different-turned : (lits : List Literal) → AreDifferent lits → AreDifferent (reverse lits)
different-turned [] h = tt
different-turned (l ∷ lits) h = subst AreDifferent (sym (turned l lits)) (different-push (reverse lits) l (different-turned lits h.1) (names-turned lits l.variable ∙ h.0))

places-push : (test : Literal → Bool) (xs : List Literal) (l : Literal) → places test (xs ++ l ∷ []) ≡ (if test l then 1 else 0) + places test xs
places-push test [] l = refl
places-push test (x ∷ xs) l = omega (arith, places-push test xs l)

pub places-turned : (test : Literal → Bool) (lits : List Literal) → places test (reverse lits) ≡ places test lits
places-turned test [] = refl
places-turned test (l ∷ lits) = ap (λ (xs : List Literal). places test xs) (turned l lits) ∙ places-push test (reverse lits) l ∙ ap (λ (n : ℕ). (if test l then 1 else 0) + n) (places-turned test lits)

known-push : (vars : ℕ) (xs : List Literal) (l : Literal) → are_known vars xs ≡ true → IsKnown vars l → are_known vars (xs ++ l ∷ []) ≡ true
known-push vars [] l h k = and_from _ _ (and_from _ _ (le-leb _ _ k.0) (le-leb _ _ k.1)) refl
known-push vars (x ∷ xs) l h k = (let parts = and_parts _ (are_known vars xs) h in and_from _ _ parts.0 (known-push vars xs l parts.1 k))

pub known-turned : (vars : ℕ) (lits : List Literal) → AreKnown vars lits → are_known vars (reverse lits) ≡ true
known-turned vars [] h = refl
known-turned vars (l ∷ lits) h = subst (λ (xs : List Literal). are_known vars xs ≡ true) (sym (turned l lits)) (known-push vars (reverse lits) l (known-turned vars lits h.1) h.0)

-- the border's variables are different
different_by : (lits : List Literal) → ((i j : ℕ) (d : ℕ) → i < j → j < length (map (λ l. l.variable) lits) → get_or (map (λ l. l.variable) lits) i d < get_or (map (λ l. l.variable) lits) j d) → AreDifferent lits
different_by [] h = tt
different_by (l ∷ lits) h = (
  list_any_none (λ k. k.variable == l.variable) lits
      (λ k d within. ne_eqb _ _ (λ e.
      let less = h 0 (suc k) 0 (omega arith) (omega (arith, length-map lits (λ (x : Literal). x.variable))) in
      omega (arith, less, e, get_or-map (λ (x : Literal). x.variable) lits k d 0 within))),
  different_by lits (λ i j d less within. h (suc i) (suc j) d (omega arith) (omega arith)),
)

pub border-different : (g : Gathered) → IsGroup g → AreDifferent g.border
border-different g h = different_by g.border (λ i j d less within. AllPairs-from_increasing (map (λ l. l.variable) g.border) h.border i j d less within)

-- the result is of no variable above the border
aux_at : (g : Gathered) (d : Table) (k : ℕ) → d.order ≡ reverse (map (λ l. l.variable) g.border ++ g.aux) → k < length g.aux → is_among g.aux (slice_index d.order k) ≡ true
aux_at g d k e low =
    let vars = map (λ (l : Literal). l.variable) g.border in
    let all = vars ++ g.aux in
    let total = length-append vars g.aux in
    let i = length g.aux - 1 - k in
    let x : slice_index d.order k ≡ get_or g.aux i 0 =
    ap (λ o. slice_index o k) e ∙ get_or-reverse all k 0 (omega (arith, total, low))
    ∙ ap (λ j. get_or all j 0) {x = length all - 1 - k} {y = length vars + i} (omega (arith, total, low))
    ∙ get_or-append_right vars g.aux (length vars) (length vars + i) 0 refl (omega arith)
    ∙ ap (λ j. get_or g.aux j 0) {x = length vars + i - length vars} {y = i} (omega arith) in
    list_any_at (λ v. v == slice_index d.order k) g.aux i 0 (omega (arith, low)) (eq-eqb (get_or g.aux i 0) (slice_index d.order k) (sym x))

other-value : (v : ℕ → Bool) (x y : ℕ) (b : Bool) → (y == x) ≡ false → with_value v x b y ≡ v y
other-value v x y b e = ap (λ (t : Bool). if t then b else v y) e

agrees_at : (g : Gathered) (lits : List Literal) (y : ℕ) (v : ℕ → Bool) (b c : Bool) → is_among g.aux y ≡ true → AllByRecursion (λ l. is_among g.aux l.variable ≡ false) lits
    → AllByRecursion (λ l. with_value v y b l.variable ≡ with_value v y c l.variable) lits
agrees_at g [] y v b c h apart = tt
agrees_at g (l ∷ lits) y v b c h apart =
    let ne : (l.variable == y) ≡ false = ne_eqb l.variable y (λ e. true≢false (sym h ∙ ap (is_among g.aux) (sym e) ∙ apart.0)) in
    (other-value v y l.variable b ne ∙ sym (other-value v y l.variable c ne), agrees_at g lits y v b c h apart.1)

root-below : (g : Gathered) (e : Eliminated) → IsGroup g → IsEliminationOf g e → IsTable e.table → IsNode e.table e.result → length g.aux ≤ depth_of e.table e.result
root-below g e group h ok there =
    let vars = map (λ (l : Literal). l.variable) g.border in
    not_above e.table e.result (length g.aux) ok there
    (omega (arith, ap length h.order, length-reverse (vars ++ g.aux), length-append vars g.aux))
    (λ k low v.
    let y = slice_index e.table.order k in
    h.border (with_value v y true) (with_value v y false) (agrees_at g g.border y v true false (aux_at g e.table k h.order low) group.apart))

-- the result is the diagram of its count
counts_at : (bound n : ℕ) (b : Bool) → (b ≡ true → bound ≤ n) → (bound ≤ n → b ≡ true) → ((n < bound) ⊎ (bound ≤ n)) → b ≡ nat_le bound n
counts_at bound n true f h (inl low) = absurd (omega (arith, f refl, low))
counts_at bound n false f h (inl low) = sym (lt-leb bound n low)
counts_at bound n b f h (inr high) = h high ∙ sym (le-leb bound n high)

pub is-count : (g : Gathered) (e : Eliminated) (bound : ℕ) → IsGroup g → IsEliminationOf g e → IsTable e.table → IsNode e.table e.result → CountsBorder g bound → IsCount e.table (reverse g.aux) (reverse g.border) bound e.result
is-count g e bound group h ok there counts = record {
  order = h.order ∙ reverse-append (map (λ l. l.variable) g.border) g.aux ∙ ap (λ (xs : List ℕ). reverse g.aux ++ xs) (sym (map-reverse (λ l. l.variable) g.border));
  different = different-turned g.border (border-different g group);
  there = there;
  depth = omega (arith, length-reverse g.aux, root-below g e group h ok there);
  counts = λ v.
      counts_at bound (places (is_true_by v) g.border) (function_of e.table e.result v) (λ t. (counts v).0 ((h.meaning v).0 t)) (λ low. (h.meaning v).1 ((counts v).1 low)) (cases_lt (places (is_true_by v) g.border) bound)
      ∙ ap (λ (n : ℕ). nat_le bound n) (sym (places-turned (is_true_by v) g.border));
}

-- the result is no constant
pub count-branch : (d : Table) (front : List ℕ) (lits : List Literal) (bound f : ℕ) → IsTable d → IsCount d front lits bound f → 1 ≤ bound → bound ≤ length lits → 2 ≤ f
count-branch d front [] bound f ok h low top = absurd (omega (arith, low, top))
count-branch d front (l ∷ lits) bound f ok h low top =
    is-branch d f ok (omega (arith, at_depth d front l lits bound f ok h low (omega (arith, top)) (cases_eq (depth_of d f) (length front)), within d front l lits bound f h))

-- the line of the klause steps
different-is : (lits : List Literal) → AreDifferent lits → are_different lits ≡ true
different-is [] h = refl
different-is (l ∷ lits) h = and_from _ _ (ap not h.0) (different-is lits h.1)

unit-is : (l : Literal) → l.positive ≡ true → is_unit (clause (l ∷ [])) l.variable ≡ true
unit-is l p = and_from _ _ (eq-eqb l.variable l.variable refl) (ap (λ (b : Bool). cond b true false) p)

four : (s : ProofState) (bound : ℕ) (lits : List Literal) (root : ℕ) (o : Option Bounded) (u : Bounded) → o ≡ Some u → are_different lits ≡ true → is_root (definition_of s) lits bound root ≡ true → is_unit u root ≡ true → if_unit s bound lits root o ≡ Ok (with_one s origin.Klause (klause bound lits))
four s bound lits root o u e a b c = rw (e, a, b, c) refl

positive-is : (l : Literal) → l.positive ≡ true → l ≡ positive_of l.variable
positive-is l p = λ i. record { variable = l.variable; positive = p i }

pub klause-steps : (s : ProofState) (d : Table) (names : List (ℕ × Name)) (front : List ℕ) (lits : List Literal) (bound f unit : ℕ) (n : Name) → IsTable d → IsCount d front lits bound f → HasNames s d names f → 1 ≤ bound → bound ≤ length lits
    → are_known s.vars lits ≡ true → name_of names f ≡ Some n → IsUnit s.given names f (Some unit) → IsOk (count s bound lits n.lit.variable unit)
klause-steps s d names front lits bound f unit n ok h k low top known is live =
    let two = count-branch d front lits bound f ok h low top in
    let right = name-right s d names f n (has-own s d names f k) two is in
    let arm_is = arm_named names f n two is in
    let positive = right.defined.positive in
    let stands : stands_for (definition_of s) lits bound (arm.Lit (positive_of n.lit.variable)) ≡ true =
    subst (λ (l : Literal). stands_for (definition_of s) lits bound (arm.Lit l) ≡ true) (positive-is n.lit positive)
    (subst (λ (a : Arm). stands_for (definition_of s) lits bound a ≡ true) arm_is (count-stands s d names lits front bound f ok h k)) in
    let unit_live : live_at s.given unit ≡ Some (clause (n.lit ∷ [])) = live.1 ∙ ap (λ (a : Arm). Some (clause (literals_of (a ∷ [])))) arm_is in
    let is_ok = cond-true _ (if_unit s bound lits n.lit.variable (live_at s.given unit)) (Err 3) (and_from _ _ known (and_from _ _ (le-leb _ _ right.defined.known.0) (le-leb _ _ right.defined.known.1)))
    ∙ four s bound lits n.lit.variable (live_at s.given unit) (clause (n.lit ∷ [])) unit_live (different-is lits h.different) stands (unit-is n.lit positive) in
    subst (λ (r : Result ProofState ℕ). IsOk r) (sym is_ok) refl
