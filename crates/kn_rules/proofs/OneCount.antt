-- A variable stands for one node of a level alone: the count of its node is fixed by what it leads to.
use Rattle.std.proofs.Common.{ℕ, ◌≡◌, ◌+◌, ◌-◌, ◌<◌, ◌≤◌, ◌==◌, nat_lt, ◌⊎◌, inl, inr, Bool, true, false, not, ◌&&◌, if◌then◌else◌, List, [], ◌∷◌, length, Option, Some, None, refl, sym, ap, ◌∙◌, arith, true≢false}
use Rattle.std.proofs.lemmas.Bool.{eqb-true, eqb-false, ltb-true, ltb-false, cond-true, cond-false, and_parts, or_cases}
use Rattle.kn_logic.specs.Literals.{Literal, negated, is_same}
use Rattle.kn_lines.specs.declared.line.Arm.{Arm}
use Rattle.kn_lines.specs.declared.line.Arm.TheVariants as arm
use Rattle.kn_counter.specs.Grids.{cell_of}
use Rattle.kn_counter.specs.declared.grid.Cell.{Cell}
use Rattle.kn_counter.specs.declared.grid.Cell.TheVariants as cell
use Rattle.kn_rules.specs.declared.definition.Definition.{Definition}
use Rattle.kn_rules.specs.Grids.{splits, stands_as, stands_for}
use Rattle.kn_rules.specs.Demands.{arm_of}

-- what stands for a node that is no constant
record Goes (c : Cell) (p : Definition → Bool) (o : Option Definition) : Type 0 where
  pub inner : c ≡ cell.Inner
  pub d : Definition
  pub defined : o ≡ Some d
  pub goes : p d ≡ true

inner-only : (c : Cell) (p : Definition → Bool) (o : Option Definition) (v : ℕ) → stands_as c p o (arm_of v) ≡ true → Goes c p o
inner-only cell.True p o v e = absurd (true≢false (sym e))
inner-only cell.False p o v e = absurd (true≢false (sym e))
inner-only cell.Inner p None v e = absurd (true≢false (sym e))
inner-only cell.Inner p (Some d) v e = record { inner = refl; d = d; defined = refl; goes = e }

true-only : (c : Cell) (p : Definition → Bool) → stands_as c p None arm.True ≡ true → c ≡ cell.True
true-only cell.True p e = refl
true-only cell.False p e = absurd (true≢false (sym e))
true-only cell.Inner p e = absurd (true≢false (sym e))

false-only : (c : Cell) (p : Definition → Bool) → stands_as c p None arm.False ≡ true → c ≡ cell.False
false-only cell.True p e = absurd (true≢false (sym e))
false-only cell.False p e = refl
false-only cell.Inner p e = absurd (true≢false (sym e))

none-negative : (c : Cell) (p : Definition → Bool) (v : ℕ) → stands_as c p None (arm.Lit (record { variable = v; positive = false })) ≡ true → ⊥
none-negative cell.True p v e = true≢false (sym e)
none-negative cell.False p v e = true≢false (sym e)
none-negative cell.Inner p v e = true≢false (sym e)

cell-true : (m i : ℕ) → cell_of m 1 i ≡ cell.True → i ≡ 0
cell-true m i e = by (i == 0) refl (nat_lt (m + 1 - 1) i) refl
  where
    by : (b : Bool) → (i == 0) ≡ b → (c : Bool) → nat_lt (m + 1 - 1) i ≡ c → i ≡ 0
    by true t c u = eqb-true i 0 t
    by false t true u =
        let z : cell_of m 1 i ≡ cell.False = cond-false (i == 0) cell.True (if nat_lt (m + 1 - 1) i then cell.False else cell.Inner) t ∙ cond-true (nat_lt (m + 1 - 1) i) cell.False cell.Inner u in
        let bad : cell.False ≡ cell.True = sym z ∙ e in absurd (cc)
    by false t false u =
        let z : cell_of m 1 i ≡ cell.Inner = cond-false (i == 0) cell.True (if nat_lt (m + 1 - 1) i then cell.False else cell.Inner) t ∙ cond-false (nat_lt (m + 1 - 1) i) cell.False cell.Inner u in
        let bad : cell.Inner ≡ cell.True = sym z ∙ e in absurd (cc)

cell-false : (m i : ℕ) → cell_of m 1 i ≡ cell.False → m < i
cell-false m i e = by (i == 0) refl (nat_lt (m + 1 - 1) i) refl
  where
    by : (b : Bool) → (i == 0) ≡ b → (c : Bool) → nat_lt (m + 1 - 1) i ≡ c → m < i
    by b t true u = let l = ltb-true (m + 1 - 1) i u in omega arith
    by true t false u =
        let z : cell_of m 1 i ≡ cell.True = cond-true (i == 0) cell.True (if nat_lt (m + 1 - 1) i then cell.False else cell.Inner) t in
        let bad : cell.True ≡ cell.False = sym z ∙ e in absurd (cc)
    by false t false u =
        let z : cell_of m 1 i ≡ cell.Inner = cond-false (i == 0) cell.True (if nat_lt (m + 1 - 1) i then cell.False else cell.Inner) t ∙ cond-false (nat_lt (m + 1 - 1) i) cell.False cell.Inner u in
        let bad : cell.Inner ≡ cell.False = sym z ∙ e in absurd (cc)

cell-inner : (m i : ℕ) → cell_of m 1 i ≡ cell.Inner → (1 ≤ i) × (i ≤ m)
cell-inner m i e = by (i == 0) refl (nat_lt (m + 1 - 1) i) refl
  where
    by : (b : Bool) → (i == 0) ≡ b → (c : Bool) → nat_lt (m + 1 - 1) i ≡ c → (1 ≤ i) × (i ≤ m)
    by true t c u =
        let z : cell_of m 1 i ≡ cell.True = cond-true (i == 0) cell.True (if nat_lt (m + 1 - 1) i then cell.False else cell.Inner) t in
        let bad : cell.True ≡ cell.Inner = sym z ∙ e in absurd (cc)
    by false t true u =
        let z : cell_of m 1 i ≡ cell.False = cond-false (i == 0) cell.True (if nat_lt (m + 1 - 1) i then cell.False else cell.Inner) t ∙ cond-true (nat_lt (m + 1 - 1) i) cell.False cell.Inner u in
        let bad : cell.False ≡ cell.Inner = sym z ∙ e in absurd (cc)
    by false t false u =
        let a = eqb-false i 0 t in let l = ltb-false (m + 1 - 1) i u in (omega (arith, a), omega (arith, l))

-- an arm as a node of the level behind
stands-true : (definition : ℕ → Option Definition) (lits : List Literal) (i : ℕ) → stands_for definition lits i arm.True ≡ true → i ≡ 0
stands-true definition [] i e = cell-true 0 i (true-only (cell_of 0 1 i) _ e)
stands-true definition (l ∷ lits) i e = cell-true (length (l ∷ lits)) i (true-only (cell_of (length (l ∷ lits)) 1 i) _ e)

stands-false : (definition : ℕ → Option Definition) (lits : List Literal) (i : ℕ) → stands_for definition lits i arm.False ≡ true → length lits < i
stands-false definition [] i e = cell-false 0 i (false-only (cell_of 0 1 i) _ e)
stands-false definition (l ∷ lits) i e = cell-false (length (l ∷ lits)) i (false-only (cell_of (length (l ∷ lits)) 1 i) _ e)

stands-negative : (definition : ℕ → Option Definition) (lits : List Literal) (i v : ℕ) → stands_for definition lits i (arm.Lit (record { variable = v; positive = false })) ≡ true → ⊥
stands-negative definition [] i v e = none-negative (cell_of 0 1 i) _ v e
stands-negative definition (l ∷ lits) i v e = none-negative (cell_of (length (l ∷ lits)) 1 i) _ v e

arm-one : (definition : ℕ → Option Definition) (lits : List Literal) (i j : ℕ) (a : Arm) → 1 ≤ i → 1 ≤ j → i ≤ length lits + 1 → j ≤ length lits + 1
    → ((v : ℕ) → stands_for definition lits i (arm_of v) ≡ true → stands_for definition lits j (arm_of v) ≡ true → i ≡ j)
    → stands_for definition lits i a ≡ true → stands_for definition lits j a ≡ true → i ≡ j
arm-one definition lits i j arm.True a b c d more e f = let z = stands-true definition lits i e in omega (arith, z)
arm-one definition lits i j arm.False a b c d more e f = let z = stands-false definition lits i e in let w = stands-false definition lits j f in omega (arith, z, w)
arm-one definition lits i j (arm.Lit l) a b c d more e f = by l.positive l.variable e f
  where
    by : (p : Bool) (v : ℕ) → stands_for definition lits i (arm.Lit (record { variable = v; positive = p })) ≡ true → stands_for definition lits j (arm.Lit (record { variable = v; positive = p })) ≡ true → i ≡ j
    by true v g h = more v g h
    by false v g h = absurd (stands-negative definition lits i v g)

same-apart : (p q : Bool) → (if p then q else not q) ≡ true → (if p then not q else not (not q)) ≡ true → ⊥
same-apart true true e f = true≢false (sym f)
same-apart true false e f = true≢false (sym e)
same-apart false true e f = true≢false (sym e)
same-apart false false e f = true≢false (sym f)

split-one : (definition : ℕ → Option Definition) (l : Literal) (lits : List Literal) (i j : ℕ) (d : Definition) → 1 ≤ i → 1 ≤ j → i ≤ length lits + 1 → j ≤ length lits + 1
    → ((v : ℕ) → stands_for definition lits i (arm_of v) ≡ true → stands_for definition lits j (arm_of v) ≡ true → i ≡ j)
    → splits (stands_for definition lits) l i d ≡ true → splits (stands_for definition lits) l j d ≡ true → i ≡ j
split-one definition l lits i j d a b c e more s t =
    by (or_cases (is_same d.test l && (stands_for definition lits (i - 1) d.high && stands_for definition lits i d.low)) (is_same d.test (negated l) && (stands_for definition lits i d.high && stands_for definition lits (i - 1) d.low)) s)
    (or_cases (is_same d.test l && (stands_for definition lits (j - 1) d.high && stands_for definition lits j d.low)) (is_same d.test (negated l) && (stands_for definition lits j d.high && stands_for definition lits (j - 1) d.low)) t)
  where
    apart : is_same d.test l ≡ true → is_same d.test (negated l) ≡ true → ⊥
    apart x y = same-apart d.test.positive l.positive
        (and_parts (d.test.variable == l.variable) (if d.test.positive then l.positive else not l.positive) x).1
        (and_parts (d.test.variable == l.variable) (if d.test.positive then not l.positive else not (not l.positive)) y).1

    first : (k : ℕ) → (is_same d.test l && (stands_for definition lits (k - 1) d.high && stands_for definition lits k d.low)) ≡ true → (is_same d.test l ≡ true) × (stands_for definition lits k d.low ≡ true)
    first k x =
        let p = and_parts (is_same d.test l) (stands_for definition lits (k - 1) d.high && stands_for definition lits k d.low) x in
        (p.0, (and_parts (stands_for definition lits (k - 1) d.high) (stands_for definition lits k d.low) p.1).1)

    second : (k : ℕ) → (is_same d.test (negated l) && (stands_for definition lits k d.high && stands_for definition lits (k - 1) d.low)) ≡ true → (is_same d.test (negated l) ≡ true) × (stands_for definition lits k d.high ≡ true)
    second k x =
        let p = and_parts (is_same d.test (negated l)) (stands_for definition lits k d.high && stands_for definition lits (k - 1) d.low) x in
        (p.0, (and_parts (stands_for definition lits k d.high) (stands_for definition lits (k - 1) d.low) p.1).0)

    by : ((is_same d.test l && (stands_for definition lits (i - 1) d.high && stands_for definition lits i d.low)) ≡ true) ⊎ ((is_same d.test (negated l) && (stands_for definition lits i d.high && stands_for definition lits (i - 1) d.low)) ≡ true)
        → ((is_same d.test l && (stands_for definition lits (j - 1) d.high && stands_for definition lits j d.low)) ≡ true) ⊎ ((is_same d.test (negated l) && (stands_for definition lits j d.high && stands_for definition lits (j - 1) d.low)) ≡ true)
        → i ≡ j
    by (inl x) (inl y) = arm-one definition lits i j d.low a b c e more (first i x).1 (first j y).1
    by (inr x) (inr y) = arm-one definition lits i j d.high a b c e more (second i x).1 (second j y).1
    by (inl x) (inr y) = absurd (apart (first i x).0 (second j y).0)
    by (inr x) (inl y) = absurd (apart (first j y).0 (second i x).0)

pub one-count : (definition : ℕ → Option Definition) (lits : List Literal) (i j v : ℕ) → stands_for definition lits i (arm_of v) ≡ true → stands_for definition lits j (arm_of v) ≡ true → i ≡ j
one-count definition [] i j v e f = let g = inner-only (cell_of 0 1 i) _ (definition v) v e in absurd (true≢false (sym g.goes))
one-count definition (l ∷ lits) i j v e f =
    let g = inner-only (cell_of (length (l ∷ lits)) 1 i) (splits (stands_for definition lits) l i) (definition v) v e in
    let h = inner-only (cell_of (length (l ∷ lits)) 1 j) (splits (stands_for definition lits) l j) (definition v) v f in
    let some : Some h.d ≡ Some g.d = sym h.defined ∙ g.defined in
    let is : h.d ≡ g.d = cc in
    let a = cell-inner (length (l ∷ lits)) i g.inner in
    let b = cell-inner (length (l ∷ lits)) j h.inner in
    split-one definition l lits i j g.d a.0 b.0 (omega (arith, a.1)) (omega (arith, b.1)) (one-count definition lits i j) g.goes
    (ap (splits (stands_for definition lits) l j) (sym is) ∙ h.goes)
