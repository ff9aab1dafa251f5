-- Which nodes are reached from a node.
use Rattle.std.proofs.Common.{ℕ, zero, suc, ◌≡◌, ◌+◌, ◌<◌, ◌≤◌, ◌==◌, ◌⊎◌, inl, inr, true, ◌||◌, List, [], ◌∷◌, length, refl, sym, subst, ◌∙◌, arith}
use Rattle.std.proofs.lemmas.Bool.{eqb-true, eq-eqb, ne_eqb, cond-true, cond-false, or_cases, or_left, or_right, cases_eq, cases_lt}
use Rattle.kn_diagram.specs.Diagrams.{Row, Table, IsNode, row_in, high_of, low_of, AreReduced, IsTable}
use Rattle.kn_diagram.specs.Widths.{reaches_in, reaches}
use Rattle.kn_diagram.proofs.RowLemmas.{row_in-older, row_in-newest, branches}

pub reaches_in-older : (row : Row) (older : List Row) (from node : ℕ) → from < length older + 2 → reaches_in (row ∷ older) from node ≡ reaches_in older from node
reaches_in-older row older from node h =
    cond-false (from == length older + 2) ((from == node) || (reaches_in older row.high node || reaches_in older row.low node)) (reaches_in older from node)
    (ne_eqb from (length older + 2) (λ e. omega arith))

pub reaches_in-newest : (row : Row) (older : List Row) (from node : ℕ) → from ≡ length older + 2
    → reaches_in (row ∷ older) from node ≡ ((from == node) || (reaches_in older row.high node || reaches_in older row.low node))
reaches_in-newest row older from node e =
    cond-true (from == length older + 2) ((from == node) || (reaches_in older row.high node || reaches_in older row.low node)) (reaches_in older from node)
    (eq-eqb from (length older + 2) e)

reaches_in-constant : (rows : List Row) (from node : ℕ) → from < 2 → reaches_in rows from node ≡ (from == node)
reaches_in-constant [] from node h = refl
reaches_in-constant (row ∷ older) from node h = reaches_in-older row older from node (omega arith) ∙ reaches_in-constant older from node h

reaches_in-branch : (bottom : ℕ) (rows : List Row) (from node : ℕ) → AreReduced bottom rows → 2 ≤ from → from < length rows + 2
    → reaches_in rows from node ≡ ((from == node) || (reaches_in rows (row_in bottom rows from).high node || reaches_in rows (row_in bottom rows from).low node))
reaches_in-branch bottom [] from node all two h = absurd (omega arith)
reaches_in-branch bottom (row ∷ older) from node all two h =
    by (cases_eq from (length older + 2)) (λ n k. reaches_in-branch bottom older n node all.1 k)
  where
    Goal : Row → Type 0
    Goal r = reaches_in (row ∷ older) from node ≡ ((from == node) || (reaches_in (row ∷ older) r.high node || reaches_in (row ∷ older) r.low node))

    by : ((from ≡ length older + 2) ⊎ (from ≡ length older + 2 → ⊥))
        → ((n : ℕ) → 2 ≤ n → n < length older + 2 → reaches_in older n node ≡ ((n == node) || (reaches_in older (row_in bottom older n).high node || reaches_in older (row_in bottom older n).low node)))
        → Goal (row_in bottom (row ∷ older) from)
    by (inl e) below =
        subst Goal (sym (row_in-newest bottom row older from e))
        (reaches_in-newest row older from node e
        ∙ (λ i. (from == node) || (sym (reaches_in-older row older row.high node all.0.high) i || sym (reaches_in-older row older row.low node all.0.low) i)))
    by (inr n) below =
        let k : from < length older + 2 = omega arith in
        let r = row_in bottom older from in
        let b = branches bottom older from all.1 two k in
        subst Goal (sym (row_in-older bottom row older from k))
        (reaches_in-older row older from node k ∙ below from two k
        ∙ (λ i. (from == node) || (sym (reaches_in-older row older r.high node (omega (arith, b.high))) i || sym (reaches_in-older row older r.low node (omega (arith, b.low))) i)))

pub reaches_in-down : (bottom : ℕ) (rows : List Row) (from node : ℕ) → AreReduced bottom rows → from < length rows + 2 → reaches_in rows from node ≡ true → node ≤ from
reaches_in-down bottom [] from node all h e = let s = eqb-true from node e in omega arith
reaches_in-down bottom (row ∷ older) from node all h e =
    by (cases_eq from (length older + 2)) (λ n k r. reaches_in-down bottom older n node all.1 k r)
  where
    by : ((from ≡ length older + 2) ⊎ (from ≡ length older + 2 → ⊥)) → ((n : ℕ) → n < length older + 2 → reaches_in older n node ≡ true → node ≤ n) → node ≤ from
    by (inl k) below = which (or_cases (from == node) (reaches_in older row.high node || reaches_in older row.low node) (sym (reaches_in-newest row older from node k) ∙ e))
      where
        next : (reaches_in older row.high node ≡ true) ⊎ (reaches_in older row.low node ≡ true) → node ≤ from
        next (inl r) = omega (arith, below row.high all.0.high r, all.0.high)
        next (inr r) = omega (arith, below row.low all.0.low r, all.0.low)

        which : ((from == node) ≡ true) ⊎ ((reaches_in older row.high node || reaches_in older row.low node) ≡ true) → node ≤ from
        which (inl s) = let t = eqb-true from node s in omega arith
        which (inr s) = next (or_cases (reaches_in older row.high node) (reaches_in older row.low node) s)
    by (inr n) below = let k : from < length older + 2 = omega arith in below from k (sym (reaches_in-older row older from node k) ∙ e)

pub reaches-self : (d : Table) (node : ℕ) → IsTable d → IsNode d node → reaches d node node ≡ true
unfolding reaches
reaches-self d node ok h = by (cases_lt node 2)
  where
    by : ((node < 2) ⊎ (2 ≤ node)) → reaches_in d.rows node node ≡ true
    by (inl low) = reaches_in-constant d.rows node node low ∙ eq-eqb node node refl
    by (inr two) = reaches_in-branch (length d.order) d.rows node node ok.rows two h
        ∙ or_left (node == node) (reaches_in d.rows (row_in (length d.order) d.rows node).high node || reaches_in d.rows (row_in (length d.order) d.rows node).low node) (eq-eqb node node refl)

pub reaches-down : (d : Table) (from node : ℕ) → IsTable d → IsNode d from → reaches d from node ≡ true → node ≤ from
unfolding reaches
reaches-down d from node ok h e = reaches_in-down (length d.order) d.rows from node ok.rows h e

pub reaches-constant : (d : Table) (from node : ℕ) → from < 2 → reaches d from node ≡ true → from ≡ node
unfolding reaches
reaches-constant d from node low e = eqb-true from node (sym (reaches_in-constant d.rows from node low) ∙ e)

pub reaches-branch : (d : Table) (from node : ℕ) → IsTable d → IsNode d from → 2 ≤ from
    → reaches d from node ≡ ((from == node) || (reaches d (high_of d from) node || reaches d (low_of d from) node))
unfolding reaches high_of low_of
reaches-branch d from node ok h two = reaches_in-branch (length d.order) d.rows from node ok.rows two h

pub older-high : (d : Table) (node : ℕ) → IsTable d → IsNode d node → 2 ≤ node → (high_of d node < node) × (low_of d node < node)
unfolding high_of low_of
older-high d node ok h two = let b = branches (length d.order) d.rows node ok.rows two h in (b.high, b.low)

pub by-high : (d : Table) (from node : ℕ) → IsTable d → IsNode d from → 2 ≤ from → reaches d (high_of d from) node ≡ true → reaches d from node ≡ true
by-high d from node ok h two e =
    reaches-branch d from node ok h two
    ∙ or_right (from == node) (reaches d (high_of d from) node || reaches d (low_of d from) node) (or_left (reaches d (high_of d from) node) (reaches d (low_of d from) node) e)

pub by-low : (d : Table) (from node : ℕ) → IsTable d → IsNode d from → 2 ≤ from → reaches d (low_of d from) node ≡ true → reaches d from node ≡ true
by-low d from node ok h two e =
    reaches-branch d from node ok h two
    ∙ or_right (from == node) (reaches d (high_of d from) node || reaches d (low_of d from) node) (or_right (reaches d (high_of d from) node) (reaches d (low_of d from) node) e)

-- what is reached: the node itself, or what its high or its low node reaches
pub reaches-cases : (d : Table) (from node : ℕ) → IsTable d → IsNode d from → reaches d from node ≡ true
    → (from ≡ node) ⊎ ((2 ≤ from) × ((reaches d (high_of d from) node ≡ true) ⊎ (reaches d (low_of d from) node ≡ true)))
reaches-cases d from node ok h e = by (cases_lt from 2)
  where
    by : ((from < 2) ⊎ (2 ≤ from)) → (from ≡ node) ⊎ ((2 ≤ from) × ((reaches d (high_of d from) node ≡ true) ⊎ (reaches d (low_of d from) node ≡ true)))
    by (inl low) = inl (reaches-constant d from node low e)
    by (inr two) = which (or_cases (from == node) (reaches d (high_of d from) node || reaches d (low_of d from) node) (sym (reaches-branch d from node ok h two) ∙ e))
      where
        which : ((from == node) ≡ true) ⊎ ((reaches d (high_of d from) node || reaches d (low_of d from) node) ≡ true)
            → (from ≡ node) ⊎ ((2 ≤ from) × ((reaches d (high_of d from) node ≡ true) ⊎ (reaches d (low_of d from) node ≡ true)))
        which (inl s) = inl (eqb-true from node s)
        which (inr s) = inr (two, or_cases (reaches d (high_of d from) node) (reaches d (low_of d from) node) s)

through-below : (n : ℕ) (d : Table) (a b c : ℕ) → IsTable d → a < n → IsNode d a → reaches d a b ≡ true → reaches d b c ≡ true → reaches d a c ≡ true
through-below zero d a b c ok less h e f = absurd (omega arith)
through-below (suc n) d a b c ok less h e f = by (reaches-cases d a b ok h e) (λ x l k r. through-below n d x b c ok l k r f)
  where
    by : (a ≡ b) ⊎ ((2 ≤ a) × ((reaches d (high_of d a) b ≡ true) ⊎ (reaches d (low_of d a) b ≡ true)))
        → ((x : ℕ) → x < n → IsNode d x → reaches d x b ≡ true → reaches d x c ≡ true) → reaches d a c ≡ true
    by (inl s) below = subst (λ x. reaches d x c ≡ true) (sym s) f
    by (inr (two, inl r)) below =
        let o = older-high d a ok h two in
        by-high d a c ok h two (below (high_of d a) (omega (arith, o.0)) (omega (arith, o.0)) r)
    by (inr (two, inr r)) below =
        let o = older-high d a ok h two in
        by-low d a c ok h two (below (low_of d a) (omega (arith, o.1)) (omega (arith, o.1)) r)

pub reaches-through : (d : Table) (a b c : ℕ) → IsTable d → IsNode d a → reaches d a b ≡ true → reaches d b c ≡ true → reaches d a c ≡ true
reaches-through d a b c ok h e f = through-below (suc a) d a b c ok (omega arith) h e f
