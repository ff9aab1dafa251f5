-- The nodes that are reached from a node: those of its high and its low node are among them.
use Rattle.std.proofs.Common.{◌≡◌, ℕ, ◌+◌, ◌≤◌, ◌<◌, ◌==◌, ◌||◌, ◌⊎◌, Bool, true, false, if◌then◌else◌, List, [], ◌∷◌, length, refl, sym, ap, ◌∙◌, subst, inl, inr, arith}
use Rattle.std.proofs.lemmas.Bool.{ne_eqb, eq-eqb, eqb-true, cond-true, cond-false, or_cases, or_left, or_right, cases_eq}
use Rattle.kn_diagram.specs.Diagrams.{Row, Table, IsTable, IsNode, IsReduced, AreReduced, row_in, high_of, low_of}
use Rattle.kn_diagram.specs.Widths.{reaches_in, reaches}

-- a node reaches itself
own_in : (rows : List Row) (node : ℕ) → reaches_in rows node node ≡ true
own_in [] node = eq-eqb node node refl
own_in (row ∷ older) node = at (node == length older + 2) refl (own_in older node)
  where
    at : (b : Bool) → (node == length older + 2) ≡ b → reaches_in older node node ≡ true
        → (if b then (node == node) || (reaches_in older row.high node || reaches_in older row.low node) else reaches_in older node node) ≡ true
    at true e h = or_left _ _ (eq-eqb node node refl)
    at false e h = h

pub reaches-own : (d : Table) (node : ℕ) → reaches d node node ≡ true
unfolding reaches
reaches-own d node = own_in d.rows node

-- a node that is older than the newest one
older-is : (row : Row) (older : List Row) (from node : ℕ) → from < length older + 2 → reaches_in (row ∷ older) from node ≡ reaches_in older from node
older-is row older from node h = cond-false (from == length older + 2) _ (reaches_in older from node) (ne_eqb from (length older + 2) (λ e. omega (arith, h, e)))

row-older : (bottom : ℕ) (row : Row) (older : List Row) (node : ℕ) → node < length older + 2 → row_in bottom (row ∷ older) node ≡ row_in bottom older node
row-older bottom row older node h = cond-false (node == length older + 2) row (row_in bottom older node) (ne_eqb node (length older + 2) (λ e. omega (arith, h, e)))

row-own : (bottom : ℕ) (row : Row) (older : List Row) (node : ℕ) → node ≡ length older + 2 → row_in bottom (row ∷ older) node ≡ row
row-own bottom row older node e = cond-true (node == length older + 2) row (row_in bottom older node) (eq-eqb node (length older + 2) e)

-- the two nodes of a row are older than its node
newer_at : (bottom : ℕ) (row : Row) (older : List Row) (node : ℕ) → IsReduced bottom older row → node < length older + 2 + 1
    → (node < length older + 2 → ((row_in bottom older node).high < node) × ((row_in bottom older node).low < node)) → ((node ≡ length older + 2) ⊎ (node ≡ length older + 2 → ⊥))
    → ((row_in bottom (row ∷ older) node).high < node) × ((row_in bottom (row ∷ older) node).low < node)
newer_at bottom row older node r h ih (inl e) =
    let is = row-own bottom row older node e in
    (omega (arith, ap (λ (x : Row). x.high) is, e, r.high), omega (arith, ap (λ (x : Row). x.low) is, e, r.low))
newer_at bottom row older node r h ih (inr n) =
    let is = row-older bottom row older node (omega (arith, n, h)) in
    let below = ih (omega (arith, n, h)) in
    (omega (arith, ap (λ (x : Row). x.high) is, below.0), omega (arith, ap (λ (x : Row). x.low) is, below.1))

child-older : (bottom : ℕ) (rows : List Row) (node : ℕ) → AreReduced bottom rows → 2 ≤ node → node < length rows + 2 → ((row_in bottom rows node).high < node) × ((row_in bottom rows node).low < node)
child-older bottom [] node r two h = absurd (omega arith)
child-older bottom (row ∷ older) node r two h =
    newer_at bottom row older node r.0 (omega (arith, h)) (λ small. child-older bottom older node r.1 two small) (cases_eq node (length older + 2))

-- what is reached from a node's two nodes is reached from the node
abbrev ReachesBelow : ℕ → List Row → ℕ → ℕ → Type 0
ReachesBelow bottom rows f node = (reaches_in rows (row_in bottom rows f).high node ≡ true) ⊎ (reaches_in rows (row_in bottom rows f).low node ≡ true)

own_reaches : (bottom : ℕ) (row : Row) (older : List Row) (f node : ℕ) → IsReduced bottom older row → f ≡ length older + 2 → ReachesBelow bottom (row ∷ older) f node → reaches_in (row ∷ older) f node ≡ true
own_reaches bottom row older f node r e (inl k) =
    let is = row-own bottom row older f e in
    let high : reaches_in older row.high node ≡ true = sym (older-is row older row.high node r.high) ∙ ap (λ (x : Row). reaches_in (row ∷ older) x.high node) (sym is) ∙ k in
    cond-true (f == length older + 2) _ (reaches_in older f node) (eq-eqb f (length older + 2) e) ∙ or_right _ _ (or_left _ _ high)
own_reaches bottom row older f node r e (inr k) =
    let is = row-own bottom row older f e in
    let low : reaches_in older row.low node ≡ true = sym (older-is row older row.low node r.low) ∙ ap (λ (x : Row). reaches_in (row ∷ older) x.low node) (sym is) ∙ k in
    cond-true (f == length older + 2) _ (reaches_in older f node) (eq-eqb f (length older + 2) e) ∙ or_right _ _ (or_right _ _ low)

older_below : (bottom : ℕ) (row : Row) (older : List Row) (f node : ℕ) → AreReduced bottom older → 2 ≤ f → f < length older + 2 → ReachesBelow bottom (row ∷ older) f node → ReachesBelow bottom older f node
older_below bottom row older f node r two small (inl k) =
    let is = row-older bottom row older f small in
    let below = child-older bottom older f r two small in
    inl (sym (older-is row older (row_in bottom older f).high node (omega (arith, below.0, small))) ∙ ap (λ (x : Row). reaches_in (row ∷ older) x.high node) (sym is) ∙ k)
older_below bottom row older f node r two small (inr k) =
    let is = row-older bottom row older f small in
    let below = child-older bottom older f r two small in
    inr (sym (older-is row older (row_in bottom older f).low node (omega (arith, below.1, small))) ∙ ap (λ (x : Row). reaches_in (row ∷ older) x.low node) (sym is) ∙ k)

reaches_at : (bottom : ℕ) (row : Row) (older : List Row) (f node : ℕ) → AreReduced bottom (row ∷ older) → 2 ≤ f → f < length older + 2 + 1 → ReachesBelow bottom (row ∷ older) f node
    → (f < length older + 2 → ReachesBelow bottom older f node → reaches_in older f node ≡ true) → ((f ≡ length older + 2) ⊎ (f ≡ length older + 2 → ⊥)) → reaches_in (row ∷ older) f node ≡ true
reaches_at bottom row older f node r two h c ih (inl e) = own_reaches bottom row older f node r.0 e c
reaches_at bottom row older f node r two h c ih (inr n) =
    let small : f < length older + 2 = omega (arith, n, h) in
    older-is row older f node small ∙ ih small (older_below bottom row older f node r.1 two small c)

children_in : (bottom : ℕ) (rows : List Row) (f node : ℕ) → AreReduced bottom rows → 2 ≤ f → f < length rows + 2 → ReachesBelow bottom rows f node → reaches_in rows f node ≡ true
children_in bottom [] f node r two h c = absurd (omega arith)
children_in bottom (row ∷ older) f node r two h c =
    reaches_at bottom row older f node r two (omega (arith, h)) c (λ small below. children_in bottom older f node r.1 two small below) (cases_eq f (length older + 2))

pub reaches-high : (d : Table) (f node : ℕ) → IsTable d → IsNode d f → 2 ≤ f → reaches d (high_of d f) node ≡ true → reaches d f node ≡ true
unfolding reaches high_of
reaches-high d f node ok h two e = children_in (length d.order) d.rows f node ok.rows two h (inl e)

pub reaches-low : (d : Table) (f node : ℕ) → IsTable d → IsNode d f → 2 ≤ f → reaches d (low_of d f) node ≡ true → reaches d f node ≡ true
unfolding reaches low_of
reaches-low d f node ok h two e = children_in (length d.order) d.rows f node ok.rows two h (inr e)

-- What holds of a node, and of the two nodes of each node of which it holds, holds of all that are reached.
abbrev IsPassedOn : (ℕ → Type 0) → ℕ → List Row → Type 0
IsPassedOn P bottom rows = (x : ℕ) → 2 ≤ x → x < length rows + 2 → P x → P (row_in bottom rows x).high × P (row_in bottom rows x).low

older_passes : (P : ℕ → Type 0) (bottom : ℕ) (row : Row) (older : List Row) → IsPassedOn P bottom (row ∷ older) → IsPassedOn P bottom older
older_passes P bottom row older step x two small q =
    let is = row-older bottom row older x small in
    let (a, b) = step x two (omega (arith, small)) q in
    (subst (λ (y : Row). P y.high) is a, subst (λ (y : Row). P y.low) is b)

newest_all : (P : ℕ → Type 0) (bottom : ℕ) (row : Row) (older : List Row) (f node : ℕ) → IsReduced bottom older row → f ≡ length older + 2 → f < length older + 2 + 1 → P f → IsPassedOn P bottom (row ∷ older)
    → ((g : ℕ) → g < length older + 2 → P g → reaches_in older g node ≡ true → P node)
    → ((f == node) ≡ true) ⊎ ((reaches_in older row.high node || reaches_in older row.low node) ≡ true) → P node
newest_all P bottom row older f node r k h p step ih (inl same) = subst P (eqb-true f node same) p
newest_all P bottom row older f node r k h p step ih (inr below) =
    let is = row-own bottom row older f k in
    let (a, b) = step f (omega (arith, k)) (omega (arith, k)) p in
    elim (or_cases (reaches_in older row.high node) (reaches_in older row.low node) below) [
      | inl t ↦ ih row.high r.high (subst (λ (y : Row). P y.high) is a) t
      | inr t ↦ ih row.low r.low (subst (λ (y : Row). P y.low) is b) t
    ]

all_at : (P : ℕ → Type 0) (bottom : ℕ) (row : Row) (older : List Row) (f node : ℕ) → IsReduced bottom older row → f < length older + 2 + 1 → P f → IsPassedOn P bottom (row ∷ older)
    → ((g : ℕ) → g < length older + 2 → P g → reaches_in older g node ≡ true → P node) → reaches_in (row ∷ older) f node ≡ true → ((f ≡ length older + 2) ⊎ (f ≡ length older + 2 → ⊥)) → P node
all_at P bottom row older f node r h p step ih e (inl k) =
    newest_all P bottom row older f node r k h p step ih (or_cases (f == node) (reaches_in older row.high node || reaches_in older row.low node)
    (sym (cond-true (f == length older + 2) _ (reaches_in older f node) (eq-eqb f (length older + 2) k)) ∙ e))
all_at P bottom row older f node r h p step ih e (inr n) =
    let small : f < length older + 2 = omega (arith, n, h) in
    ih f small p (sym (older-is row older f node small) ∙ e)

all_in : (P : ℕ → Type 0) (bottom : ℕ) (rows : List Row) (f node : ℕ) → AreReduced bottom rows → f < length rows + 2 → P f → IsPassedOn P bottom rows → reaches_in rows f node ≡ true → P node
all_in P bottom [] f node r h p step e = subst P (eqb-true f node e) p
all_in P bottom (row ∷ older) f node r h p step e =
    all_at P bottom row older f node r.0 (omega (arith, h)) p step (λ g small q t. all_in P bottom older g node r.1 small q (older_passes P bottom row older step) t) e (cases_eq f (length older + 2))

pub reached-all : (P : ℕ → Type 0) (d : Table) (f node : ℕ) → IsTable d → IsNode d f → P f → ((x : ℕ) → 2 ≤ x → IsNode d x → P x → P (high_of d x) × P (low_of d x)) → reaches d f node ≡ true → P node
unfolding reaches high_of low_of
reached-all P d f node ok h p step e = all_in P (length d.order) d.rows f node ok.rows h p step e
