-- Ways down from a node, and the nodes that they lead to.
use Rattle.std.proofs.Common.{ℕ, ◌≡◌, ◌+◌, ◌<◌, ◌≤◌, ◌==◌, ◌⊎◌, inl, inr, Bool, true, false, ◌||◌, if◌then◌else◌, List, [], ◌∷◌, length, nat_lt, refl, sym, ap, subst, ◌∙◌, arith}
use Rattle.std.proofs.lemmas.Bool.{eqb-true, eq-eqb, ne_eqb, cond-true, cond-false, or_cases, or_left, or_right, cases_eq, cases_lt, lt-ltb, le-ltb}
use Rattle.kn_diagram.specs.Diagrams.{Row, row_in, value_in, AreReduced}
use Rattle.kn_diagram.specs.Widths.{reaches_in}
use Rattle.kn_diagram.proofs.RowLemmas.{row_in-older, row_in-newest, value_in-older, value_in-newest, value_in-below, put, put-same, put-other}
use Rattle.kn_diagram.proofs.WidthLemmas.{reaches_in-older, reaches_in-newest, reaches_in-down}

-- the node that these values lead to: the first whose depth is not above z
abbrev pub down_in : List Row → ℕ → ℕ → (ℕ → Bool) → ℕ
down_in [] z node t = node
down_in (row ∷ older) z node t =
    if node == length older + 2
    then (if nat_lt row.depth z then (if t row.depth then down_in older z row.high t else down_in older z row.low t) else node)
    else down_in older z node t

-- the one values above a depth, and the other ones from there on
abbrev pub over : ℕ → (ℕ → Bool) → (ℕ → Bool) → ℕ → Bool
over z t s = λ k. if nat_lt k z then t k else s k

pub over-above : (z : ℕ) (t s : ℕ → Bool) (k : ℕ) → k < z → over z t s k ≡ t k
over-above z t s k h = cond-true (nat_lt k z) (t k) (s k) (lt-ltb k z h)

pub over-from : (z : ℕ) (t s : ℕ → Bool) (k : ℕ) → z ≤ k → over z t s k ≡ s k
over-from z t s k h = cond-false (nat_lt k z) (t k) (s k) (le-ltb k z h)

down_in-older : (row : Row) (older : List Row) (z node : ℕ) (t : ℕ → Bool) → node < length older + 2 → down_in (row ∷ older) z node t ≡ down_in older z node t
down_in-older row older z node t h =
    cond-false (node == length older + 2) (if nat_lt row.depth z then (if t row.depth then down_in older z row.high t else down_in older z row.low t) else node)
    (down_in older z node t) (ne_eqb node (length older + 2) (λ e. omega arith))

down_in-newest : (row : Row) (older : List Row) (z node : ℕ) (t : ℕ → Bool) → node ≡ length older + 2
    → down_in (row ∷ older) z node t ≡ (if nat_lt row.depth z then (if t row.depth then down_in older z row.high t else down_in older z row.low t) else node)
down_in-newest row older z node t e =
    cond-true (node == length older + 2) (if nat_lt row.depth z then (if t row.depth then down_in older z row.high t else down_in older z row.low t) else node)
    (down_in older z node t) (eq-eqb node (length older + 2) e)

down_in-stays : (row : Row) (older : List Row) (z node : ℕ) (t : ℕ → Bool) → node ≡ length older + 2 → z ≤ row.depth → down_in (row ∷ older) z node t ≡ node
down_in-stays row older z node t e h =
    down_in-newest row older z node t e
    ∙ cond-false (nat_lt row.depth z) (if t row.depth then down_in older z row.high t else down_in older z row.low t) node (le-ltb row.depth z h)

down_in-high : (row : Row) (older : List Row) (z node : ℕ) (t : ℕ → Bool) → node ≡ length older + 2 → row.depth < z → t row.depth ≡ true
    → down_in (row ∷ older) z node t ≡ down_in older z row.high t
down_in-high row older z node t e h b =
    down_in-newest row older z node t e
    ∙ cond-true (nat_lt row.depth z) (if t row.depth then down_in older z row.high t else down_in older z row.low t) node (lt-ltb row.depth z h)
    ∙ cond-true (t row.depth) (down_in older z row.high t) (down_in older z row.low t) b

down_in-low : (row : Row) (older : List Row) (z node : ℕ) (t : ℕ → Bool) → node ≡ length older + 2 → row.depth < z → t row.depth ≡ false
    → down_in (row ∷ older) z node t ≡ down_in older z row.low t
down_in-low row older z node t e h b =
    down_in-newest row older z node t e
    ∙ cond-true (nat_lt row.depth z) (if t row.depth then down_in older z row.high t else down_in older z row.low t) node (lt-ltb row.depth z h)
    ∙ cond-false (t row.depth) (down_in older z row.high t) (down_in older z row.low t) b

-- The values lead from one node to the other: it is the first of those met whose depth is not above z,
-- and means what remains.
pub record LeadsTo (bottom : ℕ) (rows : List Row) (z node : ℕ) (t : ℕ → Bool) (to : ℕ) : Type 0 where
  pub there : to < length rows + 2
  pub depth : z ≤ (row_in bottom rows to).depth
  pub reached : reaches_in rows node to ≡ true
  pub value : (s : ℕ → Bool) → value_in rows to s ≡ value_in rows node (over z t s)

leads-older : (bottom : ℕ) (row : Row) (older : List Row) (z node : ℕ) (t : ℕ → Bool) (to : ℕ) → node < length older + 2
    → LeadsTo bottom older z node t to → LeadsTo bottom (row ∷ older) z node t to
leads-older bottom row older z node t to h l = record {
  there = omega (arith, l.there);
  depth = subst (λ r. z ≤ r.depth) (sym (row_in-older bottom row older to l.there)) l.depth;
  reached = reaches_in-older row older node to h ∙ l.reached;
  value = λ s. value_in-older row older to s l.there ∙ l.value s ∙ sym (value_in-older row older node (over z t s) h);
}

leads-high : (bottom : ℕ) (row : Row) (older : List Row) (z node : ℕ) (t : ℕ → Bool) (to : ℕ) → node ≡ length older + 2 → row.depth < z → t row.depth ≡ true
    → LeadsTo bottom older z row.high t to → LeadsTo bottom (row ∷ older) z node t to
leads-high bottom row older z node t to e h b l = record {
  there = omega (arith, l.there);
  depth = subst (λ r. z ≤ r.depth) (sym (row_in-older bottom row older to l.there)) l.depth;
  reached = reaches_in-newest row older node to e ∙ or_right (node == to) (reaches_in older row.high to || reaches_in older row.low to) (or_left (reaches_in older row.high to) (reaches_in older row.low to) l.reached);
  value = λ s. value_in-older row older to s l.there ∙ l.value s
      ∙ sym (value_in-newest row older node (over z t s) e
      ∙ cond-true (over z t s row.depth) (value_in older row.high (over z t s)) (value_in older row.low (over z t s)) (over-above z t s row.depth h ∙ b));
}

leads-low : (bottom : ℕ) (row : Row) (older : List Row) (z node : ℕ) (t : ℕ → Bool) (to : ℕ) → node ≡ length older + 2 → row.depth < z → t row.depth ≡ false
    → LeadsTo bottom older z row.low t to → LeadsTo bottom (row ∷ older) z node t to
leads-low bottom row older z node t to e h b l = record {
  there = omega (arith, l.there);
  depth = subst (λ r. z ≤ r.depth) (sym (row_in-older bottom row older to l.there)) l.depth;
  reached = reaches_in-newest row older node to e ∙ or_right (node == to) (reaches_in older row.high to || reaches_in older row.low to) (or_right (reaches_in older row.high to) (reaches_in older row.low to) l.reached);
  value = λ s. value_in-older row older to s l.there ∙ l.value s
      ∙ sym (value_in-newest row older node (over z t s) e
      ∙ cond-false (over z t s row.depth) (value_in older row.high (over z t s)) (value_in older row.low (over z t s)) (over-above z t s row.depth h ∙ b));
}

leads-stays : (bottom : ℕ) (row : Row) (older : List Row) (z node : ℕ) (t : ℕ → Bool) → AreReduced bottom (row ∷ older) → node ≡ length older + 2 → z ≤ row.depth
    → LeadsTo bottom (row ∷ older) z node t node
leads-stays bottom row older z node t all e h =
    let own = row_in-newest bottom row older node e in
    record {
      there = omega arith;
      depth = subst (λ r. z ≤ r.depth) (sym own) h;
      reached = reaches_in-newest row older node node e ∙ or_left (node == node) (reaches_in older row.high node || reaches_in older row.low node) (eq-eqb node node refl);
      value = λ s. value_in-below bottom (row ∷ older) node s (over z t s) all (omega arith)
          (λ k a c. let d : row.depth ≤ k = subst (λ r. r.depth ≤ k) own a in sym (over-from z t s k (omega arith)));
    }

pub down_in-leads : (bottom : ℕ) (rows : List Row) (z node : ℕ) (t : ℕ → Bool) → AreReduced bottom rows → z ≤ bottom → node < length rows + 2
    → LeadsTo bottom rows z node t (down_in rows z node t)
down_in-leads bottom [] z node t all low h = record { there = h; depth = low; reached = eq-eqb node node refl; value = λ s. refl }
down_in-leads bottom (row ∷ older) z node t all low h =
    by (cases_eq node (length older + 2)) (λ n k. down_in-leads bottom older z n t all.1 low k)
  where
    Below : Type 0
    Below = (n : ℕ) → n < length older + 2 → LeadsTo bottom older z n t (down_in older z n t)

    Goal : ℕ → Type 0
    Goal to = LeadsTo bottom (row ∷ older) z node t to

    through : node ≡ length older + 2 → row.depth < z → Below → (b : Bool) → t row.depth ≡ b → Goal (down_in (row ∷ older) z node t)
    through e l below true b =
        subst Goal (sym (down_in-high row older z node t e l b)) (leads-high bottom row older z node t (down_in older z row.high t) e l b (below row.high all.0.high))
    through e l below false b =
        subst Goal (sym (down_in-low row older z node t e l b)) (leads-low bottom row older z node t (down_in older z row.low t) e l b (below row.low all.0.low))

    newest : node ≡ length older + 2 → Below → ((row.depth < z) ⊎ (z ≤ row.depth)) → Goal (down_in (row ∷ older) z node t)
    newest e below (inl l) = through e l below (t row.depth) refl
    newest e below (inr l) = subst Goal (sym (down_in-stays row older z node t e l)) (leads-stays bottom row older z node t all e l)

    by : ((node ≡ length older + 2) ⊎ (node ≡ length older + 2 → ⊥)) → Below → Goal (down_in (row ∷ older) z node t)
    by (inl e) below = newest e below (cases_lt row.depth z)
    by (inr n) below =
        let k : node < length older + 2 = omega arith in
        subst Goal (sym (down_in-older row older z node t k)) (leads-older bottom row older z node t (down_in older z node t) k (below node k))

-- Values that lead from one node to another of depth z, as do all that are like them between the two.
pub record WayTo (bottom : ℕ) (rows : List Row) (z from node : ℕ) : Type 0 where
  pub values : ℕ → Bool
  pub deeper : (row_in bottom rows from).depth ≤ z
  pub leads : (s : ℕ → Bool) → ((k : ℕ) → (row_in bottom rows from).depth ≤ k → k < z → s k ≡ values k) → down_in rows z from s ≡ node

way-stays : (bottom : ℕ) (row : Row) (older : List Row) (z from : ℕ) → from ≡ length older + 2 → row.depth ≡ z → WayTo bottom (row ∷ older) z from from
way-stays bottom row older z from e d = record {
  values = λ k. true;
  deeper = subst (λ r. r.depth ≤ z) (sym (row_in-newest bottom row older from e)) (omega arith);
  leads = λ s agree. down_in-stays row older z from s e (omega arith);
}

way-older : (bottom : ℕ) (row : Row) (older : List Row) (z from node : ℕ) → from < length older + 2 → WayTo bottom older z from node → WayTo bottom (row ∷ older) z from node
way-older bottom row older z from node h w =
    let own = row_in-older bottom row older from h in
    record {
      values = w.values;
      deeper = subst (λ r. r.depth ≤ z) (sym own) w.deeper;
      leads = λ s agree. down_in-older row older z from s h ∙ w.leads s (λ k a l. agree k (subst (λ r. r.depth ≤ k) (sym own) a) l);
    }

way-high : (bottom : ℕ) (row : Row) (older : List Row) (z from node : ℕ) → from ≡ length older + 2 → row.depth < (row_in bottom older row.high).depth
    → WayTo bottom older z row.high node → WayTo bottom (row ∷ older) z from node
way-high bottom row older z from node e above w =
    let own = row_in-newest bottom row older from e in
    let t = put w.values row.depth true in
    record {
      values = t;
      deeper = subst (λ r. r.depth ≤ z) (sym own) (omega (arith, above, w.deeper));
      leads = λ s agree.
          let like : (k : ℕ) → row.depth ≤ k → k < z → s k ≡ t k = λ k a l. agree k (subst (λ r. r.depth ≤ k) (sym own) a) l in
          down_in-high row older z from s e (omega (arith, above, w.deeper)) (like row.depth (omega arith) (omega (arith, above, w.deeper)) ∙ put-same w.values row.depth true)
          ∙ w.leads s (λ k a l. like k (omega (arith, above)) l ∙ put-other w.values row.depth true k (λ x. omega (arith, above)));
    }

way-low : (bottom : ℕ) (row : Row) (older : List Row) (z from node : ℕ) → from ≡ length older + 2 → row.depth < (row_in bottom older row.low).depth
    → WayTo bottom older z row.low node → WayTo bottom (row ∷ older) z from node
way-low bottom row older z from node e above w =
    let own = row_in-newest bottom row older from e in
    let t = put w.values row.depth false in
    record {
      values = t;
      deeper = subst (λ r. r.depth ≤ z) (sym own) (omega (arith, above, w.deeper));
      leads = λ s agree.
          let like : (k : ℕ) → row.depth ≤ k → k < z → s k ≡ t k = λ k a l. agree k (subst (λ r. r.depth ≤ k) (sym own) a) l in
          down_in-low row older z from s e (omega (arith, above, w.deeper)) (like row.depth (omega arith) (omega (arith, above, w.deeper)) ∙ put-same w.values row.depth false)
          ∙ w.leads s (λ k a l. like k (omega (arith, above)) l ∙ put-other w.values row.depth false k (λ x. omega (arith, above)));
    }

-- a node that is reached has a way to it
pub way-to : (bottom : ℕ) (rows : List Row) (z from node : ℕ) → AreReduced bottom rows → from < length rows + 2 → reaches_in rows from node ≡ true
    → (row_in bottom rows node).depth ≡ z → WayTo bottom rows z from node
way-to bottom [] z from node all h r d =
    record { values = λ k. true; deeper = omega arith; leads = λ s agree. eqb-true from node r }
way-to bottom (row ∷ older) z from node all h r d =
    by (cases_eq from (length older + 2)) (λ n k q x. way-to bottom older z n node all.1 k q x)
  where
    Below : Type 0
    Below = (n : ℕ) → n < length older + 2 → reaches_in older n node ≡ true → (row_in bottom older node).depth ≡ z → WayTo bottom older z n node

    Goal : Type 0
    Goal = WayTo bottom (row ∷ older) z from node

    older-depth : (n : ℕ) → n < length older + 2 → reaches_in older n node ≡ true → (row_in bottom older node).depth ≡ z
    older-depth n k q =
        let le : node ≤ n = reaches_in-down bottom older n node all.1 k q in
        ap (λ x. x.depth) (sym (row_in-older bottom row older node (omega arith))) ∙ d

    next : from ≡ length older + 2 → Below → ((reaches_in older row.high node ≡ true) ⊎ (reaches_in older row.low node ≡ true)) → Goal
    next e below (inl q) = way-high bottom row older z from node e all.0.above_high (below row.high all.0.high q (older-depth row.high all.0.high q))
    next e below (inr q) = way-low bottom row older z from node e all.0.above_low (below row.low all.0.low q (older-depth row.low all.0.low q))

    newest : from ≡ length older + 2 → Below → (((from == node) ≡ true) ⊎ ((reaches_in older row.high node || reaches_in older row.low node) ≡ true)) → Goal
    newest e below (inl s) =
        let same : from ≡ node = eqb-true from node s in
        subst (λ n. WayTo bottom (row ∷ older) z from n) same
        (way-stays bottom row older z from e (ap (λ x. x.depth) (sym (row_in-newest bottom row older node (sym same ∙ e))) ∙ d))
    newest e below (inr s) = next e below (or_cases (reaches_in older row.high node) (reaches_in older row.low node) s)

    by : ((from ≡ length older + 2) ⊎ (from ≡ length older + 2 → ⊥)) → Below → Goal
    by (inl e) below = newest e below (or_cases (from == node) (reaches_in older row.high node || reaches_in older row.low node) (sym (reaches_in-newest row older from node e) ∙ r))
    by (inr n) below =
        let k : from < length older + 2 = omega arith in
        let q = sym (reaches_in-older row older from node k) ∙ r in
        way-older bottom row older z from node k (below from k q (older-depth from k q))
