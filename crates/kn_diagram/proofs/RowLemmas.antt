-- Nodes by their rows: what a node means, and that two nodes with one meaning are one.
use Rattle.std.proofs.Common.{ℕ, ◌≡◌, ◌+◌, ◌<◌, ◌≤◌, ◌==◌, ◌⊎◌, inl, inr, Bool, true, false, ◌&&◌, if◌then◌else◌, List, [], ◌∷◌, length, refl, sym, ap, subst, ◌∙◌, arith}
use Rattle.std.proofs.lemmas.Bool.Decides.{nat_tests}
use Rattle.std.proofs.lemmas.Bool.{cases_eq, cases_order, ne_eqb, eq-eqb, cond-true, cond-false, or_left, or_right, both_ways}
use Rattle.kn_diagram.specs.Diagrams.{Row, row_in, value_in, is_same, has_row, IsReduced, AreReduced}

pub row_in-older : (bottom : ℕ) (row : Row) (older : List Row) (node : ℕ) → node < length older + 2
    → row_in bottom (row ∷ older) node ≡ row_in bottom older node
row_in-older bottom row older node h =
    cond-false (node == length older + 2) row (row_in bottom older node) (ne_eqb node (length older + 2) (λ e. omega arith))

pub row_in-newest : (bottom : ℕ) (row : Row) (older : List Row) (node : ℕ) → node ≡ length older + 2
    → row_in bottom (row ∷ older) node ≡ row
row_in-newest bottom row older node e =
    cond-true (node == length older + 2) row (row_in bottom older node) (eq-eqb node (length older + 2) e)

pub value_in-older : (row : Row) (older : List Row) (node : ℕ) (t : ℕ → Bool) → node < length older + 2
    → value_in (row ∷ older) node t ≡ value_in older node t
value_in-older row older node t h =
    cond-false (node == length older + 2) (if t row.depth then value_in older row.high t else value_in older row.low t) (value_in older node t) (ne_eqb node (length older + 2) (λ e. omega arith))

pub value_in-newest : (row : Row) (older : List Row) (node : ℕ) (t : ℕ → Bool) → node ≡ length older + 2
    → value_in (row ∷ older) node t ≡ (if t row.depth then value_in older row.high t else value_in older row.low t)
value_in-newest row older node t e =
    cond-true (node == length older + 2) (if t row.depth then value_in older row.high t else value_in older row.low t) (value_in older node t) (eq-eqb node (length older + 2) e)

-- the constants
pub row_in-constant : (bottom : ℕ) (rows : List Row) (node : ℕ) → node < 2
    → row_in bottom rows node ≡ record { depth = bottom; high = node; low = node }
row_in-constant bottom [] node h = refl
row_in-constant bottom (row ∷ older) node h = row_in-older bottom row older node (omega arith) ∙ row_in-constant bottom older node h

pub value_in-constant : (rows : List Row) (node : ℕ) (t : ℕ → Bool) → node < 2 → value_in rows node t ≡ (node == 1)
value_in-constant [] node t h = refl
value_in-constant (row ∷ older) node t h = value_in-older row older node t (omega arith) ∙ value_in-constant older node t h

-- a node that is no constant, by its row
pub record Branches (bottom : ℕ) (rows : List Row) (node : ℕ) (row : Row) : Type 0 where
  pub depth : row.depth < bottom
  pub high : row.high < node
  pub low : row.low < node
  pub above_high : row.depth < (row_in bottom rows row.high).depth
  pub above_low : row.depth < (row_in bottom rows row.low).depth
  pub different : row.high ≡ row.low → ⊥
  pub there : has_row rows row ≡ true
  pub value : (t : ℕ → Bool) → value_in rows node t ≡ (if t row.depth then value_in rows row.high t else value_in rows row.low t)

pub is_same-self : (row : Row) → is_same row row ≡ true
is_same-self row = ap (λ b. b && (row.high == row.high) && (row.low == row.low)) (eq-eqb row.depth row.depth refl)
    ∙ ap (λ b. b && (row.low == row.low)) (eq-eqb row.high row.high refl) ∙ eq-eqb row.low row.low refl

branches-older : (bottom : ℕ) (row : Row) (older : List Row) (node : ℕ) (r : Row) → node < length older + 2
    → Branches bottom older node r → Branches bottom (row ∷ older) node r
branches-older bottom row older node r h b =
    let high_in : r.high < length older + 2 = omega (arith, b.high) in
    let low_in : r.low < length older + 2 = omega (arith, b.low) in
    record {
      depth = b.depth;
      high = b.high;
      low = b.low;
      above_high = subst (λ s. r.depth < s.depth) (sym (row_in-older bottom row older r.high high_in)) b.above_high;
      above_low = subst (λ s. r.depth < s.depth) (sym (row_in-older bottom row older r.low low_in)) b.above_low;
      different = b.different;
      there = or_right (is_same r row) (has_row older r) b.there;
      value = λ t. value_in-older row older node t h ∙ b.value t
          ∙ ap (λ x. if t r.depth then x else value_in older r.low t) (sym (value_in-older row older r.high t high_in))
          ∙ ap (λ x. if t r.depth then value_in (row ∷ older) r.high t else x) (sym (value_in-older row older r.low t low_in));
    }

branches-newest : (bottom : ℕ) (row : Row) (older : List Row) (node : ℕ) → node ≡ length older + 2
    → IsReduced bottom older row → Branches bottom (row ∷ older) node row
branches-newest bottom row older node e r =
    record {
      depth = r.depth;
      high = omega (arith, r.high);
      low = omega (arith, r.low);
      above_high = subst (λ s. row.depth < s.depth) (sym (row_in-older bottom row older row.high r.high)) r.above_high;
      above_low = subst (λ s. row.depth < s.depth) (sym (row_in-older bottom row older row.low r.low)) r.above_low;
      different = r.different;
      there = or_left (is_same row row) (has_row older row) (is_same-self row);
      value = λ t. value_in-newest row older node t e
          ∙ ap (λ x. if t row.depth then x else value_in older row.low t) (sym (value_in-older row older row.high t r.high))
          ∙ ap (λ x. if t row.depth then value_in (row ∷ older) row.high t else x) (sym (value_in-older row older row.low t r.low));
    }

pub branches : (bottom : ℕ) (rows : List Row) (node : ℕ) → AreReduced bottom rows → 2 ≤ node → node < length rows + 2
    → Branches bottom rows node (row_in bottom rows node)
branches bottom [] node all h1 h2 = absurd (omega arith)
branches bottom (row ∷ older) node all h1 h2 =
    by (cases_eq node (length older + 2)) (λ h. branches bottom older node all.1 h1 h)
  where
    by : ((node ≡ length older + 2) ⊎ (node ≡ length older + 2 → ⊥)) → (node < length older + 2 → Branches bottom older node (row_in bottom older node))
        → Branches bottom (row ∷ older) node (row_in bottom (row ∷ older) node)
    by (inl e) below = subst (Branches bottom (row ∷ older) node) (sym (row_in-newest bottom row older node e)) (branches-newest bottom row older node e all.0)
    by (inr n) below =
        let h : node < length older + 2 = omega arith in
        subst (Branches bottom (row ∷ older) node) (sym (row_in-older bottom row older node h)) (branches-older bottom row older node (row_in bottom older node) h (below h))

-- a node's value hangs on the variables from its own downwards
pub value_in-below : (bottom : ℕ) (rows : List Row) (node : ℕ) (t s : ℕ → Bool) → AreReduced bottom rows → node < length rows + 2
    → ((k : ℕ) → (row_in bottom rows node).depth ≤ k → k < bottom → t k ≡ s k) → value_in rows node t ≡ value_in rows node s
value_in-below bottom [] node t s all h agree = refl
value_in-below bottom (row ∷ older) node t s all h agree =
    by (cases_eq node (length older + 2))
    (λ n a. value_in-below bottom older n t s all.1 a)
  where
    by : ((node ≡ length older + 2) ⊎ (node ≡ length older + 2 → ⊥))
        → ((n : ℕ) → n < length older + 2 → ((k : ℕ) → (row_in bottom older n).depth ≤ k → k < bottom → t k ≡ s k) → value_in older n t ≡ value_in older n s)
        → value_in (row ∷ older) node t ≡ value_in (row ∷ older) node s
    by (inl e) below =
        let own : (row_in bottom (row ∷ older) node) ≡ row = row_in-newest bottom row older node e in
        let from : (k : ℕ) → row.depth ≤ k → k < bottom → t k ≡ s k = λ k a b. agree k (subst (λ r. r.depth ≤ k) (sym own) a) b in
        value_in-newest row older node t e
        ∙ ap (λ b. if b then value_in older row.high t else value_in older row.low t) (from row.depth (omega arith) all.0.depth)
        ∙ ap (λ x. if s row.depth then x else value_in older row.low t) (below row.high all.0.high (λ k a b. from k (omega (arith, all.0.above_high)) b))
        ∙ ap (λ x. if s row.depth then value_in older row.high s else x) (below row.low all.0.low (λ k a b. from k (omega (arith, all.0.above_low)) b))
        ∙ sym (value_in-newest row older node s e)
    by (inr n) below =
        let h' : node < length older + 2 = omega arith in
        value_in-older row older node t h'
        ∙ below node h' (λ k a b. agree k (subst (λ r. r.depth ≤ k) (sym (row_in-older bottom row older node h')) a) b)
        ∙ sym (value_in-older row older node s h')

-- the values, but this one at a depth
abbrev pub put : (ℕ → Bool) → ℕ → Bool → ℕ → Bool
put t depth b = λ k. if k == depth then b else t k

pub put-same : (t : ℕ → Bool) (depth : ℕ) (b : Bool) → put t depth b depth ≡ b
put-same t depth b = cond-true (depth == depth) b (t depth) (eq-eqb depth depth refl)

pub put-other : (t : ℕ → Bool) (depth : ℕ) (b : Bool) (k : ℕ) → (k ≡ depth → ⊥) → put t depth b k ≡ t k
put-other t depth b k n = cond-false (k == depth) b (t k) (ne_eqb k depth n)

pub value_in-put : (bottom : ℕ) (rows : List Row) (node : ℕ) (t : ℕ → Bool) (depth : ℕ) (b : Bool) → AreReduced bottom rows → node < length rows + 2
    → depth < (row_in bottom rows node).depth → value_in rows node (put t depth b) ≡ value_in rows node t
value_in-put bottom rows node t depth b all h above =
    value_in-below bottom rows node (put t depth b) t all h (λ k a c. put-other t depth b k (λ e. omega arith))

-- a branch, with its own variable true, or false
pub value_in-put_true : (bottom : ℕ) (rows : List Row) (node : ℕ) (row : Row) (t : ℕ → Bool) → AreReduced bottom rows → node < length rows + 2
    → Branches bottom rows node row → value_in rows node (put t row.depth true) ≡ value_in rows row.high t
value_in-put_true bottom rows node row t all h b =
    b.value (put t row.depth true)
    ∙ ap (λ x. if x then value_in rows row.high (put t row.depth true) else value_in rows row.low (put t row.depth true)) (put-same t row.depth true)
    ∙ value_in-put bottom rows row.high t row.depth true all (omega (arith, b.high)) b.above_high

pub value_in-put_false : (bottom : ℕ) (rows : List Row) (node : ℕ) (row : Row) (t : ℕ → Bool) → AreReduced bottom rows → node < length rows + 2
    → Branches bottom rows node row → value_in rows node (put t row.depth false) ≡ value_in rows row.low t
value_in-put_false bottom rows node row t all h b =
    b.value (put t row.depth false)
    ∙ ap (λ x. if x then value_in rows row.high (put t row.depth false) else value_in rows row.low (put t row.depth false)) (put-same t row.depth false)
    ∙ value_in-put bottom rows row.low t row.depth false all (omega (arith, b.low)) b.above_low

-- a node whose variable is not the last of all is no constant
pub deep-constant : (bottom : ℕ) (rows : List Row) (node : ℕ) → (row_in bottom rows node).depth < bottom → 2 ≤ node
deep-constant bottom rows node h =
    by (cases_eq node 0) (cases_eq node 1)
  where
    low : node < 2 → 2 ≤ node
    low c = let e : (row_in bottom rows node).depth ≡ bottom = ap (λ r. r.depth) (row_in-constant bottom rows node c) in absurd (omega arith)

    by : ((node ≡ 0) ⊎ (node ≡ 0 → ⊥)) → ((node ≡ 1) ⊎ (node ≡ 1 → ⊥)) → 2 ≤ node
    by (inl e) b = low (omega arith)
    by (inr n) (inl e) = low (omega arith)
    by (inr n) (inr m) = omega arith

-- what a row says
abbrev pub branch : List Row → Row → (ℕ → Bool) → Bool
branch rows row t = if t row.depth then value_in rows row.high t else value_in rows row.low t

branch-true : (bottom : ℕ) (older : List Row) (row : Row) (t : ℕ → Bool) → AreReduced bottom older → IsReduced bottom older row
    → branch older row (put t row.depth true) ≡ value_in older row.high t
branch-true bottom older row t all r =
    ap (λ x. if x then value_in older row.high (put t row.depth true) else value_in older row.low (put t row.depth true)) (put-same t row.depth true)
    ∙ value_in-put bottom older row.high t row.depth true all r.high r.above_high

branch-false : (bottom : ℕ) (older : List Row) (row : Row) (t : ℕ → Bool) → AreReduced bottom older → IsReduced bottom older row
    → branch older row (put t row.depth false) ≡ value_in older row.low t
branch-false bottom older row t all r =
    ap (λ x. if x then value_in older row.high (put t row.depth false) else value_in older row.low (put t row.depth false)) (put-same t row.depth false)
    ∙ value_in-put bottom older row.low t row.depth false all r.low r.above_low

branch-above : (bottom : ℕ) (older : List Row) (row : Row) (t : ℕ → Bool) (depth : ℕ) (b : Bool) → AreReduced bottom older → IsReduced bottom older row
    → depth < row.depth → branch older row (put t depth b) ≡ branch older row t
branch-above bottom older row t depth b all r h =
    ap (λ x. if x then value_in older row.high (put t depth b) else value_in older row.low (put t depth b)) (put-other t depth b row.depth (λ e. omega arith))
    ∙ ap (λ x. if t row.depth then x else value_in older row.low (put t depth b)) (value_in-put bottom older row.high t depth b all r.high (omega (arith, r.above_high)))
    ∙ ap (λ x. if t row.depth then value_in older row.high t else x) (value_in-put bottom older row.low t depth b all r.low (omega (arith, r.above_low)))

-- A row that is not there yet means none of the functions that are there.
newest-new : (bottom : ℕ) (row : Row) (older : List Row) (g : ℕ) → IsReduced bottom older row → AreReduced bottom older
    → ((a b : ℕ) → a < length older + 2 → b < length older + 2 → ((t : ℕ → Bool) → value_in older a t ≡ value_in older b t) → a ≡ b)
    → g < length older + 2 → ((t : ℕ → Bool) → branch older row t ≡ value_in older g t) → ⊥
newest-new bottom row older g r all one h same =
    by (cases_order row.depth own.depth)
  where
    own : Row
    own = row_in bottom older g

    by : (row.depth ≡ own.depth) ⊎ ((row.depth < own.depth) ⊎ (own.depth < row.depth)) → ⊥
    by (inl e) =
        let b = branches bottom older g all (deep-constant bottom older g (omega (arith, r.depth))) h in
        let high : row.high ≡ own.high = one row.high own.high r.high (omega (arith, b.high)) (λ t.
        sym (branch-true bottom older row t all r) ∙ same (put t row.depth true)
        ∙ ap (λ k. value_in older g (put t k true)) e ∙ value_in-put_true bottom older g own t all h b) in
        let low : row.low ≡ own.low = one row.low own.low r.low (omega (arith, b.low)) (λ t.
        sym (branch-false bottom older row t all r) ∙ same (put t row.depth false)
        ∙ ap (λ k. value_in older g (put t k false)) e ∙ value_in-put_false bottom older g own t all h b) in
        let whole : row ≡ own = λ i. record { depth = e i; high = high i; low = low i } in
        both_ways (has_row older row) r.once (subst (λ x. has_row older x ≡ true) (sym whole) b.there)
    by (inr (inl lt)) =
        r.different (one row.high row.low r.high r.low (λ t.
        sym (branch-true bottom older row t all r) ∙ same (put t row.depth true) ∙ value_in-put bottom older g t row.depth true all h lt
        ∙ sym (sym (branch-false bottom older row t all r) ∙ same (put t row.depth false) ∙ value_in-put bottom older g t row.depth false all h lt)))
    by (inr (inr lt)) =
        let b = branches bottom older g all (deep-constant bottom older g (omega (arith, r.depth))) h in
        b.different (one own.high own.low (omega (arith, b.high)) (omega (arith, b.low)) (λ t.
        sym (value_in-put_true bottom older g own t all h b) ∙ sym (same (put t own.depth true)) ∙ branch-above bottom older row t own.depth true all r lt
        ∙ sym (sym (value_in-put_false bottom older g own t all h b) ∙ sym (same (put t own.depth false)) ∙ branch-above bottom older row t own.depth false all r lt)))

constants-differ : (f g : ℕ) → f < 2 → g < 2 → (f == 1) ≡ (g == 1) → f ≡ g
constants-differ f g hf hg e = grind (arith, nat_tests)

-- Two nodes with one meaning are one.
pub canonical_in : (bottom : ℕ) (rows : List Row) (f g : ℕ) → AreReduced bottom rows → f < length rows + 2 → g < length rows + 2
    → ((t : ℕ → Bool) → value_in rows f t ≡ value_in rows g t) → f ≡ g
canonical_in bottom [] f g all hf hg same = constants-differ f g hf hg (same (λ k. true))
canonical_in bottom (row ∷ older) f g all hf hg same =
    by (cases_eq f (length older + 2)) (cases_eq g (length older + 2)) (λ a b. canonical_in bottom older a b all.1)
  where
    One : Type 0
    One = (a b : ℕ) → a < length older + 2 → b < length older + 2 → ((t : ℕ → Bool) → value_in older a t ≡ value_in older b t) → a ≡ b

    by : ((f ≡ length older + 2) ⊎ (f ≡ length older + 2 → ⊥)) → ((g ≡ length older + 2) ⊎ (g ≡ length older + 2 → ⊥)) → One → f ≡ g
    by (inl e) (inl k) one = e ∙ sym k
    by (inl e) (inr k) one =
        let h : g < length older + 2 = omega arith in
        absurd (newest-new bottom row older g all.0 all.1 one h (λ t. sym (value_in-newest row older f t e) ∙ same t ∙ value_in-older row older g t h))
    by (inr n) (inl k) one =
        let h : f < length older + 2 = omega arith in
        absurd (newest-new bottom row older f all.0 all.1 one h (λ t. sym (value_in-newest row older g t k) ∙ sym (same t) ∙ value_in-older row older f t h))
    by (inr n) (inr m) one =
        let hf' : f < length older + 2 = omega arith in
        let hg' : g < length older + 2 = omega arith in
        one f g hf' hg' (λ t. sym (value_in-older row older f t hf') ∙ same t ∙ value_in-older row older g t hg')
