-- Nodes of a table.
use Rattle.std.proofs.Common.{ℕ, ◌≡◌, ◌+◌, ◌<◌, ◌≤◌, ◌==◌, ◌⊎◌, inl, inr, Bool, true, false, if◌then◌else◌, List, [], ◌∷◌, length, slice_index, nat_eq, zero, suc, refl, sym, ap, subst, ◌∙◌, arith, lit<}
use Rattle.std.specs.List.{IsDistinct, AllByRecursion}
use Rattle.std.proofs.lemmas.Bool.{ne_eqb, eq-eqb, eqb-true, eqb-false, cond-true, cond-false, cases_lt}
use Rattle.kn_diagram.specs.Diagrams.{Row, Table, IsNode, row_in, value_in, function_of, depth_of, high_of, low_of, HasPlace, IsTable, Keeps, IsSplit, IsMade, depth_in, IsBranch, IsCanonical, AgreeFrom, HasNodes}
use Rattle.kn_diagram.proofs.RowLemmas.{row_in-older, row_in-newest, row_in-constant, value_in-older, value_in-newest, value_in-constant, branches, value_in-below, canonical_in}

pub Keeps-self : (d : Table) → Keeps d d
Keeps-self d = record { order = refl; nodes = λ node h. record { there = h; function = λ v. refl; depth = refl; high = refl; low = refl } }

pub Keeps-along : (a b c : Table) → Keeps a b → Keeps b c → Keeps a c
Keeps-along a b c k l = record {
  order = l.order ∙ k.order;
  nodes = λ node h.
      let p = k.nodes node h in
      let q = l.nodes node p.there in
      record {
        there = q.there;
        function = λ v. q.function v ∙ p.function v;
        depth = q.depth ∙ p.depth;
        high = q.high ∙ p.high;
        low = q.low ∙ p.low;
      };
}

-- one more row changes no node
pub Keeps-more : (order : List ℕ) (row : Row) (older : List Row) → Keeps (record { order = order; rows = older }) (record { order = order; rows = row ∷ older })
unfolding function_of depth_of high_of low_of
Keeps-more order row older = record {
  order = refl;
  nodes = λ node h. record {
    there = omega arith;
    function = λ v. value_in-older row older node (λ k. v (slice_index order k)) h;
    depth = ap (λ r. r.depth) (row_in-older (length order) row older node h);
    high = ap (λ r. r.high) (row_in-older (length order) row older node h);
    low = ap (λ r. r.low) (row_in-older (length order) row older node h);
  };
}

pub depth_of-constant : (d : Table) (node : ℕ) → node < 2 → depth_of d node ≡ length d.order
unfolding depth_of
depth_of-constant d node h = ap (λ r. r.depth) (row_in-constant (length d.order) d.rows node h)

-- a constant is of no variable, and counts at no depth
pub constant-uncounted : (d : Table) (node depth : ℕ) → node < 2 → depth < length d.order → ◌≡◌ {A = ℕ} (if depth_of d node == depth then 1 else 0) 0
constant-uncounted d node depth low h = cond-false (depth_of d node == depth) 1 0 (ne_eqb (depth_of d node) depth (λ e. omega (arith, depth_of-constant d node low)))

pub function_of-constant : (d : Table) (node : ℕ) (v : ℕ → Bool) → node < 2 → function_of d node v ≡ (node == 1)
unfolding function_of
function_of-constant d node v h = value_in-constant d.rows node (λ k. v (slice_index d.order k)) h

-- a node of another variable, further down, is both halves of itself
pub split-apart : (d : Table) (node depth : ℕ) → IsNode d node → depth < depth_of d node → IsSplit d node depth node node
split-apart d node depth h a = record {
  high_is = sym (cond-false (depth_of d node == depth) (high_of d node) node (ne_eqb (depth_of d node) depth (λ e. omega arith)));
  low_is = sym (cond-false (depth_of d node == depth) (low_of d node) node (ne_eqb (depth_of d node) depth (λ e. omega arith)));
  high_there = h;
  low_there = h;
  above_high = a;
  above_low = a;
  high_older = omega arith;
  low_older = omega arith;
  older = λ e. absurd (omega arith);
  function = λ v. both (v (slice_index d.order depth)) (function_of d node v);
}
  where
    both : (b x : Bool) → x ≡ (if b then x else x)
    both true x = refl
    both false x = refl

pub split-own : (d : Table) (node : ℕ) → IsTable d → IsNode d node → 2 ≤ node → IsSplit d node (depth_of d node) (high_of d node) (low_of d node)
unfolding function_of depth_of high_of low_of
split-own d node ok h two =
    let b = branches (length d.order) d.rows node ok.rows two h in
    record {
      high_is = sym (cond-true (depth_of d node == depth_of d node) (high_of d node) node (eq-eqb (depth_of d node) (depth_of d node) refl));
      low_is = sym (cond-true (depth_of d node == depth_of d node) (low_of d node) node (eq-eqb (depth_of d node) (depth_of d node) refl));
      high_there = omega (arith, b.high);
      low_there = omega (arith, b.low);
      above_high = b.above_high;
      above_low = b.above_low;
      high_older = omega (arith, b.high);
      low_older = omega (arith, b.low);
      older = λ e. (b.high, b.low);
      function = λ v. b.value (λ k. v (slice_index d.order k));
    }

-- what making a row gives
pub record Makes (order : List ℕ) (old new : List Row) (row : Row) (node : ℕ) : Type 0 where
  pub table : IsTable (record { order = order; rows = new })
  pub kept : Keeps (record { order = order; rows = old }) (record { order = order; rows = new })
  pub made : IsMade (record { order = order; rows = old }) (record { order = order; rows = new }) row.depth row.high row.low node

pub makes : (order : List ℕ) (old new : List Row) (row : Row) (place : ℕ) → IsTable (record { order = order; rows = old }) → HasPlace row old new place
    → row.depth < length order → row.high < length old + 2 → row.low < length old + 2 → (row.high ≡ row.low → ⊥)
    → row.depth < depth_of (record { order = order; rows = old }) row.high → row.depth < depth_of (record { order = order; rows = old }) row.low
    → Makes order old new row (place + 2)
unfolding function_of depth_of high_of low_of
makes order old new row place ok (inl s) depth high low different above_high above_low =
    let b = branches (length order) old (place + 2) ok.rows (omega arith) (omega (arith, s.within)) in
    let is : row_in (length order) old (place + 2) ≡ row = s.there (length order) in
    subst (λ rows. Makes order old rows row (place + 2)) (sym s.same) (record {
      table = ok;
      kept = Keeps-self (record { order = order; rows = old });
      made = record {
        there = omega (arith, s.within);
        depth_is = let e : row.depth ≡ (row_in (length order) old (place + 2)).depth = ap (λ r. r.depth) (sym is) in omega arith;
        function = λ v. b.value (λ k. v (slice_index order k))
            ∙ ap (λ r. if v (slice_index order r.depth) then value_in old r.high (λ k. v (slice_index order k)) else value_in old r.low (λ k. v (slice_index order k))) is;
      };
    })
makes order old new row place ok (inr j) depth high low different above_high above_low =
    let n : place + 2 ≡ length old + 2 = omega (arith, j.last) in
    let is : row_in (length order) (row ∷ old) (place + 2) ≡ row = row_in-newest (length order) row old (place + 2) n in
    subst (λ rows. Makes order old rows row (place + 2)) (sym j.more) (record {
      table = record {
        order = ok.order;
        rows = (record { depth = depth; high = high; low = low; above_high = above_high; above_low = above_low; different = different; once = j.once }, ok.rows);
      };
      kept = Keeps-more order row old;
      made = record {
        there = omega arith;
        depth_is = let e : row.depth ≡ (row_in (length order) (row ∷ old) (place + 2)).depth = ap (λ r. r.depth) (sym is) in omega arith;
        function = λ v. value_in-newest row old (place + 2) (λ k. v (slice_index order k)) n;
      };
    })

pub split-is : (d : Table) (node depth high low : ℕ) → IsTable d → IsNode d node → 2 ≤ node → depth_of d node ≡ depth → high_of d node ≡ high → low_of d node ≡ low
    → IsSplit d node depth high low
split-is d node depth high low ok h two e f g =
    let at_depth = subst (λ x. IsSplit d node x (high_of d node) (low_of d node)) e (split-own d node ok h two) in
    let at_high = subst (λ x. IsSplit d node depth x (low_of d node)) f at_depth in
    subst (λ x. IsSplit d node depth high x) g at_high

-- the same, of a table that is seen whole
pub record MakesFrom (self new : Table) (depth high low node : ℕ) : Type 0 where
  pub table : IsTable new
  pub kept : Keeps self new
  pub made : IsMade self new depth high low node

pub makes-from : (order : List ℕ) (old new : List Row) (self : Table) (depth high low h l node place : ℕ) → record { order = order; rows = old } ≡ self
    → IsTable (record { order = order; rows = old }) → HasPlace (record { depth = depth; high = h; low = l }) old new place → h ≡ high → l ≡ low → node ≡ place + 2
    → (high ≡ low → ⊥) → IsNode self high → IsNode self low → depth < length self.order → depth < depth_of self high → depth < depth_of self low
    → MakesFrom self (record { order = order; rows = new }) depth high low node
makes-from order old new self depth high low h l node place view ok has e f n different =
    let P : Table → Type 0 = λ d. IsNode d high → IsNode d low → depth < length d.order → depth < depth_of d high → depth < depth_of d low
    → MakesFrom d (record { order = order; rows = new }) depth high low node in
    let placed : HasPlace (record { depth = depth; high = high; low = low }) old new place =
    subst (λ x. HasPlace (record { depth = depth; high = high; low = x }) old new place) f (subst (λ x. HasPlace (record { depth = depth; high = x; low = l }) old new place) e has) in
    subst P view (λ high_there low_there within above_high above_low.
    let m = makes order old new (record { depth = depth; high = high; low = low }) place ok placed within high_there low_there different above_high above_low in
    record {
      table = m.table;
      kept = m.kept;
      made = subst (λ x. IsMade (record { order = order; rows = old }) (record { order = order; rows = new }) depth high low x) (sym n) m.made;
    })

-- a node that is no constant has a variable
pub depth_of-branch : (d : Table) (node : ℕ) → IsTable d → IsNode d node → 2 ≤ node → depth_of d node < length d.order
unfolding depth_of
depth_of-branch d node ok h two = (branches (length d.order) d.rows node ok.rows two h).depth

pub depth_in-slice_index : (order : List ℕ) (depth : ℕ) → IsDistinct nat_eq order → depth < length order → depth_in order (slice_index order depth) ≡ depth
unfolding IsDistinct
depth_in-slice_index [] depth d h = absurd (omega arith)
depth_in-slice_index (x ∷ xs) zero d h = cond-true (x == x) 0 (1 + depth_in xs x) (eq-eqb x x refl)
depth_in-slice_index (x ∷ xs) (suc depth) d h =
    let s : depth < length xs = omega arith in
    let y = slice_index xs depth in
    let other : (x == y) ≡ false = apart xs depth d.0 s in
    let turned : (y == x) ≡ false = ne_eqb y x (λ e. eqb-false x y other (sym e)) in
    cond-false (y == x) 0 (1 + depth_in xs y) turned ∙ ap (λ n. 1 + n) (depth_in-slice_index xs depth d.1 s) ∙ one_more depth
  where
    one_more : (n : ℕ) → 1 + n ≡ suc n
    one_more n = omega arith

    apart : (ys : List ℕ) (k : ℕ) → AllByRecursion (λ y. (x == y) ≡ false) ys → k < length ys → (x == slice_index ys k) ≡ false
    apart [] k a l = absurd (omega arith)
    apart (y ∷ ys) zero a l = a.0
    apart (y ∷ ys) (suc k) a l = apart ys k a.1 (omega arith)

pub slice_index-depth_in : (order : List ℕ) (variable : ℕ) → depth_in order variable < length order → slice_index order (depth_in order variable) ≡ variable
slice_index-depth_in [] variable h = absurd (omega arith)
slice_index-depth_in (x ∷ xs) variable h = by (variable == x) refl (slice_index-depth_in xs variable)
  where
    by : (b : Bool) → (variable == x) ≡ b → (depth_in xs variable < length xs → slice_index xs (depth_in xs variable) ≡ variable)
        → slice_index (x ∷ xs) (depth_in (x ∷ xs) variable) ≡ variable
    by true t rest = ap (slice_index (x ∷ xs)) (cond-true (variable == x) 0 (1 + depth_in xs variable) t) ∙ sym (eqb-true variable x t)
    by false t rest =
        let e : depth_in (x ∷ xs) variable ≡ suc (depth_in xs variable) = cond-false (variable == x) 0 (1 + depth_in xs variable) t ∙ omega arith in
        ap (slice_index (x ∷ xs)) e ∙ rest (omega arith)

pub branch-is : (d : Table) (node variable high low : ℕ) → IsTable d → IsNode d node → 2 ≤ node → variable ≡ slice_index d.order (depth_of d node)
    → high ≡ high_of d node → low ≡ low_of d node → IsBranch d node variable high low
unfolding function_of depth_of high_of low_of
branch-is d node variable high low ok h two x e f =
    let b = branches (length d.order) d.rows node ok.rows two h in
    let m : IsBranch d node (slice_index d.order (depth_of d node)) (high_of d node) (low_of d node) = record {
      depth_is = depth_in-slice_index d.order (depth_of d node) ok.order b.depth;
      variable_is = refl;
      within = b.depth;
      high_is = refl;
      low_is = refl;
      high_there = omega (arith, b.high);
      low_there = omega (arith, b.low);
      above_high = b.above_high;
      above_low = b.above_low;
      high_older = b.high;
      low_older = b.low;
      different = b.different;
      function = λ v. b.value (λ k. v (slice_index d.order k));
    } in
    subst (λ z. IsBranch d node variable high z) (sym f)
    (subst (λ z. IsBranch d node variable z (low_of d node)) (sym e)
    (subst (λ z. IsBranch d node z (high_of d node) (low_of d node)) (sym x) m))

-- Two nodes with one function are one.
pub canonical : (d : Table) → IsTable d → IsCanonical d
unfolding function_of
canonical d ok f g hf hg same =
    canonical_in (length d.order) d.rows f g ok.rows hf hg (λ t.
    let v : ℕ → Bool = λ x. t (depth_in d.order x) in
    let at : (k : ℕ) → k < length d.order → t k ≡ v (slice_index d.order k) = λ k h. sym (ap t (depth_in-slice_index d.order k ok.order h)) in
    value_in-below (length d.order) d.rows f t (λ k. v (slice_index d.order k)) ok.rows hf (λ k a b. at k b)
    ∙ same v
    ∙ sym (value_in-below (length d.order) d.rows g t (λ k. v (slice_index d.order k)) ok.rows hg (λ k a b. at k b)))

pub function_of-below : (d : Table) (node : ℕ) (v w : ℕ → Bool) → IsTable d → IsNode d node → AgreeFrom d (depth_of d node) v w → function_of d node v ≡ function_of d node w
unfolding function_of depth_of
function_of-below d node v w ok h agree =
    value_in-below (length d.order) d.rows node (λ k. v (slice_index d.order k)) (λ k. w (slice_index d.order k)) ok.rows h agree

pub depth_of-within : (d : Table) (node : ℕ) → IsTable d → IsNode d node → depth_of d node ≤ length d.order
depth_of-within d node ok h = by (cases_lt node 2)
  where
    by : ((node < 2) ⊎ (2 ≤ node)) → depth_of d node ≤ length d.order
    by (inl low) = omega (arith, depth_of-constant d node low)
    by (inr two) = omega (arith, depth_of-branch d node ok h two)

pub has_nodes : (d : Table) → IsTable d → HasNodes d
has_nodes d ok = record {
  no = λ v. function_of-constant d 0 v (lit< tt);
  yes = λ v. function_of-constant d 1 v (lit< tt);
  no_depth = depth_of-constant d 0 (lit< tt);
  yes_depth = depth_of-constant d 1 (lit< tt);
  depth_within = λ node h. depth_of-within d node ok h;
  branch = λ node two h. branch-is d node (slice_index d.order (depth_of d node)) (high_of d node) (low_of d node) ok h two refl refl refl;
  place = λ depth h. depth_in-slice_index d.order depth ok.order h;
  below = λ node v w h agree. function_of-below d node v w ok h agree;
}
