-- A function is wide at a variable exactly where enough nodes of the variable are reached.
use Rattle.std.proofs.Common.{ℕ, zero, suc, ◌≡◌, ◌+◌, ◌<◌, ◌≤◌, ◌==◌, ◌⊎◌, inl, inr, Bool, true, false, ◌&&◌, if◌then◌else◌, List, [], ◌∷◌, length, map, slice_index, slice_index_or, nat_lt, nat_eq, refl, sym, ap, subst, ◌∙◌, arith, true≢false}
use Rattle.std.specs.List.{AllByRecursion, IsDistinct, list_any}
use Rattle.std.proofs.lemmas.Cmp.{nat_eq_equiv}
use Rattle.std.proofs.lemmas.Grind.{get_or_default_zero}
use Rattle.std.proofs.lemmas.Map.Made.{length-le_from_is_member}
use Rattle.std.proofs.lemmas.List.{length-map}
use Rattle.std.proofs.lemmas.Bool.{eqb-true, eqb-false, eq-eqb, ne_eqb, cond-true, cond-false, and_parts, or_cases, cases_eq, cases_lt}
use Rattle.kn_diagram.specs.Diagrams.{Row, Table, IsNode, row_in, value_in, function_of, depth_of, high_of, low_of, IsTable, depth_in, AgreeFrom}
use Rattle.kn_diagram.specs.Widths.{reaches, reached_below, width_at, IsFirstWide}
use Rattle.kn_diagram.specs.Wide.{remaining, Differ, AllDiffer, DependsOn, IsWideAt, IsWide}
use Rattle.kn_diagram.proofs.RowLemmas.{Branches, branches, value_in-below, put, put-same, put-other, deep-constant, canonical_in}
use Rattle.kn_diagram.proofs.NodeLemmas.{depth_in-slice_index, slice_index-depth_in, function_of-below}
use Rattle.kn_diagram.proofs.CountLemmas.{listed, listed-has, is_counted, length-listed}
use Rattle.kn_diagram.proofs.WayLemmas.{down_in, over, down_in-leads, way-to}

-- A function hangs on the values below a number alone.
abbrev pub HangsBelow : ℕ → ((ℕ → Bool) → Bool) → Type 0
HangsBelow n f = (t s : ℕ → Bool) → ((k : ℕ) → k < n → t k ≡ s k) → f t ≡ f s

pub equal-or-not : (a b : Bool) → (a ≡ b) ⊎ (a ≡ b → ⊥)
equal-or-not true true = inl refl
equal-or-not false false = inl refl
equal-or-not true false = inr true≢false
equal-or-not false true = inr (λ e. true≢false (sym e))

put-agree : (n : ℕ) (t s : ℕ → Bool) (b : Bool) → ((k : ℕ) → k < n → t k ≡ s k) → (k : ℕ) → k < suc n → put t n b k ≡ put s n b k
put-agree n t s b agree k h = by (cases_eq k n)
  where
    by : ((k ≡ n) ⊎ (k ≡ n → ⊥)) → put t n b k ≡ put s n b k
    by (inl e) = ap (put t n b) e ∙ put-same t n b ∙ sym (put-same s n b) ∙ ap (put s n b) (sym e)
    by (inr x) = put-other t n b k x ∙ agree k (omega arith) ∙ sym (put-other s n b k x)

put-own : (n : ℕ) (t : ℕ → Bool) (b : Bool) → t n ≡ b → (k : ℕ) → k < suc n → t k ≡ put t n b k
put-own n t b e k h = by (cases_eq k n)
  where
    by : ((k ≡ n) ⊎ (k ≡ n → ⊥)) → t k ≡ put t n b k
    by (inl x) = ap t x ∙ e ∙ sym (put-same t n b) ∙ ap (put t n b) (sym x)
    by (inr x) = sym (put-other t n b k x)

-- two functions of a few values are the same, or differ at some
same-or-differ : (n : ℕ) (f g : (ℕ → Bool) → Bool) → HangsBelow n f → HangsBelow n g → ((t : ℕ → Bool) → f t ≡ g t) ⊎ Differ f g
same-or-differ zero f g hf hg = by (equal-or-not (f (λ k. true)) (g (λ k. true)))
  where
    by : ((f (λ k. true) ≡ g (λ k. true)) ⊎ (f (λ k. true) ≡ g (λ k. true) → ⊥)) → ((t : ℕ → Bool) → f t ≡ g t) ⊎ Differ f g
    by (inl e) = inl (λ t. hf t (λ k. true) (λ k l. absurd (omega arith)) ∙ e ∙ hg (λ k. true) t (λ k l. absurd (omega arith)))
    by (inr x) = inr ((λ k. true), x)
same-or-differ (suc n) f g hf hg =
    by (same-or-differ n (λ t. f (put t n true)) (λ t. g (put t n true))
    (λ t s agree. hf (put t n true) (put s n true) (put-agree n t s true agree)) (λ t s agree. hg (put t n true) (put s n true) (put-agree n t s true agree)))
    (same-or-differ n (λ t. f (put t n false)) (λ t. g (put t n false))
    (λ t s agree. hf (put t n false) (put s n false) (put-agree n t s false agree)) (λ t s agree. hg (put t n false) (put s n false) (put-agree n t s false agree)))
  where
    Half : Bool → Type 0
    Half b = ((t : ℕ → Bool) → f (put t n b) ≡ g (put t n b)) ⊎ Differ (λ t. f (put t n b)) (λ t. g (put t n b))

    both : ((t : ℕ → Bool) → f (put t n true) ≡ g (put t n true)) → ((t : ℕ → Bool) → f (put t n false) ≡ g (put t n false))
        → (t : ℕ → Bool) (b : Bool) → t n ≡ b → f t ≡ g t
    both h l t true e = hf t (put t n true) (put-own n t true e) ∙ h t ∙ sym (hg t (put t n true) (put-own n t true e))
    both h l t false e = hf t (put t n false) (put-own n t false e) ∙ l t ∙ sym (hg t (put t n false) (put-own n t false e))

    by : Half true → Half false → ((t : ℕ → Bool) → f t ≡ g t) ⊎ Differ f g
    by (inl h) (inl l) = inl (λ t. both h l t (t n) refl)
    by (inr (t, x)) b = inr (put t n true, x)
    by (inl h) (inr (t, x)) = inr (put t n false, x)

-- the values of the variables of these depths
abbrev pub by_depth : List ℕ → (ℕ → Bool) → ℕ → Bool
by_depth order v = λ k. v (slice_index order k)

-- two nodes that are not one have functions that differ
pub nodes-differ : (d : Table) (f g : ℕ) → IsTable d → IsNode d f → IsNode d g → (f ≡ g → ⊥) → Differ (function_of d f) (function_of d g)
unfolding function_of
nodes-differ d f g ok hf hg apart =
    by (same-or-differ (length d.order) (value_in d.rows f) (value_in d.rows g) (hangs f hf) (hangs g hg))
  where
    hangs : (node : ℕ) → IsNode d node → HangsBelow (length d.order) (value_in d.rows node)
    hangs node h t s agree = value_in-below (length d.order) d.rows node t s ok.rows h (λ k a b. agree k b)

    by : ((t : ℕ → Bool) → value_in d.rows f t ≡ value_in d.rows g t) ⊎ Differ (value_in d.rows f) (value_in d.rows g)
        → (v : ℕ → Bool) × (value_in d.rows f (by_depth d.order v) ≡ value_in d.rows g (by_depth d.order v) → ⊥)
    by (inl same) = absurd (apart (canonical_in (length d.order) d.rows f g ok.rows hf hg same))
    by (inr (t, x)) =
        let v : ℕ → Bool = λ y. t (depth_in d.order y) in
        let like : (k : ℕ) → k < length d.order → t k ≡ by_depth d.order v k = λ k h. sym (ap t (depth_in-slice_index d.order k ok.order h)) in
        (v, λ e. x (hangs f hf t (by_depth d.order v) like ∙ e ∙ sym (hangs g hg t (by_depth d.order v) like)))

-- the node that a way leads to
abbrev pub down : Table → ℕ → List Bool → ℕ
down d node way = down_in d.rows (length way) node (λ k. slice_index_or way k false)

pub record Leads (d : Table) (node : ℕ) (way : List Bool) (to : ℕ) : Type 0 where
  pub there : IsNode d to
  pub depth : length way ≤ depth_of d to
  pub reached : reaches d node to ≡ true
  pub function : (v : ℕ → Bool) → function_of d to v ≡ remaining d.order (function_of d node) way v

-- a way leads to the node of what remains
pub leads : (d : Table) (node : ℕ) (way : List Bool) → IsTable d → IsNode d node → length way ≤ length d.order → Leads d node way (down d node way)
unfolding function_of depth_of reaches
leads d node way ok h short =
    let t : ℕ → Bool = λ k. slice_index_or way k false in
    let l = down_in-leads (length d.order) d.rows (length way) node t ok.rows short h in
    record {
      there = l.there;
      depth = l.depth;
      reached = l.reached;
      function = λ v. l.value (by_depth d.order v)
          ∙ value_in-below (length d.order) d.rows node (over (length way) t (by_depth d.order v))
          (λ k. if nat_lt (depth_in d.order (slice_index d.order k)) (length way) then slice_index_or way (depth_in d.order (slice_index d.order k)) false else v (slice_index d.order k))
          ok.rows h (λ k a b. (λ i. if nat_lt (sym (depth_in-slice_index d.order k ok.order b) i) (length way)
          then slice_index_or way (sym (depth_in-slice_index d.order k ok.order b) i) false else v (slice_index d.order k)));
    }

-- a function that depends on a variable is that of a node that is not further down
pub depends-depth : (d : Table) (node variable : ℕ) → IsTable d → IsNode d node → DependsOn (function_of d node) variable → depth_of d node ≤ depth_in d.order variable
depends-depth d node variable ok h (v, x) = by (cases_lt (depth_in d.order variable) (depth_of d node))
  where
    agree : depth_in d.order variable < depth_of d node
        → AgreeFrom d (depth_of d node) (λ y. if y == variable then true else v y) (λ y. if y == variable then false else v y)
    agree l k a b =
        let y = slice_index d.order k in
        let other : (y == variable) ≡ false = ne_eqb y variable (λ e.
        let same : depth_in d.order variable ≡ k = ap (depth_in d.order) (sym e) ∙ depth_in-slice_index d.order k ok.order b in omega arith) in
        cond-false (y == variable) true (v y) other ∙ sym (cond-false (y == variable) false (v y) other)

    by : ((depth_in d.order variable < depth_of d node) ⊎ (depth_of d node ≤ depth_in d.order variable)) → depth_of d node ≤ depth_in d.order variable
    by (inl l) = absurd (x (function_of-below d node (λ y. if y == variable then true else v y) (λ y. if y == variable then false else v y) ok h (agree l)))
    by (inr l) = l

-- the function of a node depends on the node's own variable
pub node-depends : (d : Table) (node variable : ℕ) → IsTable d → IsNode d node → depth_of d node ≡ depth_in d.order variable → depth_in d.order variable < length d.order
    → DependsOn (function_of d node) variable
unfolding function_of depth_of high_of low_of
node-depends d node variable ok h at within = by (nodes-differ d own.high own.low ok (omega (arith, b.high)) (omega (arith, b.low)) b.different)
  where
    own : Row
    own = row_in (length d.order) d.rows node

    b : Branches (length d.order) d.rows node own
    b = branches (length d.order) d.rows node ok.rows (deep-constant (length d.order) d.rows node (omega arith)) h

    is : slice_index d.order own.depth ≡ variable
    is = ap (slice_index d.order) at ∙ slice_index-depth_in d.order variable within

    with_value : (ℕ → Bool) → Bool → ℕ → Bool
    with_value v c = λ y. if y == variable then c else v y

    own-value : (v : ℕ → Bool) (c : Bool) → by_depth d.order (with_value v c) own.depth ≡ c
    own-value v c = ap (with_value v c) is ∙ cond-true (variable == variable) c (v variable) (eq-eqb variable variable refl)

    below-same : (v : ℕ → Bool) (c : Bool) (child : ℕ) → IsNode d child → own.depth < (row_in (length d.order) d.rows child).depth
        → value_in d.rows child (by_depth d.order (with_value v c)) ≡ value_in d.rows child (by_depth d.order v)
    below-same v c child there above =
        value_in-below (length d.order) d.rows child (by_depth d.order (with_value v c)) (by_depth d.order v) ok.rows there (λ k a l.
        let y = slice_index d.order k in
        cond-false (y == variable) c (v y) (ne_eqb y variable (λ e.
        let same : depth_in d.order variable ≡ k = ap (depth_in d.order) (sym e) ∙ depth_in-slice_index d.order k ok.order l in omega arith)))

    high : (v : ℕ → Bool) → value_in d.rows node (by_depth d.order (with_value v true)) ≡ value_in d.rows own.high (by_depth d.order v)
    high v = b.value (by_depth d.order (with_value v true))
        ∙ cond-true (by_depth d.order (with_value v true) own.depth) (value_in d.rows own.high (by_depth d.order (with_value v true))) (value_in d.rows own.low (by_depth d.order (with_value v true))) (own-value v true)
        ∙ below-same v true own.high (omega (arith, b.high)) b.above_high

    low : (v : ℕ → Bool) → value_in d.rows node (by_depth d.order (with_value v false)) ≡ value_in d.rows own.low (by_depth d.order v)
    low v = b.value (by_depth d.order (with_value v false))
        ∙ cond-false (by_depth d.order (with_value v false) own.depth) (value_in d.rows own.high (by_depth d.order (with_value v false))) (value_in d.rows own.low (by_depth d.order (with_value v false))) (own-value v false)
        ∙ below-same v false own.low (omega (arith, b.low)) b.above_low

    by : Differ (function_of d own.high) (function_of d own.low) → DependsOn (function_of d node) variable
    by (v, x) = (v, λ e. x (sym (high v) ∙ e ∙ low v))

-- A way that leads to a node of this variable.
pub record Finds (d : Table) (from variable : ℕ) (way : List Bool) : Type 0 where
  pub counted : is_counted d from (depth_in d.order variable) (down d from way) ≡ true
  pub there : IsNode d (down d from way)
  pub function : function_of d (down d from way) ≡ remaining d.order (function_of d from) way

pub way-finds : (d : Table) (from variable : ℕ) (way : List Bool) → IsTable d → IsNode d from → depth_in d.order variable < length d.order
    → length way ≡ depth_in d.order variable → DependsOn (remaining d.order (function_of d from) way) variable → Finds d from variable way
way-finds d from variable way ok h within len depends =
    let l = leads d from way ok h (omega arith) in
    let same : function_of d (down d from way) ≡ remaining d.order (function_of d from) way = λ i v. l.function v i in
    let high = depends-depth d (down d from way) variable ok l.there (subst (λ g. DependsOn g variable) (sym same) depends) in
    record {
      counted = both (reaches d from (down d from way)) (depth_of d (down d from way) == depth_in d.order variable) l.reached
          (eq-eqb (depth_of d (down d from way)) (depth_in d.order variable) (omega (arith, l.depth, high)));
      there = l.there;
      function = same;
    }
  where
    both : (a b : Bool) → a ≡ true → b ≡ true → (a && b) ≡ true
    both true b x y = y
    both false b x y = absurd (true≢false (sym x))

all-find : (d : Table) (from variable : ℕ) (ways : List (List Bool)) → IsTable d → IsNode d from → depth_in d.order variable < length d.order
    → AllByRecursion (λ way. length way ≡ depth_in d.order variable) ways → AllByRecursion (λ way. DependsOn (remaining d.order (function_of d from) way) variable) ways
    → AllByRecursion (Finds d from variable) ways
all-find d from variable [] ok h within lens depend = tt
all-find d from variable (way ∷ ways) ok h within lens depend =
    (way-finds d from variable way ok h within lens.0 depend.0, all-find d from variable ways ok h within lens.1 depend.1)

-- ways that leave different functions lead to different nodes
found-apart : (d : Table) (from variable : ℕ) (way : List Bool) (ways : List (List Bool)) → Finds d from variable way → AllByRecursion (Finds d from variable) ways
    → AllByRecursion (Differ (remaining d.order (function_of d from) way)) (map (remaining d.order (function_of d from)) ways)
    → AllByRecursion (λ y. nat_eq (down d from way) y ≡ false) (map (down d from) ways)
found-apart d from variable way [] f fs x = tt
found-apart d from variable way (other ∷ ways) f fs x = (
  ne_eqb (down d from way) (down d from other) (λ e.
      x.0.1 (λ i. (sym f.function ∙ ap (function_of d) e ∙ fs.0.function) i x.0.0)),
  found-apart d from variable way ways f fs.1 x.1,
)

found-distinct : (d : Table) (from variable : ℕ) (ways : List (List Bool)) → AllByRecursion (Finds d from variable) ways
    → AllDiffer (map (remaining d.order (function_of d from)) ways) → IsDistinct nat_eq (map (down d from) ways)
unfolding IsDistinct
found-distinct d from variable [] fs x = tt
found-distinct d from variable (way ∷ ways) fs x = (found-apart d from variable way ways fs.0 fs.1 x.0, found-distinct d from variable ways fs.1 x.1)

found-member : (d : Table) (from variable q : ℕ) (ways : List (List Bool)) → AllByRecursion (Finds d from variable) ways
    → list_any (nat_eq q) (map (down d from) ways) ≡ true → IsNode d q × (is_counted d from (depth_in d.order variable) q ≡ true)
found-member d from variable q [] fs h = absurd (true≢false (sym h))
found-member d from variable q (way ∷ ways) fs h =
    by (or_cases (nat_eq q (down d from way)) (list_any (nat_eq q) (map (down d from) ways)) h) (found-member d from variable q ways fs.1)
  where
    Has : Type 0
    Has = IsNode d q × (is_counted d from (depth_in d.order variable) q ≡ true)

    by : (nat_eq q (down d from way) ≡ true) ⊎ (list_any (nat_eq q) (map (down d from) ways) ≡ true) → (list_any (nat_eq q) (map (down d from) ways) ≡ true → Has) → Has
    by (inl s) rest = let e = eqb-true q (down d from way) s in (omega (arith, fs.0.there), ap (is_counted d from (depth_in d.order variable)) e ∙ fs.0.counted)
    by (inr s) rest = rest s

-- where a function is wide, its node reaches as many nodes of the variable
pub wide-width : (d : Table) (from variable : ℕ) → IsTable d → IsNode d from → IsWideAt d.order (function_of d from) variable
    → 257 ≤ width_at d from (depth_in d.order variable)
unfolding width_at
wide-width d from variable ok h w =
    let fs = all-find d from variable w.ways ok h w.there w.lengths w.depend in
    let test = is_counted d from (depth_in d.order variable) in
    let n = length d.rows + 2 in
    let within = length-le_from_is_member nat_eq_equiv (map (down d from) w.ways) (listed test n) (found-distinct d from variable w.ways fs w.different)
    (λ q m. let p = found-member d from variable q w.ways fs m in listed-has test n q p.0 p.1) in
    omega (arith, within, length-map w.ways (down d from), w.count, length-listed d from (depth_in d.order variable) n)

-- the first values, as a list
abbrev pub way_of : ℕ → (ℕ → Bool) → List Bool
way_of zero t = []
way_of (suc n) t = t 0 ∷ way_of n (λ k. t (suc k))

pub length-way_of : (n : ℕ) (t : ℕ → Bool) → length (way_of n t) ≡ n
length-way_of zero t = refl
length-way_of (suc n) t = omega (arith, length-way_of n (λ k. t (suc k)))

pub way_of-at : (n : ℕ) (t : ℕ → Bool) (k : ℕ) → k < n → slice_index_or (way_of n t) k false ≡ t k
way_of-at zero t k h = absurd (omega arith)
way_of-at (suc n) t zero h = refl
way_of-at (suc n) t (suc k) h = way_of-at n (λ k. t (suc k)) k (omega arith)

-- A way that is as long as this depth, to a node of this depth below a number.
pub record Reaches (d : Table) (from depth below : ℕ) (way : List Bool) : Type 0 where
  pub len : length way ≡ depth
  pub at : depth_of d (down d from way) ≡ depth
  pub less : down d from way < below

-- a node that is reached has a way to it
pub way-down : (d : Table) (from node : ℕ) → IsTable d → IsNode d from → reaches d from node ≡ true → (way : List Bool) × (length way ≡ depth_of d node) × (down d from way ≡ node)
unfolding reaches depth_of
way-down d from node ok h r =
    let z = (row_in (length d.order) d.rows node).depth in
    let w = way-to (length d.order) d.rows z from node ok.rows h r refl in
    let way = way_of z w.values in
    let len = length-way_of z w.values in
    (way, len, ap (λ n. down_in d.rows n from (λ k. slice_index_or way k false)) len ∙ w.leads (λ k. slice_index_or way k false) (λ k a l. way_of-at z w.values k l))

-- ways to different nodes of one depth, so many of them
pub record Ways (d : Table) (from depth below count : ℕ) : Type 0 where
  pub ways : List (List Bool)
  pub count_is : length ways ≡ count
  pub reach : AllByRecursion (Reaches d from depth below) ways
  pub apart : IsDistinct nat_eq (map (down d from) ways)

reach-later : (d : Table) (from depth below : ℕ) (ways : List (List Bool)) → AllByRecursion (Reaches d from depth below) ways → AllByRecursion (Reaches d from depth (suc below)) ways
reach-later d from depth below [] h = tt
reach-later d from depth below (way ∷ ways) h = (record { len = h.0.len; at = h.0.at; less = omega (arith, h.0.less) }, reach-later d from depth below ways h.1)

reach-others : (d : Table) (from depth below node : ℕ) (ways : List (List Bool)) → below ≤ node → AllByRecursion (Reaches d from depth below) ways
    → AllByRecursion (λ y. nat_eq node y ≡ false) (map (down d from) ways)
reach-others d from depth below node [] le h = tt
reach-others d from depth below node (way ∷ ways) le h = (ne_eqb node (down d from way) (λ e. omega (arith, h.0.less)), reach-others d from depth below node ways le h.1)

ways-later : (d : Table) (from depth below count : ℕ) → Ways d from depth below count → Ways d from depth (suc below) count
ways-later d from depth below count w = record { ways = w.ways; count_is = w.count_is; reach = reach-later d from depth below w.ways w.reach; apart = w.apart }

ways-more : (d : Table) (from depth below count : ℕ) → IsTable d → IsNode d from → is_counted d from depth below ≡ true → Ways d from depth below count → Ways d from depth (suc below) (suc count)
unfolding IsDistinct
ways-more d from depth below count ok h c w =
    let p = and_parts (reaches d from below) (depth_of d below == depth) c in
    let at = eqb-true (depth_of d below) depth p.1 in
    by at (way-down d from below ok h p.0)
  where
    by : depth_of d below ≡ depth → (way : List Bool) × (length way ≡ depth_of d below) × (down d from way ≡ below) → Ways d from depth (suc below) (suc count)
    by at (way, len, to) = record {
      ways = way ∷ w.ways;
      count_is = omega (arith, w.count_is);
      reach = (record { len = len ∙ at; at = ap (depth_of d) to ∙ at; less = omega (arith, to) }, reach-later d from depth below w.ways w.reach);
      apart = (reach-others d from depth below (down d from way) w.ways (omega (arith, to)) w.reach, w.apart);
    }

pub ways-of : (d : Table) (from depth below count : ℕ) → IsTable d → IsNode d from → count ≤ reached_below d from depth below → Ways d from depth below count
unfolding IsDistinct
ways-of d from depth below zero ok h le = record { ways = []; count_is = refl; reach = tt; apart = tt }
ways-of d from depth zero (suc count) ok h le = absurd (omega arith)
ways-of d from depth (suc below) (suc count) ok h le =
    by (is_counted d from depth below) refl le (ways-of d from depth below count ok h) (ways-of d from depth below (suc count) ok h)
  where
    by : (b : Bool) → is_counted d from depth below ≡ b → suc count ≤ (if b then 1 else 0) + reached_below d from depth below
        → (count ≤ reached_below d from depth below → Ways d from depth below count) → (suc count ≤ reached_below d from depth below → Ways d from depth below (suc count))
        → Ways d from depth (suc below) (suc count)
    by true t l fewer same = ways-more d from depth below count ok h t (fewer (omega arith))
    by false t l fewer same = ways-later d from depth below (suc count) (same (omega arith))

reach-leads : (d : Table) (from depth below : ℕ) (way : List Bool) → IsTable d → IsNode d from → depth < length d.order → Reaches d from depth below way
    → IsNode d (down d from way) × (function_of d (down d from way) ≡ remaining d.order (function_of d from) way)
reach-leads d from depth below way ok h within r =
    let l = leads d from way ok h (omega (arith, r.len)) in
    (l.there, λ i v. l.function v i)

reach-differ : (d : Table) (from depth below : ℕ) (way : List Bool) (ways : List (List Bool)) → IsTable d → IsNode d from → depth < length d.order
    → Reaches d from depth below way → AllByRecursion (Reaches d from depth below) ways → AllByRecursion (λ y. nat_eq (down d from way) y ≡ false) (map (down d from) ways)
    → AllByRecursion (Differ (remaining d.order (function_of d from) way)) (map (remaining d.order (function_of d from)) ways)
reach-differ d from depth below way [] ok h within r rs x = tt
reach-differ d from depth below way (other ∷ ways) ok h within r rs x =
    let a = reach-leads d from depth below way ok h within r in
    let b = reach-leads d from depth below other ok h within rs.0 in
    let n = nodes-differ d (down d from way) (down d from other) ok a.0 b.0 (eqb-false (down d from way) (down d from other) x.0) in
    let moved : Differ (remaining d.order (function_of d from) way) (function_of d (down d from other)) = subst (λ f. Differ f (function_of d (down d from other))) a.1 n in
    (subst (λ g. Differ (remaining d.order (function_of d from) way) g) b.1 moved, reach-differ d from depth below way ways ok h within r rs.1 x.1)

reach-all_differ : (d : Table) (from depth below : ℕ) (ways : List (List Bool)) → IsTable d → IsNode d from → depth < length d.order
    → AllByRecursion (Reaches d from depth below) ways → IsDistinct nat_eq (map (down d from) ways) → AllDiffer (map (remaining d.order (function_of d from)) ways)
unfolding IsDistinct
reach-all_differ d from depth below [] ok h within rs x = tt
reach-all_differ d from depth below (way ∷ ways) ok h within rs x =
    (reach-differ d from depth below way ways ok h within rs.0 rs.1 x.0, reach-all_differ d from depth below ways ok h within rs.1 x.1)

reach-depend : (d : Table) (from variable below : ℕ) (ways : List (List Bool)) → IsTable d → IsNode d from → depth_in d.order variable < length d.order
    → AllByRecursion (Reaches d from (depth_in d.order variable) below) ways → AllByRecursion (λ way. DependsOn (remaining d.order (function_of d from) way) variable) ways
reach-depend d from variable below [] ok h within rs = tt
reach-depend d from variable below (way ∷ ways) ok h within rs =
    let a = reach-leads d from (depth_in d.order variable) below way ok h within rs.0 in
    (subst (λ g. DependsOn g variable) a.1 (node-depends d (down d from way) variable ok a.0 rs.0.at within), reach-depend d from variable below ways ok h within rs.1)

reach-lengths : (d : Table) (from depth below : ℕ) (ways : List (List Bool)) → AllByRecursion (Reaches d from depth below) ways → AllByRecursion (λ way. length way ≡ depth) ways
reach-lengths d from depth below [] rs = tt
reach-lengths d from depth below (way ∷ ways) rs = (rs.0.len, reach-lengths d from depth below ways rs.1)

-- where a node reaches so many nodes of a variable, its function is wide there
pub width-wide : (d : Table) (from variable : ℕ) → IsTable d → IsNode d from → depth_in d.order variable < length d.order
    → 257 ≤ width_at d from (depth_in d.order variable) → IsWideAt d.order (function_of d from) variable
unfolding width_at
width-wide d from variable ok h within many =
    let below = length d.rows + 2 in
    let w = ways-of d from (depth_in d.order variable) below 257 ok h many in
    record {
      there = within;
      ways = w.ways;
      count = w.count_is;
      lengths = reach-lengths d from (depth_in d.order variable) below w.ways w.reach;
      different = reach-all_differ d from (depth_in d.order variable) below w.ways ok h within w.reach w.apart;
      depend = reach-depend d from variable below w.ways ok h within w.reach;
    }

-- the variable that is read at a depth of the order
pub level-at : (items order : List ℕ) (depth level : ℕ) → items ≡ order → depth < length order → level ≡ slice_index_or items depth level → level ≡ slice_index order depth
level-at items order depth level e h is =
    let within : depth < length items = omega (arith, ap length e) in
    is ∙ get_or_default_zero items depth level within ∙ ap (λ o. slice_index o depth) e

-- the same, of the variable at a depth
pub wide-at : (d : Table) (from depth level : ℕ) → IsTable d → IsNode d from → IsFirstWide d from depth → level ≡ slice_index d.order depth → IsWideAt d.order (function_of d from) level
wide-at d from depth level ok h f is =
    let at : depth_in d.order level ≡ depth = ap (depth_in d.order) is ∙ depth_in-slice_index d.order depth ok.order f.within in
    width-wide d from level ok h (omega (arith, at, f.within)) (omega (arith, f.wide, ap (width_at d from) at))

pub not-wide : (d : Table) (from : ℕ) → IsTable d → IsNode d from → ((k : ℕ) → k < length d.order → width_at d from k ≤ 256) → IsWide d.order (function_of d from) → ⊥
not-wide d from ok h few (variable, w) = absurd (omega (arith, wide-width d from variable ok h w, few (depth_in d.order variable) w.there))
