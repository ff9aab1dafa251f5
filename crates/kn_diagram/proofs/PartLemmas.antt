-- What is left of a function, node by node: the halves of a part are parts further down, and enough parts of
-- one depth make the function wide.
use Rattle.std.proofs.Common.{ℕ, zero, suc, ◌≡◌, ◌+◌, ◌<◌, ◌≤◌, ◌==◌, ◌⊎◌, inl, inr, Bool, true, false, if◌then◌else◌, List, [], ◌∷◌, length, map, take, min, slice_index, slice_index_or, nat_lt, nat_eq, refl, sym, ap, subst, ◌∙◌, arith}
use Rattle.std.specs.List.{AllByRecursion, IsDistinct}
use Rattle.std.proofs.lemmas.Bool.{eqb-false, eqb-true, cond-true, cond-false, cases_lt, lt-ltb, le-ltb}
use Rattle.indexmap.specs.IndexSet.{insert_key}
use Rattle.kn_diagram.specs.Diagrams.{Table, IsTable, IsNode, IsSplit, Keeps, function_of, depth_of, depth_in}
use Rattle.kn_diagram.specs.Traces.{IsRight}
use Rattle.kn_diagram.specs.declared.error.DiagramError.{DiagramError}
use Rattle.kn_diagram.specs.declared.error.DiagramError.TheVariants.{Wide, Memory}
use Rattle.kn_diagram.specs.Wide.{remaining, IsLeft, Differ, AllDiffer, DependsOn, IsWideAt, IfWide}
use Rattle.kn_diagram.specs.Censuses.{nodes_at, same_pair, IsPart, AreParts, StayParts, WouldBeWide}
use Rattle.kn_diagram.proofs.NodeLemmas.{depth_in-slice_index, slice_index-depth_in, function_of-below}
use Rattle.kn_diagram.proofs.CensusLemmas.{parts-added}
use Rattle.kn_diagram.proofs.WideLemmas.{way_of, length-way_of, way_of-at, nodes-differ, node-depends}

-- these values above a depth, and the other ones from there on
abbrev pub from_depth : List ℕ → ℕ → (ℕ → Bool) → (ℕ → Bool) → ℕ → Bool
from_depth order k t v = λ x. if nat_lt (depth_in order x) k then t x else v x

-- some way of exactly this length leaves it
pub record LeftAt (order : List ℕ) (whole part : (ℕ → Bool) → Bool) (depth : ℕ) : Type 0 where
  pub way : List Bool
  pub len : length way ≡ depth
  pub function : (v : ℕ → Bool) → part v ≡ remaining order whole way v

pub left-at : (order : List ℕ) (whole part : (ℕ → Bool) → Bool) (depth : ℕ) → LeftAt order whole part depth → IsLeft order whole part depth
left-at order whole part depth l = record { way = l.way; short = omega (arith, l.len); function = l.function }

-- a part is left with values for further variables
pub left-down : (order : List ℕ) (whole p q : (ℕ → Bool) → Bool) (depth k : ℕ) (t : ℕ → Bool) → depth ≤ k → k ≤ length order → IsLeft order whole p depth
    → ((v : ℕ → Bool) → q v ≡ p (from_depth order k t v)) → LeftAt order whole q k
left-down order whole p q depth k t deeper within l same = record {
  way = way_of k slot;
  len = length-way_of k slot;
  function = λ v. same v ∙ l.function (from_depth order k t v) ∙ (λ i. whole (λ x. at v x i));
}
  where
    slot : ℕ → Bool
    slot j = if nat_lt j (length l.way) then slice_index_or l.way j false else t (slice_index order j)

    at : (v : ℕ → Bool) (x : ℕ)
        → (if nat_lt (depth_in order x) (length l.way) then slice_index_or l.way (depth_in order x) false else from_depth order k t v x)
        ≡ (if nat_lt (depth_in order x) (length (way_of k slot)) then slice_index_or (way_of k slot) (depth_in order x) false else v x)
    at v x = by (cases_lt (depth_in order x) k)
      where
        by : ((depth_in order x < k) ⊎ (k ≤ depth_in order x))
            → (if nat_lt (depth_in order x) (length l.way) then slice_index_or l.way (depth_in order x) false else from_depth order k t v x)
            ≡ (if nat_lt (depth_in order x) (length (way_of k slot)) then slice_index_or (way_of k slot) (depth_in order x) false else v x)
        by (inl h) =
            (λ i. if nat_lt (depth_in order x) (length l.way) then slice_index_or l.way (depth_in order x) false
            else (cond-true (nat_lt (depth_in order x) k) (t x) (v x) (lt-ltb (depth_in order x) k h) ∙ ap t (sym (slice_index-depth_in order x (omega arith)))) i)
            ∙ sym (way_of-at k slot (depth_in order x) h)
            ∙ sym (cond-true (nat_lt (depth_in order x) (length (way_of k slot))) (slice_index_or (way_of k slot) (depth_in order x) false) (v x)
            (lt-ltb (depth_in order x) (length (way_of k slot)) (omega (arith, length-way_of k slot))))
        by (inr h) =
            cond-false (nat_lt (depth_in order x) (length l.way)) (slice_index_or l.way (depth_in order x) false) (from_depth order k t v x)
            (le-ltb (depth_in order x) (length l.way) (omega (arith, l.short)))
            ∙ cond-false (nat_lt (depth_in order x) k) (t x) (v x) (le-ltb (depth_in order x) k h)
            ∙ sym (cond-false (nat_lt (depth_in order x) (length (way_of k slot))) (slice_index_or (way_of k slot) (depth_in order x) false) (v x)
            (le-ltb (depth_in order x) (length (way_of k slot)) (omega (arith, length-way_of k slot))))

-- a function is left of itself
pub left-whole : (order : List ℕ) (f : (ℕ → Bool) → Bool) (depth : ℕ) → IsLeft order f f depth
left-whole order f depth = record {
  way = [];
  short = omega arith;
  function = λ v i. f (λ x. sym (cond-false (nat_lt (depth_in order x) 0) (slice_index_or {A = Bool} [] (depth_in order x) false) (v x) (le-ltb (depth_in order x) 0 (omega arith))) i);
}

-- the same function, at a depth that is not higher
pub left-same : (order : List ℕ) (whole p q : (ℕ → Bool) → Bool) (depth k : ℕ) → depth ≤ k → ((v : ℕ → Bool) → q v ≡ p v) → IsLeft order whole p depth → IsLeft order whole q k
left-same order whole p q depth k h same l = record { way = l.way; short = omega (arith, l.short); function = λ v. same v ∙ l.function v }

pub from_depth-own : (order : List ℕ) (k j : ℕ) (t v : ℕ → Bool) → IsDistinct nat_eq order → j < k → j < length order → from_depth order k t v (slice_index order j) ≡ t (slice_index order j)
from_depth-own order k j t v distinct above within =
    let at = depth_in-slice_index order j distinct within in
    cond-true (nat_lt (depth_in order (slice_index order j)) k) (t (slice_index order j)) (v (slice_index order j)) (lt-ltb (depth_in order (slice_index order j)) k (omega (arith, at)))

pub from_depth-other : (order : List ℕ) (k j : ℕ) (t v : ℕ → Bool) → IsDistinct nat_eq order → k ≤ j → j < length order → from_depth order k t v (slice_index order j) ≡ v (slice_index order j)
from_depth-other order k j t v distinct below within =
    let at = depth_in-slice_index order j distinct within in
    cond-false (nat_lt (depth_in order (slice_index order j)) k) (t (slice_index order j)) (v (slice_index order j)) (le-ltb (depth_in order (slice_index order j)) k (omega (arith, at)))

-- values above a node do not count
pub below-from : (d : Table) (node k : ℕ) (t v : ℕ → Bool) → IsTable d → IsNode d node → k ≤ depth_of d node → function_of d node v ≡ function_of d node (from_depth d.order k t v)
below-from d node k t v ok h above =
    function_of-below d node v (from_depth d.order k t v) ok h (λ j a b. sym (from_depth-other d.order k j t v ok.order (omega arith) b))

-- a node's high and low are the node with a value for the variable
pub high-from : (d : Table) (node depth high low : ℕ) (v : ℕ → Bool) → IsTable d → depth < length d.order → IsSplit d node depth high low
    → function_of d high v ≡ function_of d node (from_depth d.order (depth + 1) (λ x. true) v)
high-from d node depth high low v ok within s =
    let w = from_depth d.order (depth + 1) (λ x. true) v in
    below-from d high (depth + 1) (λ x. true) v ok s.high_there (omega (arith, s.above_high))
    ∙ sym (s.function w ∙ cond-true (w (slice_index d.order depth)) (function_of d high w) (function_of d low w) (from_depth-own d.order (depth + 1) depth (λ x. true) v ok.order (omega arith) within))

pub low-from : (d : Table) (node depth high low : ℕ) (v : ℕ → Bool) → IsTable d → depth < length d.order → IsSplit d node depth high low
    → function_of d low v ≡ function_of d node (from_depth d.order (depth + 1) (λ x. false) v)
low-from d node depth high low v ok within s =
    let w = from_depth d.order (depth + 1) (λ x. false) v in
    below-from d low (depth + 1) (λ x. false) v ok s.low_there (omega (arith, s.above_low))
    ∙ sym (s.function w ∙ cond-false (w (slice_index d.order depth)) (function_of d high w) (function_of d low w) (from_depth-own d.order (depth + 1) depth (λ x. false) v ok.order (omega arith) within))

-- two functions joined
abbrev pub joined_of : (Bool → Bool → Bool) → Table → ℕ → ℕ → (ℕ → Bool) → Bool
joined_of join d f g = λ v. join (function_of d f v) (function_of d g v)

-- a pair is left of a function
abbrev pub IsLeftPair : (Bool → Bool → Bool) → Table → ((ℕ → Bool) → Bool) → ℕ → ℕ → Type 0
IsLeftPair join d whole f g = IsLeft d.order whole (joined_of join d f g) (min (depth_of d f) (depth_of d g))

pub pair-high : (join : Bool → Bool → Bool) (d : Table) (whole : (ℕ → Bool) → Bool) (f g depth fh fl gh gl : ℕ) → IsTable d → depth < length d.order
    → depth ≡ min (depth_of d f) (depth_of d g) → IsSplit d f depth fh fl → IsSplit d g depth gh gl → IsLeftPair join d whole f g → IsLeftPair join d whole fh gh
pair-high join d whole f g depth fh fl gh gl ok within at sf sg l =
    let down = left-down d.order whole (joined_of join d f g) (joined_of join d fh gh) (min (depth_of d f) (depth_of d g)) (depth + 1) (λ x. true) (omega arith) (omega arith) l
    (λ v i. join (high-from d f depth fh fl v ok within sf i) (high-from d g depth gh gl v ok within sg i)) in
    left-same d.order whole (joined_of join d fh gh) (joined_of join d fh gh) (depth + 1) (min (depth_of d fh) (depth_of d gh)) (omega (arith, sf.above_high, sg.above_high)) (λ v. refl)
    (left-at d.order whole (joined_of join d fh gh) (depth + 1) down)

pub pair-low : (join : Bool → Bool → Bool) (d : Table) (whole : (ℕ → Bool) → Bool) (f g depth fh fl gh gl : ℕ) → IsTable d → depth < length d.order
    → depth ≡ min (depth_of d f) (depth_of d g) → IsSplit d f depth fh fl → IsSplit d g depth gh gl → IsLeftPair join d whole f g → IsLeftPair join d whole fl gl
pair-low join d whole f g depth fh fl gh gl ok within at sf sg l =
    let down = left-down d.order whole (joined_of join d f g) (joined_of join d fl gl) (min (depth_of d f) (depth_of d g)) (depth + 1) (λ x. false) (omega arith) (omega arith) l
    (λ v i. join (low-from d f depth fh fl v ok within sf i) (low-from d g depth gh gl v ok within sg i)) in
    left-same d.order whole (joined_of join d fl gl) (joined_of join d fl gl) (depth + 1) (min (depth_of d fl) (depth_of d gl)) (omega (arith, sf.above_low, sg.above_low)) (λ v. refl)
    (left-at d.order whole (joined_of join d fl gl) (depth + 1) down)

pub pair-kept : (join : Bool → Bool → Bool) (old new : Table) (whole : (ℕ → Bool) → Bool) (f g : ℕ) → Keeps old new → IsNode old f → IsNode old g
    → IsLeftPair join old whole f g → IsLeftPair join new whole f g
pair-kept join old new whole f g k nf ng l =
    let a = k.nodes f nf in
    let b = k.nodes g ng in
    subst (λ o. IsLeft o whole (joined_of join new f g) (min (depth_of new f) (depth_of new g))) (sym k.order)
    (left-same old.order whole (joined_of join old f g) (joined_of join new f g) (min (depth_of old f) (depth_of old g)) (min (depth_of new f) (depth_of new g)) (omega (arith, a.depth, b.depth))
    (λ v i. join (a.function v i) (b.function v i)) l)

-- the result of a pair is left where the pair is
pub result-left : (join : Bool → Bool → Bool) (d : Table) (whole : (ℕ → Bool) → Bool) (f g w : ℕ) → IsRight join d (record { u = f; v = g; w = w }) → IsLeftPair join d whole f g
    → IsLeft d.order whole (function_of d w) (depth_of d w)
result-left join d whole f g w r l =
    left-same d.order whole (joined_of join d f g) (function_of d w) (min (depth_of d f) (depth_of d g)) (depth_of d w) r.depth_is r.function l

pub parts-kept : (old new : Table) (whole : (ℕ → Bool) → Bool) (es : List (ℕ × ℕ)) → Keeps old new → AreParts old whole es → AreParts new whole es
parts-kept old new whole [] k h = tt
parts-kept old new whole (e ∷ es) k h =
    let p = k.nodes e.1 h.0.there in (
      record {
        there = p.there;
        depth = p.depth ∙ h.0.depth;
        left = subst (λ o. IsLeft o whole (function_of new e.1) e.0) (sym k.order)
            (left-same old.order whole (function_of old e.1) (function_of new e.1) e.0 e.0 (omega arith) p.function h.0.left);
      },
      parts-kept old new whole es k h.1,
    )

-- a node of a depth, left there
pub record IsSpot (d : Table) (whole : (ℕ → Bool) → Bool) (depth node : ℕ) : Type 0 where
  pub there : IsNode d node
  pub at : depth_of d node ≡ depth
  pub left : LeftAt d.order whole (function_of d node) depth

spot : (d : Table) (whole : (ℕ → Bool) → Bool) (depth node own : ℕ) → IsTable d → depth ≤ length d.order → own ≡ depth → IsPart d whole (own, node) → IsSpot d whole depth node
spot d whole depth node own ok within e p = record {
  there = p.there;
  at = p.depth ∙ e;
  left = left-down d.order whole (function_of d node) (function_of d node) own depth (λ x. true) (omega (arith, e)) within p.left
      (λ v. below-from d node depth (λ x. true) v ok p.there (omega (arith, p.depth, e)));
}

spots : (d : Table) (whole : (ℕ → Bool) → Bool) (depth : ℕ) (es : List (ℕ × ℕ)) → IsTable d → depth ≤ length d.order → AreParts d whole es
    → AllByRecursion (IsSpot d whole depth) (nodes_at depth es)
spots d whole depth [] ok within h = tt
spots d whole depth (e ∷ es) ok within h = by (e.0 == depth) refl (spots d whole depth es ok within h.1)
  where
    by : (b : Bool) → (e.0 == depth) ≡ b → AllByRecursion (IsSpot d whole depth) (nodes_at depth es)
        → AllByRecursion (IsSpot d whole depth) (if b then e.1 ∷ nodes_at depth es else nodes_at depth es)
    by true t rest = (spot d whole depth e.1 e.0 ok within (eqb-true e.0 depth t) h.0, rest)
    by false t rest = rest

-- the ways to nodes of a depth
pub record Spotted (d : Table) (whole : (ℕ → Bool) → Bool) (variable : ℕ) (nodes : List ℕ) : Type 0 where
  pub ways : List (List Bool)
  pub count : length ways ≡ length nodes
  pub lengths : AllByRecursion (λ way. length way ≡ depth_in d.order variable) ways
  pub functions : map (function_of d) nodes ≡ map (remaining d.order whole) ways
  pub depend : AllByRecursion (λ way. DependsOn (remaining d.order whole way) variable) ways

spotted : (d : Table) (whole : (ℕ → Bool) → Bool) (variable : ℕ) (ns : List ℕ) → IsTable d → depth_in d.order variable < length d.order
    → AllByRecursion (IsSpot d whole (depth_in d.order variable)) ns → Spotted d whole variable ns
spotted d whole variable [] ok within h = record { ways = []; count = refl; lengths = tt; functions = refl; depend = tt }
spotted d whole variable (n ∷ ns) ok within h =
    let more = spotted d whole variable ns ok within h.1 in
    let l = h.0.left in
    let same : function_of d n ≡ remaining d.order whole l.way = λ i v. l.function v i in
    record {
      ways = l.way ∷ more.ways;
      count = omega (arith, more.count);
      lengths = (l.len, more.lengths);
      functions = λ i. same i ∷ more.functions i;
      depend = (subst (λ f. DependsOn f variable) same (node-depends d n variable ok h.0.there h.0.at within), more.depend);
    }

differ-others : (d : Table) (whole : (ℕ → Bool) → Bool) (depth n : ℕ) (ns : List ℕ) → IsTable d → IsNode d n → AllByRecursion (IsSpot d whole depth) ns
    → AllByRecursion (λ y. nat_eq n y ≡ false) ns → AllByRecursion (Differ (function_of d n)) (map (function_of d) ns)
differ-others d whole depth n [] ok there h x = tt
differ-others d whole depth n (m ∷ ns) ok there h x =
    (nodes-differ d n m ok there h.0.there (eqb-false n m x.0), differ-others d whole depth n ns ok there h.1 x.1)

all-differ : (d : Table) (whole : (ℕ → Bool) → Bool) (depth : ℕ) (ns : List ℕ) → IsTable d → AllByRecursion (IsSpot d whole depth) ns → IsDistinct nat_eq ns → AllDiffer (map (function_of d) ns)
unfolding IsDistinct
all-differ d whole depth [] ok h x = tt
all-differ d whole depth (n ∷ ns) ok h x = (differ-others d whole depth n ns ok h.0.there h.1 x.0, all-differ d whole depth ns ok h.1 x.1)

-- the first of a list
all-take : {X : Type 0} (P : X → Type 0) (n : ℕ) (xs : List X) → AllByRecursion P xs → AllByRecursion P (take n xs)
all-take P zero xs h = tt
all-take P (suc n) [] h = tt
all-take P (suc n) (x ∷ xs) h = (h.0, all-take P n xs h.1)

distinct-take : (n : ℕ) (xs : List ℕ) → IsDistinct nat_eq xs → IsDistinct nat_eq (take n xs)
unfolding IsDistinct
distinct-take zero xs h = tt
distinct-take (suc n) [] h = tt
distinct-take (suc n) (x ∷ xs) h = (all-take (λ y. nat_eq x y ≡ false) n xs h.0, distinct-take n xs h.1)

length-take-within : (n : ℕ) (xs : List ℕ) → n ≤ length xs → length (take n xs) ≡ n
length-take-within zero xs h = refl
length-take-within (suc n) [] h = absurd (omega arith)
length-take-within (suc n) (x ∷ xs) h = omega (arith, length-take-within n xs (omega arith))

-- many parts of one depth make their function wide
pub wide-parts : (d : Table) (whole : (ℕ → Bool) → Bool) (variable : ℕ) (es : List (ℕ × ℕ)) → IsTable d → depth_in d.order variable < length d.order → AreParts d whole es
    → IsDistinct nat_eq (nodes_at (depth_in d.order variable) es) → 256 < length (nodes_at (depth_in d.order variable) es) → IsWideAt d.order whole variable
wide-parts d whole variable es ok within h distinct many =
    let depth = depth_in d.order variable in
    let ns = take 257 (nodes_at depth es) in
    let all = all-take (IsSpot d whole depth) 257 (nodes_at depth es) (spots d whole depth es ok (omega arith) h) in
    let s = spotted d whole variable ns ok within all in
    record {
      there = within;
      ways = s.ways;
      count = s.count ∙ length-take-within 257 (nodes_at depth es) (omega arith);
      lengths = s.lengths;
      different = subst AllDiffer s.functions (all-differ d whole depth ns ok all (distinct-take 257 (nodes_at depth es) distinct));
      depend = s.depend;
    }

-- a result that was counted last is one of too many
pub result-too-many : (d : Table) (whole : (ℕ → Bool) → Bool) (w own variable : ℕ) (es after : List (ℕ × ℕ)) → IsTable d → IsNode d w → own ≡ depth_of d w
    → depth_in d.order variable ≡ depth_of d w → depth_of d w < length d.order → after ≡ insert_key same_pair es (own, w) → IsDistinct nat_eq (nodes_at own after)
    → 256 < length (nodes_at own after) → AreParts d whole es → IsLeft d.order whole (function_of d w) (depth_of d w) → IsWideAt d.order whole variable
result-too-many d whole w own variable es after ok h at place within e distinct many parts left =
    let depth : own ≡ depth_in d.order variable = at ∙ sym place in
    let part : IsPart d whole (own, w) = record { there = h; depth = sym at; left = subst (IsLeft d.order whole (function_of d w)) (sym at) left } in
    wide-parts d whole variable after ok (omega (arith, place, within))
    (subst (AreParts d whole) (sym e) (parts-added d whole es own w parts part))
    (subst (λ k. IsDistinct nat_eq (nodes_at k after)) depth distinct)
    (subst (λ k. 256 < length (nodes_at k after)) depth many)

-- what holds of the variable that an error names implies what else
pub if-wide : (e : DiagramError) (P Q : ℕ → Type 0) → ((level : ℕ) → P level → Q level) → IfWide e P → IfWide e Q
if-wide (Wide level) P Q f h = f level h
if-wide Memory P Q f h = tt

-- A pair that is open, with both pairs of its halves.
pub record IsOpen (d : Table) (f g depth fh fl gh gl : ℕ) : Type 0 where
  pub table : IsTable d
  pub f_there : IsNode d f
  pub g_there : IsNode d g
  pub within : depth < length d.order
  pub at : depth ≡ min (depth_of d f) (depth_of d g)
  pub left : IsSplit d f depth fh fl
  pub right : IsSplit d g depth gh gl

-- a result that is decided
pub decided-wide : (join : Bool → Bool → Bool) (d : Table) (es : List (ℕ × ℕ)) (f g w level : ℕ) → IsRight join d (record { u = f; v = g; w = w })
    → WouldBeWide d es (function_of d w) (depth_of d w) level → WouldBeWide d es (joined_of join d f g) (min (depth_of d f) (depth_of d g)) level
decided-wide join d es f g w level r h whole parts left = h whole parts (result-left join d whole f g w r left)

pub decided-parts : (join : Bool → Bool → Bool) (d : Table) (es after : List (ℕ × ℕ)) (f g w : ℕ) → IsRight join d (record { u = f; v = g; w = w })
    → StayParts d d es after (function_of d w) (depth_of d w) → StayParts d d es after (joined_of join d f g) (min (depth_of d f) (depth_of d g))
decided-parts join d es after f g w r h whole parts left = h whole parts (result-left join d whole f g w r left)

-- the highs of an open pair
pub high-wide : (join : Bool → Bool → Bool) (d : Table) (es : List (ℕ × ℕ)) (f g depth fh fl gh gl level : ℕ) → IsOpen d f g depth fh fl gh gl
    → WouldBeWide d es (joined_of join d fh gh) (min (depth_of d fh) (depth_of d gh)) level → WouldBeWide d es (joined_of join d f g) (min (depth_of d f) (depth_of d g)) level
high-wide join d es f g depth fh fl gh gl level o h whole parts left =
    h whole parts (pair-high join d whole f g depth fh fl gh gl o.table o.within o.at o.left o.right left)

pub high-parts : (join : Bool → Bool → Bool) (d d1 : Table) (es c1 : List (ℕ × ℕ)) (f g depth fh fl gh gl : ℕ) → IsOpen d f g depth fh fl gh gl
    → StayParts d d1 es c1 (joined_of join d fh gh) (min (depth_of d fh) (depth_of d gh)) → StayParts d d1 es c1 (joined_of join d f g) (min (depth_of d f) (depth_of d g))
high-parts join d d1 es c1 f g depth fh fl gh gl o h whole parts left =
    h whole parts (pair-high join d whole f g depth fh fl gh gl o.table o.within o.at o.left o.right left)

-- its lows, once the highs are counted
low-left : (join : Bool → Bool → Bool) (d d1 : Table) (whole : (ℕ → Bool) → Bool) (f g depth fh fl gh gl : ℕ) → IsOpen d f g depth fh fl gh gl → Keeps d d1
    → IsLeftPair join d whole f g → IsLeftPair join d1 whole fl gl
low-left join d d1 whole f g depth fh fl gh gl o k left =
    pair-kept join d d1 whole fl gl k o.left.low_there o.right.low_there (pair-low join d whole f g depth fh fl gh gl o.table o.within o.at o.left o.right left)

pub low-wide : (join : Bool → Bool → Bool) (d d1 : Table) (es c1 : List (ℕ × ℕ)) (f g depth fh fl gh gl level : ℕ) → IsOpen d f g depth fh fl gh gl → Keeps d d1
    → StayParts d d1 es c1 (joined_of join d fh gh) (min (depth_of d fh) (depth_of d gh))
    → WouldBeWide d1 c1 (joined_of join d1 fl gl) (min (depth_of d1 fl) (depth_of d1 gl)) level → WouldBeWide d es (joined_of join d f g) (min (depth_of d f) (depth_of d g)) level
low-wide join d d1 es c1 f g depth fh fl gh gl level o k high h whole parts left =
    subst (λ z. IsWideAt z whole level) k.order
    (h whole (high-parts join d d1 es c1 f g depth fh fl gh gl o high whole parts left) (low-left join d d1 whole f g depth fh fl gh gl o k left))

-- both halves are counted, and the result is made
pub made-parts : (join : Bool → Bool → Bool) (d d1 d2 d3 : Table) (es c1 c2 : List (ℕ × ℕ)) (whole : (ℕ → Bool) → Bool) (f g depth fh fl gh gl : ℕ) → IsOpen d f g depth fh fl gh gl
    → Keeps d d1 → StayParts d d1 es c1 (joined_of join d fh gh) (min (depth_of d fh) (depth_of d gh))
    → StayParts d1 d2 c1 c2 (joined_of join d1 fl gl) (min (depth_of d1 fl) (depth_of d1 gl)) → Keeps d2 d3
    → AreParts d whole es → IsLeftPair join d whole f g → AreParts d3 whole c2
made-parts join d d1 d2 d3 es c1 c2 whole f g depth fh fl gh gl o k high low k3 parts left =
    parts-kept d2 d3 whole c2 k3
    (low whole (high-parts join d d1 es c1 f g depth fh fl gh gl o high whole parts left) (low-left join d d1 whole f g depth fh fl gh gl o k left))

pub made-left : (join : Bool → Bool → Bool) (d d3 : Table) (whole : (ℕ → Bool) → Bool) (f g w : ℕ) → IsNode d f → IsNode d g → Keeps d d3
    → IsRight join d3 (record { u = f; v = g; w = w }) → IsLeftPair join d whole f g → IsLeft d3.order whole (function_of d3 w) (depth_of d3 w)
made-left join d d3 whole f g w nf ng k r left = result-left join d3 whole f g w r (pair-kept join d d3 whole f g k nf ng left)
