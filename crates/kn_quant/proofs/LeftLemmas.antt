-- The nodes that a quantification meets stand for what is left of its result.
use Rattle.std.proofs.Common.{ℕ, ◌≡◌, ◌+◌, ◌<◌, ◌≤◌, ◌==◌, ◌||◌, Bool, true, false, if◌then◌else◌, List, length, min, slice_index, refl, sym, ap, subst, ◌∙◌, arith}
use Rattle.std.proofs.lemmas.Bool.{eq-eqb, ne_eqb, cond-true, cond-false}
use Rattle.kn_diagram.specs.Diagrams.{Table, IsTable, IsNode, IsBranch, Keeps, with_value, function_of, depth_of, depth_in}
use Rattle.kn_diagram.specs.Wide.{IsLeft, IsWideAt}
use Rattle.kn_diagram.specs.Censuses.{AreParts, StayParts, WouldBeWide}
use Rattle.kn_diagram.proofs.Public.{depth_in-slice_index, function_of-below, from_depth, from_depth-own, from_depth-other, left-at, left-down, left-same}
use Rattle.kn_quant.specs.Quantified.{some_value, IsQuantified}

-- "for some value of the variable, u" is left of a function
abbrev pub IsLeftSome : Table → ((ℕ → Bool) → Bool) → ℕ → ℕ → Type 0
IsLeftSome d whole variable u = IsLeft d.order whole (some_value variable (function_of d u)) (depth_of d u)

-- the disjunction of two nodes
abbrev pub or_of : Table → ℕ → ℕ → (ℕ → Bool) → Bool
or_of d f g = λ v. function_of d f v || function_of d g v

-- a change of a variable that stands above a node, or is the one that is set anyway
set-below : (d : Table) (node variable k : ℕ) (t v : ℕ → Bool) (b : Bool) → IsTable d → IsNode d node → k ≤ depth_of d node
    → function_of d node (with_value v variable b) ≡ function_of d node (with_value (from_depth d.order k t v) variable b)
set-below d node variable k t v b ok h above =
    function_of-below d node (with_value v variable b) (with_value (from_depth d.order k t v) variable b) ok h
    (λ j from to i. if slice_index d.order j == variable then b else sym (from_depth-other d.order k j t v ok.order (omega arith) to) i)

-- the variable above a node decides nothing
unset-below : (d : Table) (node variable k : ℕ) (t v : ℕ → Bool) (b : Bool) → IsTable d → IsNode d node → k ≤ depth_of d node → depth_in d.order variable < k
    → function_of d node v ≡ function_of d node (with_value (from_depth d.order k t v) variable b)
unset-below d node variable k t v b ok h above higher =
    function_of-below d node v (with_value (from_depth d.order k t v) variable b) ok h
    (λ j from to.
    let at = depth_in-slice_index d.order j ok.order to in
    let other : (slice_index d.order j == variable) ≡ false = ne_eqb (slice_index d.order j) variable (λ e. omega (arith, at, ap (depth_in d.order) e, from, above, higher)) in
    sym (cond-false (slice_index d.order j == variable) b (from_depth d.order k t v (slice_index d.order j)) other ∙ from_depth-other d.order k j t v ok.order (omega arith) to))

-- what the variable of a node has where another one is set below it
own-set : (d : Table) (own variable : ℕ) (c b : Bool) (v : ℕ → Bool) → IsTable d → own < length d.order → own < depth_in d.order variable
    → with_value (from_depth d.order (own + 1) (λ x. c) v) variable b (slice_index d.order own) ≡ c
own-set d own variable c b v ok within above =
    let at = depth_in-slice_index d.order own ok.order within in
    let other : (slice_index d.order own == variable) ≡ false = ne_eqb (slice_index d.order own) variable (λ e. omega (arith, at, ap (depth_in d.order) e, above)) in
    cond-false (slice_index d.order own == variable) b (from_depth d.order (own + 1) (λ x. c) v (slice_index d.order own)) other
    ∙ from_depth-own d.order (own + 1) own (λ x. c) v ok.order (omega arith) within

branch-own : (d : Table) (u x high low : ℕ) (z : ℕ → Bool) (c : Bool) → IsBranch d u x high low → z x ≡ c → function_of d u z ≡ (if c then function_of d high z else function_of d low z)
branch-own d u x high low z c b e = b.function z ∙ (λ i. if e i then function_of d high z else function_of d low z)

-- the nodes of a node above the variable
high-some : (d : Table) (u x high low variable : ℕ) (v : ℕ → Bool) → IsTable d → IsBranch d u x high low → depth_of d u < depth_in d.order variable
    → some_value variable (function_of d high) v ≡ some_value variable (function_of d u) (from_depth d.order (depth_of d u + 1) (λ y. true) v)
high-some d u x high low variable v ok b above = λ i. half true i || half false i
  where
    half : (c : Bool) → function_of d high (with_value v variable c) ≡ function_of d u (with_value (from_depth d.order (depth_of d u + 1) (λ y. true) v) variable c)
    half c =
        set-below d high variable (depth_of d u + 1) (λ y. true) v c ok b.high_there (omega (arith, b.above_high))
        ∙ sym (branch-own d u x high low (with_value (from_depth d.order (depth_of d u + 1) (λ y. true) v) variable c) true b
        (ap (with_value (from_depth d.order (depth_of d u + 1) (λ y. true) v) variable c) b.variable_is ∙ own-set d (depth_of d u) variable true c v ok b.within above))

low-some : (d : Table) (u x high low variable : ℕ) (v : ℕ → Bool) → IsTable d → IsBranch d u x high low → depth_of d u < depth_in d.order variable
    → some_value variable (function_of d low) v ≡ some_value variable (function_of d u) (from_depth d.order (depth_of d u + 1) (λ y. false) v)
low-some d u x high low variable v ok b above = λ i. half true i || half false i
  where
    half : (c : Bool) → function_of d low (with_value v variable c) ≡ function_of d u (with_value (from_depth d.order (depth_of d u + 1) (λ y. false) v) variable c)
    half c =
        set-below d low variable (depth_of d u + 1) (λ y. false) v c ok b.low_there (omega (arith, b.above_low))
        ∙ sym (branch-own d u x high low (with_value (from_depth d.order (depth_of d u + 1) (λ y. false) v) variable c) false b
        (ap (with_value (from_depth d.order (depth_of d u + 1) (λ y. false) v) variable c) b.variable_is ∙ own-set d (depth_of d u) variable false c v ok b.within above))

-- the disjunction of the two nodes of a node of the variable
both-some : (d : Table) (u high low variable : ℕ) (v : ℕ → Bool) → IsTable d → IsBranch d u variable high low
    → or_of d high low v ≡ some_value variable (function_of d u) (from_depth d.order (depth_of d u + 1) (λ y. true) v)
both-some d u high low variable v ok b = λ i. on i || off i
  where
    z : (ℕ → Bool)
    z = from_depth d.order (depth_of d u + 1) (λ y. true) v

    own : (c : Bool) → with_value z variable c variable ≡ c
    own c = cond-true (variable == variable) c (z variable) (eq-eqb variable variable refl)

    on : function_of d high v ≡ function_of d u (with_value z variable true)
    on = unset-below d high variable (depth_of d u + 1) (λ y. true) v true ok b.high_there (omega (arith, b.above_high)) (omega (arith, b.depth_is))
        ∙ sym (branch-own d u variable high low (with_value z variable true) true b (own true))

    off : function_of d low v ≡ function_of d u (with_value z variable false)
    off = unset-below d low variable (depth_of d u + 1) (λ y. true) v false ok b.low_there (omega (arith, b.above_low)) (omega (arith, b.depth_is))
        ∙ sym (branch-own d u variable high low (with_value z variable false) false b (own false))

pub high-left : (d : Table) (whole : (ℕ → Bool) → Bool) (u x high low variable : ℕ) → IsTable d → IsBranch d u x high low → depth_of d u < depth_in d.order variable
    → IsLeftSome d whole variable u → IsLeftSome d whole variable high
high-left d whole u x high low variable ok b above l =
    let f = some_value variable (function_of d high) in
    left-same d.order whole f f (depth_of d u + 1) (depth_of d high) (omega (arith, b.above_high)) (λ v. refl)
    (left-at d.order whole f (depth_of d u + 1)
    (left-down d.order whole (some_value variable (function_of d u)) f (depth_of d u) (depth_of d u + 1) (λ y. true) (omega arith) (omega (arith, b.within)) l
    (λ v. high-some d u x high low variable v ok b above)))

pub low-left : (d : Table) (whole : (ℕ → Bool) → Bool) (u x high low variable : ℕ) → IsTable d → IsBranch d u x high low → depth_of d u < depth_in d.order variable
    → IsLeftSome d whole variable u → IsLeftSome d whole variable low
low-left d whole u x high low variable ok b above l =
    let f = some_value variable (function_of d low) in
    left-same d.order whole f f (depth_of d u + 1) (depth_of d low) (omega (arith, b.above_low)) (λ v. refl)
    (left-at d.order whole f (depth_of d u + 1)
    (left-down d.order whole (some_value variable (function_of d u)) f (depth_of d u) (depth_of d u + 1) (λ y. false) (omega arith) (omega (arith, b.within)) l
    (λ v. low-some d u x high low variable v ok b above)))

pub both-left : (d : Table) (whole : (ℕ → Bool) → Bool) (u high low variable : ℕ) → IsTable d → IsBranch d u variable high low
    → IsLeftSome d whole variable u → IsLeft d.order whole (or_of d high low) (min (depth_of d high) (depth_of d low))
both-left d whole u high low variable ok b l =
    let f = or_of d high low in
    left-same d.order whole f f (depth_of d u + 1) (min (depth_of d high) (depth_of d low)) (omega (arith, b.above_high, b.above_low)) (λ v. refl)
    (left-at d.order whole f (depth_of d u + 1)
    (left-down d.order whole (some_value variable (function_of d u)) f (depth_of d u) (depth_of d u + 1) (λ y. true) (omega arith) (omega (arith, b.within)) l
    (λ v. both-some d u high low variable v ok b)))

some-kept : (old new : Table) (whole : (ℕ → Bool) → Bool) (u variable : ℕ) → Keeps old new → IsNode old u → IsLeftSome old whole variable u → IsLeftSome new whole variable u
some-kept old new whole u variable k h l =
    let p = k.nodes u h in
    subst (λ o. IsLeft o whole (some_value variable (function_of new u)) (depth_of new u)) (sym k.order)
    (left-same old.order whole (some_value variable (function_of old u)) (some_value variable (function_of new u)) (depth_of old u) (depth_of new u) (omega (arith, p.depth))
    (λ v i. p.function (with_value v variable true) i || p.function (with_value v variable false) i) l)

-- the result is left where the node is
result-left : (old new : Table) (whole : (ℕ → Bool) → Bool) (u variable w : ℕ) → Keeps old new → IsNode old u → IsQuantified new variable u w → IsLeftSome old whole variable u
    → IsLeft new.order whole (function_of new w) (depth_of new w)
result-left old new whole u variable w k h q l =
    left-same new.order whole (some_value variable (function_of new u)) (function_of new w) (depth_of new u) (depth_of new w) q.depth_is q.function (some-kept old new whole u variable k h l)

-- A part, and what of it is wide.
abbrev pub Stay : Table → Table → List (ℕ × ℕ) → List (ℕ × ℕ) → ℕ → ℕ → Type 0
Stay old new before after variable u = StayParts old new before after (some_value variable (function_of old u)) (depth_of old u)

abbrev pub Wide : Table → List (ℕ × ℕ) → ℕ → ℕ → ℕ → Type 0
Wide d before variable u level = WouldBeWide d before (some_value variable (function_of d u)) (depth_of d u) level

-- the result is noted for a node that is not above the variable, or of it
pub noted-parts : (d d1 : Table) (es c1 c2 : List (ℕ × ℕ)) (variable u w : ℕ) → IsNode d u → Keeps d d1 → IsQuantified d1 variable u w
    → ((whole : (ℕ → Bool) → Bool) → AreParts d whole es → IsLeftSome d whole variable u → AreParts d1 whole c1)
    → StayParts d1 d1 c1 c2 (function_of d1 w) (depth_of d1 w) → Stay d d1 es c2 variable u
noted-parts d d1 es c1 c2 variable u w h k q before last whole parts left =
    last whole (before whole parts left) (result-left d d1 whole u variable w k h q left)

pub noted-wide : (d d1 : Table) (es c1 : List (ℕ × ℕ)) (variable u w level : ℕ) → IsNode d u → Keeps d d1 → IsQuantified d1 variable u w
    → ((whole : (ℕ → Bool) → Bool) → AreParts d whole es → IsLeftSome d whole variable u → AreParts d1 whole c1)
    → WouldBeWide d1 c1 (function_of d1 w) (depth_of d1 w) level → Wide d es variable u level
noted-wide d d1 es c1 variable u w level h k q before last whole parts left =
    subst (λ o. IsWideAt o whole level) k.order (last whole (before whole parts left) (result-left d d1 whole u variable w k h q left))

-- the disjunction of a node of the variable
pub both-parts : (d d1 : Table) (es c1 : List (ℕ × ℕ)) (variable u high low : ℕ) → IsTable d → IsBranch d u variable high low
    → StayParts d d1 es c1 (or_of d high low) (min (depth_of d high) (depth_of d low)) → Stay d d1 es c1 variable u
both-parts d d1 es c1 variable u high low ok b h whole parts left = h whole parts (both-left d whole u high low variable ok b left)

pub both-wide : (d : Table) (es : List (ℕ × ℕ)) (variable u high low level : ℕ) → IsTable d → IsBranch d u variable high low
    → WouldBeWide d es (or_of d high low) (min (depth_of d high) (depth_of d low)) level → Wide d es variable u level
both-wide d es variable u high low level ok b h whole parts left = h whole parts (both-left d whole u high low variable ok b left)

-- the nodes of a node above the variable, one after the other
pub high-parts : (d d1 : Table) (es c1 : List (ℕ × ℕ)) (variable u x high low : ℕ) → IsTable d → IsBranch d u x high low → depth_of d u < depth_in d.order variable
    → Stay d d1 es c1 variable high → Stay d d1 es c1 variable u
high-parts d d1 es c1 variable u x high low ok b above h whole parts left = h whole parts (high-left d whole u x high low variable ok b above left)

pub high-wide : (d : Table) (es : List (ℕ × ℕ)) (variable u x high low level : ℕ) → IsTable d → IsBranch d u x high low → depth_of d u < depth_in d.order variable
    → Wide d es variable high level → Wide d es variable u level
high-wide d es variable u x high low level ok b above h whole parts left = h whole parts (high-left d whole u x high low variable ok b above left)

pub low-parts : (d d1 d2 : Table) (es c1 c2 : List (ℕ × ℕ)) (variable u x high low : ℕ) → IsTable d → IsBranch d u x high low → depth_of d u < depth_in d.order variable → Keeps d d1
    → Stay d d1 es c1 variable high → Stay d1 d2 c1 c2 variable low → (whole : (ℕ → Bool) → Bool) → AreParts d whole es → IsLeftSome d whole variable u → AreParts d2 whole c2
low-parts d d1 d2 es c1 c2 variable u x high low ok b above k first second whole parts left =
    second whole (first whole parts (high-left d whole u x high low variable ok b above left))
    (some-kept d d1 whole low variable k b.low_there (low-left d whole u x high low variable ok b above left))

pub low-wide : (d d1 : Table) (es c1 : List (ℕ × ℕ)) (variable u x high low level : ℕ) → IsTable d → IsBranch d u x high low → depth_of d u < depth_in d.order variable → Keeps d d1
    → Stay d d1 es c1 variable high → Wide d1 c1 variable low level → Wide d es variable u level
low-wide d d1 es c1 variable u x high low level ok b above k first second whole parts left =
    subst (λ o. IsWideAt o whole level) k.order
    (second whole (first whole parts (high-left d whole u x high low variable ok b above left))
    (some-kept d d1 whole low variable k b.low_there (low-left d whole u x high low variable ok b above left)))
