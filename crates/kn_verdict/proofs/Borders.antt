-- The variables of the border at the bottom of the order, and what is measured of their nodes.
use Rattle.std.proofs.Common.{◌≡◌, ℕ, zero, suc, ◌+◌, ◌-◌, ◌<◌, ◌==◌, ◌⊎◌, inl, inr, Bool, true, false, if◌then◌else◌, List, [], ◌∷◌, ◌++◌, length, map, slice_index, slice_get, get_or, Some, None, nat_eq, refl, sym, ap, ◌∙◌, subst, arith, length-append}
use Rattle.std.proofs.lemmas.Bool.{cases_Bool, cond-true, cond-false, eqb-true, ne_eqb, true≢false}
use Rattle.std.proofs.lemmas.Option.{slice_get-get_or, slice_get_within, get_or_from_slice_get}
use Rattle.std.proofs.lemmas.List.{length-reverse, get_or-reverse, get_or_append_left, get_or-map, length-map}
use Rattle.std.proofs.lemmas.List.Folds.{list_any_none, list_any_at}
use Rattle.std.proofs.lemmas.List.Kept.{AllPairs-from_increasing}
use Rattle.std.specs.Map.{lookup}
use Rattle.indexmap.specs.IndexMap.{insert_entry}
use Rattle.kn_logic.specs.Literals.{Literal, negated, has, is_same, AreDifferent}
use Rattle.kn_logic.specs.Groups.{Gathered, IsGroup}
use Rattle.kn_logic.proofs.Public.{same-refl, All-push}
use Rattle.kn_diagram.specs.Diagrams.{Table, IsTable, IsNode, IsBranch, with_value, function_of, depth_of}
use Rattle.kn_diagram.proofs.Public.{above-ignored, has_nodes}
use Rattle.kn_verdict.specs.declared.fewest.Fewest.{Fewest}
use Rattle.kn_verdict.specs.Numbers.{IsFewest, IsAtBorder, IsMeasured, AreMeasured, found, constant_of, joined_by}
use Rattle.kn_verdict.proofs.Counts.{length-negated, different-negated, has-negated}
use Rattle.kn_verdict.proofs.Values.{some-values}
use Rattle.kn_verdict.proofs.Branches.{branch-fewest}

-- the border's variables are different
different_by : (lits : List Literal) → ((i j : ℕ) (d : ℕ) → i < j → j < length (map (λ l. l.variable) lits) → get_or (map (λ l. l.variable) lits) i d < get_or (map (λ l. l.variable) lits) j d) → AreDifferent lits
different_by [] h = tt
different_by (l ∷ lits) h = (
  list_any_none (λ k. k.variable == l.variable) lits
      (λ k d within. ne_eqb _ _ (λ e.
      let less = h 0 (suc k) 0 (omega arith) (omega (arith, length-map lits (λ (x : Literal). x.variable))) in
      omega (arith, less, e, get_or-map (λ (x : Literal). x.variable) lits k d 0 within))),
  different_by lits (λ i j d less within. h (suc i) (suc j) d (omega arith) (omega arith)),
)

pub border-different : (g : Gathered) → IsGroup g → AreDifferent g.border
border-different g h = different_by g.border (λ i j d less within. AllPairs-from_increasing (map (λ l. l.variable) g.border) h.border i j d less within)

-- where the variable of a node stands in the border
pub border-place : (g : Gathered) (d : Table) (node : ℕ) → IsAtBorder g d node → depth_of d node < length d.order
    → slice_get (map (λ l. l.variable) g.border) (length g.border - 1 - (depth_of d node - length g.aux)) ≡ Some (slice_index d.order (depth_of d node))
border-place g d node h within =
    let vars = map (λ (l : Literal). l.variable) g.border in
    let all = vars ++ g.aux in
    let depth = depth_of d node in
    let i = length g.border - 1 - (depth - length g.aux) in
    let long : length vars ≡ length g.border = length-map g.border (λ (l : Literal). l.variable) in
    let total : length all ≡ length g.border + length g.aux = length-append vars g.aux ∙ ap (λ n. n + length g.aux) long in
    let few : depth < length all = omega (arith, within, ap length h.order, length-reverse all) in
    let low : i < length vars = omega (arith, h.below, few, long, total) in
    let back : length all - 1 - depth ≡ i = omega (arith, h.below, few, total) in
    slice_get-get_or vars i 0 low
    ∙ ap Some (sym (ap (λ o. slice_index o depth) h.order ∙ get_or-reverse all depth 0 few ∙ ap (λ k. get_or all k 0) back ∙ get_or_append_left vars g.aux 0 i low))

-- the literal that stands there
pub border-literal : (g : Gathered) (place x : ℕ) (l : Literal) → slice_get (map (λ k. k.variable) g.border) place ≡ Some x → l ≡ get_or g.border place l
    → (place < length g.border) × (has g.border l ≡ true) × (l.variable ≡ x)
border-literal g place x l h e =
    let low : place < length g.border = omega (arith, slice_get_within (map (λ (k : Literal). k.variable) g.border) place x h, length-map g.border (λ (k : Literal). k.variable)) in (
      low,
      list_any_at (is_same l) g.border place l low (subst (λ k. is_same l k ≡ true) e (same-refl l)),
      ap (λ k. k.variable) e ∙ sym (get_or-map (λ (k : Literal). k.variable) g.border place l 0 low)
          ∙ get_or_from_slice_get (map (λ (k : Literal). k.variable) g.border) place x 0 h,
    )

-- the nodes below one of the border are of the border
pub border-high : (g : Gathered) (d : Table) (node x high low : ℕ) → IsAtBorder g d node → IsBranch d node x high low → IsAtBorder g d high
border-high g d node x high low h b = record { table = h.table; order = h.order; there = b.high_there; below = omega (arith, h.below, b.above_high) }

pub border-low : (g : Gathered) (d : Table) (node x high low : ℕ) → IsAtBorder g d node → IsBranch d node x high low → IsAtBorder g d low
border-low g d node x high low h b = record { table = h.table; order = h.order; there = b.low_there; below = omega (arith, h.below, b.above_low) }

-- a node below ignores the variable
pub ignores : (d : Table) (node other x high low : ℕ) → IsTable d → IsBranch d node x high low → IsNode d other → depth_of d node < depth_of d other
    → (y : ℕ) → y ≡ x → (v : ℕ → Bool) (b : Bool) → function_of d other (with_value v y b) ≡ function_of d other v
ignores d node other x high low ok h there below y e v b =
    ap (λ z. function_of d other (with_value v z b)) (e ∙ h.variable_is) ∙ above-ignored d other (depth_of d node) v b ok there h.within below

pub splits : (d : Table) (node x high low y : ℕ) → IsBranch d node x high low → y ≡ x → (v : ℕ → Bool) → function_of d node v ≡ (if v y then function_of d high v else function_of d low v)
splits d node x high low y h e v = subst (λ z. function_of d node v ≡ (if v z then function_of d high v else function_of d low v)) (sym e) (h.function v)

-- ---- what is measured

pub measured-branch : (g : Gathered) (d : Table) (node x high low : ℕ) (l : Literal) (a b : Fewest) → IsGroup g → IsTable d → IsBranch d node x high low
    → has g.border l ≡ true → l.variable ≡ x → IsMeasured g d high a → IsMeasured g d low b → IsMeasured g d node (joined_by l a b)
measured-branch g d node x high low l a b group ok h there own ha hb =
    let f = function_of d node in
    let fh = function_of d high in
    let fl = function_of d low in
    let different = border-different g group in
    let split = splits d node x high low l.variable h own in
    let free_high = ignores d node high x high low ok h h.high_there h.above_high l.variable own in
    let free_low = ignores d node low x high low ok h h.low_there h.above_low l.variable own in
    record {
      holding = branch-fewest g.border l different there f fh fl split free_high free_low true a.holding b.holding ha.holding hb.holding;
      failing = branch-fewest (map negated g.border) (negated l) (different-negated g.border different) (has-negated g.border l there) f fh fl split free_high free_low false a.failing b.failing ha.failing hb.failing;
    }

never_fewest : (lits : List Literal) (f : (ℕ → Bool) → Bool) (want : Bool) (n : ℕ) → n ≡ length lits + 1 → ((v : ℕ → Bool) → f v ≡ want → ⊥) → IsFewest lits f want n
never_fewest lits f want n e none = record {
  within = omega (arith, e);
  bound = λ v t. absurd (none v t);
  met = λ h. absurd (omega (arith, e, h));
}

always_fewest : (lits : List Literal) (f : (ℕ → Bool) → Bool) (want : Bool) → AreDifferent lits → ((v : ℕ → Bool) → f v ≡ want) → IsFewest lits f want 0
always_fewest lits f want d all = record {
  within = omega arith;
  bound = λ v t. omega arith;
  met = λ h. (let (v, c) = some-values lits 0 d (omega arith) in (v, all v, c));
}

pub measured-constant : (g : Gathered) (d : Table) (node : ℕ) → IsGroup g → IsTable d → node < 2 → IsMeasured g d node (constant_of (length g.border) (node == 1))
measured-constant g d zero group ok h =
    let no = (has_nodes d ok).no in
    let different = border-different g group in
    record {
      holding = never_fewest g.border (function_of d 0) true (length g.border + 1) refl (λ v t. true≢false (sym t ∙ no v));
      failing = always_fewest (map negated g.border) (function_of d 0) false (different-negated g.border different) no;
    }
measured-constant g d (suc zero) group ok h =
    let yes = (has_nodes d ok).yes in
    let different = border-different g group in
    record {
      holding = always_fewest g.border (function_of d 1) true different yes;
      failing = never_fewest (map negated g.border) (function_of d 1) false (length g.border + 1) (ap (λ n. n + 1) (sym (length-negated g.border))) (λ v t. true≢false (sym (yes v) ∙ t));
    }
measured-constant g d (suc (suc n)) group ok h = absurd (omega (arith, h))

pub border-some : (g : Gathered) (d : Table) (node : ℕ) → IsAtBorder g d node → depth_of d node < length d.order → depth_of d node - length g.aux < length g.border
border-some g d node h within =
    let vars = map (λ (l : Literal). l.variable) g.border in
    omega (arith, within, h.below, ap length h.order, length-reverse (vars ++ g.aux), length-append vars g.aux, length-map g.border (λ (l : Literal). l.variable))

-- ---- numbers that were noted

pub found-lookup : (u : ℕ) (es : List (ℕ × Fewest)) → found es u ≡ lookup (λ y. u == y) es
found-lookup u [] = refl
found-lookup u (e ∷ es) = ap (λ x. if u == e.0 then Some e.1 else x) (found-lookup u es)

pub insert-found : (u : ℕ) (m : Fewest) (es : List (ℕ × Fewest)) → found es u ≡ None → insert_entry nat_eq es u m ≡ es ++ (u, m) ∷ []
insert-found u m [] h = refl
insert-found u m (e ∷ es) h = by (cases_Bool (u == e.0)) (insert-found u m es)
  where
    by : (((u == e.0) ≡ true) ⊎ ((u == e.0) ≡ false)) → (found es u ≡ None → insert_entry nat_eq es u m ≡ es ++ (u, m) ∷ []) → insert_entry nat_eq (e ∷ es) u m ≡ (e ∷ es) ++ (u, m) ∷ []
    by (inl t) rest = let some : Some e.1 ≡ None = sym (cond-true (u == e.0) (Some e.1) (found es u) t) ∙ h in absurd (cc)
    by (inr f) rest =
        cond-false (u == e.0) ((e.0, m) ∷ es) (e ∷ insert_entry nat_eq es u m) f
        ∙ ap (λ x. e ∷ x) (rest (sym (cond-false (u == e.0) (Some e.1) (found es u) f) ∙ h))

pub found-measured : (g : Gathered) (d : Table) (es : List (ℕ × Fewest)) (node : ℕ) (m : Fewest) → AreMeasured g d es → found es node ≡ Some m → IsMeasured g d node m
found-measured g d [] node m all h = absurd (cc)
found-measured g d (e ∷ es) node m all h = by (cases_Bool (node == e.0)) (found-measured g d es node m all.1)
  where
    some_same : (a b : Fewest) → Some a ≡ Some b → a ≡ b
    some_same a b e = cc

    by : (((node == e.0) ≡ true) ⊎ ((node == e.0) ≡ false)) → (found es node ≡ Some m → IsMeasured g d node m) → IsMeasured g d node m
    by (inl t) rest =
        subst (IsMeasured g d node) (some_same e.1 m (sym (cond-true (node == e.0) (Some e.1) (found es node) t) ∙ h))
        (subst (λ n. IsMeasured g d n e.1) (sym (eqb-true node e.0 t)) all.0)
    by (inr f) rest = rest (sym (cond-false (node == e.0) (Some e.1) (found es node) f) ∙ h)

-- with a node's numbers noted, or none
pub noted-measured : (g : Gathered) (d : Table) (old new : List (ℕ × Fewest)) (node : ℕ) (m : Fewest) → AreMeasured g d old → IsMeasured g d node m
    → (new ≡ old) ⊎ (new ≡ old ++ (node, m) ∷ []) → AreMeasured g d new
noted-measured g d old new node m all own (inl e) = subst (AreMeasured g d) (sym e) all
noted-measured g d old new node m all own (inr e) = subst (AreMeasured g d) (sym e) (All-push (λ x. IsMeasured g d x.0 x.1) old (node, m) all own)

pub place-within : (g : Gathered) (place x : ℕ) → slice_get (map (λ k. k.variable) g.border) place ≡ Some x → place < length g.border
place-within g place x h = omega (arith, slice_get_within (map (λ (k : Literal). k.variable) g.border) place x h, length-map g.border (λ (k : Literal). k.variable))

-- the literal of a node
pub node-literal : (g : Gathered) (d : Table) (node x high low place : ℕ) (l : Literal) (lits : List Literal) → IsBranch d node x high low
    → slice_get (map (λ k. k.variable) g.border) place ≡ Some (slice_index d.order (depth_of d node)) → lits ≡ g.border → l ≡ get_or lits place l
    → (has g.border l ≡ true) × (l.variable ≡ x)
node-literal g d node x high low place l lits b h e is =
    let (low_place, there, own) = border-literal g place (slice_index d.order (depth_of d node)) l h (subst (λ ls. l ≡ get_or ls place l) e is) in
    (there, own ∙ sym b.variable_is)
