-- A function depends on a variable exactly where a node of the variable is reached.
use Rattle.std.proofs.Common.{ℕ, zero, suc, ◌≡◌, ◌+◌, ◌<◌, ◌≤◌, ◌==◌, ◌⊎◌, inl, inr, Bool, true, false, if◌then◌else◌, List, [], ◌∷◌, length, slice_index, slice_index_or, nat_lt, refl, sym, ap, subst, ◌∙◌, arith, true≢false}
use Rattle.std.specs.List.{AllByRecursion}
use Rattle.std.proofs.lemmas.Bool.{eq-eqb, ne_eqb, cond-true, cond-false, cases_eq, cases_lt, lt-ltb, le-ltb}
use Rattle.kn_diagram.specs.Diagrams.{Table, IsNode, function_of, IsTable, depth_in}
use Rattle.kn_diagram.specs.Widths.{reached_below, width_at}
use Rattle.kn_diagram.specs.Wide.{remaining, DependsOn, Ignores}
use Rattle.kn_diagram.proofs.NodeLemmas.{slice_index-depth_in, depth_in-slice_index}
use Rattle.kn_diagram.proofs.CountLemmas.{is_counted}
use Rattle.kn_diagram.proofs.WideLemmas.{equal-or-not, down, leads, node-depends, Reaches, Ways, ways-of, way-finds, way_of, length-way_of, way_of-at}

-- What remains depends on a variable that is not above only where the whole does.
pub remaining-depends : (order : List ℕ) (f : (ℕ → Bool) → Bool) (way : List Bool) (variable : ℕ) → length way ≤ depth_in order variable
    → DependsOn (remaining order f way) variable → DependsOn f variable
remaining-depends order f way variable below (v, x) =
    (before v, λ e. x ((λ i. f (λ y. same true y i)) ∙ e ∙ (λ i. f (λ y. sym (same false y) i))))
  where
    before : (ℕ → Bool) → ℕ → Bool
    before u = λ y. if nat_lt (depth_in order y) (length way) then slice_index_or way (depth_in order y) false else u y

    same : (b : Bool) (y : ℕ) → before (λ z. if z == variable then b else v z) y ≡ (if y == variable then b else before v y)
    same b y = by (cases_eq y variable)
      where
        by : ((y ≡ variable) ⊎ (y ≡ variable → ⊥)) → before (λ z. if z == variable then b else v z) y ≡ (if y == variable then b else before v y)
        by (inl e) =
            cond-false (nat_lt (depth_in order y) (length way)) (slice_index_or way (depth_in order y) false) (if y == variable then b else v y)
            (le-ltb (depth_in order y) (length way) (let d = ap (depth_in order) e in omega arith))
            ∙ cond-true (y == variable) b (v y) (eq-eqb y variable e)
            ∙ sym (cond-true (y == variable) b (before v y) (eq-eqb y variable e))
        by (inr n) =
            (λ i. if nat_lt (depth_in order y) (length way) then slice_index_or way (depth_in order y) false else cond-false (y == variable) b (v y) (ne_eqb y variable n) i)
            ∙ sym (cond-false (y == variable) b (before v y) (ne_eqb y variable n))

-- where a node of the variable is reached, the function depends on it
pub reached-depends : (d : Table) (from variable : ℕ) → IsTable d → IsNode d from → depth_in d.order variable < length d.order
    → 1 ≤ width_at d from (depth_in d.order variable) → DependsOn (function_of d from) variable
unfolding width_at
reached-depends d from variable ok h within some =
    of (ways-of d from (depth_in d.order variable) (length d.rows + 2) 1 ok h some)
  where
    of : Ways d from (depth_in d.order variable) (length d.rows + 2) 1 → DependsOn (function_of d from) variable
    of w = by w.ways w.count_is w.reach
      where
        by : (ways : List (List Bool)) → length ways ≡ 1 → AllByRecursion (Reaches d from (depth_in d.order variable) (length d.rows + 2)) ways → DependsOn (function_of d from) variable
        by [] n r = absurd (omega arith)
        by (way ∷ ways) n r =
            let l = leads d from way ok h (omega (arith, r.0.len)) in
            let own = node-depends d (down d from way) variable ok l.there r.0.at within in
            remaining-depends d.order (function_of d from) way variable (omega (arith, r.0.len))
            (subst (λ g. DependsOn g variable) (λ i v. l.function v i) own)

counted-below : (d : Table) (from depth node n : ℕ) → node < n → is_counted d from depth node ≡ true → 1 ≤ reached_below d from depth n
counted-below d from depth node zero l c = absurd (omega arith)
counted-below d from depth node (suc n) l c = by (cases_eq node n) (is_counted d from depth n) refl (λ k. counted-below d from depth node n k c)
  where
    by : ((node ≡ n) ⊎ (node ≡ n → ⊥)) → (b : Bool) → is_counted d from depth n ≡ b → (node < n → 1 ≤ reached_below d from depth n)
        → 1 ≤ (if b then 1 else 0) + reached_below d from depth n
    by e true t rest = omega arith
    by (inl e) false t rest = absurd (true≢false (sym c ∙ ap (is_counted d from depth) e ∙ t))
    by (inr x) false t rest = omega (arith, rest (omega arith))

-- where no node of the variable is reached, the variable's value decides nothing
pub unreached-ignores : (d : Table) (from variable : ℕ) → IsTable d → IsNode d from → depth_in d.order variable < length d.order
    → width_at d from (depth_in d.order variable) ≡ 0 → Ignores (function_of d from) variable
unfolding width_at
unreached-ignores d from variable ok h within none v b = both b (v variable) refl
  where
    f : (ℕ → Bool) → Bool
    f = function_of d from

    with_value : (ℕ → Bool) → Bool → ℕ → Bool
    with_value u c = λ y. if y == variable then c else u y

    depth : ℕ
    depth = depth_in d.order variable

    way : List Bool
    way = way_of depth (λ k. v (slice_index d.order k))

    above : (c : Bool) (y : ℕ) → (if nat_lt (depth_in d.order y) (length way) then slice_index_or way (depth_in d.order y) false else with_value v c y) ≡ with_value v c y
    above c y = by (cases_lt (depth_in d.order y) depth)
      where
        by : ((depth_in d.order y < depth) ⊎ (depth ≤ depth_in d.order y))
            → (if nat_lt (depth_in d.order y) (length way) then slice_index_or way (depth_in d.order y) false else with_value v c y) ≡ with_value v c y
        by (inl l) =
            cond-true (nat_lt (depth_in d.order y) (length way)) (slice_index_or way (depth_in d.order y) false) (with_value v c y)
            (lt-ltb (depth_in d.order y) (length way) (omega (arith, length-way_of depth (λ k. v (slice_index d.order k)))))
            ∙ way_of-at depth (λ k. v (slice_index d.order k)) (depth_in d.order y) l
            ∙ ap v (slice_index-depth_in d.order y (omega arith))
            ∙ sym (cond-false (y == variable) c (v y) (ne_eqb y variable (λ e. let s = ap (depth_in d.order) e in omega arith)))
        by (inr l) =
            cond-false (nat_lt (depth_in d.order y) (length way)) (slice_index_or way (depth_in d.order y) false) (with_value v c y)
            (le-ltb (depth_in d.order y) (length way) (omega (arith, length-way_of depth (λ k. v (slice_index d.order k)))))

    one : f (with_value v true) ≡ f (with_value v false)
    one = by (equal-or-not (f (with_value v true)) (f (with_value v false)))
      where
        whole : (c : Bool) → remaining d.order f way (with_value v c) ≡ f (with_value v c)
        whole c = λ i. f (λ y. above c y i)

        by : ((f (with_value v true) ≡ f (with_value v false)) ⊎ (f (with_value v true) ≡ f (with_value v false) → ⊥)) → f (with_value v true) ≡ f (with_value v false)
        by (inl e) = e
        by (inr x) =
            let k = way-finds d from variable way ok h within (length-way_of depth (λ k. v (slice_index d.order k)))
            (v, λ e. x (sym (whole true) ∙ e ∙ whole false)) in
            absurd (omega (arith, none, counted-below d from depth (down d from way) (length d.rows + 2) k.there k.counted))

    own : (c : Bool) → v variable ≡ c → f (with_value v c) ≡ f v
    own c e = λ i. f (λ y. at y (cases_eq y variable) i)
      where
        at : (y : ℕ) → ((y ≡ variable) ⊎ (y ≡ variable → ⊥)) → with_value v c y ≡ v y
        at y (inl s) = cond-true (y == variable) c (v y) (eq-eqb y variable s) ∙ sym e ∙ ap v (sym s)
        at y (inr n) = cond-false (y == variable) c (v y) (ne_eqb y variable n)

    both : (a c : Bool) → v variable ≡ c → f (with_value v a) ≡ f v
    both true true e = own true e
    both false false e = own false e
    both true false e = one ∙ own false e
    both false true e = sym one ∙ own true e

-- the same, of the variables at depths
pub depth-depends : (d : Table) (from depth level : ℕ) → IsTable d → IsNode d from → depth < length d.order → level ≡ slice_index d.order depth → 1 ≤ width_at d from depth
    → (depth_in d.order level ≡ depth) × DependsOn (function_of d from) level
depth-depends d from depth level ok h within is some =
    let at : depth_in d.order level ≡ depth = ap (depth_in d.order) is ∙ depth_in-slice_index d.order depth ok.order within in
    (at, reached-depends d from level ok h (omega (arith, at)) (omega (arith, some, ap (width_at d from) at)))

pub depth-ignores : (d : Table) (from depth : ℕ) → IsTable d → IsNode d from → depth < length d.order → width_at d from depth ≡ 0 → Ignores (function_of d from) (slice_index d.order depth)
depth-ignores d from depth ok h within none =
    let at = depth_in-slice_index d.order depth ok.order within in
    unreached-ignores d from (slice_index d.order depth) ok h (omega (arith, at)) (ap (width_at d from) at ∙ none)
