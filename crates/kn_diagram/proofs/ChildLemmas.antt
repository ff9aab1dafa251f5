-- The two nodes of a node at a depth are what its function is where the variable at that depth is true and
-- where it is false. So the result for two nodes at a depth is the node, at that depth, of the result for
-- the pair.
use Rattle.std.proofs.Common.{ℕ, zero, suc, ◌≡◌, ◌<◌, ◌≤◌, ◌==◌, ◌⊎◌, inl, inr, Bool, true, false, length, slice_index, refl, sym, ap, subst, ◌∙◌, arith}
use Rattle.std.proofs.lemmas.Bool.{cases_lt, cases_eq, cond-true, cond-false, eq-eqb, ne_eqb}
use Rattle.kn_diagram.specs.Diagrams.{Table, IsTable, IsNode, HasNodes, IsSplit, with_value, function_of, depth_of, high_of, low_of, high_at, low_at, depth_in}
use Rattle.kn_diagram.specs.Traces.{IsRight}
use Rattle.kn_diagram.proofs.NodeLemmas.{split-apart, split-own, branch-is, depth_in-slice_index, canonical, function_of-below, has_nodes}

-- a node whose depth is that of a variable is no constant
pub is-branch : (d : Table) (node : ℕ) → IsTable d → depth_of d node < length d.order → 2 ≤ node
is-branch d node ok h = by node h
  where
    laws : HasNodes d
    laws = has_nodes d ok

    by : (n : ℕ) → depth_of d n < length d.order → 2 ≤ n
    by zero k = absurd (omega (arith, laws.no_depth, k))
    by (suc zero) k = absurd (omega (arith, laws.yes_depth, k))
    by (suc (suc n)) k = omega arith

pub split-at : (d : Table) (node depth : ℕ) → IsTable d → IsNode d node → depth < length d.order → depth ≤ depth_of d node
    → IsSplit d node depth (high_at d depth node) (low_at d depth node)
split-at d node depth ok h within above = by (cases_eq (depth_of d node) depth)
  where
    by : ((depth_of d node ≡ depth) ⊎ (depth_of d node ≡ depth → ⊥)) → IsSplit d node depth (high_at d depth node) (low_at d depth node)
    by (inl e) =
        let s = subst (λ x. IsSplit d node x (high_of d node) (low_of d node)) e (split-own d node ok h (is-branch d node ok (omega (arith, e, within)))) in
        subst (λ x. IsSplit d node depth x (low_at d depth node)) s.high_is (subst (λ x. IsSplit d node depth (high_of d node) x) s.low_is s)
    by (inr n) =
        let s = split-apart d node depth h (omega (arith, n, above)) in
        subst (λ x. IsSplit d node depth x (low_at d depth node)) s.high_is (subst (λ x. IsSplit d node depth node x) s.low_is s)

-- a variable above a node decides nothing
pub above-ignored : (d : Table) (node depth : ℕ) (v : ℕ → Bool) (b : Bool) → IsTable d → IsNode d node → depth < length d.order → depth < depth_of d node
    → function_of d node (with_value v (slice_index d.order depth) b) ≡ function_of d node v
above-ignored d node depth v b ok h within below =
    function_of-below d node (with_value v (slice_index d.order depth) b) v ok h
    (λ k from to. cond-false (slice_index d.order k == slice_index d.order depth) b (v (slice_index d.order k))
    (ne_eqb (slice_index d.order k) (slice_index d.order depth) (λ e.
    let same : k ≡ depth = sym (depth_in-slice_index d.order k ok.order to) ∙ ap (depth_in d.order) e ∙ depth_in-slice_index d.order depth ok.order within in
    omega (arith, same, from, below))))

own-value : (v : ℕ → Bool) (x : ℕ) (b : Bool) → with_value v x b x ≡ b
own-value v x b = cond-true (x == x) b (v x) (eq-eqb x x refl)

pub high-function : (d : Table) (node depth : ℕ) (v : ℕ → Bool) → IsTable d → IsNode d node → depth < length d.order → depth ≤ depth_of d node
    → function_of d (high_at d depth node) v ≡ function_of d node (with_value v (slice_index d.order depth) true)
high-function d node depth v ok h within above =
    let s = split-at d node depth ok h within above in
    let x = slice_index d.order depth in
    let w = with_value v x true in
    sym (s.function w
    ∙ cond-true (w x) (function_of d (high_at d depth node) w) (function_of d (low_at d depth node) w) (own-value v x true)
    ∙ above-ignored d (high_at d depth node) depth v true ok s.high_there within s.above_high)

pub low-function : (d : Table) (node depth : ℕ) (v : ℕ → Bool) → IsTable d → IsNode d node → depth < length d.order → depth ≤ depth_of d node
    → function_of d (low_at d depth node) v ≡ function_of d node (with_value v (slice_index d.order depth) false)
low-function d node depth v ok h within above =
    let s = split-at d node depth ok h within above in
    let x = slice_index d.order depth in
    let w = with_value v x false in
    sym (s.function w
    ∙ cond-false (w x) (function_of d (high_at d depth node) w) (function_of d (low_at d depth node) w) (own-value v x false)
    ∙ above-ignored d (low_at d depth node) depth v false ok s.low_there within s.above_low)

-- the result for the highs of a pair is the high of the pair's result
pub high-is : (join : Bool → Bool → Bool) (d : Table) (u v w c depth : ℕ) → IsTable d → depth < length d.order
    → depth ≤ depth_of d u → depth ≤ depth_of d v → depth ≤ depth_of d w
    → IsRight join d (record { u = u; v = v; w = w }) → IsRight join d (record { u = high_at d depth u; v = high_at d depth v; w = c })
    → c ≡ high_at d depth w
high-is join d u v w c depth ok within hu hv hw m n =
    canonical d ok c (high_at d depth w) n.w_there (split-at d w depth ok m.w_there within hw).high_there
    (λ z. let y = with_value z (slice_index d.order depth) true in
    n.function z
    ∙ (λ i. join (high-function d u depth z ok m.u_there within hu i) (high-function d v depth z ok m.v_there within hv i))
    ∙ sym (m.function y)
    ∙ sym (high-function d w depth z ok m.w_there within hw))

-- the result for the lows of a pair is the low of the pair's result
pub low-is : (join : Bool → Bool → Bool) (d : Table) (u v w c depth : ℕ) → IsTable d → depth < length d.order
    → depth ≤ depth_of d u → depth ≤ depth_of d v → depth ≤ depth_of d w
    → IsRight join d (record { u = u; v = v; w = w }) → IsRight join d (record { u = low_at d depth u; v = low_at d depth v; w = c })
    → c ≡ low_at d depth w
low-is join d u v w c depth ok within hu hv hw m n =
    canonical d ok c (low_at d depth w) n.w_there (split-at d w depth ok m.w_there within hw).low_there
    (λ z. let y = with_value z (slice_index d.order depth) false in
    n.function z
    ∙ (λ i. join (low-function d u depth z ok m.u_there within hu i) (low-function d v depth z ok m.v_there within hv i))
    ∙ sym (m.function y)
    ∙ sym (low-function d w depth z ok m.w_there within hw))

-- a node is not above a depth where no variable above that depth decides its function
pub not_above : (d : Table) (node depth : ℕ) → IsTable d → IsNode d node → depth ≤ length d.order
    → ((k : ℕ) → k < depth → (v : ℕ → Bool)
    → function_of d node (with_value v (slice_index d.order k) true) ≡ function_of d node (with_value v (slice_index d.order k) false))
    → depth ≤ depth_of d node
not_above d node depth ok h top free = at (cases_lt (depth_of d node) depth)
  where
    at : ((depth_of d node < depth) ⊎ (depth ≤ depth_of d node)) → depth ≤ depth_of d node
    at (inr e) = e
    at (inl e) =
        let own = depth_of d node in
        let w : own < length d.order = omega arith in
        let b = branch-is d node (slice_index d.order own) (high_of d node) (low_of d node) ok h (is-branch d node ok w) refl refl refl in
        let t = eq-eqb own own refl in
        absurd (b.different (canonical d ok (high_of d node) (low_of d node) b.high_there b.low_there (λ v.
        ap (λ x. function_of d x v) (sym (cond-true (own == own) (high_of d node) node t))
        ∙ high-function d node own v ok h w (omega arith)
        ∙ free own e v
        ∙ sym (low-function d node own v ok h w (omega arith))
        ∙ ap (λ x. function_of d x v) (cond-true (own == own) (low_of d node) node t))))
