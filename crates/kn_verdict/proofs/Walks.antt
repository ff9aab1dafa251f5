-- Going down from a node to one of its two nodes: by given values, and to a side with the lower number.
use Rattle.std.proofs.Common.{◌≡◌, ℕ, ◌+◌, ◌<◌, ◌==◌, ◌⊎◌, inl, inr, Bool, true, false, not, if◌then◌else◌, List, length, map, nat_lt, slice_get, slice_set, Some, zero, suc, sym, ap, ◌∙◌, subst, arith}
use Rattle.std.proofs.lemmas.Bool.{cases_Bool, cond-true, cond-false, ltb-true, ltb-false}
use Rattle.std.proofs.lemmas.List.{length-map}
use Rattle.kn_logic.specs.Literals.{Literal, negated, has}
use Rattle.kn_logic.specs.Groups.{Gathered, IsGroup}
use Rattle.kn_diagram.specs.Diagrams.{Table, IsTable, IsBranch, with_value, function_of}
use Rattle.kn_diagram.proofs.Public.{has_nodes}
use Rattle.kn_verdict.specs.declared.fewest.Fewest.{Fewest}
use Rattle.kn_verdict.specs.Numbers.{IsAtBorder, IsMeasured, IsWitness, adds, asked_literal, number_of}
use Rattle.kn_verdict.proofs.Counts.{different-negated, has-negated}
use Rattle.kn_verdict.proofs.Values.{values-exist, values-set, avoided}
use Rattle.kn_verdict.proofs.Branches.{high-wanted, low-wanted, chosen-some, chosen-fewest}
use Rattle.kn_verdict.proofs.Borders.{border-different, border-high, border-low, ignores, splits}

-- the half of a node is of the border too
pub border-half : (g : Gathered) (d : Table) (node x high low half : ℕ) (value : Bool) → IsAtBorder g d node → IsBranch d node x high low → half ≡ (if value then high else low) → IsAtBorder g d half
border-half g d node x high low half value h b e = by (cases_Bool value)
  where
    by : ((value ≡ true) ⊎ (value ≡ false)) → IsAtBorder g d half
    by (inl t) = subst (IsAtBorder g d) (sym (e ∙ cond-true value high low t)) (border-high g d node x high low h b)
    by (inr f) = subst (IsAtBorder g d) (sym (e ∙ cond-false value high low f)) (border-low g d node x high low h b)

pub half-smaller : (d : Table) (node x high low half : ℕ) (value : Bool) → IsBranch d node x high low → half ≡ (if value then high else low) → half < node
half-smaller d node x high low half value b e = by (cases_Bool value)
  where
    by : ((value ≡ true) ⊎ (value ≡ false)) → half < node
    by (inl t) = omega (arith, e ∙ cond-true value high low t, b.high_older)
    by (inr f) = omega (arith, e ∙ cond-false value high low f, b.low_older)

-- where the variable has the value, the node's function is that of its half
pub half-function : (d : Table) (node x high low half : ℕ) (value : Bool) (v : ℕ → Bool) → IsBranch d node x high low → half ≡ (if value then high else low) → v x ≡ value
    → function_of d half v ≡ function_of d node v
half-function d node x high low half value v b e own = by (cases_Bool value)
  where
    by : ((value ≡ true) ⊎ (value ≡ false)) → function_of d half v ≡ function_of d node v
    by (inl t) = ap (λ n. function_of d n v) (e ∙ cond-true value high low t) ∙ sym (b.function v ∙ cond-true (v x) (function_of d high v) (function_of d low v) (own ∙ t))
    by (inr f) = ap (λ n. function_of d n v) (e ∙ cond-false value high low f) ∙ sym (b.function v ∙ cond-false (v x) (function_of d high v) (function_of d low v) (own ∙ f))

-- a constant is the same everywhere
constant-same : (d : Table) (node : ℕ) (v w : ℕ → Bool) → IsTable d → node < 2 → function_of d node v ≡ function_of d node w
constant-same d zero v w ok h = (has_nodes d ok).no v ∙ sym ((has_nodes d ok).no w)
constant-same d (suc zero) v w ok h = (has_nodes d ok).yes v ∙ sym ((has_nodes d ok).yes w)
constant-same d (suc (suc n)) v w ok h = absurd (omega (arith, h))

pub constant-value : (d : Table) (node : ℕ) (v : ℕ → Bool) → IsTable d → node < 2 → (node == 1) ≡ function_of d node v
constant-value d zero v ok h = sym ((has_nodes d ok).no v)
constant-value d (suc zero) v ok h = sym ((has_nodes d ok).yes v)
constant-value d (suc (suc n)) v ok h = absurd (omega (arith, h))

pub witness-constant : (g : Gathered) (d : Table) (node : ℕ) (want : Bool) (values : List Bool) → IsGroup g → IsTable d → node < 2 → (v : ℕ → Bool) × (function_of d node v ≡ want)
    → values ≡ map (λ l. if want then not l.positive else l.positive) g.border → IsWitness g (function_of d node) want values
witness-constant g d node want values group ok low (v, e) is =
    let (all, are) = values-exist g.border values (border-different g group) (ap length is ∙ length-map g.border (λ (l : Literal). if want then not l.positive else l.positive)) in
    record {
      all = all;
      are = are;
      is_wanted = constant-same d node all v ok low ∙ e;
      fewest = λ u t. omega (arith, avoided want all g.border (are ∙ is));
    }

-- ---- the side with the lower number

module _ (g : Gathered) (d : Table) (node x high low place : ℕ) (l : Literal) (a b : Fewest) (group : IsGroup g) (ok : IsTable d) (branch : IsBranch d node x high low)
    (there : has g.border l ≡ true) (own : l.variable ≡ x) (measured_high : IsMeasured g d high a) (measured_low : IsMeasured g d low b) where
  free_high : (v : ℕ → Bool) (c : Bool) → function_of d high (with_value v l.variable c) ≡ function_of d high v
  free_high = ignores d node high x high low ok branch branch.high_there branch.above_high l.variable own

  free_low : (v : ℕ → Bool) (c : Bool) → function_of d low (with_value v l.variable c) ≡ function_of d low v
  free_low = ignores d node low x high low ok branch branch.low_there branch.above_low l.variable own

  split : (v : ℕ → Bool) → function_of d node v ≡ (if v l.variable then function_of d high v else function_of d low v)
  split = splits d node x high low l.variable branch own

  -- the numbers of the sides, of the literals that are asked for
  abbrev less : Bool → Bool
  less want = nat_lt (adds (asked_literal want l) true + number_of want a) (adds (asked_literal want l) false + number_of want b)

  some_high : (want : Bool) → less want ≡ true → (v : ℕ → Bool) × (function_of d node v ≡ want) → (v : ℕ → Bool) × (function_of d high v ≡ want)
  some_high true t (u, e) =
      let (v, is, c) = chosen-some g.border l (border-different g group) there (function_of d node) (function_of d high) (function_of d low) split free_high free_low true a.holding b.holding measured_high.holding measured_low.holding
      (function_of d high) a.holding true measured_high.holding (omega (arith, ltb-true _ _ t)) u e in
      (v, is)
  some_high false t (u, e) =
      let (v, is, c) = chosen-some (map negated g.border) (negated l) (different-negated g.border (border-different g group)) (has-negated g.border l there) (function_of d node) (function_of d high) (function_of d low) split free_high free_low false a.failing b.failing measured_high.failing measured_low.failing
      (function_of d high) a.failing true measured_high.failing (omega (arith, ltb-true _ _ t)) u e in
      (v, is)

  some_low : (want : Bool) → less want ≡ false → (v : ℕ → Bool) × (function_of d node v ≡ want) → (v : ℕ → Bool) × (function_of d low v ≡ want)
  some_low true t (u, e) =
      let (v, is, c) = chosen-some g.border l (border-different g group) there (function_of d node) (function_of d high) (function_of d low) split free_high free_low true a.holding b.holding measured_high.holding measured_low.holding
      (function_of d low) b.holding false measured_low.holding (omega (arith, ltb-false _ _ t)) u e in
      (v, is)
  some_low false t (u, e) =
      let (v, is, c) = chosen-some (map negated g.border) (negated l) (different-negated g.border (border-different g group)) (has-negated g.border l there) (function_of d node) (function_of d high) (function_of d low) split free_high free_low false a.failing b.failing measured_high.failing measured_low.failing
      (function_of d low) b.failing false measured_low.failing (omega (arith, ltb-false _ _ t)) u e in
      (v, is)

  pub half-some : (want : Bool) (half : ℕ) → half ≡ (if less want then high else low) → (v : ℕ → Bool) × (function_of d node v ≡ want) → (v : ℕ → Bool) × (function_of d half v ≡ want)
  half-some want half e some = by (cases_Bool (less want))
    where
      by : ((less want ≡ true) ⊎ (less want ≡ false)) → (v : ℕ → Bool) × (function_of d half v ≡ want)
      by (inl t) = subst (λ n. (v : ℕ → Bool) × (function_of d n v ≡ want)) (sym (e ∙ cond-true (less want) high low t)) (some_high want t some)
      by (inr f) = subst (λ n. (v : ℕ → Bool) × (function_of d n v ≡ want)) (sym (e ∙ cond-false (less want) high low f)) (some_low want f some)

  set_values : (want value : Bool) (half : ℕ) (values : List Bool) (w : IsWitness g (function_of d half) want values) → slice_get (map (λ k. k.variable) g.border) place ≡ Some x
      → map (λ k. with_value w.all l.variable value k.variable) g.border ≡ slice_set values place value
  set_values want value half values w at =
      ap (λ y. map (λ (k : Literal). with_value w.all y value k.variable) g.border) own ∙ values-set w.all g.border place x value (border-different g group) at
      ∙ ap (λ ws. slice_set ws place value) w.are

  witness_high : (want : Bool) (values : List Bool) → less want ≡ true → IsWitness g (function_of d high) want values → slice_get (map (λ k. k.variable) g.border) place ≡ Some x
      → IsWitness g (function_of d node) want (slice_set values place true)
  witness_high true values t w at = record {
    all = with_value w.all l.variable true;
    are = set_values true true high values w at;
    is_wanted = high-wanted g.border l (border-different g group) there (function_of d node) (function_of d high) (function_of d low) split free_high free_low true a.holding b.holding measured_high.holding measured_low.holding w.all w.is_wanted;
    fewest = chosen-fewest g.border l (border-different g group) there (function_of d node) (function_of d high) (function_of d low) split free_high free_low true a.holding b.holding measured_high.holding measured_low.holding
        (function_of d high) a.holding true free_high measured_high.holding (omega (arith, ltb-true _ _ t)) w.all w.is_wanted w.fewest;
  }
  witness_high false values t w at = record {
    all = with_value w.all l.variable true;
    are = set_values false true high values w at;
    is_wanted = high-wanted (map negated g.border) (negated l) (different-negated g.border (border-different g group)) (has-negated g.border l there) (function_of d node) (function_of d high) (function_of d low) split free_high free_low false a.failing b.failing measured_high.failing measured_low.failing w.all w.is_wanted;
    fewest = chosen-fewest (map negated g.border) (negated l) (different-negated g.border (border-different g group)) (has-negated g.border l there) (function_of d node) (function_of d high) (function_of d low) split free_high free_low false a.failing b.failing measured_high.failing measured_low.failing
        (function_of d high) a.failing true free_high measured_high.failing (omega (arith, ltb-true _ _ t)) w.all w.is_wanted w.fewest;
  }

  witness_low : (want : Bool) (values : List Bool) → less want ≡ false → IsWitness g (function_of d low) want values → slice_get (map (λ k. k.variable) g.border) place ≡ Some x
      → IsWitness g (function_of d node) want (slice_set values place false)
  witness_low true values t w at = record {
    all = with_value w.all l.variable false;
    are = set_values true false low values w at;
    is_wanted = low-wanted g.border l (border-different g group) there (function_of d node) (function_of d high) (function_of d low) split free_high free_low true a.holding b.holding measured_high.holding measured_low.holding w.all w.is_wanted;
    fewest = chosen-fewest g.border l (border-different g group) there (function_of d node) (function_of d high) (function_of d low) split free_high free_low true a.holding b.holding measured_high.holding measured_low.holding
        (function_of d low) b.holding false free_low measured_low.holding (omega (arith, ltb-false _ _ t)) w.all w.is_wanted w.fewest;
  }
  witness_low false values t w at = record {
    all = with_value w.all l.variable false;
    are = set_values false false low values w at;
    is_wanted = low-wanted (map negated g.border) (negated l) (different-negated g.border (border-different g group)) (has-negated g.border l there) (function_of d node) (function_of d high) (function_of d low) split free_high free_low false a.failing b.failing measured_high.failing measured_low.failing w.all w.is_wanted;
    fewest = chosen-fewest (map negated g.border) (negated l) (different-negated g.border (border-different g group)) (has-negated g.border l there) (function_of d node) (function_of d high) (function_of d low) split free_high free_low false a.failing b.failing measured_high.failing measured_low.failing
        (function_of d low) b.failing false free_low measured_low.failing (omega (arith, ltb-false _ _ t)) w.all w.is_wanted w.fewest;
  }

  pub witness-half : (want value : Bool) (half : ℕ) (values : List Bool) → value ≡ less want → half ≡ (if value then high else low) → IsWitness g (function_of d half) want values
      → slice_get (map (λ k. k.variable) g.border) place ≡ Some x → IsWitness g (function_of d node) want (slice_set values place value)
  witness-half want true half values e is w at =
      witness_high want values (sym e) (subst (λ n. IsWitness g (function_of d n) want values) is w) at
  witness-half want false half values e is w at =
      witness_low want values (sym e) (subst (λ n. IsWitness g (function_of d n) want values) is w) at
