-- A clause as a diagram, from the bottom of the order upwards.
use Rattle.std.proofs.Common.{ℕ, ◌≡◌, ◌<◌, ◌==◌, Bool, true, false, not, ◌&&◌, ◌||◌, if◌then◌else◌, List, [], ◌∷◌, length, slice_index, nat_eq, nat_le, suc, refl, sym, ap, subst, ◌∙◌, arith, lit<}
use Rattle.std.specs.List.{list_any, IsDistinct, AllByRecursion}
use Rattle.std.proofs.lemmas.Bool.Decides.{nat_tests}
use Rattle.std.proofs.lemmas.Bool.{eqb-true, eqb-false, lt-leb, le-leb}
use Rattle.kn_logic.specs.Literals.{Literal}
use Rattle.kn_diagram.specs.Diagrams.{Table, IsNode, function_of, depth_of, depth_in, is_true_by, asks, Keeps, IsMade}
use Rattle.kn_diagram.proofs.NodeLemmas.{depth_in-slice_index, slice_index-depth_in, depth_of-constant, function_of-constant}

-- some literal is true, of those whose variables stand at this depth or further down
abbrev pub some_from : List ℕ → ℕ → List Literal → (ℕ → Bool) → Bool
some_from order depth lits v = list_any (λ l. nat_le depth (depth_in order l.variable) && is_true_by v l) lits

abbrev pub AreIn : List ℕ → List Literal → Type 0
AreIn order lits = AllByRecursion (λ l. depth_in order l.variable < length order) lits

pub some_from-bottom : (order : List ℕ) (lits : List Literal) (v : ℕ → Bool) → AreIn order lits → some_from order (length order) lits v ≡ false
some_from-bottom order [] v h = refl
some_from-bottom order (l ∷ lits) v h =
    ap (λ b. (b && is_true_by v l) || some_from order (length order) lits v) (lt-leb (length order) (depth_in order l.variable) h.0) ∙ some_from-bottom order lits v h.1

pub some_from-top : (order : List ℕ) (lits : List Literal) (v : ℕ → Bool) → some_from order 0 lits v ≡ list_any (is_true_by v) lits
some_from-top order [] v = refl
some_from-top order (l ∷ lits) v =
    (λ i. ((le-leb 0 (depth_in order l.variable) (omega arith) i) && is_true_by v l) || some_from-top order lits v i)

-- one literal, at its own depth and at another
own-side : (x p : Bool) → (true && (if p then x else not x)) ≡ (if x then ((true && p) || (false && (if p then x else not x))) else ((true && not p) || (false && (if p then x else not x))))
own-side true true = refl
own-side true false = refl
own-side false true = refl
own-side false false = refl

other-side : (x p b t : Bool) → (b && t) ≡ (if x then ((false && p) || (b && t)) else ((false && not p) || (b && t)))
other-side true p b t = refl
other-side false p b t = refl

shuffle : (x a b c p q r : Bool) → ((if x then (a || c) else (b || c)) || (if x then (p || r) else (q || r))) ≡ (if x then ((a || p) || (c || r)) else ((b || q) || (c || r)))
shuffle true a b c p q r = mixed a c p r
  where
    mixed : (a c p r : Bool) → ((a || c) || (p || r)) ≡ ((a || p) || (c || r))
    mixed true c p r = refl
    mixed false true true r = refl
    mixed false true false r = refl
    mixed false false p r = refl
shuffle false a b c p q r = mixed b c q r
  where
    mixed : (a c p r : Bool) → ((a || c) || (p || r)) ≡ ((a || p) || (c || r))
    mixed true c p r = refl
    mixed false true true r = refl
    mixed false true false r = refl
    mixed false false p r = refl

literal-step : (order : List ℕ) (depth : ℕ) (l : Literal) (v : ℕ → Bool) → IsDistinct nat_eq order → depth < length order → depth_in order l.variable < length order
    → (let x = slice_index order depth in
    let rest = nat_le (suc depth) (depth_in order l.variable) && is_true_by v l in
    (nat_le depth (depth_in order l.variable) && is_true_by v l)
    ≡ (if v x then (((l.variable == x) && l.positive) || rest) else (((l.variable == x) && not l.positive) || rest)))
literal-step order depth l v d h k = by (l.variable == x) refl
  where
    x : ℕ
    x = slice_index order depth

    here : Bool → Bool → Bool → Bool → Type 0
    here a b c t = (b && t) ≡ (if v x then ((a && l.positive) || (c && t)) else ((a && not l.positive) || (c && t)))

    by : (a : Bool) → (l.variable == x) ≡ a → here (l.variable == x) (nat_le depth (depth_in order l.variable)) (nat_le (suc depth) (depth_in order l.variable)) (is_true_by v l)
    by true e =
        let same : l.variable ≡ x = eqb-true l.variable x e in
        let at : depth_in order l.variable ≡ depth = ap (depth_in order) same ∙ depth_in-slice_index order depth d h in
        let reached : nat_le depth (depth_in order l.variable) ≡ true = le-leb depth (depth_in order l.variable) (omega arith) in
        let not_below : nat_le (suc depth) (depth_in order l.variable) ≡ false = lt-leb (suc depth) (depth_in order l.variable) (omega arith) in
        let value : is_true_by v l ≡ (if l.positive then v x else not (v x)) = ap (λ y. if l.positive then v y else not (v y)) same in
        let done : here true true false (if l.positive then v x else not (v x)) = own-side (v x) l.positive in
        subst (λ a. here a (nat_le depth (depth_in order l.variable)) (nat_le (suc depth) (depth_in order l.variable)) (is_true_by v l)) (sym e)
        (subst (λ b. here true b (nat_le (suc depth) (depth_in order l.variable)) (is_true_by v l)) (sym reached)
        (subst (λ c. here true true c (is_true_by v l)) (sym not_below)
        (subst (λ t. here true true false t) (sym value) done)))
    by false e =
        let apart : depth_in order l.variable ≡ depth → ⊥ = λ at. eqb-false l.variable x e (sym (slice_index-depth_in order l.variable k) ∙ ap (slice_index order) at) in
        let same : nat_le depth (depth_in order l.variable) ≡ nat_le (suc depth) (depth_in order l.variable) = grind (arith, nat_tests) in
        let done : here false (nat_le (suc depth) (depth_in order l.variable)) (nat_le (suc depth) (depth_in order l.variable)) (is_true_by v l) =
        other-side (v x) l.positive (nat_le (suc depth) (depth_in order l.variable)) (is_true_by v l) in
        subst (λ a. here a (nat_le depth (depth_in order l.variable)) (nat_le (suc depth) (depth_in order l.variable)) (is_true_by v l)) (sym e)
        (subst (λ b. here false b (nat_le (suc depth) (depth_in order l.variable)) (is_true_by v l)) (sym same) done)

-- one variable more
pub some_from-step : (order : List ℕ) (depth : ℕ) (lits : List Literal) (v : ℕ → Bool) → IsDistinct nat_eq order → depth < length order → AreIn order lits
    → (let x = slice_index order depth in
    some_from order depth lits v
    ≡ (if v x then (asks lits x true || some_from order (suc depth) lits v) else (asks lits x false || some_from order (suc depth) lits v)))
some_from-step order depth [] v d h k = ends (v (slice_index order depth))
  where
    ends : (b : Bool) → false ≡ (if b then false else false)
    ends true = refl
    ends false = refl
some_from-step order depth (l ∷ lits) v d h k =
    let x = slice_index order depth in
    (λ i. literal-step order depth l v d h k.0 i || some_from-step order depth lits v d h k.1 i)
    ∙ shuffle (v x) ((l.variable == x) && l.positive) ((l.variable == x) && not l.positive) (nat_le (suc depth) (depth_in order l.variable) && is_true_by v l)
    (asks lits x true) (asks lits x false) (some_from order (suc depth) lits v)

-- "true" where a test holds, and else the node
pub record IsChosen (d : Table) (node depth choice : ℕ) (test : Bool) : Type 0 where
  pub there : IsNode d choice
  pub below : depth < depth_of d choice
  pub means : (v : ℕ → Bool) → function_of d choice v ≡ (test || function_of d node v)

pub chosen : (d : Table) (node depth choice : ℕ) (test : Bool) → choice ≡ (if test then 1 else node) → IsNode d node → depth < length d.order → depth < depth_of d node
    → IsChosen d node depth choice test
chosen d node depth choice true e h k b = record {
  there = omega (arith, e);
  below = omega (arith, ap (depth_of d) e, depth_of-constant d 1 (lit< tt));
  means = λ v. ap (λ n. function_of d n v) e ∙ function_of-constant d 1 v (lit< tt);
}
chosen d node depth choice false e h k b = record {
  there = omega (arith, e);
  below = omega (arith, ap (depth_of d) e);
  means = λ v. ap (λ n. function_of d n v) e;
}

pub some_from-none : (d : Table) (lits : List Literal) (v : ℕ → Bool) → AreIn d.order lits → function_of d 0 v ≡ some_from d.order (length d.order) lits v
some_from-none d lits v h = function_of-constant d 0 v (lit< tt) ∙ sym (some_from-bottom d.order lits v h)

-- one step from the bottom upwards
pub some_from-more : (d new : Table) (lits : List Literal) (node k high low w variable : ℕ) → IsDistinct nat_eq d.order → AreIn d.order lits → k < length d.order
    → ((v : ℕ → Bool) → function_of d node v ≡ some_from d.order (suc k) lits v) → variable ≡ slice_index d.order k
    → IsChosen d node k high (asks lits variable true) → IsChosen d node k low (asks lits variable false) → Keeps d new → IsMade d new k high low w
    → (v : ℕ → Bool) → function_of new w v ≡ some_from new.order k lits v
some_from-more d new lits node k high low w variable distinct within h means at up down kept made v =
    let x = slice_index d.order k in
    made.function v
    ∙ (λ i. if v x then up.means v i else down.means v i)
    ∙ (λ i. if v x then (asks lits (at i) true || means v i) else (asks lits (at i) false || means v i))
    ∙ sym (some_from-step d.order k lits v distinct h within)
    ∙ (λ i. some_from (sym kept.order i) k lits v)
