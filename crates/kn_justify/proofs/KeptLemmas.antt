-- Names that are kept while others come.
use Rattle.std.proofs.Common.{◌≡◌, ℕ, zero, suc, ◌+◌, ◌≤◌, ◌<◌, ◌==◌, ◌⊎◌, ◌++◌, true, if◌then◌else◌, List, [], ◌∷◌, nat_eq, Option, Some, None, refl, sym, ap, ◌∙◌, subst, inl, inr, arith}
use Rattle.std.proofs.lemmas.Bool.{cases_lt, eq-eqb, eqb-true}
use Rattle.kn_logic.specs.Literals.{Literal, IsKnown}
use Rattle.kn_lines.specs.declared.line.Arm.{Arm}
use Rattle.kn_lines.specs.declared.line.Arm.TheVariants as arm
use Rattle.kn_rules.specs.States.{ProofState}
use Rattle.kn_diagram.specs.Diagrams.{Table, IsTable, IsNode, high_of, low_of}
use Rattle.kn_diagram.specs.Widths.{reaches}
use Rattle.kn_diagram.proofs.Public.{has_nodes}
use Rattle.kn_justify.specs.declared.name.Name.{Name}
use Rattle.kn_justify.specs.Growth.{Grown}
use Rattle.kn_justify.specs.Definitions.{IsDefined}
use Rattle.kn_justify.specs.Names.{name_of, arm_by, arm_at, test_of, IsRightName, IsNamed, AreRight, AreKept, AreOfReached, AreReachedKnown}
use Rattle.kn_justify.proofs.LookupLemmas.{lookup-kept, lookup-last, lookup-either}
use Rattle.kn_justify.proofs.ReachLemmas.{reaches-own, reaches-high, reaches-low, reached-all}
use Rattle.kn_justify.proofs.NameLemmas.{right-grows}

-- the arm of a named node stays
arm_stays : (old new : List (ℕ × Name)) (x : ℕ) → AreKept old new → IsNamed old x → ((x < 2) ⊎ (2 ≤ x)) → arm_at new x ≡ arm_at old x
arm_stays old new zero k h c = refl
arm_stays old new (suc zero) k h c = refl
arm_stays old new (suc (suc x)) k h (inl c) = absurd (omega arith)
arm_stays old new (suc (suc x)) k h (inr c) =
    let (n, e) = h c in
    ap (λ (o : Option Name). if suc (suc x) == 0 then arm.False else if suc (suc x) == 1 then arm.True else arm_by o) (k (suc (suc x)) n e ∙ sym e)

pub arm-stays : (old new : List (ℕ × Name)) (x : ℕ) → AreKept old new → IsNamed old x → arm_at new x ≡ arm_at old x
arm-stays old new x k h = arm_stays old new x k h (cases_lt x 2)

pub named-stays : (old new : List (ℕ × Name)) (x : ℕ) → AreKept old new → IsNamed old x → IsNamed new x
named-stays old new x k h two = (let (n, e) = h two in (n, k x n e))

pub kept-join : (a b c : List (ℕ × Name)) → AreKept a b → AreKept b c → AreKept a c
kept-join a b c h k node n e = k node n (h node n e)

pub kept-pushed : (names : List (ℕ × Name)) (node : ℕ) (n : Name) → AreKept names (names ++ (node, n) ∷ [])
kept-pushed names node n x m e = lookup-kept (nat_eq x) names ((node, n) ∷ []) m e

-- a right name stays right where its node's two nodes keep their arms
right-stays : (s : ProofState) (d : Table) (old new : List (ℕ × Name)) (x : ℕ) (m : Name) → AreKept old new → IsNamed old (high_of d x) → IsNamed old (low_of d x) → IsRightName s d old x m → IsRightName s d new x m
right-stays s d old new x m k kh kl r = record {
  test = r.test;
  defined = subst (λ (a : Arm). IsDefined s m (test_of d x) (arm_at new (high_of d x)) a) (sym (arm-stays old new (low_of d x) k kl))
      (subst (λ (a : Arm). IsDefined s m (test_of d x) a (arm_at old (low_of d x))) (sym (arm-stays old new (high_of d x) k kh)) r.defined);
}

-- With the name of a node behind the others, all names are right.
pub names-right : (s t : ProofState) (d : Table) (names : List (ℕ × Name)) (node : ℕ) (n : Name) → AreRight s d names → Grown s t → IsKnown s.vars (test_of d node)
    → IsNamed names (high_of d node) → IsNamed names (low_of d node) → IsDefined t n (test_of d node) (arm_at names (high_of d node)) (arm_at names (low_of d node)) → AreRight t d (names ++ (node, n) ∷ [])
names-right s t d names node n r g known kh kl defined = record {
  right = λ x m e. by_right x m (lookup-either (nat_eq x) names node n m e);
  high = λ x m e. by_high x m (lookup-either (nat_eq x) names node n m e);
  low = λ x m e. by_low x m (lookup-either (nat_eq x) names node n m e);
}
  where
    more : List (ℕ × Name)
    more = names ++ (node, n) ∷ []

    kept : AreKept names more
    kept = kept-pushed names node n

    own : IsRightName t d names node n
    own = record { test = (known.0, omega (arith, known.1, g.vars)); defined = defined }

    by_right : (x : ℕ) (m : Name) → (name_of names x ≡ Some m) ⊎ ((nat_eq x node ≡ true) × (m ≡ n)) → IsRightName t d more x m
    by_right x m (inl h) = right-stays t d names more x m kept (r.high x m h) (r.low x m h) (right-grows s t d names x m g (r.right x m h))
    by_right x m (inr h) =
        subst (λ (y : ℕ). IsRightName t d more y m) (sym (eqb-true x node h.0))
        (subst (λ (y : Name). IsRightName t d more node y) (sym h.1) (right-stays t d names more node n kept kh kl own))

    by_high : (x : ℕ) (m : Name) → (name_of names x ≡ Some m) ⊎ ((nat_eq x node ≡ true) × (m ≡ n)) → IsNamed more (high_of d x)
    by_high x m (inl h) = named-stays names more (high_of d x) kept (r.high x m h)
    by_high x m (inr h) = subst (λ (y : ℕ). IsNamed more (high_of d y)) (sym (eqb-true x node h.0)) (named-stays names more (high_of d node) kept kh)

    by_low : (x : ℕ) (m : Name) → (name_of names x ≡ Some m) ⊎ ((nat_eq x node ≡ true) × (m ≡ n)) → IsNamed more (low_of d x)
    by_low x m (inl h) = named-stays names more (low_of d x) kept (r.low x m h)
    by_low x m (inr h) = subst (λ (y : ℕ). IsNamed more (low_of d y)) (sym (eqb-true x node h.0)) (named-stays names more (low_of d node) kept kl)

pub last-named : (names : List (ℕ × Name)) (node : ℕ) (n : Name) → name_of names node ≡ None → IsNamed (names ++ (node, n) ∷ []) node
last-named names node n e two = (n, lookup-last (nat_eq node) names node n e (eq-eqb node node refl))

pub reached-last : (d : Table) (names : List (ℕ × Name)) (node : ℕ) (n : Name) → AreOfReached d node names (names ++ (node, n) ∷ [])
reached-last d names node n = λ x m e. by x m (lookup-either (nat_eq x) names node n m e)
  where
    by : (x : ℕ) (m : Name) → (name_of names x ≡ Some m) ⊎ ((nat_eq x node ≡ true) × (m ≡ n)) → (name_of names x ≡ Some m) ⊎ (reaches d node x ≡ true)
    by x m (inl h) = inl h
    by x m (inr h) = inr (subst (λ (y : ℕ). reaches d node y ≡ true) (sym (eqb-true x node h.0)) (reaches-own d node))

-- what is reached is no newer
pub reaches-le : (d : Table) (f node : ℕ) → IsTable d → IsNode d f → reaches d f node ≡ true → node ≤ f
reaches-le d f node ok there e =
    reached-all (λ x. x ≤ f) d f node ok there (omega arith)
    (λ x two here below. (omega (arith, ((has_nodes d ok).branch x two here).high_older, below), omega (arith, ((has_nodes d ok).branch x two here).low_older, below))) e

-- names that came for two nodes of a node are of nodes that it reaches
reached_high : (d : Table) (f x : ℕ) (o : Type 0) → IsTable d → IsNode d f → 2 ≤ f → o ⊎ (reaches d (high_of d f) x ≡ true) → o ⊎ (reaches d f x ≡ true)
reached_high d f x o ok there two (inl h) = inl h
reached_high d f x o ok there two (inr h) = inr (reaches-high d f x ok there two h)

reached_low : (d : Table) (f x : ℕ) (o p : Type 0) → IsTable d → IsNode d f → 2 ≤ f → (p → o ⊎ (reaches d f x ≡ true)) → p ⊎ (reaches d (low_of d f) x ≡ true) → o ⊎ (reaches d f x ≡ true)
reached_low d f x o p ok there two before (inl h) = before h
reached_low d f x o p ok there two before (inr h) = inr (reaches-low d f x ok there two h)

pub reached-high : (d : Table) (f high : ℕ) (a b : List (ℕ × Name)) → IsTable d → IsNode d f → 2 ≤ f → high ≡ high_of d f → AreOfReached d high a b → AreOfReached d f a b
reached-high d f high a b ok there two e p = λ x m k. reached_high d f x (name_of a x ≡ Some m) ok there two (subst (λ (y : ℕ). (name_of a x ≡ Some m) ⊎ (reaches d y x ≡ true)) e (p x m k))

pub reached-join : (d : Table) (f low : ℕ) (a b c : List (ℕ × Name)) → IsTable d → IsNode d f → 2 ≤ f → low ≡ low_of d f → AreOfReached d f a b → AreOfReached d low b c → AreOfReached d f a c
reached-join d f low a b c ok there two e p q =
    λ x m k. reached_low d f x (name_of a x ≡ Some m) (name_of b x ≡ Some m) ok there two (p x m) (subst (λ (y : ℕ). (name_of b x ≡ Some m) ⊎ (reaches d y x ≡ true)) e (q x m k))

reached_again : (o p r : Type 0) → (p → o ⊎ r) → p ⊎ r → o ⊎ r
reached_again o p r before (inl h) = before h
reached_again o p r before (inr h) = inr h

pub reached-more : (d : Table) (f : ℕ) (a b c : List (ℕ × Name)) → AreOfReached d f a b → AreOfReached d f b c → AreOfReached d f a c
reached-more d f a b c p q = λ x m k. reached_again (name_of a x ≡ Some m) (name_of b x ≡ Some m) (reaches d f x ≡ true) (p x m) (q x m k)

-- the variables of what the two nodes of a node reach are known
pub known-high : (vars more : ℕ) (d : Table) (f high : ℕ) → IsTable d → IsNode d f → 2 ≤ f → high ≡ high_of d f → vars ≤ more → AreReachedKnown vars d f → AreReachedKnown more d high
known-high vars more d f high ok there two e le h x r twox =
    let k = h x (reaches-high d f x ok there two (subst (λ (y : ℕ). reaches d y x ≡ true) e r)) twox in (k.0, omega (arith, k.1, le))

pub known-low : (vars more : ℕ) (d : Table) (f low : ℕ) → IsTable d → IsNode d f → 2 ≤ f → low ≡ low_of d f → vars ≤ more → AreReachedKnown vars d f → AreReachedKnown more d low
known-low vars more d f low ok there two e le h x r twox =
    let k = h x (reaches-low d f x ok there two (subst (λ (y : ℕ). reaches d y x ≡ true) e r)) twox in (k.0, omega (arith, k.1, le))

-- a node that had no name has none behind those of its two nodes
absent_at : (d : Table) (high low f : ℕ) (a b : List (ℕ × Name)) (m : Name) → IsTable d → IsNode d high → high < f → name_of a f ≡ None → (name_of a f ≡ Some m) ⊎ (reaches d high f ≡ true) → ⊥
absent_at d high low f a b m ok there lower none (inl h) = not_both (sym none ∙ h)
  where
    not_both : ◌≡◌ {A = Option Name} None (Some m) → ⊥
    not_both x = cc
absent_at d high low f a b m ok there lower none (inr h) = omega (arith, reaches-le d high f ok there h, lower)

none_by : (o : Option Name) → ((m : Name) → o ≡ Some m → ⊥) → o ≡ None
none_by None h = refl
none_by (Some m) h = absurd (h m refl)

pub still-absent : (d : Table) (f below : ℕ) (a b : List (ℕ × Name)) → IsTable d → IsNode d below → below < f → AreOfReached d below a b → name_of a f ≡ None → name_of b f ≡ None
still-absent d f below a b ok there lower p none = none_by (name_of b f) (λ m e. absent_at d below below f a b m ok there lower none (p f m e))

pub defined-as : (s : ProofState) (n : Name) (x y : Literal) (a b e f : Arm) → x ≡ y → a ≡ b → e ≡ f → IsDefined s n x a e → IsDefined s n y b f
defined-as s n x y a b e f p q r h =
    subst (λ (z : Literal). IsDefined s n z b f) p (subst (λ (z : Arm). IsDefined s n x z f) q (subst (λ (z : Arm). IsDefined s n x a z) r h))
