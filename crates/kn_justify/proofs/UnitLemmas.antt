-- The units of nodes.
use Rattle.std.proofs.Common.{◌≡◌, ℕ, ◌+◌, ◌≤◌, ◌<◌, ◌==◌, ◌++◌, false, if◌then◌else◌, List, [], ◌∷◌, Option, None, Some, refl, sym, ap, ◌∙◌, subst, arith, append_assoc}
use Rattle.std.specs.Prelude.{option_to_list}
use Rattle.std.proofs.lemmas.Bool.{cond-false, ne_eqb}
use Rattle.kn_lines.specs.declared.line.Arm.{Arm}
use Rattle.kn_lines.specs.declared.line.Arm.TheVariants as arm
use Rattle.kn_rules.specs.declared.given.Given.{Given}
use Rattle.kn_rules.specs.States.{ProofState}
use Rattle.kn_diagram.specs.declared.trace.Met.{Met}
use Rattle.kn_justify.specs.declared.name.Name.{Name}
use Rattle.kn_justify.specs.Arms.{is_trivial, Settled, Refuted}
use Rattle.kn_justify.specs.Growth.{Grown}
use Rattle.kn_justify.specs.Names.{name_of, arm_by, arm_at, pair_arms, IsUnit}
use Rattle.kn_justify.proofs.GrowthLemmas.{grown-live}
use Rattle.kn_justify.proofs.HintLemmas.{clause-settled, trivial-settled, unit-refuted}

branch-arm : (names : List (ℕ × Name)) (node : ℕ) → 2 ≤ node → arm_at names node ≡ arm_by (name_of names node)
branch-arm names node two =
    cond-false (node == 0) arm.False (if node == 1 then arm.True else arm_by (name_of names node)) (ne_eqb node 0 (λ e. omega (arith, two, e)))
    ∙ cond-false (node == 1) arm.True (arm_by (name_of names node)) (ne_eqb node 1 (λ e. omega (arith, two, e)))

not-trivial : (o : Option Name) → is_trivial (arm_by o ∷ []) ≡ false
not-trivial None = refl
not-trivial (Some n) = refl

-- a unit is what a clause of the node's arm alone does
pub unit-settled : (given : List Given) (names : List (ℕ × Name)) (node : ℕ) (id : Option ℕ) → IsUnit given names node id → Settled given (option_to_list id) (arm_at names node ∷ [])
unit-settled given names node None e = subst (λ (x : ℕ). Settled given [] (arm_at names x ∷ [])) (sym e) (trivial-settled given (arm.True ∷ []) refl)
unit-settled given names node (Some id) (two, live) =
    clause-settled given id (arm_at names node ∷ []) live (ap (λ (a : Arm). is_trivial (a ∷ [])) (branch-arm names node two) ∙ not-trivial (name_of names node))

pub unit-grows : (old new : ProofState) (names : List (ℕ × Name)) (node : ℕ) (id : Option ℕ) → Grown old new → IsUnit old.given names node id → IsUnit new.given names node id
unit-grows old new names node None g e = e
unit-grows old new names node (Some id) g (two, live) = (two, grown-live old new id _ g live)

pub unit-by : (given : List Given) (names : List (ℕ × Name)) (m : Met) (left right lemma hints p q : List ℕ) → Settled given left (arm_at names m.u ∷ []) → Settled given right (arm_at names m.v ∷ []) → Settled given lemma (pair_arms names m)
    → p ≡ [] ++ left → q ≡ p ++ right → hints ≡ q ++ lemma → Refuted given hints (arm_at names m.w ∷ [])
unit-by given names m left right lemma hints p q a b c e f g =
    subst (λ (x : List ℕ). Refuted given x (arm_at names m.w ∷ [])) (sym (g ∙ ap (λ (x : List ℕ). x ++ lemma) (f ∙ ap (λ (x : List ℕ). x ++ right) e) ∙ append_assoc left right lemma))
    (unit-refuted given (arm_at names m.u) (arm_at names m.v) (arm_at names m.w) left right lemma a b c)
