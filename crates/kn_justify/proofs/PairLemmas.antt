-- From the children of a pair to the pair.
use Rattle.std.proofs.Common.{◌≡◌, ℕ, ◌+◌, ◌≤◌, ◌<◌, ◌++◌, ◌||◌, Bool, true, false, eqb, List, [], ◌∷◌, length, Some, refl, sym, ap, ◌∙◌, subst, arith, append_assoc}
use Rattle.std.proofs.lemmas.Bool.{cond-true, cond-false, eqb-true, or_left, or_right, and_from, le-leb}
use Rattle.kn_logic.specs.Literals.{Literal, negated, is_same, IsKnown}
use Rattle.kn_logic.proofs.Public.{same-refl, negated_twice}
use Rattle.kn_lines.specs.declared.line.Arm.{Arm}
use Rattle.kn_lines.specs.declared.line.Arm.TheVariants as arm
use Rattle.kn_rules.specs.declared.given.Given.{Given}
use Rattle.kn_rules.specs.States.{ProofState}
use Rattle.kn_rules.specs.Steps.{opposite}
use Rattle.kn_diagram.specs.declared.trace.Met.{Met}
use Rattle.kn_diagram.specs.Diagrams.{Table, IsTable, depth_of, high_of, low_of, high_at, low_at}
use Rattle.kn_diagram.proofs.Public.{is-branch}
use Rattle.kn_justify.specs.declared.name.Name.{Name}
use Rattle.kn_justify.specs.Arms.{Settled, Refuted, AreKnownArms, literals_of, is_trivial}
use Rattle.kn_justify.specs.Names.{name_of, arm_at, test_at, test_of, IsRightName, HasName, hint_at, side_hints, pair_arms, high_met, low_met, IsNamedMet}
use Rattle.kn_justify.proofs.HintLemmas.{side-refuted, second-refuted, halves-refuted, trivial-settled}
use Rattle.kn_justify.proofs.DefinitionLemmas.{high-down, low-down, high-up, low-up}
use Rattle.kn_justify.proofs.NameLemmas.{arm_named, pair-known}

-- "not u, or y, or u" and "u, or y, or not u" need no line
again : (l : Literal) → is_same (negated (negated l)) l ≡ true
again l = subst (λ (x : Literal). is_same x l ≡ true) (sym (negated_twice l)) (same-refl l)

same_around : (a y : Arm) → is_trivial (opposite a ∷ y ∷ a ∷ []) ≡ true
same_around arm.True arm.True = refl
same_around arm.True arm.False = refl
same_around arm.True (arm.Lit k) = refl
same_around arm.False y = refl
same_around (arm.Lit l) arm.True = refl
same_around (arm.Lit l) arm.False = or_left _ _ (or_left _ _ (again l))
same_around (arm.Lit l) (arm.Lit k) = or_left _ _ (or_right _ _ (or_left _ _ (again l)))

around_same : (a y : Arm) → is_trivial (a ∷ y ∷ opposite a ∷ []) ≡ true
around_same arm.True y = refl
around_same arm.False arm.True = refl
around_same arm.False arm.False = refl
around_same arm.False (arm.Lit k) = refl
around_same (arm.Lit l) arm.True = refl
around_same (arm.Lit l) arm.False = or_left _ _ (or_left _ _ (same-refl (negated l)))
around_same (arm.Lit l) (arm.Lit k) = or_left _ _ (or_right _ _ (or_left _ _ (same-refl (negated l))))

carry : (given : List Given) (ids here : List ℕ) (arms are : List Arm) → here ≡ ids → are ≡ arms → Settled given ids arms → Settled given here are
carry given ids here arms are e f h = subst (λ (x : List ℕ). Settled given x are) (sym e) (subst (λ (x : List Arm). Settled given ids x) (sym f) h)

-- what is known of a node of the variable at a depth
record Here (s : ProofState) (d : Table) (names : List (ℕ × Name)) (u depth : ℕ) : Type 0 where
  name : Name
  right : IsRightName s d names u name
  arm_is : arm_at names u ≡ arm.Lit name.lit
  test_is : test_at d depth ≡ test_of d u
  named_is : name_of names u ≡ Some name

here : (s : ProofState) (d : Table) (names : List (ℕ × Name)) (u depth : ℕ) → IsTable d → depth < length d.order → HasName s d names u → depth_of d u ≡ depth → Here s d names u depth
here s d names u depth ok within h e =
    let two = is-branch d u ok (omega (arith, e, within)) in
    let (n, is, right) = h two in
    record {
      name = n;
      right = right;
      arm_is = arm_named names u n two is;
      test_is = ap (λ (x : ℕ). test_at d x) (sym e);
      named_is = is;
    }

hint_here : (d : Table) (names : List (ℕ × Name)) (depth place u : ℕ) (n : Name) → eqb (depth_of d u) depth ≡ true → name_of names u ≡ Some n → hint_at d names depth place u ≡ (n.id + place) ∷ []
hint_here d names depth place u n e f = rw (e, f) refl

hint_none : (d : Table) (names : List (ℕ × Name)) (depth place u : ℕ) → eqb (depth_of d u) depth ≡ false → hint_at d names depth place u ≡ []
hint_none d names depth place u e = rw e refl

three : (a b c x y z : Arm) → a ≡ x → b ≡ y → c ≡ z → ◌≡◌ {A = List Arm} (a ∷ b ∷ c ∷ []) (x ∷ y ∷ z ∷ [])
three a b c x y z e f g = cc

-- the clauses of a node's definition, or none where the node is of a variable further down
pub high_down_at : (s : ProofState) (d : Table) (names : List (ℕ × Name)) (u depth : ℕ) (b : Bool) → IsTable d → depth < length d.order → HasName s d names u → eqb (depth_of d u) depth ≡ b
    → Settled s.given (hint_at d names depth 0 u) (opposite (arm_at names u) ∷ arm.Lit (negated (test_at d depth)) ∷ arm_at names (high_at d depth u) ∷ [])
high_down_at s d names u depth true ok within h e =
    let at = here s d names u depth ok within h (eqb-true _ _ e) in
    carry s.given _ _ _ _ (hint_here d names depth 0 u at.name e at.named_is)
    (three _ _ _ _ _ _ (ap (λ (x : Arm). opposite x) at.arm_is) (ap (λ (x : Literal). arm.Lit (negated x)) at.test_is) (ap (λ (x : ℕ). arm_at names x) (cond-true _ (high_of d u) u e)))
    (high-down s at.name (test_of d u) (arm_at names (high_of d u)) (arm_at names (low_of d u)) at.right.defined)
high_down_at s d names u depth false ok within h e =
    carry s.given [] _ _ _ (hint_none d names depth 0 u e) (three _ _ _ _ _ _ refl refl (ap (λ (x : ℕ). arm_at names x) (cond-false _ (high_of d u) u e)))
    (trivial-settled s.given _ (same_around (arm_at names u) (arm.Lit (negated (test_at d depth)))))

pub low_down_at : (s : ProofState) (d : Table) (names : List (ℕ × Name)) (u depth : ℕ) (b : Bool) → IsTable d → depth < length d.order → HasName s d names u → eqb (depth_of d u) depth ≡ b
    → Settled s.given (hint_at d names depth 1 u) (opposite (arm_at names u) ∷ arm.Lit (test_at d depth) ∷ arm_at names (low_at d depth u) ∷ [])
low_down_at s d names u depth true ok within h e =
    let at = here s d names u depth ok within h (eqb-true _ _ e) in
    carry s.given _ _ _ _ (hint_here d names depth 1 u at.name e at.named_is)
    (three _ _ _ _ _ _ (ap (λ (x : Arm). opposite x) at.arm_is) (ap (λ (x : Literal). arm.Lit x) at.test_is) (ap (λ (x : ℕ). arm_at names x) (cond-true _ (low_of d u) u e)))
    (low-down s at.name (test_of d u) (arm_at names (high_of d u)) (arm_at names (low_of d u)) at.right.defined)
low_down_at s d names u depth false ok within h e =
    carry s.given [] _ _ _ (hint_none d names depth 1 u e) (three _ _ _ _ _ _ refl refl (ap (λ (x : ℕ). arm_at names x) (cond-false _ (low_of d u) u e)))
    (trivial-settled s.given _ (same_around (arm_at names u) (arm.Lit (test_at d depth))))

pub high_up_at : (s : ProofState) (d : Table) (names : List (ℕ × Name)) (u depth : ℕ) (b : Bool) → IsTable d → depth < length d.order → HasName s d names u → eqb (depth_of d u) depth ≡ b
    → Settled s.given (hint_at d names depth 2 u) (arm_at names u ∷ arm.Lit (negated (test_at d depth)) ∷ opposite (arm_at names (high_at d depth u)) ∷ [])
high_up_at s d names u depth true ok within h e =
    let at = here s d names u depth ok within h (eqb-true _ _ e) in
    carry s.given _ _ _ _ (hint_here d names depth 2 u at.name e at.named_is)
    (three _ _ _ _ _ _ at.arm_is (ap (λ (x : Literal). arm.Lit (negated x)) at.test_is) (ap (λ (x : ℕ). opposite (arm_at names x)) (cond-true _ (high_of d u) u e)))
    (high-up s at.name (test_of d u) (arm_at names (high_of d u)) (arm_at names (low_of d u)) at.right.defined)
high_up_at s d names u depth false ok within h e =
    carry s.given [] _ _ _ (hint_none d names depth 2 u e) (three _ _ _ _ _ _ refl refl (ap (λ (x : ℕ). opposite (arm_at names x)) (cond-false _ (high_of d u) u e)))
    (trivial-settled s.given _ (around_same (arm_at names u) (arm.Lit (negated (test_at d depth)))))

pub low_up_at : (s : ProofState) (d : Table) (names : List (ℕ × Name)) (u depth : ℕ) (b : Bool) → IsTable d → depth < length d.order → HasName s d names u → eqb (depth_of d u) depth ≡ b
    → Settled s.given (hint_at d names depth 3 u) (arm_at names u ∷ arm.Lit (test_at d depth) ∷ opposite (arm_at names (low_at d depth u)) ∷ [])
low_up_at s d names u depth true ok within h e =
    let at = here s d names u depth ok within h (eqb-true _ _ e) in
    carry s.given _ _ _ _ (hint_here d names depth 3 u at.name e at.named_is)
    (three _ _ _ _ _ _ at.arm_is (ap (λ (x : Literal). arm.Lit x) at.test_is) (ap (λ (x : ℕ). opposite (arm_at names x)) (cond-true _ (low_of d u) u e)))
    (low-up s at.name (test_of d u) (arm_at names (high_of d u)) (arm_at names (low_of d u)) at.right.defined)
low_up_at s d names u depth false ok within h e =
    carry s.given [] _ _ _ (hint_none d names depth 3 u e) (three _ _ _ _ _ _ refl refl (ap (λ (x : ℕ). opposite (arm_at names x)) (cond-false _ (low_of d u) u e)))
    (trivial-settled s.given _ (around_same (arm_at names u) (arm.Lit (test_at d depth))))

-- The first line of a pair, by the lemma of the pair of its highs.
pub first-refuted : (s : ProofState) (d : Table) (names : List (ℕ × Name)) (m : Met) (depth : ℕ) (child hints : List ℕ) (arms : List Arm) → IsTable d → depth < length d.order → IsNamedMet s d names m
    → Settled s.given child (pair_arms names (high_met d depth m))
    → hints ≡ side_hints d names depth 0 2 m child → arms ≡ arm.Lit (negated (test_at d depth)) ∷ pair_arms names m → Refuted s.given hints arms
first-refuted s d names m depth child hints arms ok within h c e f =
    subst (λ (x : List ℕ). Refuted s.given x arms) (sym e) (subst (λ (x : List Arm). Refuted s.given (side_hints d names depth 0 2 m child) x) (sym f)
    (side-refuted s.given _ (arm_at names m.u) (arm_at names m.v) (arm_at names m.w) (arm_at names (high_at d depth m.u)) (arm_at names (high_at d depth m.v)) (arm_at names (high_at d depth m.w))
    (hint_at d names depth 0 m.u) (hint_at d names depth 0 m.v) child (hint_at d names depth 2 m.w)
    (high_down_at s d names m.u depth _ ok within h.u_named refl) (high_down_at s d names m.v depth _ ok within h.v_named refl) c (high_up_at s d names m.w depth _ ok within h.w_named refl)))

-- The second line, by the first and the lemma of the pair of its lows.
pub second-refuted-by : (s : ProofState) (d : Table) (names : List (ℕ × Name)) (m : Met) (depth : ℕ) (first child hints : List ℕ) (arms : List Arm) → IsTable d → depth < length d.order → IsNamedMet s d names m
    → Settled s.given first (arm.Lit (negated (test_at d depth)) ∷ pair_arms names m) → Settled s.given child (pair_arms names (low_met d depth m))
    → hints ≡ first ++ side_hints d names depth 1 3 m child → arms ≡ pair_arms names m → Refuted s.given hints arms
second-refuted-by s d names m depth first child hints arms ok within h one c e f =
    subst (λ (x : List ℕ). Refuted s.given x arms) (sym e) (subst (λ (x : List Arm). Refuted s.given (first ++ side_hints d names depth 1 3 m child) x) (sym f)
    (second-refuted s.given (test_at d depth) (pair_arms names m) first (side_hints d names depth 1 3 m child) one
    (side-refuted s.given _ (arm_at names m.u) (arm_at names m.v) (arm_at names m.w) (arm_at names (low_at d depth m.u)) (arm_at names (low_at d depth m.v)) (arm_at names (low_at d depth m.w))
    (hint_at d names depth 1 m.u) (hint_at d names depth 1 m.v) child (hint_at d names depth 3 m.w)
    (low_down_at s d names m.u depth _ ok within h.u_named refl) (low_down_at s d names m.v depth _ ok within h.v_named refl) c (low_up_at s d names m.w depth _ ok within h.w_named refl))))

pub first-known : (s : ProofState) (d : Table) (names : List (ℕ × Name)) (m : Met) (x : Literal) (arms : List Arm) → IsNamedMet s d names m → IsKnown s.vars x → arms ≡ arm.Lit (negated x) ∷ pair_arms names m → AreKnownArms s.vars arms
first-known s d names m x arms h known e =
    subst (AreKnownArms s.vars) (sym e) (and_from _ _ (le-leb _ _ known.0) (le-leb _ _ known.1), pair-known s d names m h)

pub first-filled : (x : Literal) (arms more : List Arm) → arms ≡ arm.Lit x ∷ more → literals_of arms ≡ [] → is_trivial arms ≡ true
first-filled x arms more e f = (let g : literals_of (arm.Lit x ∷ more) ≡ [] = sym (ap literals_of e) ∙ f in absurd cc)

-- At the variable that is quantified: the node's own two clauses, and the lemmas of its halves.
pub at-refuted : (s : ProofState) (d : Table) (names : List (ℕ × Name)) (u w depth : ℕ) (hh hl hints : List ℕ) (arms : List Arm) → IsTable d → depth < length d.order → depth_of d u ≡ depth → HasName s d names u
    → Settled s.given hh (pair_arms names (record { u = high_at d depth u; v = 1; w = w })) → Settled s.given hl (pair_arms names (record { u = low_at d depth u; v = 1; w = w }))
    → hints ≡ hh ++ (hl ++ (hint_at d names depth 0 u ++ hint_at d names depth 1 u)) → arms ≡ pair_arms names (record { u = u; v = 1; w = w }) → Refuted s.given hints arms
at-refuted s d names u w depth hh hl hints arms ok within at h jh jl e f =
    subst (λ (x : List ℕ). Refuted s.given x arms) (sym e) (subst (λ (x : List Arm). Refuted s.given (hh ++ (hl ++ (hint_at d names depth 0 u ++ hint_at d names depth 1 u))) x) (sym f)
    (halves-refuted s.given (test_at d depth) (arm_at names u) (arm_at names w) (arm_at names (high_at d depth u)) (arm_at names (low_at d depth u)) hh hl (hint_at d names depth 0 u) (hint_at d names depth 1 u) jh jl
    (high_down_at s d names u depth _ ok within h refl) (low_down_at s d names u depth _ ok within h refl)))

pub four_pushed : (p q r s hh hl a b : List ℕ) → p ≡ [] ++ hh → q ≡ p ++ hl → r ≡ q ++ a → s ≡ r ++ b → s ≡ hh ++ (hl ++ (a ++ b))
four_pushed p q r s hh hl a b e f g h =
    h ∙ ap (λ (x : List ℕ). x ++ b) (g ∙ ap (λ (x : List ℕ). x ++ a) (f ∙ ap (λ (x : List ℕ). x ++ hl) e))
    ∙ append_assoc (hh ++ hl) a b ∙ append_assoc hh hl (a ++ b)
