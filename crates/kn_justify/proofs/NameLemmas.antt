-- Names that are right, and stay so; and the nodes that are reached from a named one.
use Rattle.std.proofs.Common.{◌≡◌, ℕ, zero, suc, ◌+◌, ◌≤◌, ◌<◌, ◌==◌, ◌||◌, ◌⊎◌, true, if◌then◌else◌, List, [], ◌∷◌, Some, refl, sym, ◌∙◌, subst, inl, inr, arith}
use Rattle.std.proofs.lemmas.Bool.{and_from, le-leb, ne_eqb, cases_lt}
use Rattle.std.proofs.lemmas.Option.{same_Some}
use Rattle.kn_logic.specs.Literals.{Literal}
use Rattle.kn_lines.specs.declared.line.Arm.{Arm}
use Rattle.kn_lines.specs.declared.line.Arm.TheVariants as arm
use Rattle.kn_rules.specs.States.{ProofState}
use Rattle.kn_rules.specs.Steps.{opposite, is_known_arm}
use Rattle.kn_diagram.specs.declared.trace.Met.{Met}
use Rattle.kn_diagram.specs.Diagrams.{Table, IsTable, IsNode, high_of, low_of}
use Rattle.kn_justify.specs.declared.name.Name.{Name}
use Rattle.kn_justify.specs.Arms.{literals_of, AreKnownArms}
use Rattle.kn_justify.specs.Growth.{Grown}
use Rattle.kn_justify.specs.Names.{name_of, arm_at, IsRightName, IsNamed, HasName, HasNames, AreRight, pair_arms, IsNamedMet}
use Rattle.kn_justify.proofs.DefinitionLemmas.{defined-grows}
use Rattle.kn_justify.proofs.ReachLemmas.{reaches-own, reaches-high, reaches-low, reached-all}

pub right-grows : (old new : ProofState) (d : Table) (names : List (ℕ × Name)) (node : ℕ) (n : Name) → Grown old new → IsRightName old d names node n → IsRightName new d names node n
right-grows old new d names node n g r = record {
  test = (r.test.0, omega (arith, r.test.1, g.vars));
  defined = defined-grows old new n _ _ _ g r.defined;
}

pub has-name-grows : (old new : ProofState) (d : Table) (names : List (ℕ × Name)) (node : ℕ) → Grown old new → HasName old d names node → HasName new d names node
has-name-grows old new d names node g h two = (let (n, is, r) = h two in (n, is, right-grows old new d names node n g r))

pub has-names-grow : (old new : ProofState) (d : Table) (names : List (ℕ × Name)) (f : ℕ) → Grown old new → HasNames old d names f → HasNames new d names f
has-names-grow old new d names f g h node e = has-name-grows old new d names node g (h node e)

pub are-right-grow : (old new : ProofState) (d : Table) (names : List (ℕ × Name)) → Grown old new → AreRight old d names → AreRight new d names
are-right-grow old new d names g r = record {
  right = λ node n e. right-grows old new d names node n g (r.right node n e);
  high = r.high;
  low = r.low;
}

pub has-name : (s : ProofState) (d : Table) (names : List (ℕ × Name)) (node : ℕ) → AreRight s d names → IsNamed names node → HasName s d names node
has-name s d names node r k two = (let (n, is) = k two in (n, is, r.right node n is))

-- the arms of named nodes
pub arm_named : (names : List (ℕ × Name)) (u : ℕ) (n : Name) → 2 ≤ u → name_of names u ≡ Some n → arm_at names u ≡ arm.Lit n.lit
arm_named names u n h e = rw (ne_eqb u 0 (λ z. omega (arith, h, z)), ne_eqb u 1 (λ z. omega (arith, h, z)), e) refl

known_at : (s : ProofState) (d : Table) (names : List (ℕ × Name)) (node : ℕ) → HasName s d names node → ((node < 2) ⊎ (2 ≤ node)) → is_known_arm s.vars (arm_at names node) ≡ true
known_at s d names zero h c = refl
known_at s d names (suc zero) h c = refl
known_at s d names (suc (suc node)) h (inl c) = absurd (omega arith)
known_at s d names (suc (suc node)) h (inr c) =
    let (n, is, r) = h c in
    subst (λ (a : Arm). is_known_arm s.vars a ≡ true) (sym (arm_named names (suc (suc node)) n c is)) (and_from _ _ (le-leb _ _ r.defined.known.0) (le-leb _ _ r.defined.known.1))

pub arm_known : (s : ProofState) (d : Table) (names : List (ℕ × Name)) (node : ℕ) → HasName s d names node → is_known_arm s.vars (arm_at names node) ≡ true
arm_known s d names node h = known_at s d names node h (cases_lt node 2)

opposite_known : (vars : ℕ) (a : Arm) → is_known_arm vars a ≡ true → is_known_arm vars (opposite a) ≡ true
opposite_known vars arm.True h = refl
opposite_known vars arm.False h = refl
opposite_known vars (arm.Lit l) h = h

pub pair-known : (s : ProofState) (d : Table) (names : List (ℕ × Name)) (m : Met) → IsNamedMet s d names m → AreKnownArms s.vars (pair_arms names m)
pair-known s d names m h =
    (opposite_known s.vars (arm_at names m.u) (arm_known s d names m.u h.u_named), (opposite_known s.vars (arm_at names m.v) (arm_known s d names m.v h.v_named), (arm_known s d names m.w h.w_named, tt)))

some-literal : (l : Literal) (arms : List Arm) → literals_of (opposite (arm.Lit l) ∷ arms) ≡ [] → ⊥
some-literal l arms e = cc

-- where the first node is no constant, the lemma of an entry has a literal
pub pair-filled : (s : ProofState) (d : Table) (names : List (ℕ × Name)) (m : Met) → HasName s d names m.u → 2 ≤ m.u → literals_of (pair_arms names m) ≡ [] → ⊥
pair-filled s d names m h two e =
    let (n, is, r) = h two in
    some-literal n.lit (opposite (arm_at names m.v) ∷ arm_at names m.w ∷ [])
    (subst (λ (a : Arm). literals_of (opposite a ∷ opposite (arm_at names m.v) ∷ arm_at names m.w ∷ []) ≡ []) (arm_named names m.u n two is) e)

pub met-grows : (old new : ProofState) (d : Table) (names : List (ℕ × Name)) (m : Met) → Grown old new → IsNamedMet old d names m → IsNamedMet new d names m
met-grows old new d names m g h = record {
  u_there = h.u_there;
  v_there = h.v_there;
  w_there = h.w_there;
  u_named = has-name-grows old new d names m.u g h.u_named;
  v_named = has-name-grows old new d names m.v g h.v_named;
  w_named = has-name-grows old new d names m.w g h.w_named;
}

-- a node that has right names where it is reached
pub has-own : (s : ProofState) (d : Table) (names : List (ℕ × Name)) (f : ℕ) → HasNames s d names f → HasName s d names f
has-own s d names f h = h f (reaches-own d f)

pub has-high : (s : ProofState) (d : Table) (names : List (ℕ × Name)) (f : ℕ) → IsTable d → IsNode d f → 2 ≤ f → HasNames s d names f → HasNames s d names (high_of d f)
has-high s d names f ok there two h node e = h node (reaches-high d f node ok there two e)

pub has-low : (s : ProofState) (d : Table) (names : List (ℕ × Name)) (f : ℕ) → IsTable d → IsNode d f → 2 ≤ f → HasNames s d names f → HasNames s d names (low_of d f)
has-low s d names f ok there two h node e = h node (reaches-low d f node ok there two e)

-- where all names are right, what is reached from a named node has a right name
pub has-names : (s : ProofState) (d : Table) (names : List (ℕ × Name)) (f : ℕ) → IsTable d → IsNode d f → AreRight s d names → IsNamed names f → HasNames s d names f
has-names s d names f ok there r k node e =
    has-name s d names node r (reached-all (IsNamed names) d f node ok there k (λ x two here named. (r.high x (named two).0 (named two).1, r.low x (named two).0 (named two).1)) e)

-- the name that is found is right
pub name-right : (s : ProofState) (d : Table) (names : List (ℕ × Name)) (node : ℕ) (n : Name) → HasName s d names node → 2 ≤ node → name_of names node ≡ Some n → IsRightName s d names node n
name-right s d names node n h two e =
    let (m, is, r) = h two in
    subst (λ (x : Name). IsRightName s d names node x) (same_Some m n (sym is ∙ e)) r

pub is-named : (s : ProofState) (d : Table) (names : List (ℕ × Name)) (node : ℕ) → HasName s d names node → IsNamed names node
is-named s d names node h two = (let (m, is, r) = h two in (m, is))
