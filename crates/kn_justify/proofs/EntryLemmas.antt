-- The entries of a join: those that are closed need no line, the others rest on their children.
use Rattle.std.proofs.Common.{◌≡◌, ℕ, zero, suc, ◌+◌, ◌≤◌, ◌<◌, ◌==◌, ◌&&◌, ◌||◌, ◌⊎◌, ◌++◌, Bool, true, false, List, [], ◌∷◌, length, nat_eq, Option, Some, refl, sym, ap, ◌∙◌, subst, inl, inr, arith}
use Rattle.std.specs.Prelude.{option_to_list}
use Rattle.std.proofs.lemmas.Bool.{or_left, or_right, and_parts, eqb-true, cond-false, ne_eqb}
use Rattle.kn_logic.specs.Literals.{Literal, negated, is_same}
use Rattle.kn_logic.proofs.Public.{same-refl, negated_twice}
use Rattle.kn_lines.specs.declared.line.Arm.{Arm}
use Rattle.kn_lines.specs.declared.line.Arm.TheVariants as arm
use Rattle.kn_rules.specs.declared.given.Given.{Given}
use Rattle.kn_rules.specs.States.{ProofState}
use Rattle.kn_rules.specs.Steps.{opposite}
use Rattle.kn_diagram.specs.declared.trace.Met.{Met}
use Rattle.kn_diagram.specs.Diagrams.{Table, IsTable, IsNode, function_of, depth_of, high_of, low_of, high_at, low_at}
use Rattle.kn_diagram.specs.Traces.{IsRight}
use Rattle.kn_diagram.proofs.Public.{canonical, has_nodes, depth_of-branch, high-is, low-is}
use Rattle.kn_justify.specs.declared.name.Name.{Name}
use Rattle.kn_justify.specs.declared.side.Side.{Side}
use Rattle.kn_justify.specs.declared.side.Side.TheVariants.{Both, Left, Right}
use Rattle.kn_justify.specs.Arms.{Settled, is_trivial}
use Rattle.kn_justify.specs.Names.{arm_at, HasName, pair_arms, high_met, low_met, IsNamedMet}
use Rattle.kn_justify.specs.Lemmas.{lemma_of, alone, seen, joined, IsJoined, AreJoined, IsOpen, IsClosed, depth_at}
use Rattle.kn_justify.proofs.HintLemmas.{trivial-settled}
use Rattle.kn_justify.proofs.LookupLemmas.{lookup-holds}

again : (l : Literal) → is_same (negated (negated l)) l ≡ true
again l = subst (λ (x : Literal). is_same x l ≡ true) (sym (negated_twice l)) (same-refl l)

-- "not a, or not b, or a", and "not b, or not a, or a"
pub first_same : (a b : Arm) → is_trivial (opposite a ∷ opposite b ∷ a ∷ []) ≡ true
first_same arm.True arm.True = refl
first_same arm.True arm.False = refl
first_same arm.True (arm.Lit k) = refl
first_same arm.False b = refl
first_same (arm.Lit l) arm.True = or_left _ _ (or_left _ _ (again l))
first_same (arm.Lit l) arm.False = refl
first_same (arm.Lit l) (arm.Lit k) = or_left _ _ (or_right _ _ (or_left _ _ (again l)))

second_same : (a b : Arm) → is_trivial (opposite b ∷ opposite a ∷ a ∷ []) ≡ true
second_same a arm.False = refl
second_same arm.True arm.True = refl
second_same arm.False arm.True = refl
second_same (arm.Lit l) arm.True = or_left _ _ (or_left _ _ (again l))
second_same arm.True (arm.Lit k) = refl
second_same arm.False (arm.Lit k) = refl
second_same (arm.Lit l) (arm.Lit k) = or_right _ _ (or_left _ _ (or_left _ _ (again l)))

-- a clause with a constant that is true
true_second : (a b : Arm) → is_trivial (a ∷ arm.True ∷ b ∷ []) ≡ true
true_second arm.True b = refl
true_second arm.False b = refl
true_second (arm.Lit l) b = refl

true_third : (a : Arm) → is_trivial (a ∷ arm.False ∷ arm.True ∷ []) ≡ true
true_third arm.True = refl
true_third arm.False = refl
true_third (arm.Lit l) = refl

and_same : (b : Bool) → (b && b) ≡ b
and_same true = refl
and_same false = refl

and_true : (b : Bool) → (b && true) ≡ b
and_true true = refl
and_true false = refl

or_same : (b : Bool) → (b || b) ≡ b
or_same true = refl
or_same false = refl

or_none : (b : Bool) → (b || false) ≡ b
or_none true = refl
or_none false = refl

or_all : (b : Bool) → (b || true) ≡ true
or_all true = refl
or_all false = refl

or_turned : (a b : Bool) → (a || b) ≡ (b || a)
or_turned true true = refl
or_turned true false = refl
or_turned false true = refl
or_turned false false = refl

by_first : (names : List (ℕ × Name)) (u v w : ℕ) → w ≡ u → is_trivial (pair_arms names (record { u = u; v = v; w = w })) ≡ true
by_first names u v w e = subst (λ (x : ℕ). is_trivial (pair_arms names (record { u = u; v = v; w = x })) ≡ true) (sym e) (first_same (arm_at names u) (arm_at names v))

by_second : (names : List (ℕ × Name)) (u v w : ℕ) → w ≡ v → is_trivial (pair_arms names (record { u = u; v = v; w = w })) ≡ true
by_second names u v w e = subst (λ (x : ℕ). is_trivial (pair_arms names (record { u = u; v = v; w = x })) ≡ true) (sym e) (second_same (arm_at names v) (arm_at names u))

-- a conjunction
both_u : (d : Table) (names : List (ℕ × Name)) (u v w : ℕ) → IsTable d → IsRight (joined Both) d (record { u = u; v = v; w = w }) → u < 2 → is_trivial (pair_arms names (record { u = u; v = v; w = w })) ≡ true
both_u d names zero v w ok h k = refl
both_u d names (suc zero) v w ok h k = by_second names 1 v w (canonical d ok w v h.w_there h.v_there (λ z. h.function z ∙ ap (λ (b : Bool). b && function_of d v z) ((has_nodes d ok).yes z)))
both_u d names (suc (suc u)) v w ok h k = absurd (omega arith)

both_v : (d : Table) (names : List (ℕ × Name)) (u v w : ℕ) → IsTable d → IsRight (joined Both) d (record { u = u; v = v; w = w }) → v < 2 → is_trivial (pair_arms names (record { u = u; v = v; w = w })) ≡ true
both_v d names u zero w ok h k = true_second (opposite (arm_at names u)) (arm_at names w)
both_v d names u (suc zero) w ok h k = by_first names u 1 w (canonical d ok w u h.w_there h.u_there (λ z. h.function z ∙ ap (λ (b : Bool). function_of d u z && b) ((has_nodes d ok).yes z) ∙ and_true (function_of d u z)))
both_v d names u (suc (suc v)) w ok h k = absurd (omega arith)

both_closed : (d : Table) (names : List (ℕ × Name)) (m : Met) → IsTable d → IsRight (joined Both) d m → IsClosed m → is_trivial (pair_arms names m) ≡ true
both_closed d names m ok h (inl e) = by_first names m.u m.v m.w (canonical d ok m.w m.u h.w_there h.u_there (λ z. h.function z ∙ ap (λ (x : ℕ). function_of d m.u z && function_of d x z) (sym e) ∙ and_same (function_of d m.u z)))
both_closed d names m ok h (inr (inl k)) = both_u d names m.u m.v m.w ok h k
both_closed d names m ok h (inr (inr k)) = both_v d names m.u m.v m.w ok h k

-- one side of a disjunction
abbrev IsOr : Table → ℕ → ℕ → ℕ → Type 0
IsOr d u v w = (z : ℕ → Bool) → function_of d w z ≡ (function_of d u z || function_of d v z)

one_u : (d : Table) (names : List (ℕ × Name)) (u v w : ℕ) → IsTable d → IsNode d w → IsOr d u v w → u < 2 → is_trivial (pair_arms names (alone u w)) ≡ true
one_u d names zero v w ok hw h k = refl
one_u d names (suc zero) v w ok hw h k = by_first names 1 1 w (canonical d ok w 1 hw (omega arith) (λ z. h z ∙ ap (λ (b : Bool). b || function_of d v z) ((has_nodes d ok).yes z) ∙ sym ((has_nodes d ok).yes z)))
one_u d names (suc (suc u)) v w ok hw h k = absurd (omega arith)

one_v : (d : Table) (names : List (ℕ × Name)) (u v w : ℕ) → IsTable d → IsNode d u → IsNode d w → IsOr d u v w → v < 2 → is_trivial (pair_arms names (alone u w)) ≡ true
one_v d names u zero w ok hu hw h k = by_first names u 1 w (canonical d ok w u hw hu (λ z. h z ∙ ap (λ (b : Bool). function_of d u z || b) ((has_nodes d ok).no z) ∙ or_none (function_of d u z)))
one_v d names u (suc zero) w ok hu hw h k =
    subst (λ (x : ℕ). is_trivial (pair_arms names (alone u x)) ≡ true)
    (sym (canonical d ok w 1 hw (omega arith) (λ z. h z ∙ ap (λ (b : Bool). function_of d u z || b) ((has_nodes d ok).yes z) ∙ or_all (function_of d u z) ∙ sym ((has_nodes d ok).yes z))))
    (true_third (opposite (arm_at names u)))
one_v d names u (suc (suc v)) w ok hu hw h k = absurd (omega arith)

one_closed : (d : Table) (names : List (ℕ × Name)) (u v w : ℕ) → IsTable d → IsNode d u → IsNode d w → IsOr d u v w → (u ≡ v) ⊎ ((u < 2) ⊎ (v < 2)) → is_trivial (pair_arms names (alone u w)) ≡ true
one_closed d names u v w ok hu hw h (inl e) = by_first names u 1 w (canonical d ok w u hw hu (λ z. h z ∙ ap (λ (x : ℕ). function_of d u z || function_of d x z) (sym e) ∙ or_same (function_of d u z)))
one_closed d names u v w ok hu hw h (inr (inl k)) = one_u d names u v w ok hw h k
one_closed d names u v w ok hu hw h (inr (inr k)) = one_v d names u v w ok hu hw h k

turned : (m : Met) → IsClosed m → (m.v ≡ m.u) ⊎ ((m.v < 2) ⊎ (m.u < 2))
turned m (inl e) = inl (sym e)
turned m (inr (inl k)) = inr (inr k)
turned m (inr (inr k)) = inr (inl k)

closed_by : (d : Table) (names : List (ℕ × Name)) (side : Side) (m : Met) → IsTable d → IsRight (joined side) d m → IsClosed m → is_trivial (pair_arms names (seen side m)) ≡ true
closed_by d names Both m ok h k = both_closed d names m ok h k
closed_by d names Left m ok h k = one_closed d names m.u m.v m.w ok h.u_there h.w_there h.function k
closed_by d names Right m ok h k = one_closed d names m.v m.u m.w ok h.v_there h.w_there (λ z. h.function z ∙ or_turned (function_of d m.u z) (function_of d m.v z)) (turned m k)

pub closed-settled : (given : List Given) (d : Table) (names : List (ℕ × Name)) (side : Side) (m : Met) → IsTable d → IsRight (joined side) d m → IsClosed m → Settled given [] (pair_arms names (seen side m))
closed-settled given d names side m ok h k = trivial-settled given (pair_arms names (seen side m)) (closed_by d names side m ok h k)

-- what is known of the nodes that a lemma speaks of
pub alone-met : (s : ProofState) (d : Table) (names : List (ℕ × Name)) (u w : ℕ) → IsNode d u → IsNode d w → HasName s d names u → HasName s d names w → IsNamedMet s d names (alone u w)
alone-met s d names u w hu hw ku kw = record { u_there = hu; v_there = omega arith; w_there = hw; u_named = ku; v_named = λ two. absurd (omega arith); w_named = kw }

pub seen-met : (s : ProofState) (d : Table) (names : List (ℕ × Name)) (side : Side) (m : Met) → IsNamedMet s d names m → IsNamedMet s d names (seen side m)
seen-met s d names Both m h = h
seen-met s d names Left m h = alone-met s d names m.u m.w h.u_there h.w_there h.u_named h.w_named
seen-met s d names Right m h = alone-met s d names m.v m.w h.v_there h.w_there h.v_named h.w_named

pub seen-branch : (side : Side) (m : Met) → IsOpen m → 2 ≤ (seen side m).u
seen-branch Both m o = o.1
seen-branch Left m o = o.1
seen-branch Right m o = o.2

-- "always true" is both of its own nodes everywhere
pub true-alone-high : (d : Table) (depth : ℕ) → IsTable d → depth < length d.order → high_at d depth 1 ≡ 1
true-alone-high d depth ok within = cond-false _ (high_of d 1) 1 (ne_eqb (depth_of d 1) depth (λ e. omega (arith, e, (has_nodes d ok).yes_depth)))

pub true-alone-low : (d : Table) (depth : ℕ) → IsTable d → depth < length d.order → low_at d depth 1 ≡ 1
true-alone-low d depth ok within = cond-false _ (low_of d 1) 1 (ne_eqb (depth_of d 1) depth (λ e. omega (arith, e, (has_nodes d ok).yes_depth)))

pub alone-high : (d : Table) (depth u w : ℕ) → IsTable d → depth < length d.order → alone (high_at d depth u) (high_at d depth w) ≡ high_met d depth (alone u w)
alone-high d depth u w ok within = ap (λ (x : ℕ). record { u = high_at d depth u; v = x; w = high_at d depth w }) (sym (true-alone-high d depth ok within))

pub alone-low : (d : Table) (depth u w : ℕ) → IsTable d → depth < length d.order → alone (low_at d depth u) (low_at d depth w) ≡ low_met d depth (alone u w)
alone-low d depth u w ok within = ap (λ (x : ℕ). record { u = low_at d depth u; v = x; w = low_at d depth w }) (sym (true-alone-low d depth ok within))

seen-high : (d : Table) (depth : ℕ) (side : Side) (m : Met) → IsTable d → depth < length d.order → seen side (high_met d depth m) ≡ high_met d depth (seen side m)
seen-high d depth Both m ok within = refl
seen-high d depth Left m ok within = alone-high d depth m.u m.w ok within
seen-high d depth Right m ok within = alone-high d depth m.v m.w ok within

seen-low : (d : Table) (depth : ℕ) (side : Side) (m : Met) → IsTable d → depth < length d.order → seen side (low_met d depth m) ≡ low_met d depth (seen side m)
seen-low d depth Both m ok within = refl
seen-low d depth Left m ok within = alone-low d depth m.u m.w ok within
seen-low d depth Right m ok within = alone-low d depth m.v m.w ok within

-- the lemma that is found for a pair
same_pair : (p q : ℕ) (k : ℕ × ℕ) → (nat_eq p k.0 && nat_eq q k.1) ≡ true → k ≡ (p, q)
same_pair p q k t = (let parts = and_parts (nat_eq p k.0) (nat_eq q k.1) t in λ i. (sym (eqb-true p k.0 parts.0) i, sym (eqb-true q k.1 parts.1) i))

pub found-joined : (given : List Given) (d : Table) (names : List (ℕ × Name)) (side : Side) (lemmas : List ((ℕ × ℕ) × Option ℕ)) (p q : ℕ) (id : Option ℕ) → AreJoined given d names side lemmas → lemma_of lemmas p q ≡ Some id → IsJoined given d names side ((p, q), id)
found-joined given d names side lemmas p q id h e =
    let (k, t, j) = lookup-holds (IsJoined given d names side) (λ x. nat_eq p x.0 && nat_eq q x.1) lemmas id h e in
    subst (λ (x : ℕ × ℕ). IsJoined given d names side (x, id)) (same_pair p q k t) j

open-within : (d : Table) (m : Met) → IsTable d → IsNode d m.u → IsOpen m → depth_at d m < length d.order
open-within d m ok h o = omega (arith, depth_of-branch d m.u ok h o.1)

-- the lemmas of the two pairs of children
high_at_depth : (given : List Given) (d : Table) (names : List (ℕ × Name)) (side : Side) (m : Met) (id : Option ℕ) → IsTable d → IsRight (joined side) d m → IsOpen m
    → IsJoined given d names side ((high_at d (depth_at d m) m.u, high_at d (depth_at d m) m.v), id) → Settled given (option_to_list id) (pair_arms names (high_met d (depth_at d m) (seen side m)))
high_at_depth given d names side m id ok h o c =
    let within = open-within d m ok h.u_there o in
    let w : c.w ≡ high_at d (depth_at d m) m.w = high-is (joined side) d m.u m.v m.w c.w (depth_at d m) ok within (omega arith) (omega arith) h.depth_is h c.right in
    subst (λ (x : Met). Settled given (option_to_list id) (pair_arms names x)) (seen-high d (depth_at d m) side m ok within)
    (subst (λ (x : ℕ). Settled given (option_to_list id) (pair_arms names (seen side (record { u = high_at d (depth_at d m) m.u; v = high_at d (depth_at d m) m.v; w = x })))) w c.settled)

low_at_depth : (given : List Given) (d : Table) (names : List (ℕ × Name)) (side : Side) (m : Met) (id : Option ℕ) → IsTable d → IsRight (joined side) d m → IsOpen m
    → IsJoined given d names side ((low_at d (depth_at d m) m.u, low_at d (depth_at d m) m.v), id) → Settled given (option_to_list id) (pair_arms names (low_met d (depth_at d m) (seen side m)))
low_at_depth given d names side m id ok h o c =
    let within = open-within d m ok h.u_there o in
    let w : c.w ≡ low_at d (depth_at d m) m.w = low-is (joined side) d m.u m.v m.w c.w (depth_at d m) ok within (omega arith) (omega arith) h.depth_is h c.right in
    subst (λ (x : Met). Settled given (option_to_list id) (pair_arms names x)) (seen-low d (depth_at d m) side m ok within)
    (subst (λ (x : ℕ). Settled given (option_to_list id) (pair_arms names (seen side (record { u = low_at d (depth_at d m) m.u; v = low_at d (depth_at d m) m.v; w = x })))) w c.settled)

pub child-high : (given : List Given) (d : Table) (names : List (ℕ × Name)) (side : Side) (lemmas : List ((ℕ × ℕ) × Option ℕ)) (m : Met) (p q depth : ℕ) (found : Option (Option ℕ)) (id : Option ℕ) → depth ≡ depth_at d m → IsTable d
    → IsRight (joined side) d m → IsOpen m → AreJoined given d names side lemmas → p ≡ high_at d depth m.u → q ≡ high_at d depth m.v → found ≡ lemma_of lemmas p q → found ≡ Some id
    → Settled given (option_to_list id) (pair_arms names (high_met d depth (seen side m)))
child-high given d names side lemmas m p q depth found id at ok h o j ep eq ef is =
    let there = found-joined given d names side lemmas p q id j (sym ef ∙ is) in
    subst (λ (x : ℕ). Settled given (option_to_list id) (pair_arms names (high_met d x (seen side m)))) (sym at)
    (high_at_depth given d names side m id ok h o
    (subst (λ (x : ℕ). IsJoined given d names side ((x, high_at d (depth_at d m) m.v), id)) (ep ∙ ap (λ (x : ℕ). high_at d x m.u) at)
    (subst (λ (x : ℕ). IsJoined given d names side ((p, x), id)) (eq ∙ ap (λ (x : ℕ). high_at d x m.v) at) there)))

pub child-low : (given : List Given) (d : Table) (names : List (ℕ × Name)) (side : Side) (lemmas : List ((ℕ × ℕ) × Option ℕ)) (m : Met) (p q depth : ℕ) (found : Option (Option ℕ)) (id : Option ℕ) → depth ≡ depth_at d m → IsTable d
    → IsRight (joined side) d m → IsOpen m → AreJoined given d names side lemmas → p ≡ low_at d depth m.u → q ≡ low_at d depth m.v → found ≡ lemma_of lemmas p q → found ≡ Some id
    → Settled given (option_to_list id) (pair_arms names (low_met d depth (seen side m)))
child-low given d names side lemmas m p q depth found id at ok h o j ep eq ef is =
    let there = found-joined given d names side lemmas p q id j (sym ef ∙ is) in
    subst (λ (x : ℕ). Settled given (option_to_list id) (pair_arms names (low_met d x (seen side m)))) (sym at)
    (low_at_depth given d names side m id ok h o
    (subst (λ (x : ℕ). IsJoined given d names side ((x, low_at d (depth_at d m) m.v), id)) (ep ∙ ap (λ (x : ℕ). low_at d x m.u) at)
    (subst (λ (x : ℕ). IsJoined given d names side ((p, x), id)) (eq ∙ ap (λ (x : ℕ). low_at d x m.v) at) there)))
