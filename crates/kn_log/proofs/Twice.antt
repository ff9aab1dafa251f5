-- The states of a proof for "at least two of three, and at least two of their negations", which unfolds the
-- first klause: what each of its lines makes of the state before.
use Rattle.std.proofs.Common.{◌≡◌, ℕ, ◌+◌, true, false, List, [], ◌∷◌, Ok, IsOk, length, refl, ap, ◌∙◌}
use Rattle.kn_logic.specs.Literals.{Literal}
use Rattle.kn_logic.specs.Constraints.{Bounded, klause}
use Rattle.kn_logic.specs.Formulas.{Problem}
use Rattle.kn_lines.specs.declared.line.Arm.{Arm}
use Rattle.kn_lines.specs.declared.line.Arm.TheVariants as arm
use Rattle.kn_lines.specs.declared.line.Line.{Line}
use Rattle.kn_lines.specs.declared.line.Line.TheVariants.{Define, Lemma, Unfold}
use Rattle.kn_rules.specs.declared.given.Origin.TheVariants as origin
use Rattle.kn_rules.specs.States.{ProofState, start}
use Rattle.kn_rules.specs.Steps.{step, with_definition, with_one, with_clause, unit_of}

-- the literal of a variable, and its negation
abbrev on : ℕ → Literal
on variable = record { variable = variable; positive = true }

abbrev off : ℕ → Literal
off variable = record { variable = variable; positive = false }

abbrev pub twice : Problem
twice = record { vars = 3; constraints = klause 2 (on 1 ∷ on 2 ∷ on 3 ∷ []) ∷ klause 2 (off 1 ∷ off 2 ∷ off 3 ∷ []) ∷ [] }

-- the grid of the first klause, from below
abbrev pub with_4 : ProofState
with_4 = with_definition (start twice) (on 3) arm.True arm.False

abbrev pub with_5 : ProofState
with_5 = with_definition with_4 (on 2) (arm.Lit (on 4)) arm.False

abbrev pub with_6 : ProofState
with_6 = with_definition with_5 (on 2) arm.True (arm.Lit (on 4))

abbrev pub with_7 : ProofState
with_7 = with_definition with_6 (on 1) (arm.Lit (on 6)) (arm.Lit (on 5))

abbrev pub unfolded : ProofState
unfolded = with_one with_7 origin.Unfolding (unit_of 7)

abbrev pub with_first : ProofState
with_first = with_clause unfolded origin.Lemma (on 1 ∷ [])

abbrev pub with_second : ProofState
with_second = with_clause with_first origin.Lemma (on 2 ∷ [])

defines_4 : step (start twice) (Define (on 3) arm.True arm.False) ≡ Ok with_4
defines_4 = refl

defines_5 : step with_4 (Define (on 2) (arm.Lit (on 4)) arm.False) ≡ Ok with_5
defines_5 = refl

defines_6 : step with_5 (Define (on 2) arm.True (arm.Lit (on 4))) ≡ Ok with_6
defines_6 = refl

defines_7 : step with_6 (Define (on 1) (arm.Lit (on 6)) (arm.Lit (on 5))) ≡ Ok with_7
defines_7 = refl

unfolds : step with_7 (Unfold 1 7) ≡ Ok unfolded
unfolds = refl

first_follows : step unfolded (Lemma (klause 1 (on 1 ∷ [])) (1 ∷ 2 ∷ [])) ≡ Ok with_first
first_follows = refl

second_follows : step with_first (Lemma (klause 1 (on 2 ∷ [])) (1 ∷ 2 ∷ [])) ≡ Ok with_second
second_follows = refl

last_follows : step with_second (Lemma (klause 1 []) (20 ∷ 21 ∷ 2 ∷ [])) ≡ Ok (with_clause with_second origin.Lemma [])
last_follows = refl

-- a line that is known can step from a state that is known
can_step : (old s t : ProofState) (line known : Line) → old ≡ s → line ≡ known → step s known ≡ Ok t → IsOk (step old line)
can_step old s t line known from is steps = rw (from, is, steps)

-- and the state that it leads to is known
leads_to : (old new s t : ProofState) (line known : Line) → old ≡ s → line ≡ known → step s known ≡ Ok t → step old line ≡ Ok new → new ≡ t
leads_to old new s t line known from is steps stepped =
    let there : step s known ≡ Ok new = rw (from, is) at stepped in
    cc

-- a lemma, by its clause and its hints
can_add : (a s t : ProofState) (c d : Bounded) (hints known : List ℕ) → a ≡ s → c ≡ d → hints ≡ known → step s (Lemma d known) ≡ Ok t → IsOk (step a (Lemma c hints))
can_add a s t c d hints known from is are steps = can_step a s t (Lemma c hints) (Lemma d known) from (cc) steps

-- and its id is known
is_added : (a b s t : ProofState) (c d : Bounded) (hints known : List ℕ) (id : ℕ) → a ≡ s → c ≡ d → hints ≡ known → step s (Lemma d known) ≡ Ok t → step a (Lemma c hints) ≡ Ok b → id ≡ length a.given + 1 → (b ≡ t) × (id ≡ length s.given + 1)
is_added a b s t c d hints known id from is are steps to id_is = (leads_to a b s t (Lemma c hints) (Lemma d known) from (cc) steps to, id_is ∙ ap (λ (s : ProofState). length s.given + 1) from)

-- The lines as the test makes them, of values that are known by their equations alone.

-- the four definitions, and the variable of the last
pub grid_is_made : (a b c d e : ProofState) (w x y z : Literal) (high_5 low_6 high_7 low_7 : Arm) (root : ℕ) →
    a ≡ start twice →
    w ≡ on 3 → step a (Define w arm.True arm.False) ≡ Ok b →
    x ≡ on 2 → high_5 ≡ arm.Lit (on 4) → step b (Define x high_5 arm.False) ≡ Ok c →
    y ≡ on 2 → low_6 ≡ arm.Lit (on 4) → step c (Define y arm.True low_6) ≡ Ok d →
    z ≡ on 1 → high_7 ≡ arm.Lit (on 6) → low_7 ≡ arm.Lit (on 5) → step d (Define z high_7 low_7) ≡ Ok e → root ≡ d.vars + 1 →
    (e ≡ with_7) × (root ≡ 7)
grid_is_made a b c d e w x y z high_5 low_6 high_7 low_7 root from w_is to_4 x_is high_5_is to_5 y_is low_6_is to_6 z_is high_7_is low_7_is to_7 root_is =
    let at_4 : b ≡ with_4 = leads_to a b (start twice) with_4 (Define w arm.True arm.False) (Define (on 3) arm.True arm.False) from (cc) defines_4 to_4 in
    let at_5 : c ≡ with_5 = leads_to b c with_4 with_5 (Define x high_5 arm.False) (Define (on 2) (arm.Lit (on 4)) arm.False) at_4 (cc) defines_5 to_5 in
    let at_6 : d ≡ with_6 = leads_to c d with_5 with_6 (Define y arm.True low_6) (Define (on 2) arm.True (arm.Lit (on 4))) at_5 (cc) defines_6 to_6 in
    (leads_to d e with_6 with_7 (Define z high_7 low_7) (Define (on 1) (arm.Lit (on 6)) (arm.Lit (on 5))) at_6 (cc) defines_7 to_7, root_is ∙ ap (λ (s : ProofState). s.vars + 1) at_6)

-- the klause is unfolded
pub can_unfold : (a : ProofState) (root : ℕ) → a ≡ with_7 → root ≡ 7 → IsOk (step a (Unfold 1 root))
can_unfold a root from is = can_step a with_7 unfolded (Unfold 1 root) (Unfold 1 7) from (ap (λ root. Unfold 1 root) is) unfolds

pub is_unfolded : (a b : ProofState) (root : ℕ) → a ≡ with_7 → root ≡ 7 → step a (Unfold 1 root) ≡ Ok b → b ≡ unfolded
is_unfolded a b root from is to = leads_to a b with_7 unfolded (Unfold 1 root) (Unfold 1 7) from (ap (λ root. Unfold 1 root) is) unfolds to

-- both lemmas follow from the klauses, and the clause without literals from them and the second klause
pub can_add_first : (a : ProofState) (c : Bounded) (hints : List ℕ) → a ≡ unfolded → c ≡ klause 1 (on 1 ∷ []) → hints ≡ 1 ∷ 2 ∷ [] → IsOk (step a (Lemma c hints))
can_add_first a c hints from is are = can_add a unfolded with_first c (klause 1 (on 1 ∷ [])) hints (1 ∷ 2 ∷ []) from is are first_follows

pub first_is_added : (a b : ProofState) (c : Bounded) (hints : List ℕ) (id : ℕ) → a ≡ unfolded → c ≡ klause 1 (on 1 ∷ []) → hints ≡ 1 ∷ 2 ∷ [] → step a (Lemma c hints) ≡ Ok b → id ≡ length a.given + 1 → (b ≡ with_first) × (id ≡ 20)
first_is_added a b c hints id from is are to id_is = is_added a b unfolded with_first c (klause 1 (on 1 ∷ [])) hints (1 ∷ 2 ∷ []) id from is are first_follows to id_is

pub can_add_second : (a : ProofState) (c : Bounded) (hints : List ℕ) → a ≡ with_first → c ≡ klause 1 (on 2 ∷ []) → hints ≡ 1 ∷ 2 ∷ [] → IsOk (step a (Lemma c hints))
can_add_second a c hints from is are = can_add a with_first with_second c (klause 1 (on 2 ∷ [])) hints (1 ∷ 2 ∷ []) from is are second_follows

pub second_is_added : (a b : ProofState) (c : Bounded) (hints : List ℕ) (id : ℕ) → a ≡ with_first → c ≡ klause 1 (on 2 ∷ []) → hints ≡ 1 ∷ 2 ∷ [] → step a (Lemma c hints) ≡ Ok b → id ≡ length a.given + 1 → (b ≡ with_second) × (id ≡ 21)
second_is_added a b c hints id from is are to id_is = is_added a b with_first with_second c (klause 1 (on 2 ∷ [])) hints (1 ∷ 2 ∷ []) id from is are second_follows to id_is

pub can_refute : (a : ProofState) (c : Bounded) (hints : List ℕ) → a ≡ with_second → c ≡ klause 1 [] → hints ≡ 20 ∷ 21 ∷ 2 ∷ [] → IsOk (step a (Lemma c hints))
can_refute a c hints from is are = can_add a with_second (with_clause with_second origin.Lemma []) c (klause 1 []) hints (20 ∷ 21 ∷ 2 ∷ []) from is are last_follows
