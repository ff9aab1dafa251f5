-- A variable that stands for a node of a grid is true exactly where as many of the literals are as the node
-- says, under values that keep to the definitions.
use Rattle.std.proofs.Common.{◌≡◌, ℕ, ◌+◌, ◌-◌, ◌≤◌, Bool, true, false, not, cond, eqb, ltb, leb, List, [], ◌∷◌, length, Option, None, Some, IfSome, refl, sym, ap, ◌∙◌, inl, inr, arith}
use Rattle.std.specs.Option.{option_map_or}
use Rattle.std.proofs.lemmas.Bool.{cond_both, and_parts, or_cases, eqb-true, eqb-false, ltb-true, le-leb, lt-leb}
use Rattle.kn_logic.proofs.Public.{true-negated, true-same}
use Rattle.kn_logic.specs.Literals.{Literal, negated, is_same}
use Rattle.kn_logic.specs.Assignments.{value_of, is_true, true_places}
use Rattle.kn_lines.specs.declared.line.Arm.{Arm}
use Rattle.kn_lines.specs.declared.line.Arm.TheVariants as arm
use Rattle.kn_counter.specs.declared.grid.Cell.TheVariants as cell
use Rattle.kn_rules.specs.declared.definition.Definition.{Definition}
use Rattle.kn_rules.specs.Grids.{is_true_arm, is_false_arm, variable_of, splits, stands_as, led_to, stands_for}

-- the value of an arm
abbrev pub arm_value : List Bool → Arm → Bool
arm_value values arm.True = true
arm_value values arm.False = false
arm_value values (arm.Lit l) = is_true values l

-- the value that a definition gives to its variable
abbrev pub defined_value : List Bool → Definition → Bool
defined_value values d = cond (is_true values d.test) (arm_value values d.high) (arm_value values d.low)

-- each variable that is defined has the value that its definition gives
abbrev pub KeepsTo : List Bool → (ℕ → Option Definition) → Type 0
KeepsTo values definition = (variable : ℕ) → IfSome (definition variable) (λ d. value_of values variable ≡ defined_value values d)

-- constants
true-arm : (values : List Bool) (a : Arm) → is_true_arm a ≡ true → arm_value values a ≡ true
true-arm values arm.True e = refl
true-arm values arm.False e = absurd cc
true-arm values (arm.Lit l) e = absurd cc

false-arm : (values : List Bool) (a : Arm) → is_false_arm a ≡ true → arm_value values a ≡ false
false-arm values arm.True e = absurd cc
false-arm values arm.False e = refl
false-arm values (arm.Lit l) e = absurd cc

-- nodes that are no constant
defined-as : (values : List Bool) (goes_on : Definition → Bool) (value wanted : Bool) (o : Option Definition) → IfSome o (λ d. value ≡ defined_value values d) → ((d : Definition) → goes_on d ≡ true → defined_value values d ≡ wanted) → option_map_or goes_on o false ≡ true → value ≡ wanted
defined-as values goes_on value wanted None h k e = absurd cc
defined-as values goes_on value wanted (Some d) h k e = h ∙ k d e

lit-as : (values : List Bool) (definition : ℕ → Option Definition) (goes_on : Definition → Bool) (wanted : Bool) (variable : ℕ) (p : Bool) → KeepsTo values definition → ((d : Definition) → goes_on d ≡ true → defined_value values d ≡ wanted) → option_map_or goes_on (led_to definition (cond p (Some variable) None)) false ≡ true → cond p (value_of values variable) (not (value_of values variable)) ≡ wanted
lit-as values definition goes_on wanted variable true h k e = defined-as values goes_on (value_of values variable) wanted (definition variable) (h variable) k e
lit-as values definition goes_on wanted variable false h k e = absurd cc

inner-as : (values : List Bool) (definition : ℕ → Option Definition) (goes_on : Definition → Bool) (wanted : Bool) (a : Arm) → KeepsTo values definition → ((d : Definition) → goes_on d ≡ true → defined_value values d ≡ wanted) → option_map_or goes_on (led_to definition (variable_of a)) false ≡ true → arm_value values a ≡ wanted
inner-as values definition goes_on wanted arm.True h k e = absurd cc
inner-as values definition goes_on wanted arm.False h k e = absurd cc
inner-as values definition goes_on wanted (arm.Lit l) h k e = lit-as values definition goes_on wanted l.variable l.positive h k e

-- the count of a literal and those behind it
leb-suc : (j n : ℕ) → 1 ≤ j → leb (j - 1) n ≡ leb j (1 + n)
leb-suc j n h = grind arith

leb-none : (j n : ℕ) → leb j n ≡ leb j (0 + n)
leb-none j n = grind arith

case-of : (t high low : Bool) (j n : ℕ) → 1 ≤ j → high ≡ leb (j - 1) n → low ≡ leb j n → cond t high low ≡ leb j (cond t 1 0 + n)
case-of true high low j n h e f = e ∙ leb-suc j n h
case-of false high low j n h e f = f ∙ leb-none j n

case-not : (t high low : Bool) (j n : ℕ) → 1 ≤ j → high ≡ leb j n → low ≡ leb (j - 1) n → cond (not t) high low ≡ leb j (cond t 1 0 + n)
case-not true high low j n h e f = f ∙ leb-suc j n h
case-not false high low j n h e f = e ∙ leb-none j n

-- what is known of the nodes of the literals behind
abbrev Counts : List Bool → List Literal → (ℕ → Arm → Bool) → Type 0
Counts values lits stands = (j : ℕ) (a : Arm) → stands j a ≡ true → arm_value values a ≡ leb j (true_places values lits)

split-as : (values : List Bool) (stands : ℕ → Arm → Bool) (l : Literal) (lits : List Literal) (j : ℕ) (d : Definition) → Counts values lits stands → 1 ≤ j → splits stands l j d ≡ true → defined_value values d ≡ leb j (true_places values (l ∷ lits))
split-as values stands l lits j d ih h e =
    elim (or_cases _ _ e) [
      | inl s ↦ (
          let parts = and_parts (is_same d.test l) _ s in
          let arms = and_parts (stands (j - 1) d.high) (stands j d.low) parts.1 in
          let test = true-same values d.test l parts.0 in
          ap (λ t. cond t (arm_value values d.high) (arm_value values d.low)) test
          ∙ case-of (is_true values l) _ _ j (true_places values lits) h (ih (j - 1) d.high arms.0) (ih j d.low arms.1)
          )
      | inr s ↦ (
          let parts = and_parts (is_same d.test (negated l)) _ s in
          let arms = and_parts (stands j d.high) (stands (j - 1) d.low) parts.1 in
          let test = true-same values d.test (negated l) parts.0 ∙ true-negated values l in
          ap (λ t. cond t (arm_value values d.high) (arm_value values d.low)) test
          ∙ case-not (is_true values l) _ _ j (true_places values lits) h (ih j d.high arms.0) (ih (j - 1) d.low arms.1)
          )
    ]

places-within : (values : List Bool) (lits : List Literal) → true_places values lits ≤ length lits
places-within values [] = omega arith
places-within values (l ∷ lits) =
    let one : (t : Bool) → cond t 1 0 ≤ 1 = λ t. elim t as (λ b. cond b 1 0 ≤ 1) [ true ↦ omega arith | false ↦ omega arith ] in
    omega (arith, one (is_true values l), places-within values lits)

-- one node, whatever its kind
node-as : (values : List Bool) (definition : ℕ → Option Definition) (goes_on : Definition → Bool) (n count j : ℕ) (a : Arm) → KeepsTo values definition → count ≤ n → (1 ≤ j → (d : Definition) → goes_on d ≡ true → defined_value values d ≡ leb j count) → stands_as (cond (eqb j 0) cell.True (cond (ltb (n + 1 - 1) j) cell.False cell.Inner)) goes_on (led_to definition (variable_of a)) a ≡ true → arm_value values a ≡ leb j count
node-as values definition goes_on n count j a h few k =
    cond_both (eqb j 0) cell.True (cond (ltb (n + 1 - 1) j) cell.False cell.Inner) (λ c. stands_as c goes_on (led_to definition (variable_of a)) a ≡ true → arm_value values a ≡ leb j count)
    (λ e s. true-arm values a s ∙ sym (le-leb j count (omega (arith, eqb-true _ _ e))))
    (λ e. cond_both (ltb (n + 1 - 1) j) cell.False cell.Inner (λ c. stands_as c goes_on (led_to definition (variable_of a)) a ≡ true → arm_value values a ≡ leb j count)
    (λ f s. false-arm values a s ∙ sym (lt-leb j count (omega (arith, ltb-true _ _ f))))
    (λ f s. inner-as values definition goes_on (leb j count) a h (k (omega (arith, eqb-false _ _ e))) s))

pub stands-count : (values : List Bool) (definition : ℕ → Option Definition) → KeepsTo values definition → (lits : List Literal) → Counts values lits (stands_for definition lits)
stands-count values definition h [] j a e =
    node-as values definition (λ d. false) 0 0 j a h (omega arith) (λ _ d f. absurd cc) e
stands-count values definition h (l ∷ lits) j a e =
    node-as values definition (splits (stands_for definition lits) l j) (length (l ∷ lits)) (true_places values (l ∷ lits)) j a h (places-within values (l ∷ lits))
    (λ first d f. split-as values (stands_for definition lits) l lits j d (stands-count values definition h lits) first f) e
