-- Slots that a definition adds, and what is lent of them.
use Rattle.std.proofs.Common.{◌≡◌, ℕ, zero, suc, ◌+◌, ◌-◌, ◌≤◌, ◌<◌, ◌++◌, true, List, [], ◌∷◌, length, length-append, map, Option, Some, None, Ok, refl, sym, ap, ◌∙◌, subst, arith}
use Rattle.std.specs.List.{AllByRecursion, slice_get}
use Rattle.std.specs.Option.{option_map}
use Rattle.std.proofs.lemmas.List.{map-append}
use Rattle.kn_logic.proofs.Public.{All-append}
use Rattle.kn_logic.specs.Literals.{Literal}
use Rattle.kn_logic.specs.Constraints.{Bounded}
use Rattle.kn_lines.specs.declared.line.Arm.{Arm}
use Rattle.kn_rules.specs.declared.definition.Definition.{Definition}
use Rattle.kn_rules.specs.declared.four.Four.{Four}
use Rattle.kn_rules.specs.declared.given.Given.{Given}
use Rattle.kn_rules.specs.declared.made.Place.{Place}
use Rattle.kn_rules.specs.declared.made.Place.TheVariants.{High, Low, NotHigh, NotLow}
use Rattle.kn_rules.specs.declared.slot.Slot.{Slot}
use Rattle.kn_rules.specs.declared.slot.Slot.TheVariants.{Kept, Derived, Deleted}
use Rattle.kn_rules.specs.States.{Defined, ProofState}
use Rattle.kn_rules.specs.Steps.{by_definition, definition_clauses, define, next_variable}
use Rattle.kn_rules.specs.Entries.{clause_at, variable_of, made_at, given_of, IsSlotOf, derived}
use Rattle.kn_rules.specs.Lent.{four_of, kept_at, fours_behind, fours, defined_of}
use Rattle.kn_rules.proofs.Stepping.{define-gives}

slice-left : {X : Type 0} (xs ys : List X) (k : ℕ) → k < length xs → slice_get (xs ++ ys) k ≡ slice_get xs k
slice-left [] ys k h = absurd (omega arith)
slice-left (x ∷ xs) ys zero h = refl
slice-left (x ∷ xs) ys (suc k) h = slice-left xs ys k (omega arith)

slice-last : {X : Type 0} (xs : List X) (y : X) → slice_get (xs ++ y ∷ []) (length xs) ≡ Some y
slice-last [] y = refl
slice-last (x ∷ xs) y = slice-last xs y

abbrev pub with_one_more : Defined → Definition → Defined
with_one_more d e = record d { list = d.list ++ e ∷ [] }

stays-one : (d : Defined) (e : Definition) (slot : Slot) → IsSlotOf (length d.list) slot → given_of (with_one_more d e) slot ≡ given_of d slot
stays-one d e (Kept o c) h = refl
stays-one d e (Derived place number) h = ap (λ (o : Option Definition). by_place o) (slice-left d.list (e ∷ []) number h)
  where
    by_place : Option Definition → Given
    by_place o = record { origin = (given_of d (Derived place number)).origin; live = option_map (λ f. clause_at (variable_of d.base number) f place) o }
stays-one d e (Deleted o) h = refl

stays : (d : Defined) (e : Definition) (slots : List Slot) → AllByRecursion (IsSlotOf (length d.list)) slots → map (given_of (with_one_more d e)) slots ≡ map (given_of d) slots
stays d e [] h = refl
stays d e (slot ∷ slots) h = rw (stays-one d e slot h.0, stays d e slots h.1) refl

more-one : (count : ℕ) (slot : Slot) → IsSlotOf count slot → IsSlotOf (count + 1) slot
more-one count (Kept o c) h = tt
more-one count (Derived place number) h = omega (arith, h)
more-one count (Deleted o) h = tt

more : (count : ℕ) (slots : List Slot) → AllByRecursion (IsSlotOf count) slots → AllByRecursion (IsSlotOf (count + 1)) slots
more count [] h = tt
more count (slot ∷ slots) h = (more-one count slot h.0, more count slots h.1)

pub defined-right : (d : Defined) (e : Definition) (slots : List Slot) (number : ℕ) → number ≡ length d.list → AllByRecursion (IsSlotOf (length d.list)) slots → AllByRecursion (IsSlotOf (length (d.list ++ e ∷ []))) (slots ++ derived number)
defined-right d e slots number same h =
    let here : number < length d.list + 1 = omega (arith, same) in
    subst (λ (n : ℕ). AllByRecursion (IsSlotOf n) (slots ++ derived number)) (sym (length-append d.list (e ∷ [])))
    (All-append (IsSlotOf (length d.list + 1)) slots (derived number) (more (length d.list) slots h) (here, (here, (here, (here, tt)))))

derived-given : (d : Defined) (e : Definition) → map (given_of (with_one_more d e)) (derived (length d.list)) ≡ map by_definition (definition_clauses (variable_of d.base (length d.list)) e.test e.high e.low)
derived-given d e = rw (slice-last d.list e) refl

pub defined-given : (d : Defined) (e : Definition) (slots : List Slot) (number : ℕ) → number ≡ length d.list → AllByRecursion (IsSlotOf (length d.list)) slots → map (given_of (with_one_more d e)) (slots ++ derived number) ≡ map (given_of d) slots ++ map by_definition (definition_clauses (variable_of d.base (length d.list)) e.test e.high e.low)
defined-given d e slots number same h =
    map-append (given_of (with_one_more d e)) slots (derived number)
    ∙ ap (λ (g : List Given). g ++ map (given_of (with_one_more d e)) (derived number)) (stays d e slots h)
    ∙ ap (λ (n : ℕ). map (given_of d) slots ++ map (given_of (with_one_more d e)) (derived n)) same
    ∙ ap (λ (g : List Given). map (given_of d) slots ++ g) (derived-given d e)

-- what is lent
kept-four : (v : Literal) (d : Definition) (place : Place) → kept_at (four_of v d) place ≡ clause_at v d place
kept-four v d High = refl
kept-four v d Low = refl
kept-four v d NotHigh = refl
kept-four v d NotLow = refl

four-at : (base : ℕ) (ds : List Definition) (k : ℕ) → slice_get (fours_behind base ds) k ≡ option_map (λ d. four_of (variable_of base k) d) (slice_get ds k)
four-at base [] k = refl
four-at base (d ∷ ds) zero = refl
four-at base (d ∷ ds) (suc k) =
    let e : base + 1 + k + 1 ≡ base + suc k + 1 = omega arith in
    four-at (base + 1) ds k ∙ ap (λ (n : ℕ). option_map (λ (f : Definition). four_of (record { variable = n; positive = true }) f) (slice_get ds k)) e

lent-of : (v : Literal) (o : Option Definition) (place : Place) → option_map (λ (four : Four). kept_at four place) (option_map (λ (d : Definition). four_of v d) o) ≡ option_map (λ (d : Definition). clause_at v d place) o
lent-of v None place = refl
lent-of v (Some d) place = ap (λ (c : Bounded). Some c) (kept-four v d place)

pub lent-at : (d : Defined) (kept : List Four) (place : Place) (number : ℕ) → kept ≡ fours d → option_map (λ (four : Four). kept_at four place) (slice_get kept number) ≡ made_at d place number
lent-at d kept place number e =
    ap (λ (r : Option Four). option_map (λ (four : Four). kept_at four place) r) (ap (λ (all : List Four). slice_get all number) e ∙ four-at d.base d.list number)
    ∙ lent-of (variable_of d.base number) (slice_get d.list number) place

pub fours-more : (base : ℕ) (ds : List Definition) (d : Definition) → fours_behind base (ds ++ d ∷ []) ≡ fours_behind base ds ++ four_of (variable_of base (length ds)) d ∷ []
fours-more base [] d = refl
fours-more base (e ∷ ds) d =
    let n : base + 1 + length ds + 1 ≡ base + suc (length ds) + 1 = omega arith in
    ap (λ (rest : List Four). four_of (variable_of base 0) e ∷ rest) (fours-more (base + 1) ds d ∙ ap (λ (v : ℕ). fours_behind (base + 1) ds ++ four_of (record { variable = v; positive = true }) d ∷ []) n)

-- those of one definition more
pub fours-defined : (s t : ProofState) (x : Literal) (high low : Arm) (kept new : List Four) (four : Four) → kept ≡ fours (defined_of s) → length s.definitions ≤ s.vars → define s x high low ≡ Ok t → four ≡ four_of (next_variable s) (record { test = x; high = high; low = low }) → new ≡ kept ++ four ∷ [] → new ≡ fours (defined_of t)
fours-defined s t x high low kept new four all within e is added =
    let d : Definition = record { test = x; high = high; low = low } in
    let longer = length-append s.definitions (d ∷ []) in
    let base : s.vars + 1 - length (s.definitions ++ d ∷ []) ≡ s.vars - length s.definitions = omega (arith, longer, within) in
    let number : s.vars - length s.definitions + length s.definitions + 1 ≡ s.vars + 1 = omega (arith, within) in
    added ∙ ap (λ (k : List Four). k ++ four ∷ []) all
    ∙ ap (λ (f : Four). fours (defined_of s) ++ f ∷ []) (is ∙ ap (λ (n : ℕ). four_of (record { variable = n; positive = true }) d) (sym number))
    ∙ sym (fours-more (s.vars - length s.definitions) s.definitions d)
    ∙ ap (λ (b : ℕ). fours_behind b (s.definitions ++ d ∷ [])) (sym base)
    ∙ ap (λ (u : ProofState). fours (defined_of u)) (sym (define-gives s t x high low e))
