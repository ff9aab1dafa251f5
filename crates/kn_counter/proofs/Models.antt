-- A formula and its form in clauses have the same models: one of either gives one of the other.
use Rattle.std.proofs.Common.{◌≡◌, ℕ, ◌+◌, ◌-◌, ◌*◌, Bool, true, false, not, cond, List, [], ◌∷◌, ◌++◌, length, take, map, Option, None, Some, IfSome, refl, sym, ap, ap₂, subst, ◌∙◌, inl, inr, arith, append_assoc, length-append}
use Rattle.std.specs.List.{AllByRecursion}
use Rattle.std.proofs.lemmas.List.{get_or_append_left, get_or-take, length-take-le}
use Rattle.kn_logic.proofs.Public.{true-negated, All-append}
use Rattle.kn_logic.specs.Literals.{Literal, negated, IsKnown, AreKnown}
use Rattle.kn_logic.specs.Assignments.{value_of, is_true, true_places}
use Rattle.kn_logic.specs.Constraints.{Bounded, is_clause, IsOff, Holds, Fits}
use Rattle.kn_logic.specs.Formulas.{Problem, IsFormula, Satisfies}
use Rattle.kn_counter.specs.Counters.{is_counted, bound_clauses, under, clauses_of, further, all_clauses, all_further, counted}
use Rattle.kn_counter.proofs.ClauseTruth.{all-parts, under-true, under-off, under-parts}
use Rattle.kn_counter.proofs.RowTruth.{AreRows}
use Rattle.kn_counter.proofs.BoundTruth.{AreSame, counter_values, length-counter, length-negations, rows-stand, bound-true, bound-count}

-- the literals over these variables have one value under both assignments
abbrev pub Agree : ℕ → List Bool → List Bool → Type 0
Agree vars whole values = (l : Literal) → IsKnown vars l → is_true whole l ≡ is_true values l

agree-value : (whole values : List Bool) (l : Literal) → value_of whole l.variable ≡ value_of values l.variable → is_true whole l ≡ is_true values l
agree-value whole values l e = ap (λ v. cond l.positive v (not v)) e

agree-same : (vars : ℕ) (whole values : List Bool) (lits : List Literal) → Agree vars whole values → AreKnown vars lits → AreSame whole values lits
agree-same vars whole values [] agree known = tt
agree-same vars whole values (l ∷ lits) agree known = (agree l known.0, agree-same vars whole values lits agree known.1)

same-negated : (whole values : List Bool) (lits : List Literal) → AreSame whole values lits → AreSame whole values (map negated lits)
same-negated whole values [] same = tt
same-negated whole values (l ∷ lits) same = (true-negated whole l ∙ ap not same.0 ∙ sym (true-negated values l), same-negated whole values lits same.1)

same-places : (whole values : List Bool) (lits : List Literal) → AreSame whole values lits → true_places whole lits ≡ true_places values lits
same-places whole values [] same = refl
same-places whole values (l ∷ lits) same = ap₂ {C = ℕ} (λ t n. cond t 1 0 + n) same.0 (same-places whole values lits same.1)

same-off : (vars : ℕ) (whole values : List Bool) (guard : Option Literal) → Agree vars whole values → IfSome guard (IsKnown vars) → IsOff values guard → IsOff whole guard
same-off vars whole values None agree known off = off
same-off vars whole values (Some guard) agree known off = agree guard known ∙ off

-- the values of the further variables
abbrev pub more_of : List Bool → Bounded → List Bool
more_of values c = cond (is_counted c.bound (length c.lits)) (counter_values values (length c.lits - c.bound) 0 (map negated c.lits)) []

abbrev pub all_more : List Bool → List Bounded → List Bool
all_more values [] = []
all_more values (c ∷ cs) = more_of values c ++ all_more values cs

length-more : (values : List Bool) (c : Bounded) → length (more_of values c) ≡ further c
length-more values c =
    let split : (t : Bool) → length (cond t (counter_values values (length c.lits - c.bound) 0 (map negated c.lits)) []) ≡ cond t ((length c.lits - 1) * (length c.lits - c.bound)) 0 =
    λ t. elim t as (λ b. length (cond b (counter_values values (length c.lits - c.bound) 0 (map negated c.lits)) []) ≡ cond b ((length c.lits - 1) * (length c.lits - c.bound)) 0) [
      | true ↦ length-counter values (length c.lits - c.bound) 0 (map negated c.lits) ∙ ap (λ n. (n - 1) * (length c.lits - c.bound)) (length-negations c.lits)
      | false ↦ refl
    ] in
    split (is_counted c.bound (length c.lits))

length-all : (values : List Bool) (cs : List Bounded) → length (all_more values cs) ≡ all_further cs
length-all values [] = refl
length-all values (c ∷ cs) = length-append (more_of values c) (all_more values cs) ∙ ap₂ (λ a b. a + b) (length-more values c) (length-all values cs)

-- from the formula to its clauses
off-clauses : (whole : List Bool) (base bound : ℕ) (guard : Option Literal) (lits : List Literal) → IsOff whole guard → AllByRecursion (Holds whole) (map (under guard) (bound_clauses base bound lits))
off-clauses whole base bound None lits off = absurd off
off-clauses whole base bound (Some guard) lits off = under-off whole guard (bound_clauses base bound lits) off

more-rows : (whole values front back : List Bool) (base : ℕ) (c : Bounded) → whole ≡ front ++ (more_of values c ++ back) → length front ≡ base → AreSame whole values c.lits → is_counted c.bound (length c.lits) ≡ true → AreRows whole base (length c.lits - c.bound) 0 (map negated c.lits)
more-rows whole values front back base c is long same counted =
    let rows = counter_values values (length c.lits - c.bound) 0 (map negated c.lits) in
    let more : more_of values c ≡ rows = ap (λ t. cond t rows []) counted in
    rows-stand whole values front back base (length c.lits - c.bound) 0 (map negated c.lits) (is ∙ ap (λ m. front ++ (m ++ back)) more) long (same-negated whole values c.lits same)

clauses-hold : (whole values front back : List Bool) (vars base : ℕ) (c : Bounded) → whole ≡ front ++ (more_of values c ++ back) → length front ≡ base → Agree vars whole values → Fits vars c → Holds values c → AllByRecursion (Holds whole) (clauses_of base c)
clauses-hold whole values front back vars base c is long agree fits h =
    let same = agree-same vars whole values c.lits agree fits.within.lits in
    elim h [
      | inl enough ↦ under-true whole c.guard (bound_clauses base c.bound c.lits)
          (bound-true whole base c.bound c.lits (omega (arith, enough, same-places whole values c.lits same)) (λ counted. more-rows whole values front back base c is long same counted))
      | inr off ↦ off-clauses whole base c.bound c.guard c.lits (same-off vars whole values c.guard agree fits.within.guard off)
    ]

all-hold : (whole values front : List Bool) (vars base : ℕ) (cs : List Bounded) → whole ≡ front ++ all_more values cs → length front ≡ base → Agree vars whole values → AllByRecursion (Fits vars) cs → AllByRecursion (Holds values) cs → AllByRecursion (Holds whole) (all_clauses base cs)
all-hold whole values front vars base [] is long agree fit h = tt
all-hold whole values front vars base (c ∷ cs) is long agree fit h =
    let more = more_of values c in
    let rest = all_more values cs in
    let grown : length (front ++ more) ≡ base + further c = length-append front more ∙ ap₂ (λ a b. a + b) long (length-more values c) in
    All-append (Holds whole) (clauses_of base c) (all_clauses (base + further c) cs)
    (clauses-hold whole values front rest vars base c is long agree fit.0 h.0)
    (all-hold whole values (front ++ more) vars (base + further c) cs (is ∙ sym (append_assoc front more rest)) grown agree fit.1 h.1)

agree-longer : (values more : List Bool) → Agree (length values) (values ++ more) values
agree-longer values more l known = agree-value (values ++ more) values l (get_or_append_left values more false (l.variable - 1) (omega (arith, known.0, known.1)))

pub model-extended : (f : Problem) → IsFormula f → (values : List Bool) → Satisfies values f → (more : List Bool) × Satisfies (values ++ more) (counted f)
model-extended f fit values h =
    let more = all_more values f.constraints in
    let agree : Agree f.vars (values ++ more) values = subst (λ n. Agree n (values ++ more) values) h.vars (agree-longer values more) in (
      more,
      record {
        vars = length-append values more ∙ ap₂ (λ a b. a + b) h.vars (length-all values f.constraints);
        hold = all-hold (values ++ more) values values f.vars f.vars f.constraints refl h.vars agree fit h.hold;
      },
    )

-- from the clauses to the formula
clauses-give : (whole values : List Bool) (vars base : ℕ) (c : Bounded) → Agree vars values whole → Fits vars c → AllByRecursion (Holds whole) (clauses_of base c) → Holds values c
clauses-give whole values vars base c agree fits h =
    elim (under-parts whole c.guard (bound_clauses base c.bound c.lits) h) [
      | inl all ↦ inl (omega (arith, bound-count whole base c.bound c.lits all, same-places values whole c.lits (agree-same vars values whole c.lits agree fits.within.lits)))
      | inr off ↦ inr (same-off vars values whole c.guard agree fits.within.guard off)
    ]

all-give : (whole values : List Bool) (vars base : ℕ) (cs : List Bounded) → Agree vars values whole → AllByRecursion (Fits vars) cs → AllByRecursion (Holds whole) (all_clauses base cs) → AllByRecursion (Holds values) cs
all-give whole values vars base [] agree fit h = tt
all-give whole values vars base (c ∷ cs) agree fit h =
    let parts = all-parts (Holds whole) (clauses_of base c) (all_clauses (base + further c) cs) h in
    (clauses-give whole values vars base c agree fit.0 parts.0, all-give whole values vars (base + further c) cs agree fit.1 parts.1)

agree-shorter : (vars : ℕ) (values : List Bool) → Agree vars (take vars values) values
agree-shorter vars values l known = agree-value (take vars values) values l (get_or-take vars values (l.variable - 1) false (omega (arith, known.0, known.1)))

pub model-cut : (f : Problem) → IsFormula f → (values : List Bool) → Satisfies values (counted f) → Satisfies (take f.vars values) f
model-cut f fit values h = record {
  vars = length-take-le f.vars values (omega (arith, h.vars));
  hold = all-give values (take f.vars values) f.vars f.vars f.constraints (agree-shorter f.vars values) fit h.hold;
}

-- what is made are clauses
under-clauses : (guard : Option Literal) (rows : List (List Literal)) → AllByRecursion (λ c. is_clause c ≡ true) (map (under guard) rows)
under-clauses guard [] = tt
under-clauses guard (row ∷ rows) = (refl, under-clauses guard rows)

pub all-clauses : (base : ℕ) (cs : List Bounded) → AllByRecursion (λ c. is_clause c ≡ true) (all_clauses base cs)
all-clauses base [] = tt
all-clauses base (c ∷ cs) = All-append (λ d. is_clause d ≡ true) (clauses_of base c) (all_clauses (base + further c) cs) (under-clauses c.guard (bound_clauses base c.bound c.lits)) (all-clauses (base + further c) cs)
