-- One step of an extraction, and a run of them, keep models both ways.
use Rattle.std.proofs.Common.{◌≡◌, ℕ, ◌+◌, ◌-◌, ◌≤◌, ◌<◌, ◌==◌, Bool, true, false, not, cond, ◌||◌, List, [], ◌∷◌, ◌++◌, length, map, filter, Option, None, Some, IfSome, refl, sym, ap, subst, ◌∙◌, inl, inr, arith}
use Rattle.std.specs.Prelude.{◌⊎◌, option_to_list}
use Rattle.std.specs.List.{list_any, AllByRecursion}
use Rattle.std.specs.List.Sorted.{IsStrictlyIncreasing}
use Rattle.std.proofs.lemmas.Bool.{or_parts, cases_lt}
use Rattle.std.proofs.lemmas.List.{get_or_past}
use Rattle.std.proofs.lemmas.List.FromFn.{length-map-range_with_len}
use Rattle.kn_logic.specs.Literals.{Literal, names, IsKnown, AreKnown, AreDifferent}
use Rattle.kn_logic.specs.Assignments.{value_of, is_true, true_places}
use Rattle.kn_logic.specs.Constraints.{Bounded, is_clause, named, klause, Holds, Fits}
use Rattle.kn_logic.specs.Formulas.{IsFormula, Satisfies}
use Rattle.kn_logic.specs.Groups.{is_among}
use Rattle.kn_quant.specs.Runs.{clause_function, AgreeBut, CanHold}
use Rattle.kn_verdict.specs.Cardinals.{IsCardinal}
use Rattle.kn_store.specs.Stores.{Numbered, Stored, constraints_of, ids_of, chosen, problem_of}
use Rattle.kn_store.proofs.Public.{all-one, all-two}
use Rattle.kn_guess.specs.Guesses.{in_klause}
use Rattle.kn_extract.specs.Extractions.{Found, klause_of, Tries, listed, AgreeOff, left, replaced}
use Rattle.kn_extract.proofs.Lists.{filter-yes, filter-no}
use Rattle.kn_extract.proofs.Truth.{Same, true-of-clause, clause-holds, holds-alike, listing, listing-value, listing-past}

-- lists of numbered constraints
keep-split : (P : Bounded → Type 0) (test : Numbered → Bool) (p : Numbered) (ps : List Numbered) → P p.constraint → AllByRecursion P (constraints_of (filter test ps)) → (t : Bool) → test p ≡ t → AllByRecursion P (constraints_of (filter test (p ∷ ps)))
keep-split P test p ps one more true e = subst (λ z. AllByRecursion P (constraints_of z)) (sym (filter-yes test p ps e)) (one, more)
keep-split P test p ps one more false e = subst (λ z. AllByRecursion P (constraints_of z)) (sym (filter-no test p ps e)) more

pub keep : (P : Bounded → Type 0) (test : Numbered → Bool) (ps : List Numbered) → AllByRecursion P (constraints_of ps) → AllByRecursion P (constraints_of (filter test ps))
keep P test [] h = tt
keep P test (p ∷ ps) h = keep-split P test p ps h.0 (keep P test ps h.1) (test p) refl

pub all-joined : (P : Bounded → Type 0) (xs ys : List Numbered) → AllByRecursion P (constraints_of xs) → AllByRecursion P (constraints_of ys) → AllByRecursion P (constraints_of (xs ++ ys))
all-joined P [] ys a b = b
all-joined P (x ∷ xs) ys a b = (a.0, all-joined P xs ys a.1 b)

pub all-front : (P : Bounded → Type 0) (xs ys : List Numbered) → AllByRecursion P (constraints_of (xs ++ ys)) → AllByRecursion P (constraints_of xs)
all-front P [] ys h = tt
all-front P (x ∷ xs) ys h = (h.0, all-front P xs ys h.1)

pub all-last : (P : Bounded → Type 0) (xs : List Numbered) (y : Numbered) → AllByRecursion P (constraints_of (xs ++ y ∷ [])) → P y.constraint
all-last P [] y h = h.0
all-last P (x ∷ xs) y h = all-last P xs y h.1

-- what holds of those that go and of those that stay holds of all
both-split : (P : Bounded → Type 0) (test : Bounded → Bool) (p : Numbered) (ps : List Numbered)
    → (AllByRecursion P (constraints_of (chosen test ps)) → AllByRecursion P (constraints_of (left test ps)) → AllByRecursion P (constraints_of ps))
    → AllByRecursion P (constraints_of (chosen test (p ∷ ps))) → AllByRecursion P (constraints_of (left test (p ∷ ps)))
    → (t : Bool) → test p.constraint ≡ t → AllByRecursion P (constraints_of (p ∷ ps))
both-split P test p ps more a b true e =
    let h = subst (λ z. AllByRecursion P (constraints_of z)) (filter-yes (λ p. test p.constraint) p ps e) a in
    let k = subst (λ z. AllByRecursion P (constraints_of z)) (filter-no (λ p. not (test p.constraint)) p ps (ap not e)) b in
    (h.0, more h.1 k)
both-split P test p ps more a b false e =
    let h = subst (λ z. AllByRecursion P (constraints_of z)) (filter-no (λ p. test p.constraint) p ps e) a in
    let k = subst (λ z. AllByRecursion P (constraints_of z)) (filter-yes (λ p. not (test p.constraint)) p ps (ap not e)) b in
    (k.0, more h k.1)

pub both : (P : Bounded → Type 0) (test : Bounded → Bool) (ps : List Numbered) → AllByRecursion P (constraints_of (chosen test ps)) → AllByRecursion P (constraints_of (left test ps)) → AllByRecursion P (constraints_of ps)
both P test [] a b = tt
both P test (p ∷ ps) a b = both-split P test p ps (both P test ps) a b (test p.constraint) refl

-- all that stay fail the test
stay-split : (test : Bounded → Bool) (p : Numbered) (ps : List Numbered) → AllByRecursion (λ c. test c ≡ false) (constraints_of (left test ps)) → (t : Bool) → test p.constraint ≡ t → AllByRecursion (λ c. test c ≡ false) (constraints_of (left test (p ∷ ps)))
stay-split test p ps more true e = subst (λ z. AllByRecursion (λ c. test c ≡ false) (constraints_of z)) (sym (filter-no (λ p. not (test p.constraint)) p ps (ap not e))) more
stay-split test p ps more false e = subst (λ z. AllByRecursion (λ c. test c ≡ false) (constraints_of z)) (sym (filter-yes (λ p. not (test p.constraint)) p ps (ap not e))) (e, more)

pub stay : (test : Bounded → Bool) (ps : List Numbered) → AllByRecursion (λ c. test c ≡ false) (constraints_of (left test ps))
stay test [] = tt
stay test (p ∷ ps) = stay-split test p ps (stay test ps) (test p.constraint) refl

go-split : (test : Bounded → Bool) (p : Numbered) (ps : List Numbered) → AllByRecursion (λ c. test c ≡ true) (constraints_of (chosen test ps)) → (t : Bool) → test p.constraint ≡ t → AllByRecursion (λ c. test c ≡ true) (constraints_of (chosen test (p ∷ ps)))
go-split test p ps more true e = subst (λ z. AllByRecursion (λ c. test c ≡ true) (constraints_of z)) (sym (filter-yes (λ p. test p.constraint) p ps e)) (e, more)
go-split test p ps more false e = subst (λ z. AllByRecursion (λ c. test c ≡ true) (constraints_of z)) (sym (filter-no (λ p. test p.constraint) p ps e)) more

pub go : (test : Bounded → Bool) (ps : List Numbered) → AllByRecursion (λ c. test c ≡ true) (constraints_of (chosen test ps))
go test [] = tt
go test (p ∷ ps) = go-split test p ps (go test ps) (test p.constraint) refl

-- some constraint names the variable, its guard counted
abbrev pub named_in : List Bounded → ℕ → Bool
named_in cs x = list_any (λ c. names (named c) x) cs

-- What a step is, whichever its phase: the constraints that pass a test are clauses, and go; no other
-- names an auxiliary variable; the group is cardinal. Its auxiliary variables stand in no klause, and all its
-- variables stand in some constraint.
pub record IsStep (s : Stored) (x : Found) (t : Stored) : Type 0 where
  pub test : Bounded → Bool
  pub cardinal : IsCardinal x.group x.bound
  pub taken : x.group.taken ≡ constraints_of (chosen test s.live)
  pub clauses : AllByRecursion (λ c. is_clause c ≡ true) (constraints_of (chosen test s.live))
  pub apart : (c : Bounded) → test c ≡ false → AllByRecursion (λ l. is_among x.group.aux l.variable ≡ false) (named c)
  pub known : AreKnown s.vars x.group.border
  pub ascends : IsStrictlyIncreasing (map (λ l. l.variable) x.group.border)
  pub different : AreDifferent x.group.border
  pub next : t ≡ replaced s test (klause_of x)
  pub ids : x.ids ≡ ids_of (chosen test s.live)
  pub some : 1 ≤ length x.group.taken
  pub low : 2 ≤ x.bound
  pub high : x.bound + 1 ≤ length x.group.border
  pub aux_free : (v : ℕ) → is_among x.group.aux v ≡ true → in_klause (constraints_of s.live) v ≡ false
  pub aux_named : (v : ℕ) → is_among x.group.aux v ≡ true → named_in (constraints_of s.live) v ≡ true
  pub border_named : AllByRecursion (λ l. named_in (constraints_of s.live) l.variable ≡ true) x.group.border
  pub border_apart : AllByRecursion (λ l. is_among x.group.aux l.variable ≡ false) x.group.border

within-named : (vars : ℕ) (guard : Option Literal) (lits : List Literal) → IfSome guard (IsKnown vars) → AreKnown vars lits → AreKnown vars (option_to_list guard ++ lits)
within-named vars None lits a b = b
within-named vars (Some g) lits a b = (a, b)

pub known-named : (vars : ℕ) (c : Bounded) → Fits vars c → AreKnown vars (named c)
known-named vars c fits = within-named vars c.guard c.lits fits.within.guard fits.within.lits

-- onward
step-on : (values : List Bool) (s : Stored) (x : Found) (t : Stored) → IsStep s x t → Satisfies values (problem_of s) → Satisfies values (problem_of t)
step-on values s x t step h =
    let hold = keep (Holds values) (λ p. step.test p.constraint) s.live h.hold in
    let true_all = all-two (λ c. is_clause c ≡ true) (Holds values) (λ c. clause_function c (value_of values) ≡ true)
    (λ c e k. true-of-clause values c e k) (constraints_of (chosen step.test s.live)) step.clauses hold in
    let can : CanHold x.group (value_of values) = (value_of values, (λ y e. refl), subst (AllByRecursion (λ c. clause_function c (value_of values) ≡ true)) (sym step.taken) true_all) in
    let enough = (step.cardinal.counts (value_of values)).0 can in
    subst (λ u. Satisfies values (problem_of u)) (sym step.next) (record {
      vars = h.vars;
      hold = all-joined (Holds values) (left step.test s.live) _ (keep (Holds values) (λ p. not (step.test p.constraint)) s.live h.hold) (inl enough, tt);
    })

-- A step keeps what the type of a formula keeps.
pub klause-fits : (vars bound : ℕ) (lits : List Literal) → AreKnown vars lits → AreDifferent lits → Fits vars (klause bound lits)
klause-fits vars bound lits known different = record { within = record { guard = tt; lits = known }; different = λ e. different }

pub step-formula : (s : Stored) (x : Found) (t : Stored) → IsStep s x t → IsFormula (problem_of s) → IsFormula (problem_of t)
step-formula s x t step fits = subst (λ u. IsFormula (problem_of u)) (sym step.next)
    (all-joined (Fits s.vars) (left step.test s.live) _ (keep (Fits s.vars) (λ p. not (step.test p.constraint)) s.live fits) (klause-fits s.vars x.bound x.group.border step.known step.different, tt))

-- back
pub record Restored (s : Stored) (aux : List ℕ) (values : List Bool) : Type 0 where
  pub other : List Bool
  pub models : Satisfies other (problem_of s)
  pub agrees : AgreeOff aux values other

enough-of : (values : List Bool) (bound : ℕ) (lits : List Literal) → Holds values (klause bound lits) → bound ≤ true_places values lits
enough-of values bound lits (inl enough) = enough
enough-of values bound lits (inr off) = absurd off

known-same : (w : ℕ → Bool) (vars : ℕ) (lits : List Literal) → AreKnown vars lits → Same (listing w vars) w lits
known-same w vars lits known = all-one (IsKnown vars) (λ l. value_of (listing w vars) l.variable ≡ w l.variable) (λ l k. listing-value w vars l.variable k.0 k.1) lits known

alike-one : (values : List Bool) (w : ℕ → Bool) (vars : ℕ) (aux : List ℕ) → AgreeBut aux (value_of values) w → (l : Literal) → IsKnown vars l → is_among aux l.variable ≡ false → is_true (listing w vars) l ≡ is_true values l
alike-one values w vars aux agree l known off = ap (λ v. cond l.positive v (not v)) (listing-value w vars l.variable known.0 known.1 ∙ agree l.variable off)

agree-at : (values : List Bool) (w : ℕ → Bool) (vars : ℕ) (aux : List ℕ) → length values ≡ vars → AgreeBut aux (value_of values) w → (x : ℕ) → 1 ≤ x → is_among aux x ≡ false → (vars < x) ⊎ (x ≤ vars) → value_of (listing w vars) x ≡ value_of values x
agree-at values w vars aux is agree x low off (inr high) = listing-value w vars x low high ∙ agree x off
agree-at values w vars aux is agree x low off (inl past) = listing-past w vars x past ∙ sym (get_or_past values (x - 1) false (omega (arith, is, past)))

step-back : (values : List Bool) (s : Stored) (x : Found) (t : Stored) → IsFormula (problem_of s) → IsStep s x t → Satisfies values (problem_of t) → Restored s x.group.aux values
step-back values s x t fits step h =
    let k : Satisfies values (problem_of (replaced s step.test (klause x.bound x.group.border))) = subst (λ u. Satisfies values (problem_of u)) step.next h in
    let came : Numbered = record { id = s.added + 1; constraint = klause x.bound x.group.border } in
    let rest = left step.test s.live in
    let can : CanHold x.group (value_of values) = (step.cardinal.counts (value_of values)).1 (enough-of values x.bound x.group.border (all-last (Holds values) rest came k.hold)) in
    let w = can.0 in
    let other = listing w s.vars in
    let true_all : AllByRecursion (λ c. clause_function c w ≡ true) (constraints_of (chosen step.test s.live)) = subst (AllByRecursion (λ c. clause_function c w ≡ true)) step.taken can.2 in
    let fit_in = keep (Fits s.vars) (λ p. step.test p.constraint) s.live fits in
    let fit_out = keep (Fits s.vars) (λ p. not (step.test p.constraint)) s.live fits in
    let clear = all-two (λ c. is_clause c ≡ true) (Fits s.vars) (λ c. (is_clause c ≡ true) × Fits s.vars c) (λ c e f. (e, f)) (constraints_of (chosen step.test s.live)) step.clauses fit_in in
    let inside = all-two (λ c. (is_clause c ≡ true) × Fits s.vars c) (λ c. clause_function c w ≡ true) (Holds other)
    (λ c d e. clause-holds other w c d.0 (known-same w s.vars c.lits d.1.within.lits) e) (constraints_of (chosen step.test s.live)) clear true_all in
    let outer = all-two (λ c. step.test c ≡ false) (Fits s.vars) (λ c. AllByRecursion (λ l. is_true other l ≡ is_true values l) (named c))
    (λ c e f. all-two (λ l. is_among x.group.aux l.variable ≡ false) (IsKnown s.vars) (λ l. is_true other l ≡ is_true values l)
    (λ l off known. alike-one values w s.vars x.group.aux can.1 l known off) (named c) (step.apart c e) (known-named s.vars c f))
    (constraints_of rest) (stay step.test s.live) fit_out in
    let outside = all-two (λ c. AllByRecursion (λ l. is_true other l ≡ is_true values l) (named c)) (Holds values) (Holds other)
    (λ c e f. holds-alike values other c e f) (constraints_of rest) outer (all-front (Holds values) rest (came ∷ []) k.hold) in
    record {
      other = other;
      models = record { vars = length-map-range_with_len w 1 s.vars; hold = both (Holds other) step.test s.live inside outside };
      agrees = λ y low off. agree-at values w s.vars x.group.aux k.vars can.1 y low off (cases_lt s.vars y);
    }

-- runs
abbrev pub AreSteps : (Stored → ℕ → Found → Stored → Type 0) → Type 0
AreSteps Takes = (s : Stored) (n : ℕ) (x : Found) (t : Stored) → IsFormula (problem_of s) → Takes s n x t → IsStep s x t

pub among-parts : (xs ys : List ℕ) (x : ℕ) → is_among (xs ++ ys) x ≡ false → (is_among xs x ≡ false) × (is_among ys x ≡ false)
among-parts [] ys x e = (refl, e)
among-parts (y ∷ xs) ys x e =
    let p = or_parts (y == x) (is_among (xs ++ ys) x) e in
    let q = among-parts xs ys x p.1 in
    (ap (λ t. t || is_among xs x) p.0 ∙ q.0, q.1)

pub tries-formula : (Takes : Stored → ℕ → Found → Stored → Type 0) → AreSteps Takes → (ns : List ℕ) (s : Stored) (found : List Found) (t : Stored) → Tries Takes ns s found t → IsFormula (problem_of s) → IsFormula (problem_of t)
tries-formula Takes are [] s found t run fits = subst (λ u. IsFormula (problem_of u)) (sym run.1) fits
tries-formula Takes are (n ∷ ns) s found t (inl (none, run)) fits = tries-formula Takes are ns s found t run fits
tries-formula Takes are (n ∷ ns) s found t (inr (x, u, more, e, takes, run)) fits = tries-formula Takes are ns u more t run (step-formula s x u (are s n x u fits takes) fits)

pub tries-on : (Takes : Stored → ℕ → Found → Stored → Type 0) → AreSteps Takes → (values : List Bool) (ns : List ℕ) (s : Stored) (found : List Found) (t : Stored) → Tries Takes ns s found t → IsFormula (problem_of s)
    → Satisfies values (problem_of s) → Satisfies values (problem_of t)
tries-on Takes are values [] s found t run fits h = subst (λ u. Satisfies values (problem_of u)) (sym run.1) h
tries-on Takes are values (n ∷ ns) s found t (inl (none, run)) fits h = tries-on Takes are values ns s found t run fits h
tries-on Takes are values (n ∷ ns) s found t (inr (x, u, more, e, takes, run)) fits h =
    let step = are s n x u fits takes in
    tries-on Takes are values ns u more t run (step-formula s x u step fits) (step-on values s x u step h)

join-back : (values : List Bool) (s : Stored) (x : Found) (u : Stored) (more : List Found) → IsFormula (problem_of s) → IsStep s x u → Restored u (listed more) values → Restored s (listed (x ∷ more)) values
join-back values s x u more fits step r =
    let q = step-back r.other s x u fits step r.models in
    record {
      other = q.other;
      models = q.models;
      agrees = λ y low off. let p = among-parts x.group.aux (listed more) y off in q.agrees y low p.0 ∙ r.agrees y low p.1;
    }

pub tries-back : (Takes : Stored → ℕ → Found → Stored → Type 0) → AreSteps Takes → (values : List Bool) (ns : List ℕ) (s : Stored) (found : List Found) (t : Stored) → Tries Takes ns s found t → IsFormula (problem_of s)
    → Satisfies values (problem_of t) → Restored s (listed found) values
tries-back Takes are values [] s found t run fits h = record { other = values; models = subst (λ u. Satisfies values (problem_of u)) run.1 h; agrees = λ x low e. refl }
tries-back Takes are values (n ∷ ns) s found t (inl (none, run)) fits h = tries-back Takes are values ns s found t run fits h
tries-back Takes are values (n ∷ ns) s found t (inr (x, u, more, e, takes, run)) fits h =
    let step = are s n x u fits takes in
    subst (λ z. Restored s (listed z) values) (sym e) (join-back values s x u more fits step (tries-back Takes are values ns u more t run (step-formula s x u step fits) h))
