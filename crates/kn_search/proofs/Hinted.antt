-- Hints of the engine are hints of the log: a clause that they refute is a line that steps.
use Rattle.std.proofs.Common.{◌≡◌, ℕ, ◌≤◌, ◌++◌, true, List, [], ◌∷◌, map, Option, None, Some, Ok, Err, IsOk, refl, sym, ap, ◌∙◌, subst}
use Rattle.std.specs.List.{AllByRecursion}
use Rattle.std.specs.Option.{is_none, option_and_then, option_map}
use Rattle.std.proofs.lemmas.Bool.{and_from, le-leb, cond-true}
use Rattle.std.proofs.lemmas.Option.{same_Some}
use Rattle.kn_logic.proofs.Public.{are_known-more}
use Rattle.kn_logic.specs.Literals.{Literal, negated, AreKnown}
use Rattle.kn_logic.specs.Constraints.{Bounded, clause}
use Rattle.kn_logic.specs.Propagation.{hint_run}
use Rattle.kn_logic.specs.Newness.{IsNew}
use Rattle.kn_lines.specs.Lines.{AreIds}
use Rattle.kn_lines.specs.declared.line.Line.TheVariants.{Learned}
use Rattle.kn_rules.specs.declared.given.Given.{Given}
use Rattle.kn_rules.specs.declared.given.Origin.{Origin}
use Rattle.kn_rules.specs.declared.given.Origin.TheVariants as origin
use Rattle.kn_rules.specs.States.{ProofState, live_at}
use Rattle.kn_rules.specs.Steps.{are_known, hinted, is_conflict, with_clause, if_conflict, follow}
use Rattle.kn_rules.specs.Searching.{is_searched, IsGivenBy, Allows}
use Rattle.kn_propagate.specs.Engines.{Live, live_in, constraints}
use Rattle.kn_learn.specs.Lessons.{hinted_by, Refutes}
use Rattle.kn_search.specs.Mirrors.{Mirrors}
use Rattle.kn_search.proofs.Ids.{live-at, given-ids}
use Rattle.kn_search.proofs.Mirroring.{new-for-log}

hinted_split : (o : Option (List Bounded)) (c : Bounded) (cs : List Bounded) → option_map (λ xs. c ∷ xs) o ≡ Some cs → (rest : List Bounded) × (o ≡ Some rest) × (cs ≡ c ∷ rest)
hinted_split None c cs e = absurd cc
hinted_split (Some rest) c cs e = (rest, refl, sym (same_Some (c ∷ rest) cs e))

hinted_at : (live : List Live) (given : List Given) (id : ℕ) (ids : List ℕ) (cs : List Bounded) (o : Option Bounded) → Mirrors live given → live_in live id ≡ o
    → option_and_then (λ c. option_map (λ xs. c ∷ xs) (hinted_by (live_in live) ids)) o ≡ Some cs
    → ((ds : List Bounded) → hinted_by (live_in live) ids ≡ Some ds → (hinted given ids ≡ Some ds) × AllByRecursion (IsGivenBy is_searched given) ids)
    → (hinted given (id ∷ ids) ≡ Some cs) × AllByRecursion (IsGivenBy is_searched given) (id ∷ ids)
hinted_at live given id ids cs None m at e ih = absurd cc
hinted_at live given id ids cs (Some c) m at e ih =
    let (rest, hints, same) = hinted_split (hinted_by (live_in live) ids) c cs e in
    let (found, all) = ih rest hints in
    let (entry, there, searched, is) = m.in_log id c at in
    let lives : live_at given id ≡ Some c = live-at given id entry c there is in
    (subst (λ (ds : List Bounded). hinted given (id ∷ ids) ≡ Some ds) (sym same) (rw (lives, found) refl), ((entry, there, searched), all))

hints_mirrored : (live : List Live) (given : List Given) (ids : List ℕ) (cs : List Bounded) → Mirrors live given → hinted_by (live_in live) ids ≡ Some cs
    → (hinted given ids ≡ Some cs) × AllByRecursion (IsGivenBy is_searched given) ids
hints_mirrored live given [] cs m e = (e, tt)
hints_mirrored live given (id ∷ ids) cs m e = hinted_at live given id ids cs (live_in live id) m refl e (λ ds h. hints_mirrored live given ids ds m h)

known_is : (vars : ℕ) (lits : List Literal) → AreKnown vars lits → are_known vars lits ≡ true
known_is vars [] h = refl
known_is vars (l ∷ lits) h = and_from _ _ (and_from _ _ (le-leb _ _ h.0.0) (le-leb _ _ h.0.1)) (known_is vars lits h.1)

follow_steps : (s : ProofState) (o : Origin) (lits : List Literal) (hints : List ℕ) (cs : List Bounded) → are_known s.vars lits ≡ true → hinted s.given hints ≡ Some cs
    → hint_run (map negated lits) cs ≡ None → IsOk (follow s o lits hints)
follow_steps s o lits hints cs known found run =
    let conflict : is_conflict lits cs ≡ true = ap (λ (r : Option (List Literal)). is_none r) run in
    subst (λ r. IsOk r) (sym (cond-true _ (if_conflict s o lits (hinted s.given hints)) (Err 3) known))
    (subst (λ r. IsOk (if_conflict s o lits r)) (sym found)
    (subst (λ r. IsOk r) (sym (cond-true _ (Ok (with_clause s o lits)) (Err 5) conflict)) refl))

-- what a line of a clause with hints asks for
pub record IsLine (s : ProofState) (o : Origin) (c : Bounded) (hints : List ℕ) : Type 0 where
  pub formed : (c ≡ clause c.lits) × AreIds hints
  pub steps : IsOk (follow s o c.lits hints)
  pub uses : AllByRecursion (IsGivenBy is_searched s.given) hints

-- a clause that the engine's hints refute is a line that steps, and its hints are such as a search may use
refuted_steps : (s : ProofState) (o : Origin) (live : List Live) (lits : List Literal) (hints : List ℕ) → Mirrors live s.given → AreKnown s.vars lits → Refutes live lits hints
    → IsLine s o (clause lits) hints
refuted_steps s o live lits hints m known (cs, e, run) =
    let (found, all) = hints_mirrored live s.given hints cs m e in
    record { formed = (refl, given-ids is_searched s.given hints all); steps = follow_steps s o lits hints cs (known_is s.vars lits known) found run; uses = all }

pub line-of : (s : ProofState) (o : Origin) (live : List Live) (c : Bounded) (lits : List Literal) (hints ids : List ℕ) → c ≡ clause lits → hints ≡ ids → Mirrors live s.given → AreKnown s.vars lits → Refutes live lits ids
    → IsLine s o c hints
line-of s o live c lits hints ids is same m known refutes =
    subst (λ (d : Bounded). IsLine s o d hints) (sym is) (subst (IsLine s o (clause lits)) (sym same) (refuted_steps s o live lits ids m known refutes))

-- a learned clause of the engine may be logged
pub learned-allowed : (vars forget deletions : ℕ) (s : ProofState) (live : List Live) (lits : List Literal) (hints : List ℕ) → vars ≤ s.vars → Mirrors live s.given → AreKnown vars lits → IsNew (constraints live) lits → Refutes live lits hints
    → Allows vars forget deletions s (Learned (clause lits) hints)
learned-allowed vars forget deletions s live lits hints le m known new refutes =
    (known, new-for-log live s.given lits m new, (refuted_steps s origin.Learned live lits hints m (are_known-more vars s.vars lits le known) refutes).uses)
