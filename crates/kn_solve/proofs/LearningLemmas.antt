-- No clause is learned in an opening, and few are in the search behind it.
use Rattle.std.proofs.Common.{ℕ, zero, suc, ◌≡◌, ◌+◌, ◌-◌, ◌<◌, ◌^◌, Bool, true, false, cond, eqb, List, [], ◌∷◌, ◌++◌, map, Option, None, Some, Result, Ok, Err, refl, sym, subst}
use Rattle.std.specs.Prelude.{slice_get, slice_set}
use Rattle.std.specs.List.{AllByRecursion}
use Rattle.std.specs.Option.{is_none}
use Rattle.kn_logic.specs.Constraints.{Bounded}
use Rattle.kn_logic.specs.Formulas.{Problem}
use Rattle.kn_lines.specs.declared.line.Line.{Line}
use Rattle.kn_lines.specs.declared.line.Line.TheVariants.{Header, Define, Lemma, Learned, Klause, Unfold, Delete}
use Rattle.kn_rules.specs.declared.given.Given.{Given}
use Rattle.kn_rules.specs.declared.given.Origin.{Origin}
use Rattle.kn_rules.specs.declared.given.Origin.TheVariants as origin
use Rattle.kn_rules.specs.States.{ProofState, from_file, start, given_at, live_at}
use Rattle.kn_rules.specs.Steps.{by_definition, definition_clauses, next_variable, without, deleted, step}
use Rattle.kn_rules.specs.Stepping.{StepsBy, learned_in}
use Rattle.kn_rules.specs.Searching.{is_learned, live_before, learned_live}
use Rattle.kn_rules.proofs.Public.{follow-gives, define-gives, count-gives, with_given-ok, few-learned, few-forgetting}
use Rattle.kn_extract.specs.Extractions.{Found}
use Rattle.kn_opening.specs.Openings.{IsOpeningLine, AreOpeningLines}
use Rattle.kn_solve.specs.Solutions.{IsSolverProof}
use Rattle.kn_solve.proofs.SolvingLemmas.{none-learned}

-- nothing was given as a learned clause, live or deleted
abbrev LearnsNone : List Given → Type 0
LearnsNone given = AllByRecursion (λ e. is_learned e.origin ≡ false) given

none-from-file : (cs : List Bounded) → LearnsNone (map from_file cs)
none-from-file [] = tt
none-from-file (c ∷ cs) = (refl, none-from-file cs)

none-more : (given more : List Given) → LearnsNone given → LearnsNone more → LearnsNone (given ++ more)
none-more [] more h k = k
none-more (e ∷ given) more h k = (h.0, none-more given more h.1 k)

none-defined : (cs : List Bounded) → LearnsNone (map by_definition cs)
none-defined [] = tt
none-defined (c ∷ cs) = (refl, none-defined cs)

none-set : (given : List Given) (k : ℕ) (e : Given) → LearnsNone given → is_learned e.origin ≡ false → LearnsNone (slice_set given k e)
none-set [] k e h is = tt
none-set (x ∷ given) zero e h is = (is, h.1)
none-set (x ∷ given) (suc k) e h is = (h.0, none-set given k e h.1 is)

-- what stands under an id, if anything does
abbrev IsPlain : Option Given → Type 0
IsPlain None = Unit {0}
IsPlain (Some e) = is_learned e.origin ≡ false

plain-get : (given : List Given) (k : ℕ) → LearnsNone given → IsPlain (slice_get given k)
plain-get [] k h = tt
plain-get (x ∷ given) zero h = h.0
plain-get (x ∷ given) (suc k) h = plain-get given k h.1

plain-if : (t : Bool) (o : Option Given) → IsPlain o → IsPlain (cond t None o)
plain-if true o h = tt
plain-if false o h = h

plain-at : (given : List Given) (id : ℕ) → LearnsNone given → IsPlain (given_at given id)
plain-at given id h = plain-if (eqb id 0) (slice_get given (id - 1)) (plain-get given (id - 1) h)

none-without : (given : List Given) (id : ℕ) (o : Option Given) → LearnsNone given → IsPlain o → LearnsNone (without given id o)
none-without given id None h is = h
none-without given id (Some e) h is = none-set given (id - 1) (record e { live = None }) h is

unless-none : (b : Bool) (r : Result (List Given) ℕ) (cause : ℕ) (given : List Given) → cond b (Err cause) r ≡ Ok given → r ≡ Ok given
unless-none true r cause given e = absurd cc
unless-none false r cause given e = e

same-given : (a b : List Given) → ◌≡◌ {A = Result (List Given) ℕ} (Ok a) (Ok b) → a ≡ b
same-given a b e = cc

none-deleted : (given last : List Given) (ids : List ℕ) → deleted given ids ≡ Ok last → LearnsNone given → LearnsNone last
none-deleted given last [] e h = subst LearnsNone (same-given given last e) h
none-deleted given last (id ∷ ids) e h =
    none-deleted (without given id (given_at given id)) last ids
    (unless-none (is_none (live_at given id)) (deleted (without given id (given_at given id)) ids) 4 last e)
    (none-without given id (given_at given id) h (plain-at given id h))

none-step : (s t : ProofState) (line : Line) → IsOpeningLine line → step s line ≡ Ok t → LearnsNone s.given → LearnsNone t.given
none-step s t (Header vars constraints) is e h = absurd is
none-step s t (Define x high low) is e h =
    subst (λ (u : ProofState). LearnsNone u.given) (sym (define-gives s t x high low e))
    (none-more s.given (map by_definition (definition_clauses (next_variable s) x high low)) h (none-defined (definition_clauses (next_variable s) x high low)))
none-step s t (Lemma c hints) is e h = subst (λ (u : ProofState). LearnsNone u.given) (sym (follow-gives s t origin.Lemma c.lits hints e)) (none-more s.given _ h (refl, tt))
none-step s t (Learned c hints) is e h = absurd is
none-step s t (Klause c root unit) is e h = subst (λ (u : ProofState). LearnsNone u.given) (sym (count-gives s t c.bound c.lits root unit e)) (none-more s.given _ h (refl, tt))
none-step s t (Unfold id root) is e h = absurd is
none-step s t (Delete ids) is e h = none-deleted s.given t.given ids (with_given-ok s t (deleted s.given ids) e) h

none-steps : (lines : List Line) (s t : ProofState) → AreOpeningLines lines → StepsBy s lines t → LearnsNone s.given → LearnsNone t.given
none-steps [] s t is e h = subst (λ (u : ProofState). LearnsNone u.given) e h
none-steps (line ∷ lines) s t is (next, one, more) h = none-steps lines next t is.1 more (none-step s next line is.0 one h)

none-behind : (o : Origin) (live : Option Bounded) (cs : List Bounded) → is_learned o ≡ false → cs ≡ [] → live_before (is_learned o) live cs ≡ []
none-behind o live cs h e = subst (λ t. live_before t live cs ≡ []) (sym h) e

none-live : (given : List Given) → LearnsNone given → learned_live given ≡ []
none-live [] h = refl
none-live (e ∷ given) h = none-behind e.origin e.live (learned_live given) h.0 (none-live given h.1)

-- where the search begins, no learned clause is live
none-opened : (f : Problem) (lines : List Line) (middle : ProofState) → AreOpeningLines lines → StepsBy (start f) lines middle → learned_live middle.given ≡ []
none-opened f lines middle is e = none-live middle.given (none-steps lines (start f) middle is e (none-from-file f.constraints))

pub opening-learns-none : (f : Problem) (forget : ℕ) (found : List Found) (before body : List Line) (last : ProofState) → IsSolverProof f forget found before body last → learned_in before ≡ 0
opening-learns-none f forget found before body last h = none-learned before h.lines

pub proof-keeping : (f : Problem) (found : List Found) (before body : List Line) (last : ProofState) → IsSolverProof f 0 found before body last → learned_in body < 3 ^ f.vars
proof-keeping f found before body last h = few-learned f.vars h.middle last body h.searches (none-opened f before h.middle h.lines h.opens)

pub proof-forgetting : (f : Problem) (forget : ℕ) (found : List Found) (before body : List Line) (last : ProofState) → IsSolverProof f forget found before body last → learned_in body < 9 ^ f.vars
proof-forgetting f forget found before body last h = few-forgetting f.vars forget h.middle last body h.searches (none-opened f before h.middle h.lines h.opens)
