-- From the opening of a proof and the search behind it to what an outcome says of the formula.
use Rattle.std.proofs.Common.{ℕ, ◌≡◌, ◌+◌, ◌-◌, ◌≤◌, ◌<◌, Bool, true, false, cond, List, [], ◌∷◌, ◌++◌, map, Option, None, Some, refl, sym, ap, subst, ◌∙◌, inl, inr, arith}
use Rattle.std.specs.Prelude.{◌⊎◌, sum_by, IfSome}
use Rattle.std.specs.List.{AllByRecursion}
use Rattle.std.specs.List.Sorted.{IsPermutation}
use Rattle.std.proofs.lemmas.List.{append_assoc, append-nil}
use Rattle.std.proofs.lemmas.List.Sums.{sum_by-cons}
use Rattle.std.proofs.lemmas.List.Sorted.{sum_by-IsPermutation, All-permutation, IsPermutation-sym}
use Rattle.std.proofs.lemmas.List.Elements.{All-from_recursion, recursion_from_All}
use Rattle.kn_bytes.specs.Outside.{Got, GotPrefix}
use Rattle.kn_bytes.proofs.Public.{Got-append, GotPrefix-append, GotPrefix-from_Got, Got-nil}
use Rattle.kn_logic.specs.Literals.{Literal, places, IsKnown}
use Rattle.kn_logic.specs.Assignments.{is_true}
use Rattle.kn_logic.specs.Constraints.{Bounded, IsOff, Holds, IsWithin, Fits}
use Rattle.kn_logic.specs.Formulas.{Problem, Satisfies}
use Rattle.kn_lines.specs.declared.line.Line.{Line}
use Rattle.kn_lines.specs.declared.line.Line.TheVariants.{Header, Define, Lemma, Learned, Klause, Unfold, Delete}
use Rattle.kn_rules.specs.States.{ProofState, start}
use Rattle.kn_rules.specs.Stepping.{learned_in}
use Rattle.kn_rules.specs.Searching.{SearchesBy, searched, is_searched, live_before}
use Rattle.kn_rules.proofs.Public.{learned_in-append}
use Rattle.kn_log.specs.Logs.{Logged, fresh, line_bytes, header_of, OpensNot}
use Rattle.kn_log.specs.Written.{lines_bytes, Adds, AddsSuch, Breaks, LogsSuchNot}
use Rattle.kn_log.specs.declared.error.LogError.{LogError}
use Rattle.kn_log.specs.declared.error.LogError.TheVariants.{Fault, Memory}
use Rattle.kn_log.proofs.Public.{AreSpelled-append, lines_bytes-append, Adds-join, Breaks-join, Breaks-front}
use Rattle.kn_rules.specs.declared.given.Given.{Given}
use Rattle.kn_store.specs.Stores.{Numbered, constraints_of}
use Rattle.kn_store.proofs.Public.{to-map}
use Rattle.kn_extract.specs.Kept.{Extracted, IsExtracted, found_of}
use Rattle.kn_rebuild.specs.Rebuilding.{AreByRule}
use Rattle.kn_opening.specs.Openings.{AreOpeningLines, IsLike, AreLike, numbered_before, live_behind, IsOpened}
use Rattle.kn_propagate.specs.Engines.{Engined}
use Rattle.kn_search.specs.Mirrors.{Mirrors}
use Rattle.kn_search.specs.Outcomes.{IsModelOf, Tells, Ends, EndsNot}
use Rattle.kn_search.specs.declared.outcome.Options.{Options}
use Rattle.kn_search.specs.declared.outcome.Outcome.{Outcome}
use Rattle.kn_search.specs.declared.outcome.Outcome.TheVariants.{Model, Refuted, Spent}
use Rattle.kn_search.specs.declared.outcome.SearchError.{SearchError}
use Rattle.kn_search.specs.declared.outcome.SearchError.TheVariants as search
use Rattle.kn_solve.specs.Solutions.{Says, Solves, SolvesNot, IsFinished, IsOutcomeOf}
use Rattle.kn_solve.proofs.LiveLemmas.{all-live}

-- ---- constraints that say the same

places-sum : (test : Literal → Bool) (lits : List Literal) → places test lits ≡ sum_by (λ l. cond (test l) 1 0) lits
places-sum test [] = refl
places-sum test (l ∷ lits) = ap (λ n. cond (test l) 1 0 + n) (places-sum test lits) ∙ sym (sum_by-cons (λ x. cond (test x) 1 0) l lits)

places-shuffled : (test : Literal → Bool) (a b : List Literal) → IsPermutation a b → places test a ≡ places test b
places-shuffled test a b p = places-sum test a ∙ sym (sum_by-IsPermutation (λ l. cond (test l) 1 0) a b p) ∙ sym (places-sum test b)

like-holds : (values : List Bool) (c d : Bounded) → IsLike c d → Holds values c → Holds values d
like-holds values c d (inl e) h = subst (Holds values) e h
like-holds values c d (inr (k, g, b, p)) (inl enough) = inl (let n = places-shuffled (is_true values) c.lits d.lits p in omega (arith, enough, n, b))
like-holds values c d (inr (k, g, b, p)) (inr off) = inr (subst (IsOff values) g off)

like-all : (values : List Bool) (cs ds : List Bounded) → AreLike cs ds → AllByRecursion (Holds values) cs → AllByRecursion (Holds values) ds
like-all values [] [] like h = tt
like-all values [] (d ∷ ds) like h = absurd like
like-all values (c ∷ cs) [] like h = absurd like
like-all values (c ∷ cs) (d ∷ ds) like h = (like-holds values c d like.0 h.0, like-all values cs ds like.1 h.1)

like-within : (vars : ℕ) (c d : Bounded) → IsLike c d → IsWithin vars d → IsWithin vars c
like-within vars c d (inl e) h = subst (IsWithin vars) (sym e) h
like-within vars c d (inr (k, g, b, p)) h = record {
  guard = subst (λ o. IfSome o (IsKnown vars)) (sym g) h.guard;
  lits = recursion_from_All (IsKnown vars) c.lits (All-permutation (IsKnown vars) d.lits c.lits (IsPermutation-sym c.lits d.lits p) (λ i e less. All-from_recursion (IsKnown vars) d.lits h.lits i e less));
}

pub all-within : (vars : ℕ) (cs ds : List Bounded) → AreLike cs ds → AllByRecursion (Fits vars) ds → AllByRecursion (IsWithin vars) cs
all-within vars [] [] like h = tt
all-within vars [] (d ∷ ds) like h = absurd like
all-within vars (c ∷ cs) [] like h = absurd like
all-within vars (c ∷ cs) (d ∷ ds) like h = (like-within vars c d like.0 h.0.within, all-within vars cs ds like.1 h.1)

before-constraints : (t : Bool) (id : ℕ) (live : Option Bounded) (ps : List Numbered) (cs : List Bounded) → cs ≡ constraints_of ps → live_before t live cs ≡ constraints_of (numbered_before t id live ps)
before-constraints true id (Some c) ps cs e = ap (λ (z : List Bounded). c ∷ z) e
before-constraints true id None ps cs e = e
before-constraints false id (Some c) ps cs e = e
before-constraints false id None ps cs e = e

pub searched-live : (last : ℕ) (given : List Given) → searched given ≡ constraints_of (live_behind last given)
searched-live last [] = refl
searched-live last (x ∷ given) = before-constraints (is_searched x.origin) (last + 1) x.live (live_behind (last + 1) given) (searched given) (searched-live (last + 1) given)

-- what the engine is asked to have
pub opened-within : (e : Extracted) (s : ProofState) (ids : List ℕ) → IsExtracted e → IsOpened e s ids → AllByRecursion (IsWithin e.formula.vars) (constraints_of (live_behind 0 s.given))
opened-within e s ids x o = subst (AllByRecursion (IsWithin e.formula.vars)) (searched-live 0 s.given) (all-within e.formula.vars (searched s.given) e.formula.constraints o.like x.formula)

-- a model of the engine is one of the formula that remains
pub opened-model : (e : Extracted) (s : ProofState) (ids : List ℕ) (engine : Engined) (values : List Bool) → IsOpened e s ids → Mirrors engine.live s.given → engine.trail.vars ≡ e.formula.vars → IsModelOf engine values → Satisfies values e.formula
opened-model e s ids engine values o m vars model = record {
  vars = model.0 ∙ vars;
  hold = like-all values (searched s.given) e.formula.constraints o.like
      (subst (AllByRecursion (Holds values)) (sym (searched-live 0 s.given)) (all-live (Holds values) engine.live s.given m model.1));
}

-- ---- an opening learns nothing

zero-more : (n : ℕ) → n ≡ 0 → 0 + n ≡ 0
zero-more n e = omega (arith, e)

pub none-learned : (lines : List Line) → AreOpeningLines lines → learned_in lines ≡ 0
none-learned [] h = refl
none-learned (Header vars constraints ∷ lines) h = absurd h.0
none-learned (Define x high low ∷ lines) h = zero-more (learned_in lines) (none-learned lines h.1)
none-learned (Lemma c hints ∷ lines) h = zero-more (learned_in lines) (none-learned lines h.1)
none-learned (Learned c hints ∷ lines) h = absurd h.0
none-learned (Klause c root unit ∷ lines) h = zero-more (learned_in lines) (none-learned lines h.1)
none-learned (Unfold id root ∷ lines) h = absurd h.0
none-learned (Delete ids ∷ lines) h = zero-more (learned_in lines) (none-learned lines h.1)

-- ---- errors

whole-prefix : (w : Option (List ℕ)) (bytes : List ℕ) → GotPrefix w w bytes
whole-prefix w bytes = ([], bytes, refl, Got-nil w)

pub error-header : (f : Problem) (options : Options) (w w' : Option (List ℕ)) (e : LogError) → OpensNot f w w' e → SolvesNot f options w w'
error-header f options w w' Fault h = record {
  lines = [];
  last = start f;
  steps = refl;
  spelled = tt;
  got = subst (GotPrefix w w') (sym (append-nil (line_bytes (header_of f)))) h;
  within = omega arith;
}
error-header f options w w' Memory h = record {
  lines = [];
  last = start f;
  steps = refl;
  spelled = tt;
  got = subst (λ v. GotPrefix w v (line_bytes (header_of f) ++ [])) (sym h) (whole-prefix w (line_bytes (header_of f) ++ []));
  within = omega arith;
}

-- whole lines behind the header
pub error-whole : (f : Problem) (options : Options) (lines : List Line) (log : Logged) (w v u : Option (List ℕ)) → Got w v (line_bytes (header_of f)) → Adds lines (fresh f) log v u → learned_in lines ≤ options.conflicts → SolvesNot f options w u
error-whole f options lines log w v u header adds few = record {
  lines = lines;
  last = log.state;
  steps = adds.steps;
  spelled = adds.spelled;
  got = GotPrefix-append w v u (line_bytes (header_of f)) (lines_bytes lines) header (subst (GotPrefix v u) (append-nil (lines_bytes lines)) (GotPrefix-from_Got v u (lines_bytes lines) [] adds.got));
  within = few;
}

-- and a last one that was broken off
pub error-broken : (f : Problem) (options : Options) (lines : List Line) (last : Line) (log : Logged) (w v u : Option (List ℕ)) → Got w v (line_bytes (header_of f)) → Breaks lines last (fresh f) log v u → learned_in (lines ++ last ∷ []) ≤ options.conflicts
    → SolvesNot f options w u
error-broken f options lines last log w v u header breaks few = record {
  lines = lines ++ last ∷ [];
  last = log.state;
  steps = breaks.steps;
  spelled = breaks.spelled;
  got = GotPrefix-append w v u (line_bytes (header_of f)) (lines_bytes (lines ++ last ∷ [])) header (Breaks-front lines last (fresh f) log v u breaks);
  within = few;
}

opening-few : (options : Options) (lines : List Line) → AreOpeningLines lines → learned_in lines ≤ options.conflicts
opening-few options lines h = let n = none-learned lines h in omega (arith, n)

pub error-opening : (f : Problem) (options : Options) (log : Logged) (w v u : Option (List ℕ)) (e : LogError) → Got w v (line_bytes (header_of f)) → LogsSuchNot AreOpeningLines (fresh f) log v u e → SolvesNot f options w u
error-opening f options log w v u Fault header (lines, last, p, breaks) = error-broken f options lines last log w v u header breaks (opening-few options (lines ++ last ∷ []) p)
error-opening f options log w v u Memory header (lines, p, adds) = error-whole f options lines log w v u header adds (opening-few options lines p)

pub error-opened : (f : Problem) (options : Options) (log : Logged) (w v u : Option (List ℕ)) → Got w v (line_bytes (header_of f)) → AddsSuch AreOpeningLines (fresh f) log v u → SolvesNot f options w u
error-opened f options log w v u header (lines, p, adds) = error-whole f options lines log w v u header adds (opening-few options lines p)

both-few : (options : Options) (a b : List Line) → AreOpeningLines a → learned_in b ≤ options.conflicts → learned_in (a ++ b) ≤ options.conflicts
both-few options a b h few = let n = none-learned a h in let m = learned_in-append a b in omega (arith, n, m, few)

pub error-search : (f : Problem) (options : Options) (engine : Engined) (log new : Logged) (w v u t : Option (List ℕ)) (e : SearchError) → Got w v (line_bytes (header_of f)) → AddsSuch AreOpeningLines (fresh f) log v u → EndsNot engine options log new u t e
    → SolvesNot f options w t
error-search f options engine log new w v u t search.Memory header (a, p, adds) (b, m, more) =
    error-whole f options (a ++ b) new w v t header (Adds-join a b (fresh f) log new v u t adds more) (both-few options a b p m.1)
error-search f options engine log new w v u t search.WriteFault header (a, p, adds) (b, last, m, breaks) =
    error-broken f options (a ++ b) last new w v t header (Breaks-join a b last (fresh f) log new v u t adds breaks)
    (subst (λ ls. learned_in ls ≤ options.conflicts) (sym (append_assoc a b (last ∷ []))) (both-few options a (b ++ last ∷ []) p m.1))

-- ---- an outcome

says-finished : (e : Extracted) (engine : Engined) (budget learned : ℕ) (last : ProofState) (outcome result : Outcome) → IsFinished e outcome result → Tells engine budget learned last outcome → Says e.original (map found_of e.taken) budget learned last result
says-finished e engine budget learned last (Model values) result (w, is, model, rule) h =
    subst (Says e.original (map found_of e.taken) budget learned last) (sym is) (model, to-map found_of (λ x. AreByRule w x.group) e.taken rule)
says-finished e engine budget learned last Refuted result is h = subst (Says e.original (map found_of e.taken) budget learned last) (sym is) h
says-finished e engine budget learned last (Spent count) result is h = subst (Says e.original (map found_of e.taken) budget learned last) (sym is) h

pub solved : (e : Extracted) (options : Options) (engine : Engined) (ids : List ℕ) (log new : Logged) (w v u t : Option (List ℕ)) (outcome result : Outcome) → IsExtracted e → Got w v (line_bytes (header_of e.original))
    → AddsSuch AreOpeningLines (fresh e.original) log v u → IsOpened e log.state ids → engine.trail.vars ≡ e.original.vars → Ends engine options log new u t outcome → IsFinished e outcome result → Solves e.original options w t result
solved e options engine ids log new w v u t outcome result x header (opening, p, adds) opened vars ends finished = record {
  found = map found_of e.taken;
  opening = opening;
  body = ends.lines;
  last = new.state;
  proof = record {
    remains = e.formula;
    middle = log.state;
    extraction = x.extraction;
    opens = adds.steps;
    lines = p;
    begins = opened.like;
    searches = subst (λ n. SearchesBy n options.forget 0 log.state ends.lines new.state) vars ends.searches;
  };
  spelled = AreSpelled-append opening ends.lines adds.spelled ends.adds.spelled;
  got = Got-append w v t (line_bytes (header_of e.original)) (lines_bytes (opening ++ ends.lines)) header
      (subst (Got v t) (sym (lines_bytes-append opening ends.lines)) (Got-append v u t (lines_bytes opening) (lines_bytes ends.lines) adds.got ends.adds.got));
  within = ends.within;
  says = says-finished e engine options.conflicts (learned_in ends.lines) new.state outcome result finished ends.tells;
}

outcome-told : (e : Extracted) (s last : ProofState) (ids : List ℕ) (engine : Engined) (budget learned : ℕ) (outcome : Outcome) → IsOpened e s ids → Mirrors engine.live s.given → engine.trail.vars ≡ e.formula.vars → Tells engine budget learned last outcome → IsOutcomeOf e.formula outcome
outcome-told e s last ids engine budget learned (Model values) o m vars h = opened-model e s ids engine values o m vars h
outcome-told e s last ids engine budget learned Refuted o m vars h = tt
outcome-told e s last ids engine budget learned (Spent count) o m vars h = tt

pub outcome-of : (e : Extracted) (options : Options) (s : ProofState) (ids : List ℕ) (engine : Engined) (log new : Logged) (u t : Option (List ℕ)) (outcome : Outcome) → IsOpened e s ids → Mirrors engine.live s.given → engine.trail.vars ≡ e.formula.vars
    → Ends engine options log new u t outcome → IsOutcomeOf e.formula outcome
outcome-of e options s ids engine log new u t outcome o m vars ends = outcome-told e s new.state ids engine options.conflicts (learned_in ends.lines) outcome o m vars ends.tells
