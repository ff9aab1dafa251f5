-- What solving says of a formula and its proof, in the words of bytes: they are those of a solver's proof, and say what
-- the outcome says. Any formula will do whose header can be written.
use Rattle.std.proofs.Common.{◌≡◌, ◌≤◌, ◌<◌, ◌^◌, ◌++◌, ◌∷◌, List, ℕ, [], length, refl, sym, ◌∙◌, subst, arith}
use Rattle.kn_bytes.specs.Outside.{GotPrefix}
use Rattle.kn_bytes.proofs.Public.{Got-nil}
use Rattle.kn_logic.specs.Formulas.{Problem}
use Rattle.kn_lines.specs.declared.line.Line.{Line}
use Rattle.kn_rules.specs.States.{ProofState, start}
use Rattle.kn_rules.specs.Stepping.{StepsBy, learned_in}
use Rattle.kn_rules.proofs.Public.{StepsBy-append, learned_in-append, searches-step}
use Rattle.kn_log.specs.Logs.{header_of}
use Rattle.kn_log.specs.Written.{AreSpelled, lines_bytes, learned_count}
use Rattle.kn_log.proofs.Public.{written_steps, written_proof, written_learned}
use Rattle.kn_extract.specs.Extractions.{Found}
use Rattle.kn_search.specs.declared.outcome.Options.{Options}
use Rattle.kn_search.specs.declared.outcome.Outcome.{Outcome}
use Rattle.kn_search.specs.declared.outcome.Outcome.TheVariants as outcome
use Rattle.kn_solve.specs.Solutions.{IsSolverProof, Says, Solves, SolvesNot}
use Rattle.kn_solve.proofs.Public.{opening-learns-none, proof-keeping, proof-forgetting}
use Rattle.kn_tool.specs.Changes.{Change, Sink}
use Rattle.kn_tool.specs.Solves.{IsStepping, GotSteps, IsSmall}
use Rattle.kn_tool.specs.Replies.{OutcomeSays, Finds}
use Rattle.kn_tool.proofs.Reading.{reads, all-new}

-- the formula is one whose header can be written
pub record IsListed (f : Problem) : Type 0 where
  pub vars : f.vars ≤ 2 ^ 32
  pub count : length f.constraints < 2 ^ 64

vars_fit : (n : ℕ) → n ≤ 2 ^ 32 → n < 2 ^ 64
vars_fit n h = omega arith

-- the header and these lines
abbrev all_bytes : Problem → List Line → List ℕ
all_bytes f lines = lines_bytes (header_of f ∷ lines)

stepping : (f : Problem) (lines : List Line) (last : ProofState) → IsListed f → StepsBy (start f) lines last → AreSpelled lines → IsStepping f (all_bytes f lines)
stepping f lines last h steps k = (last, written_steps f lines last (vars_fit f.vars h.vars) h.count steps k)

learned-among : (f : Problem) (lines : List Line) → IsListed f → AreSpelled lines → learned_count (all_bytes f lines) ≡ learned_in lines
learned-among f lines h k = written_learned f lines (vars_fit f.vars h.vars) h.count k

few : (budget n m : ℕ) → n ≡ m → m ≤ budget → n ≤ budget
few budget n m e h = omega (arith, e, h)

-- nothing was written: the header of a proof was to come
pub nothing-got : (budget : ℕ) (f : Problem) (p : Change Sink) → IsListed f → p.new.written ≡ p.old.written → GotSteps budget f p
nothing-got budget f p h same = (
  all_bytes f [],
  stepping f [] (start f) h refl tt,
  few budget (learned_count (all_bytes f [])) 0 (learned-among f [] h tt) (omega arith),
  subst (λ w. GotPrefix p.old.written w (all_bytes f [])) (sym same) ([], all_bytes f [], refl, Got-nil p.old.written),
)

-- after an error
pub steps-got : (options : Options) (f : Problem) (p : Change Sink) → IsListed f → SolvesNot f options p.old.written p.new.written → GotSteps options.conflicts f p
steps-got options f p h ends = (
  all_bytes f ends.lines,
  stepping f ends.lines ends.last h ends.steps ends.spelled,
  few options.conflicts (learned_count (all_bytes f ends.lines)) (learned_in ends.lines) (learned-among f ends.lines h ends.spelled) ends.within,
  ends.got,
)

-- the lines of a solver's proof step, whole
all-step : (f : Problem) (forget : ℕ) (found : List Found) (opening body : List Line) (last : ProofState) → IsSolverProof f forget found opening body last → StepsBy (start f) (opening ++ body) last
all-step f forget found opening body last h = StepsBy-append opening body (start f) h.middle last h.opens (searches-step f.vars forget 0 h.middle last body h.searches)

-- only the search behind the opening learns
body-learned : (f : Problem) (forget : ℕ) (found : List Found) (opening body : List Line) (last : ProofState) → IsListed f → AreSpelled (opening ++ body) → IsSolverProof f forget found opening body last
    → learned_count (all_bytes f (opening ++ body)) ≡ learned_in body
body-learned f forget found opening body last h k proof =
    let none = opening-learns-none f forget found opening body last proof in
    let both = learned_in-append opening body in
    let all = learned-among f (opening ++ body) h k in
    omega (arith, none, both, all)

small : (f : Problem) (budget forget : ℕ) (found : List Found) (opening body : List Line) (last : ProofState) → learned_in body ≡ budget → IsSolverProof f forget found opening body last → IsSmall budget forget f.vars
small f budget forget found opening body last spent proof = (
  λ keeps. subst (λ n. n < 3 ^ f.vars) spent (proof-keeping f found opening body last (subst (λ n. IsSolverProof f n found opening body last) keeps proof)),
  subst (λ n. n < 9 ^ f.vars) spent (proof-forgetting f forget found opening body last proof),
)

-- what an outcome says of the bytes
says : (f : Problem) (budget forget : ℕ) (found : List Found) (opening body : List Line) (last : ProofState) (o : Outcome) → IsListed f → AreSpelled (opening ++ body) → IsSolverProof f forget found opening body last
    → Says f found budget (learned_in body) last o → OutcomeSays budget forget f (all_bytes f (opening ++ body)) o
says f budget forget found opening body last (outcome.Model values) h k proof told = (told.0, (found, proof.remains, proof.extraction, told.1))
says f budget forget found opening body last outcome.Refuted h k proof told =
    written_proof f (opening ++ body) last (vars_fit f.vars h.vars) h.count (all-step f forget found opening body last proof) k told
says f budget forget found opening body last (outcome.Spent learned) h k proof told =
    (told.0, body-learned f forget found opening body last h k proof ∙ told.1 ∙ sym told.0, small f budget forget found opening body last told.1 proof)

pub outcome-found : (options : Options) (f : Problem) (p : Change Sink) (o : Outcome) → IsListed f → Solves f options p.old.written p.new.written o → Finds options.conflicts options.forget f p o
outcome-found options f p o h ends =
    let lines = ends.opening ++ ends.body in (
      all_bytes f lines,
      record {
        steps = stepping f lines ends.last h (all-step f options.forget ends.found ends.opening ends.body ends.last ends.proof) ends.spelled;
        got = ends.got;
        shape = record {
          found = ends.found;
          opening = ends.opening;
          body = ends.body;
          last = ends.last;
          reads = reads f lines (vars_fit f.vars h.vars) h.count ends.spelled;
          shape = ends.proof;
        };
        new = all-new f options.forget ends.found ends.opening ends.body ends.last (vars_fit f.vars h.vars) h.count ends.spelled ends.proof;
        within = few options.conflicts (learned_count (all_bytes f lines)) (learned_in ends.body) (body-learned f options.forget ends.found ends.opening ends.body ends.last h ends.spelled ends.proof) ends.within;
      },
      says f options.conflicts options.forget ends.found ends.opening ends.body ends.last o h ends.spelled ends.proof ends.says,
    )
