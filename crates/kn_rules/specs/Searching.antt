-- The lines that a search adds to a proof: learned clauses that are new, deletions of learned clauses, and at last
-- perhaps the clause without literals. None of them rests on definitions, lemmas or unfolded klauses.
use Rattle.std.specs.Prelude.{ℕ, ◌≡◌, ◌≤◌, ◌+◌, Bool, true, false, if◌then◌else◌, List, [], ◌∷◌, length, Option, Some, Ok}
use Rattle.std.specs.List.{AllByRecursion}
use Rattle.kn_logic.specs.Literals.{AreKnown}
use Rattle.kn_logic.specs.Constraints.{Bounded}
use Rattle.kn_logic.specs.Newness.{IsNew}
use Rattle.kn_lines.specs.declared.line.Line.{Line}
use Rattle.kn_lines.specs.declared.line.Line.TheVariants.{Lemma, Learned, Delete}
use Rattle.kn_rules.specs.declared.given.Given.{Given}
use Rattle.kn_rules.specs.declared.given.Origin.{Origin}
use Rattle.kn_rules.specs.declared.given.Origin.TheVariants as origin
use Rattle.kn_rules.specs.States.{ProofState, given_at}
use Rattle.kn_rules.specs.Steps.{step}
use Rattle.kn_rules.specs.Stepping.{is_lemma, is_deletion}

-- whether a search rests on what was given so: by the file, as a klause or as a learned clause
abbrev pub is_searched : Origin → Bool
is_searched origin.File = true
is_searched origin.Klause = true
is_searched origin.Learned = true
is_searched other = false

abbrev pub is_learned : Origin → Bool
is_learned origin.Learned = true
is_learned other = false

-- a constraint before others, where it is wanted and live
abbrev pub live_before : Bool → Option Bounded → List Bounded → List Bounded
live_before true (Some c) cs = c ∷ cs
live_before wanted live cs = cs

-- the live constraints that a search rests on, in the order of their ids
abbrev pub searched : List Given → List Bounded
searched [] = []
searched (entry ∷ given) = live_before (is_searched entry.origin) entry.live (searched given)

-- the live learned clauses
abbrev pub learned_live : List Given → List Bounded
learned_live [] = []
learned_live (entry ∷ given) = live_before (is_learned entry.origin) entry.live (learned_live given)

-- what stands under the id was given so
abbrev pub IsGivenBy : (Origin → Bool) → List Given → ℕ → Type 0
IsGivenBy test given id = (entry : Given) × (given_at given id ≡ Some entry) × (test entry.origin ≡ true)

-- What a search over the variables from 1 to `vars` may log in a state, when it has logged so many deletions.
--   a learned clause    that is new, by hints that a search rests on
--   a deletion          of learned clauses, where at least `forget` are live, and one more for each deletion before
--   a lemma             without literals, by such hints
abbrev pub Allows : ℕ → ℕ → ℕ → ProofState → Line → Type 0
Allows vars forget deletions s (Learned c hints) =
    AreKnown vars c.lits × IsNew (searched s.given) c.lits × AllByRecursion (IsGivenBy is_searched s.given) hints
Allows vars forget deletions s (Delete ids) =
    (1 ≤ forget) × (forget + deletions ≤ length (learned_live s.given)) × AllByRecursion (IsGivenBy is_learned s.given) ids
Allows vars forget deletions s (Lemma c hints) = (c.lits ≡ []) × AllByRecursion (IsGivenBy is_searched s.given) hints
Allows vars forget deletions s other = ⊥

-- The lines step, one after another, each is one that a search may log, and a lemma is the last.
abbrev pub SearchesBy : ℕ → ℕ → ℕ → ProofState → List Line → ProofState → Type 0
SearchesBy vars forget deletions old [] new = old ≡ new
SearchesBy vars forget deletions old (line ∷ lines) new =
    (next : ProofState) × (step old line ≡ Ok next) × Allows vars forget deletions old line
    × (is_lemma line ≡ true → lines ≡ []) × SearchesBy vars forget (deletions + (if is_deletion line then 1 else 0)) next lines new

abbrev pub HasNoLemma : List Line → Type 0
HasNoLemma lines = AllByRecursion (λ line. is_lemma line ≡ false) lines
