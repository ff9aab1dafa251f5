-- The state of a proof while its opening is written.
use Rattle.std.specs.Prelude.{ℕ, ◌≡◌, ◌+◌, ◌≤◌, ◌++◌, Bool, true, false, if◌then◌else◌, List, [], ◌∷◌, length, map, take, Option, Some, None}
use Rattle.kn_logic.specs.Constraints.{Bounded}
use Rattle.kn_logic.specs.Groups.{is_among}
use Rattle.kn_rules.specs.declared.given.Given.{Given}
use Rattle.kn_rules.specs.declared.given.Origin.TheVariants.{File}
use Rattle.kn_rules.specs.States.{ProofState}
use Rattle.kn_store.specs.Stores.{ids_of, constraints_of}
use Rattle.kn_extract.specs.Structure.{ids_taken}
use Rattle.kn_extract.specs.Kept.{Extracted, found_of}
use Rattle.kn_log.specs.Logs.{Logged}
use Rattle.kn_log.specs.Written.{AddsSuch}
use Rattle.kn_opening.specs.Openings.{AreOpeningLines, klause_in_proof, live_behind}

-- the entries of a file's constraints, of which those under ids that pass a test are gone
abbrev pub file_entries : ℕ → (ℕ → Bool) → List Bounded → List Given
file_entries last gone [] = []
file_entries last gone (c ∷ cs) = record { origin = File; live = if gone (last + 1) then None else Some c } ∷ file_entries (last + 1) gone cs

-- whether an id is one of the clauses of the first groups, so many
abbrev pub is_taken : Extracted → ℕ → ℕ → Bool
is_taken e count id = is_among (ids_taken (map found_of (take count e.taken))) id

-- So many groups are justified: their clauses are gone, and their klauses stand behind the constraints of the file.
pub record IsOpening (e : Extracted) (s : ProofState) (count : ℕ) (klauses : List ℕ) : Type 0 where
  pub rest : List Given
  pub given : s.given ≡ file_entries 0 (is_taken e count) e.original.constraints ++ rest
  pub ids : ids_of (live_behind (length e.original.constraints) rest) ≡ klauses
  pub constraints : constraints_of (live_behind (length e.original.constraints) rest) ≡ map klause_in_proof (take count e.taken)
  pub vars : e.original.vars ≤ s.vars
  pub refuted : s.refuted ≡ false

-- The same of a log, with the lines that it has written since.
pub record IsPartway (e : Extracted) (old log : Logged) (w w' : Option (List ℕ)) (count : ℕ) (klauses : List ℕ) : Type 0 where
  pub opening : IsOpening e log.state count klauses
  pub lines : AddsSuch AreOpeningLines old log w w'
  pub whole : log.failed ≡ false
