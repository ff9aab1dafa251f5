-- The words of a command line and the commands that they ask for.
use Rattle.std.specs.Prelude.{ℕ, ◌≡◌, ◌≤◌, ◌⊎◌, nat_lt, if◌then◌else◌, List, [], ◌∷◌, length, map, codes, Option, None, Some, option_map}
use Rattle.std.specs.declared.vec.Vec.{Vec}
use Rattle.std.specs.declared.alloc.Global.{Global}
use Rattle.kn_text.specs.Numbers.{number_of}
use Rattle.kn_tool.specs.declared.command.Command.{Command}
use Rattle.kn_tool.specs.declared.command.Command.TheVariants as command
use Rattle.kn_tool.specs.declared.command.Names.{Names}

-- a command, with the names of its files and its numbers
pub data Asked : Type 0 where
  check : List ℕ → List ℕ → Asked
  solve : List ℕ → List ℕ → ℕ → ℕ → Asked
  extract : List ℕ → Asked
  convert : List ℕ → Asked
  trim : List ℕ → List ℕ → Asked
  work : ℕ → Asked

-- a word that may name a file
abbrev pub IsName : List ℕ → Type 0
IsName word = word ≡ [] → ⊥

-- the value of a word of 1 to 18 digits
abbrev pub count_of : List ℕ → Option ℕ
count_of word = if nat_lt 18 (length word) then None else number_of word

abbrev pub SpellsCount : List ℕ → ℕ → Type 0
SpellsCount word count = count_of word ≡ Some count

-- how many clauses are learned at most, and how many are kept at least
abbrev pub default_conflicts : ℕ
default_conflicts = 1000000

abbrev pub default_forget : ℕ
default_forget = 0

abbrev pub SpellsConflicts : List ℕ → List ℕ → ℕ → Type 0
SpellsConflicts option word conflicts = (option ≡ codes "--conflicts") × SpellsCount word conflicts

abbrev pub SpellsForget : List ℕ → List ℕ → ℕ → Type 0
SpellsForget option word forget = (option ≡ codes "--forget") × SpellsCount word forget

-- one option; the other has its default
abbrev pub SpellsOption : List ℕ → List ℕ → ℕ → ℕ → Type 0
SpellsOption option word conflicts forget =
    (SpellsConflicts option word conflicts × (forget ≡ default_forget)) ⊎ (SpellsForget option word forget × (conflicts ≡ default_conflicts))

-- both options, in either order
abbrev pub SpellsBoth : List ℕ → List ℕ → List ℕ → List ℕ → ℕ → ℕ → Type 0
SpellsBoth option word other next conflicts forget =
    (SpellsConflicts option word conflicts × SpellsForget other next forget) ⊎ (SpellsForget option word forget × SpellsConflicts other next conflicts)

abbrev pub SpellsOptions : List (List ℕ) → ℕ → ℕ → Type 0
SpellsOptions [] conflicts forget = (conflicts ≡ default_conflicts) × (forget ≡ default_forget)
SpellsOptions (option ∷ word ∷ []) conflicts forget = SpellsOption option word conflicts forget
SpellsOptions (option ∷ word ∷ other ∷ next ∷ []) conflicts forget = SpellsBoth option word other next conflicts forget
SpellsOptions words conflicts forget = ⊥

-- `check F P`
abbrev pub AsksCheck : List (List ℕ) → List ℕ → List ℕ → Type 0
AsksCheck (name ∷ f ∷ p ∷ []) formula proof =
    (name ≡ codes "check") × (f ≡ formula) × (p ≡ proof) × IsName formula × IsName proof
AsksCheck words formula proof = ⊥

-- `solve F P`, then options
abbrev pub AsksSolve : List (List ℕ) → List ℕ → List ℕ → ℕ → ℕ → Type 0
AsksSolve (name ∷ f ∷ p ∷ options) formula proof conflicts forget =
    (name ≡ codes "solve") × (f ≡ formula) × (p ≡ proof) × IsName formula × IsName proof × SpellsOptions options conflicts forget
AsksSolve words formula proof conflicts forget = ⊥

-- `extract F`
abbrev pub AsksExtract : List (List ℕ) → List ℕ → Type 0
AsksExtract (name ∷ f ∷ []) formula = (name ≡ codes "extract") × (f ≡ formula) × IsName formula
AsksExtract words formula = ⊥

-- `convert F`
abbrev pub AsksConvert : List (List ℕ) → List ℕ → Type 0
AsksConvert (name ∷ f ∷ []) formula = (name ≡ codes "convert") × (f ≡ formula) × IsName formula
AsksConvert words formula = ⊥

-- `trim F P`
abbrev pub AsksTrim : List (List ℕ) → List ℕ → List ℕ → Type 0
AsksTrim (name ∷ f ∷ p ∷ []) formula proof =
    (name ≡ codes "trim") × (f ≡ formula) × (p ≡ proof) × IsName formula × IsName proof
AsksTrim words formula proof = ⊥

-- the most blocks of a generated formula
abbrev pub most_blocks : ℕ
most_blocks = 200

abbrev pub SpellsBlocks : List ℕ → ℕ → Type 0
SpellsBlocks word blocks = SpellsCount word blocks × (1 ≤ blocks) × (blocks ≤ most_blocks)

-- `work N`
abbrev pub AsksWork : List (List ℕ) → ℕ → Type 0
AsksWork (name ∷ word ∷ []) blocks = (name ≡ codes "work") × SpellsBlocks word blocks
AsksWork words blocks = ⊥

abbrev pub HasShape : List (List ℕ) → Asked → Type 0
HasShape words (check formula proof) = AsksCheck words formula proof
HasShape words (solve formula proof conflicts forget) = AsksSolve words formula proof conflicts forget
HasShape words (extract formula) = AsksExtract words formula
HasShape words (convert formula) = AsksConvert words formula
HasShape words (trim formula proof) = AsksTrim words formula proof
HasShape words (work blocks) = AsksWork words blocks

-- The words ask for no command.
abbrev pub HasNoShape : List (List ℕ) → Type 0
HasNoShape words = (asked : Asked) → HasShape words asked → ⊥

-- what words ask for: a command, or nothing
abbrev pub AsksFor : List (List ℕ) → Option Asked → Type 0
AsksFor words None = HasNoShape words
AsksFor words (Some asked) = HasShape words asked

abbrev pub texts : List (Vec ℕ Global) → List (List ℕ)
texts words = map (λ word. word.items) words

-- what a command asks for
abbrev pub asked_by : Command → Asked
asked_by (command.Check formula proof) = check formula.now proof.now
asked_by (command.Solve formula proof conflicts forget) = solve formula.now proof.now conflicts forget
asked_by (command.Extract formula) = extract formula.now
asked_by (command.Convert formula) = convert formula.now
asked_by (command.Trim formula proof) = trim formula.now proof.now
asked_by (command.Work blocks) = work blocks

-- the names of the files that a command opens; none where it does not use such a file
pub record Named : Type 0 where
  pub formula : Option (List ℕ)
  pub proof_in : Option (List ℕ)
  pub proof_out : Option (List ℕ)

-- the file into which `work` writes its proof
abbrev pub work_proof : List ℕ
work_proof = codes "work.kpf"

abbrev pub named_by : Asked → Named
named_by (check formula proof) = record { formula = Some formula; proof_in = Some proof; proof_out = None }
named_by (solve formula proof conflicts forget) = record { formula = Some formula; proof_in = None; proof_out = Some proof }
named_by (extract formula) = record { formula = Some formula; proof_in = None; proof_out = None }
named_by (convert formula) = record { formula = Some formula; proof_in = None; proof_out = None }
named_by (trim formula proof) = record { formula = Some formula; proof_in = Some proof; proof_out = None }
named_by (work blocks) = record { formula = None; proof_in = None; proof_out = Some work_proof }

abbrev pub no_names : Named
no_names = record { formula = None; proof_in = None; proof_out = None }

abbrev pub names_of : Option Asked → Named
names_of None = no_names
names_of (Some asked) = named_by asked

abbrev pub named_in : Names → Named
named_in names = record {
  formula = option_map (λ name. name.now) names.formula;
  proof_in = option_map (λ name. name.now) names.proof_in;
  proof_out = option_map (λ name. name.now) names.proof_out;
}
