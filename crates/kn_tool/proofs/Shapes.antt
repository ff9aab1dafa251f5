-- Words ask for one thing at most: what they ask for is a function of them.
use Rattle.std.proofs.Common.{◌≡◌, ℕ, List, [], ◌∷◌, Option, Some, None, refl, sym, ap, ◌∙◌, inl, inr}
use Rattle.std.specs.Prelude.{if◌then◌else◌, option_map, codes}
use Rattle.std.specs.Str.{bytes_eq}
use Rattle.kn_tool.specs.declared.command.Command.{Command}
use Rattle.kn_tool.specs.Words.{Asked, check, solve, extract, convert, trim, work, AsksCheck, AsksSolve, AsksExtract, AsksConvert, AsksTrim, AsksWork, HasShape, HasNoShape, AsksFor, Named, names_of, asked_by, SpellsOptions, SpellsOption, SpellsBoth, count_of, default_conflicts, default_forget}
use Rattle.kn_tool.specs.WorkReplies.{AreInRange}

-- a budget, and how many clauses are kept
record Limit : Type 0 where
  conflicts : ℕ
  forget : ℕ

abbrev limit : ℕ → ℕ → Limit
limit conflicts forget = record { conflicts = conflicts; forget = forget }

abbrev limit_by : List ℕ → Option ℕ → Option Limit
limit_by option None = None
limit_by option (Some n) =
    if bytes_eq option (codes "--conflicts") then Some (limit n default_forget) else if bytes_eq option (codes "--forget") then Some (limit default_conflicts n) else None

abbrev limits_by : List ℕ → Option ℕ → Option ℕ → Option Limit
limits_by option None n = None
limits_by option (Some m) None = None
limits_by option (Some m) (Some n) = if bytes_eq option (codes "--conflicts") then Some (limit m n) else Some (limit n m)

abbrev limits_in : List (List ℕ) → Option Limit
limits_in [] = Some (limit default_conflicts default_forget)
limits_in (option ∷ word ∷ []) = limit_by option (count_of word)
limits_in (option ∷ word ∷ other ∷ next ∷ []) = limits_by option (count_of word) (count_of next)
limits_in words = None

one_limit : (option word : List ℕ) (conflicts forget : ℕ) → SpellsOption option word conflicts forget → limit_by option (count_of word) ≡ Some (limit conflicts forget)
one_limit option word conflicts forget is = elim is [
  | inl first ↦ (rw (first.0.0, first.0.1, first.1) refl)
  | inr second ↦ (rw (second.0.0, second.0.1, second.1) refl)
]

both_limits : (option word other next : List ℕ) (conflicts forget : ℕ) → SpellsBoth option word other next conflicts forget → limits_by option (count_of word) (count_of next) ≡ Some (limit conflicts forget)
both_limits option word other next conflicts forget is = elim is [
  | inl first ↦ (rw (first.0.0, first.0.1, first.1.1) refl)
  | inr second ↦ (rw (second.0.0, second.0.1, second.1.1) refl)
]

limits_found : (words : List (List ℕ)) (conflicts forget : ℕ) → SpellsOptions words conflicts forget → limits_in words ≡ Some (limit conflicts forget)
limits_found [] conflicts forget is = rw (is.0, is.1) refl
limits_found (a ∷ []) conflicts forget is = absurd is
limits_found (a ∷ b ∷ []) conflicts forget is = one_limit a b conflicts forget is
limits_found (a ∷ b ∷ c ∷ []) conflicts forget is = absurd is
limits_found (a ∷ b ∷ c ∷ d ∷ []) conflicts forget is = both_limits a b c d conflicts forget is
limits_found (a ∷ b ∷ c ∷ d ∷ e ∷ more) conflicts forget is = absurd is

-- what stands behind the name of a command
abbrev check_in : List (List ℕ) → Option Asked
check_in (f ∷ p ∷ []) = Some (check f p)
check_in words = None

abbrev solve_in : List (List ℕ) → Option Asked
solve_in (f ∷ p ∷ options) = option_map (λ (l : Limit). solve f p l.conflicts l.forget) (limits_in options)
solve_in words = None

abbrev extract_in : List (List ℕ) → Option Asked
extract_in (f ∷ []) = Some (extract f)
extract_in words = None

abbrev convert_in : List (List ℕ) → Option Asked
convert_in (f ∷ []) = Some (convert f)
convert_in words = None

abbrev trim_in : List (List ℕ) → Option Asked
trim_in (f ∷ p ∷ []) = Some (trim f p)
trim_in words = None

abbrev work_in : List (List ℕ) → Option Asked
work_in (word ∷ []) = option_map work (count_of word)
work_in words = None

abbrev behind : List ℕ → List (List ℕ) → Option Asked
behind name words =
    if bytes_eq name (codes "check") then check_in words
    else if bytes_eq name (codes "solve") then solve_in words
    else if bytes_eq name (codes "extract") then extract_in words
    else if bytes_eq name (codes "convert") then convert_in words
    else if bytes_eq name (codes "trim") then trim_in words
    else if bytes_eq name (codes "work") then work_in words
    else None

abbrev asked_in : List (List ℕ) → Option Asked
asked_in [] = None
asked_in (name ∷ words) = behind name words

check_found : (words : List (List ℕ)) (f p : List ℕ) → AsksCheck words f p → asked_in words ≡ Some (check f p)
check_found [] f p is = absurd is
check_found (a ∷ []) f p is = absurd is
check_found (a ∷ b ∷ []) f p is = absurd is
check_found (a ∷ b ∷ c ∷ []) f p is = rw (is.0, is.1, is.2) refl
check_found (a ∷ b ∷ c ∷ d ∷ more) f p is = absurd is

solve_found : (words : List (List ℕ)) (f p : List ℕ) (conflicts forget : ℕ) → AsksSolve words f p conflicts forget → asked_in words ≡ Some (solve f p conflicts forget)
solve_found [] f p conflicts forget is = absurd is
solve_found (a ∷ []) f p conflicts forget is = absurd is
solve_found (a ∷ b ∷ []) f p conflicts forget is = absurd is
solve_found (a ∷ b ∷ c ∷ options) f p conflicts forget is =
    let found : limits_in options ≡ Some (limit conflicts forget) = limits_found options conflicts forget is.5 in
    rw (is.0, is.1, is.2) (ap (λ l. option_map (λ (l : Limit). solve f p l.conflicts l.forget) l) found)

extract_found : (words : List (List ℕ)) (f : List ℕ) → AsksExtract words f → asked_in words ≡ Some (extract f)
extract_found [] f is = absurd is
extract_found (a ∷ []) f is = absurd is
extract_found (a ∷ b ∷ []) f is = rw (is.0, is.1) refl
extract_found (a ∷ b ∷ c ∷ more) f is = absurd is

convert_found : (words : List (List ℕ)) (f : List ℕ) → AsksConvert words f → asked_in words ≡ Some (convert f)
convert_found [] f is = absurd is
convert_found (a ∷ []) f is = absurd is
convert_found (a ∷ b ∷ []) f is = rw (is.0, is.1) refl
convert_found (a ∷ b ∷ c ∷ more) f is = absurd is

trim_found : (words : List (List ℕ)) (f p : List ℕ) → AsksTrim words f p → asked_in words ≡ Some (trim f p)
trim_found [] f p is = absurd is
trim_found (a ∷ []) f p is = absurd is
trim_found (a ∷ b ∷ []) f p is = absurd is
trim_found (a ∷ b ∷ c ∷ []) f p is = rw (is.0, is.1, is.2) refl
trim_found (a ∷ b ∷ c ∷ d ∷ more) f p is = absurd is

work_found : (words : List (List ℕ)) (n : ℕ) → AsksWork words n → asked_in words ≡ Some (work n)
work_found [] n is = absurd is
work_found (a ∷ []) n is = absurd is
work_found (a ∷ b ∷ []) n is = rw (is.0, is.1.0) refl
work_found (a ∷ b ∷ c ∷ more) n is = absurd is

found : (words : List (List ℕ)) (asked : Asked) → HasShape words asked → asked_in words ≡ Some asked
found words (check f p) is = check_found words f p is
found words (solve f p conflicts forget) is = solve_found words f p conflicts forget is
found words (extract f) is = extract_found words f is
found words (convert f) is = convert_found words f is
found words (trim f p) is = trim_found words f p is
found words (work n) is = work_found words n is

same_some : (a b : Asked) → ◌≡◌ {A = Option Asked} (Some a) (Some b) → a ≡ b
same_some a b is = cc

pub one_command : (words : List (List ℕ)) (a b : Asked) → HasShape words a → HasShape words b → a ≡ b
one_command words a b one other = same_some a b (sym (found words a one) ∙ found words b other)

pub one_request : (words : List (List ℕ)) (r s : Option Asked) → AsksFor words r → AsksFor words s → r ≡ s
one_request words None None one other = refl
one_request words None (Some b) one other = absurd (one b other)
one_request words (Some a) None one other = absurd (other a one)
one_request words (Some a) (Some b) one other = ap Some (one_command words a b one other)

-- a file that has no name for one reading of the words has none for the other
pub same_name : (name : Named → Option (List ℕ)) (words : List (List ℕ)) (r s : Option Asked) → AsksFor words r → AsksFor words s → name (names_of s) ≡ None → name (names_of r) ≡ None
same_name name words r s one other none = ap (λ a. name (names_of a)) (one_request words r s one other) ∙ none

pub no_command : (words : List (List ℕ)) (c : Option Command) → AsksFor words (option_map asked_by c) → HasNoShape words → c ≡ None
no_command words None asks none = refl
no_command words (Some command) asks none = absurd (none (asked_by command) asks)

-- the numbers of words that ask for something are within their limits
blocks_in_range : (words : List (List ℕ)) (n : ℕ) → AsksWork words n → AreInRange (Some (work n))
blocks_in_range [] n is = absurd is
blocks_in_range (a ∷ []) n is = absurd is
blocks_in_range (a ∷ b ∷ []) n is = (is.1.1, is.1.2)
blocks_in_range (a ∷ b ∷ c ∷ more) n is = absurd is

pub in_range : (words : List (List ℕ)) (request : Option Asked) → AsksFor words request → AreInRange request
in_range words None is = tt
in_range words (Some (check f p)) is = tt
in_range words (Some (solve f p conflicts forget)) is = tt
in_range words (Some (extract f)) is = tt
in_range words (Some (convert f)) is = tt
in_range words (Some (trim f p)) is = tt
in_range words (Some (work n)) is = blocks_in_range words n is
