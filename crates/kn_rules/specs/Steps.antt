-- What each kind of line asks of the state, and what it makes of it. A line that steps gives the next
-- state; for any other there is a cause, the first in the order in which they are tested.
use Rattle.std.specs.Prelude.{ℕ, ◌+◌, ◌-◌, ◌++◌, ◌∷◌, nat_le, Bool, true, false, not, ◌&&◌, ◌||◌, if◌then◌else◌, List, [], map, Option, Some, None, Result, Ok, Err, option_map, option_and_then, slice_set}
use Rattle.std.specs.List.{list_all}
use Rattle.std.specs.Option.{is_none}
use Rattle.kn_logic.specs.Literals.{Literal, negated, is_same, names}
use Rattle.kn_logic.specs.Constraints.{Bounded, clause, klause, is_clause}
use Rattle.kn_logic.specs.Propagation.{hint_run}
use Rattle.kn_lines.specs.declared.line.Arm.{Arm}
use Rattle.kn_lines.specs.declared.line.Arm.TheVariants as arm
use Rattle.kn_lines.specs.declared.line.Line.{Line}
use Rattle.kn_lines.specs.declared.line.Line.TheVariants.{Header, Define, Lemma, Learned, Klause, Unfold, Delete}
use Rattle.kn_rules.specs.declared.given.Origin.{Origin}
use Rattle.kn_rules.specs.declared.given.Origin.TheVariants as origin
use Rattle.kn_rules.specs.declared.given.Given.{Given}
use Rattle.kn_rules.specs.States.{ProofState, definition_of, given_at, live_at}
use Rattle.kn_rules.specs.Grids.{is_root}
use Rattle.kn_rules.specs.Causes.{wrong_header, unknown_variable, not_live, no_conflict, wrong_unit, wrong_root, not_plain}

-- whether the variables of all literals are known
abbrev pub are_known : ℕ → List Literal → Bool
are_known vars lits = list_all (λ l. nat_le 1 l.variable && nat_le l.variable vars) lits

-- the constraints of ids that are all live; none where one of them is not
abbrev pub hinted : List Given → List ℕ → Option (List Bounded)
hinted given [] = Some []
hinted given (id ∷ ids) = option_and_then (λ c. option_map (λ cs. c ∷ cs) (hinted given ids)) (live_at given id)

-- whether the hints, run from the negations of the literals, end in conflict
abbrev pub is_conflict : List Literal → List Bounded → Bool
is_conflict lits hints = is_none (hint_run (map negated lits) hints)

abbrev pub is_empty : List Literal → Bool
is_empty [] = true
is_empty (l ∷ lits) = false

-- one id more, for a clause; a clause without literals refutes
abbrev pub with_clause : ProofState → Origin → List Literal → ProofState
with_clause s origin lits = record s {
  given = s.given ++ (record { origin = origin; live = Some (clause lits) }) ∷ [];
  refuted = s.refuted || is_empty lits;
}

abbrev pub if_conflict : ProofState → Origin → List Literal → Option (List Bounded) → Result ProofState ℕ
if_conflict s origin lits None = Err not_live
if_conflict s origin lits (Some hints) = if is_conflict lits hints then Ok (with_clause s origin lits) else Err no_conflict

-- A clause follows by its hints where its variables are known, all hints are live, and their run from
-- the negations of its literals ends in conflict.
abbrev pub follow : ProofState → Origin → List Literal → List ℕ → Result ProofState ℕ
follow s origin lits hints = if are_known s.vars lits then if_conflict s origin lits (hinted s.given hints) else Err unknown_variable

-- the entries with that of an id deleted
abbrev pub without : List Given → ℕ → Option Given → List Given
without given id None = given
without given id (Some entry) = slice_set given (id - 1) (record entry { live = None })

-- Each id is deleted where it is live when its turn comes.
abbrev pub deleted : List Given → List ℕ → Result (List Given) ℕ
deleted given [] = Ok given
deleted given (id ∷ ids) = if is_none (live_at given id) then Err not_live else deleted (without given id (given_at given id)) ids

abbrev pub with_given : ProofState → Result (List Given) ℕ → Result ProofState ℕ
with_given s (Ok given) = Ok (record s { given = given })
with_given s (Err cause) = Err cause

-- one id more, for this constraint
abbrev pub with_one : ProofState → Origin → Bounded → ProofState
with_one s origin c = record s { given = s.given ++ (record { origin = origin; live = Some c }) ∷ [] }

-- definitions
abbrev pub is_known_variable : ℕ → ℕ → Bool
is_known_variable vars variable = nat_le 1 variable && nat_le variable vars

abbrev pub is_known_arm : ℕ → Arm → Bool
is_known_arm vars (arm.Lit l) = is_known_variable vars l.variable
is_known_arm vars constant = true

-- "these literals, or the arm": the arm is left out where it is false, and nothing is asked where it is true
abbrev pub with_arm : List Literal → Arm → Bounded
with_arm lits arm.True = klause 0 []
with_arm lits arm.False = clause lits
with_arm lits (arm.Lit l) = clause (lits ++ l ∷ [])

abbrev pub opposite : Arm → Arm
opposite arm.True = arm.False
opposite arm.False = arm.True
opposite (arm.Lit l) = arm.Lit (negated l)

-- what "v is: if x then h else l" gives: `-v -x h`, `-v x l`, `v -x -h`, `v x -l`
abbrev pub definition_clauses : Literal → Literal → Arm → Arm → List Bounded
definition_clauses v x high low =
    with_arm (negated v ∷ negated x ∷ []) high
    ∷ with_arm (negated v ∷ x ∷ []) low
    ∷ with_arm (v ∷ negated x ∷ []) (opposite high)
    ∷ with_arm (v ∷ x ∷ []) (opposite low)
    ∷ []

abbrev pub by_definition : Bounded → Given
by_definition c = record { origin = origin.Definition; live = Some c }

-- the variable behind those that are known
abbrev pub next_variable : ProofState → Literal
next_variable s = record { variable = s.vars + 1; positive = true }

abbrev pub with_definition : ProofState → Literal → Arm → Arm → ProofState
with_definition s x high low = record s {
  vars = s.vars + 1;
  definitions = s.definitions ++ (record { test = x; high = high; low = low }) ∷ [];
  given = s.given ++ map by_definition (definition_clauses (next_variable s) x high low);
}

abbrev pub define : ProofState → Literal → Arm → Arm → Result ProofState ℕ
define s x high low =
    if is_known_variable s.vars x.variable && (is_known_arm s.vars high && is_known_arm s.vars low) then Ok (with_definition s x high low) else Err unknown_variable

-- klauses and their grids

-- whether no variable stands at two places
abbrev pub are_different : List Literal → Bool
are_different [] = true
are_different (l ∷ lits) = not (names lits l.variable) && are_different lits

-- whether a constraint is the clause of this variable alone
abbrev pub is_unit_list : List Literal → ℕ → Bool
is_unit_list (l ∷ []) variable = is_same l (record { variable = variable; positive = true })
is_unit_list other variable = false

abbrev pub is_unit : Bounded → ℕ → Bool
is_unit c variable = is_clause c && is_unit_list c.lits variable

abbrev pub unit_of : ℕ → Bounded
unit_of variable = clause ((record { variable = variable; positive = true }) ∷ [])

abbrev pub if_unit : ProofState → ℕ → List Literal → ℕ → Option Bounded → Result ProofState ℕ
if_unit s bound lits root None = Err not_live
if_unit s bound lits root (Some unit) =
    if not (are_different lits) then Err not_plain
    else if not (is_root (definition_of s) lits bound root) then Err wrong_root
    else if not (is_unit unit root) then Err wrong_unit
    else Ok (with_one s origin.Klause (klause bound lits))

-- A klause holds where a unit clause says so of the root of its grid.
abbrev pub count : ProofState → ℕ → List Literal → ℕ → ℕ → Result ProofState ℕ
count s bound lits root unit =
    if are_known s.vars lits && is_known_variable s.vars root then if_unit s bound lits root (live_at s.given unit) else Err unknown_variable

abbrev pub if_klause : ProofState → ℕ → Option Bounded → Result ProofState ℕ
if_klause s root None = Err not_live
if_klause s root (Some c) =
    if not (is_none c.guard && are_different c.lits) then Err not_plain
    else if not (is_root (definition_of s) c.lits c.bound root) then Err wrong_root
    else Ok (with_one s origin.Unfolding (unit_of root))

-- The root of a klause's grid is true where the klause holds.
abbrev pub unfold_klause : ProofState → ℕ → ℕ → Result ProofState ℕ
unfold_klause s id root = if is_known_variable s.vars root then if_klause s root (live_at s.given id) else Err unknown_variable

abbrev pub step : ProofState → Line → Result ProofState ℕ
step s (Header vars constraints) = Err wrong_header
step s (Define x high low) = define s x high low
step s (Lemma c hints) = follow s origin.Lemma c.lits hints
step s (Learned c hints) = follow s origin.Learned c.lits hints
step s (Klause c root unit) = count s c.bound c.lits root unit
step s (Unfold id root) = unfold_klause s id root
step s (Delete ids) = with_given s (deleted s.given ids)
