-- What an elimination hands out: diagrams, the stages with their nodes and traces, and the buckets.
use Rattle.std.specs.Prelude.{ℕ, ◌≡◌, ◌+◌, ◌<◌, ◌==◌, ◌&&◌, ◌⊎◌, ◌↔◌, Bool, true, List, [], ◌∷◌, ◌++◌, length, map}
use Rattle.std.specs.List.{list_any, AllByRecursion}
use Rattle.kn_logic.specs.Constraints.{Bounded}
use Rattle.kn_logic.specs.Groups.{Gathered}
use Rattle.kn_diagram.specs.declared.trace.Met.{Met}
use Rattle.kn_diagram.specs.declared.error.DiagramError.{DiagramError}
use Rattle.kn_diagram.specs.declared.error.DiagramError.TheVariants as Diagram
use Rattle.kn_diagram.specs.Diagrams.{Table, IsNode, function_of, Keeps, depth_in}
use Rattle.kn_diagram.specs.Traces.{Explains}
use Rattle.kn_diagram.specs.Wide.{IsWideAt}
use Rattle.kn_quant.specs.declared.stage.Stage.{Stage}
use Rattle.kn_quant.specs.declared.stage.Stage.TheVariants.{Clause, And, Exists}
use Rattle.kn_quant.specs.declared.stage.Bucket.{Bucket}
use Rattle.kn_quant.specs.declared.error.QuantError.{QuantError}
use Rattle.kn_quant.specs.declared.error.QuantError.TheVariants.{Wide, Memory}
use Rattle.kn_quant.specs.Quantified.{some_value, Quantifies}
use Rattle.kn_quant.specs.Runs.{Function, Step, Join, Quantify, given, all_joins, all_whole, IsTurn, Runs, order_of, clause_function, AreNarrow, CanHold, AgreeAtBorder}

-- The diagrams; the stages in order, behind an entry for each taken clause; the buckets in order; and the
-- node of the result.
pub record Eliminated : Type 0 where
  pub table : Table
  pub stages : List Stage
  pub buckets : List Bucket
  pub result : ℕ

-- The same while it is made, with the number of the clauses.
pub record Progress : Type 0 where
  pub table : Table
  pub stages : List Stage
  pub buckets : List Bucket
  pub taken : ℕ

-- the node that an entry gives
abbrev pub node_of : Stage → ℕ
node_of (Clause taken node) = node
node_of (And left right node met) = node
node_of (Exists variable from node met halves) = node

-- whether a node is that of an entry
abbrev pub has_node : List Stage → ℕ → Bool
has_node stages node = list_any (λ s. node_of s == node) stages

-- A stage joins the nodes of two earlier entries.
pub record IsConjunction (d : Table) (before : List Stage) (left right node : ℕ) (met : List Met) : Type 0 where
  pub left_has : has_node before left ≡ true
  pub right_has : has_node before right ≡ true
  pub there : IsNode d node
  pub function : (v : ℕ → Bool) → function_of d node v ≡ (function_of d left v && function_of d right v)
  pub traced : Explains (λ a b. a && b) d [] met (record { u = left; v = right; w = node })

-- A stage quantifies a variable in the node of an earlier entry.
pub record IsQuantification (d : Table) (before : List Stage) (variable from node : ℕ) (met halves : List Met) : Type 0 where
  pub from_has : has_node before from ≡ true
  pub there : IsNode d node
  pub function : (v : ℕ → Bool) → function_of d node v ≡ some_value variable (function_of d from) v
  pub traced : Quantifies d variable [] met [] halves from node

abbrev pub IsStage : Table → List Stage → Stage → Type 0
IsStage d before (Clause taken node) = IsNode d node
IsStage d before (And left right node met) = IsConjunction d before left right node met
IsStage d before (Exists variable from node met halves) = IsQuantification d before variable from node met halves

-- each entry is right, by those before it
abbrev pub AreStages : Table → List Stage → List Stage → Type 0
AreStages d before [] = Unit {0}
AreStages d before (s ∷ ss) = IsStage d before s × AreStages d (before ++ s ∷ []) ss

-- the bucket's function is the node of an entry
abbrev pub AreBuckets : List Stage → List Bucket → Type 0
AreBuckets stages buckets = AllByRecursion (λ b. has_node stages b.function ≡ true) buckets

-- the nodes of an entry are nodes of the diagrams
abbrev pub IsThere : Table → Stage → Type 0
IsThere d (Clause taken node) = IsNode d node
IsThere d (And left right node met) = IsNode d left × IsNode d right × IsNode d node
IsThere d (Exists variable from node met halves) = IsNode d from × IsNode d node

-- What the type of an elimination keeps.
pub record IsElimination (e : Eliminated) : Type 0 where
  pub stages : AreStages e.table [] e.stages
  pub buckets : AreBuckets e.stages e.buckets
  pub result : ((e.stages ≡ []) × (e.result ≡ 1)) ⊎ (has_node e.stages e.result ≡ true)

-- the stages by their functions; the entry of a clause is none
abbrev pub step_of : Table → Stage → List Step
step_of d (Clause taken node) = []
step_of d (And left right node met) = Join (function_of d left) (function_of d right) ∷ []
step_of d (Exists variable from node met halves) = Quantify variable (function_of d from) ∷ []

abbrev pub steps_of : Table → List Stage → List Step
steps_of d [] = []
steps_of d (s ∷ ss) = step_of d s ++ steps_of d ss

abbrev pub buckets_of : Table → List Bucket → List (ℕ × Function)
buckets_of d buckets = map (λ b. (b.var, function_of d b.function)) buckets

-- whether an entry is that of a clause
abbrev pub IsClauseAt : Table → ℕ → Bounded → Stage → Type 0
IsClauseAt d place c (Clause taken node) = (taken ≡ place) × ((v : ℕ → Bool) → function_of d node v ≡ clause_function c v)
IsClauseAt d place c (And left right node met) = ⊥
IsClauseAt d place c (Exists variable from node met halves) = ⊥

abbrev pub IsNoClause : Stage → Type 0
IsNoClause (Clause taken node) = ⊥
IsNoClause (And left right node met) = Unit {0}
IsNoClause (Exists variable from node met halves) = Unit {0}

-- The entries of these clauses come first, in order, the first of them with this place; behind them
-- comes none of a clause.
abbrev pub HasClauses : Table → ℕ → List Bounded → List Stage → Type 0
HasClauses d place [] stages = AllByRecursion IsNoClause stages
HasClauses d place (c ∷ cs) [] = ⊥
HasClauses d place (c ∷ cs) (s ∷ ss) = IsClauseAt d place c s × HasClauses d (place + 1) cs ss

-- An elimination is a run of the group: its result is true exactly where some values of the auxiliary
-- variables satisfy all clauses, and hangs on the border alone.
pub record IsEliminationOf (g : Gathered) (e : Eliminated) : Type 0 where
  pub order : e.table.order ≡ order_of g
  pub clauses : HasClauses e.table 0 g.taken e.stages
  pub run : Runs g.aux (map clause_function g.taken) (steps_of e.table e.stages) (buckets_of e.table e.buckets) (function_of e.table e.result)
  pub narrow : AreNarrow e.table.order (steps_of e.table e.stages)
  pub meaning : (v : ℕ → Bool) → (function_of e.table e.result v ≡ true) ↔ CanHold g v
  pub border : (v w : ℕ → Bool) → AgreeAtBorder g v w → function_of e.table e.result v ≡ function_of e.table e.result w

-- what an error says of the first wide stage
abbrev pub IfWideStage : QuantError → (ℕ → ℕ → Type 0) → Type 0
IfWideStage (Wide stage level) P = P stage level
IfWideStage Memory P = Unit {0}

-- the error of a stage, after so many stages
abbrev pub error_after : ℕ → DiagramError → QuantError
error_after made (Diagram.Wide level) = Wide (made + 1) level
error_after made Diagram.Memory = Memory

-- What the type of an elimination keeps while it is made.
pub record IsProgress (p : Progress) : Type 0 where
  pub stages : AreStages p.table [] p.stages
  pub buckets : AreBuckets p.stages p.buckets
  pub narrow : AreNarrow p.table.order (steps_of p.table p.stages)
  pub count : length p.stages ≡ p.taken + length (steps_of p.table p.stages)

-- What was made stays, and these stages and buckets are made behind it.
pub record Makes (old new : Progress) (steps : List Step) (own : List (ℕ × ((ℕ → Bool) → Bool))) : Type 0 where
  pub kept : Keeps old.table new.table
  pub steps_are : steps_of new.table new.stages ≡ steps_of old.table old.stages ++ steps
  pub buckets_are : buckets_of new.table new.buckets ≡ buckets_of old.table old.buckets ++ own
  pub nodes : (node : ℕ) → has_node old.stages node ≡ true → has_node new.stages node ≡ true
  pub clauses : (cs : List Bounded) → HasClauses old.table 0 cs old.stages → HasClauses new.table 0 cs new.stages

-- The node is that of an entry, and of this function.
pub record IsGiven (p : Progress) (f : (ℕ → Bool) → Bool) (node : ℕ) : Type 0 where
  pub has : has_node p.stages node ≡ true
  pub there : IsNode p.table node
  pub function : function_of p.table node ≡ f

-- Of the stages that come, one is wide at this variable, the first that is.
pub record StopsIn (p : Progress) (steps : List Step) (stage level : ℕ) : Type 0 where
  pub front : List Step
  pub last : Step
  pub more : List Step
  pub among : steps ≡ front ++ last ∷ more
  pub count : stage ≡ length (steps_of p.table p.stages ++ front) + 1
  pub narrow : AreNarrow p.table.order (steps_of p.table p.stages ++ front)
  pub wide : IsWideAt p.table.order (given last) level

-- nodes of entries, as pieces
abbrev pub IsPiece : Progress → ℕ → Type 0
IsPiece p node = (has_node p.stages node ≡ true) × IsNode p.table node

abbrev pub ArePieces : Progress → List ℕ → Type 0
ArePieces p nodes = AllByRecursion (IsPiece p) nodes

abbrev pub functions_of : Table → List ℕ → List Function
functions_of d nodes = map (function_of d) nodes

-- the turn of a variable
pub record Turns (old new : Progress) (y : ℕ) (pieces next : List ℕ) : Type 0 where
  pub steps : List Step
  pub own : List (ℕ × ((ℕ → Bool) → Bool))
  pub makes : Makes old new steps own
  pub turn : IsTurn y (functions_of old.table pieces) (functions_of new.table next) steps own
  pub are : ArePieces new next

-- the turn of a variable comes to a wide stage
pub record TurnStops (old : Progress) (y : ℕ) (pieces : List ℕ) (stage level : ℕ) : Type 0 where
  pub steps : List Step
  pub own : List (ℕ × ((ℕ → Bool) → Bool))
  pub next : List ((ℕ → Bool) → Bool)
  pub turn : IsTurn y (functions_of old.table pieces) next steps own
  pub stops : StopsIn old steps stage level

-- A clause is taken: its entry comes next, and neither a stage nor a bucket.
pub record Takes (old new : Progress) (c : Bounded) (node : ℕ) : Type 0 where
  pub kept : Keeps old.table new.table
  pub steps_are : steps_of new.table new.stages ≡ steps_of old.table old.stages
  pub buckets_are : new.buckets ≡ old.buckets
  pub taken_is : new.taken ≡ old.taken + 1
  pub nodes : (node : ℕ) → has_node old.stages node ≡ true → has_node new.stages node ≡ true
  pub clauses : (cs : List Bounded) → length cs ≡ old.taken → steps_of old.table old.stages ≡ [] → HasClauses old.table 0 cs old.stages
      → HasClauses new.table 0 (cs ++ c ∷ []) new.stages
  pub is_given : IsGiven new (clause_function c) node

-- each literal's variable is in the order
abbrev pub AreInOrder : List ℕ → Bounded → Type 0
AreInOrder order c = AllByRecursion (λ l. depth_in order l.variable < length order) c.lits

-- The clauses are taken, and their nodes are the pieces.
pub record Gathers (old new : Progress) (cs : List Bounded) (pieces : List ℕ) : Type 0 where
  pub kept : Keeps old.table new.table
  pub steps_are : steps_of new.table new.stages ≡ []
  pub taken_is : new.taken ≡ length cs
  pub buckets_are : new.buckets ≡ []
  pub clauses : HasClauses new.table 0 cs new.stages
  pub are : ArePieces new pieces
  pub functions : functions_of new.table pieces ≡ map clause_function cs
  pub some : pieces ≡ [] → new.stages ≡ []

-- The pieces that remain are joined, which gives the result.
pub record Concludes (old : Progress) (e : Eliminated) (pieces : List ℕ) : Type 0 where
  pub kept : Keeps old.table e.table
  pub steps_are : steps_of e.table e.stages ≡ steps_of old.table old.stages ++ all_joins (functions_of old.table pieces)
  pub buckets_are : buckets_of e.table e.buckets ≡ buckets_of old.table old.buckets
  pub clauses : (cs : List Bounded) → HasClauses old.table 0 cs old.stages → HasClauses e.table 0 cs e.stages
  pub narrow : AreNarrow e.table.order (steps_of e.table e.stages)
  pub function : function_of e.table e.result ≡ all_whole (functions_of old.table pieces)

-- Joining the pieces that remain comes to a wide stage.
abbrev pub WorkStops : Progress → List ℕ → ℕ → ℕ → Type 0
WorkStops p pieces stage level = StopsIn p (all_joins (functions_of p.table pieces)) stage level
