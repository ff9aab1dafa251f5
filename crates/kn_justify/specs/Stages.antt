-- Stages of an elimination whose units are made.
use Rattle.std.specs.Prelude.{ℕ, ◌≡◌, ◌&&◌, ◌++◌, List, []}
use Rattle.kn_diagram.specs.declared.trace.Met.{Met}
use Rattle.kn_diagram.specs.Diagrams.{Table}
use Rattle.kn_diagram.specs.Traces.{Explains}
use Rattle.kn_quant.specs.declared.stage.Stage.{Stage}
use Rattle.kn_quant.specs.declared.stage.Stage.TheVariants.{Clause, And, Exists}
use Rattle.kn_quant.specs.Quantified.{IsQuantified, Quantifies}

-- The stage joins two nodes by "and": its trace is that of the operation, and its node isn't "false".
abbrev pub IsAnd : Table → Stage → Type 0
IsAnd d (Clause taken node) = ⊥
IsAnd d (And left right node met) = Explains (λ a b. a && b) d [] met (record { u = left; v = right; w = node }) × (node ≡ 0 → ⊥)
IsAnd d (Exists variable from node met halves) = ⊥

-- The stage quantifies a variable: its traces are those of the operation, and its node isn't "false".
abbrev pub IsExists : Table → Stage → Type 0
IsExists d (Clause taken node) = ⊥
IsExists d (And left right node met) = ⊥
IsExists d (Exists variable from node met halves) = Quantifies d variable [] met [] halves from node × (node ≡ 0 → ⊥)

-- the entries of a stage's traces
abbrev pub traces_of : Stage → List Met
traces_of (Clause taken node) = []
traces_of (And left right node met) = met
traces_of (Exists variable from node met halves) = met ++ halves

-- the nodes that a stage begins with
abbrev pub left_of : Stage → ℕ
left_of (Clause taken node) = node
left_of (And left right node met) = left
left_of (Exists variable from node met halves) = from

abbrev pub right_of : Stage → ℕ
right_of (Clause taken node) = node
right_of (And left right node met) = right
right_of (Exists variable from node met halves) = from
