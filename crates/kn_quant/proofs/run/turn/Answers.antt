use Rattle.std.proofs.Common.{◌≡◌, ◌∙◌, sym, ap, subst, [], ◌∷◌, ◌++◌, length}
use Rattle.std.proofs.lemmas.Result.{err_from_is_err_and}
use Rattle.kn_diagram.specs.Diagrams.{function_of}
use Rattle.kn_quant.specs.Runs.{joins, Quantify}
use Rattle.kn_quant.specs.Pieces.{nodes_of, marked_nodes, unmarked, AreMarked, AreOnTop}
use Rattle.kn_quant.specs.Eliminations.{StopsIn, functions_of, Turns, TurnStops}
use Rattle.kn_quant.proofs.ProgressLemmas.{if-wide-stage}
use Rattle.kn_quant.proofs.JoinedLemmas.{IsSplit, rest_of, first-of, none-of, turns-empty, turns-full, turn-stops-joining, turn-stops-quantifying}
use Rattle.kn_quant.proofs.PieceLemmas.{split-marked, none-marked, unmarked-marked, marked-kept, pieces-there, marked-more, nodes-append, IsDeepest, deepest-lowest}
use Rattle.kn_quant.proofs.run.turn.Goals as goal

pub returns-in_default-clause-turn : goal.returns-in_default-clause-turn
returns-in_default-clause-turn c =
    let w = c.args.work.now in
    let ps = c.args.pieces.items in
    let rest = c.in_ok-bucket.rest.items in
    let bucket : c.in_ok-bucket.bucket.items ≡ marked_nodes c.args.var ps = c.in_ok-bucket.ensures.bucket ∙ ap (marked_nodes c.args.var) c.deref.ensures.value in
    let none : c.in_ok-bucket.bucket.items ≡ [] = sym c.as_slice.ensures.value ∙ none-of c.as_slice.result.now c.in_default.len_below in
    turns-empty w c.args.var (nodes_of ps) (nodes_of rest) c.requires.pieces
    (split-marked w c.args.var c.args.later.now ps rest [] c.requires.pieces c.requires.marked (sym none ∙ bucket) (c.in_ok-bucket.ensures.rest ∙ ap (unmarked c.args.var) c.deref.ensures.value))

pub returns-in_default-clause-marked : goal.returns-in_default-clause-marked
returns-in_default-clause-marked c =
    let ps = c.args.pieces.items in
    let bucket : c.in_ok-bucket.bucket.items ≡ marked_nodes c.args.var ps = c.in_ok-bucket.ensures.bucket ∙ ap (marked_nodes c.args.var) c.deref.ensures.value in
    let none : c.in_ok-bucket.bucket.items ≡ [] = sym c.as_slice.ensures.value ∙ none-of c.as_slice.result.now c.in_default.len_below in
    none-marked c.args.work.now.table c.args.var c.args.later.now ps (sym bucket ∙ none) c.requires.marked

pub conjoin-requires-clause-first : goal.conjoin-requires-clause-first
conjoin-requires-clause-first c =
    let w = c.args.work.now in
    let ps = c.args.pieces.items in
    let others = rest_of c.as_slice.result.now in
    let split : IsSplit w c.args.var (nodes_of ps) (c.first-item.result ∷ others) (nodes_of c.in_ok-bucket.rest.items) =
    split-marked w c.args.var c.args.later.now ps c.in_ok-bucket.rest.items (c.first-item.result ∷ others) c.requires.pieces c.requires.marked
    (sym (first-of c.as_slice.result.now c.first-item.result c.in-len1-up.len_at_least c.first-item.is) ∙ c.as_slice.ensures.value ∙ c.in_ok-bucket.ensures.bucket ∙ ap (marked_nodes c.args.var) c.deref.ensures.value)
    (c.in_ok-bucket.ensures.rest ∙ ap (unmarked c.args.var) c.deref.ensures.value) in
    split.in_bucket.0

pub conjoin-requires-clause-others : goal.conjoin-requires-clause-others
conjoin-requires-clause-others c =
    let w = c.args.work.now in
    let ps = c.args.pieces.items in
    let others = rest_of c.as_slice.result.now in
    let split : IsSplit w c.args.var (nodes_of ps) (c.first-item.result ∷ others) (nodes_of c.in_ok-bucket.rest.items) =
    split-marked w c.args.var c.args.later.now ps c.in_ok-bucket.rest.items (c.first-item.result ∷ others) c.requires.pieces c.requires.marked
    (sym (first-of c.as_slice.result.now c.first-item.result c.in-len1-up.len_at_least c.first-item.is) ∙ c.as_slice.ensures.value ∙ c.in_ok-bucket.ensures.bucket ∙ ap (marked_nodes c.args.var) c.deref.ensures.value)
    (c.in_ok-bucket.ensures.rest ∙ ap (unmarked c.args.var) c.deref.ensures.value) in
    split.in_bucket.1

pub returns-in_err-function-clause-wide : goal.returns-in_err-function-clause-wide
returns-in_err-function-clause-wide c =
    let w = c.args.work.now in
    let ps = c.args.pieces.items in
    let others = rest_of c.as_slice.result.now in
    let split : IsSplit w c.args.var (nodes_of ps) (c.first-item.result ∷ others) (nodes_of c.in_ok-bucket.rest.items) =
    split-marked w c.args.var c.args.later.now ps c.in_ok-bucket.rest.items (c.first-item.result ∷ others) c.requires.pieces c.requires.marked
    (sym (first-of c.as_slice.result.now c.first-item.result c.in-len1-up.len_at_least c.first-item.is) ∙ c.as_slice.ensures.value ∙ c.in_ok-bucket.ensures.bucket ∙ ap (marked_nodes c.args.var) c.deref.ensures.value)
    (c.in_ok-bucket.ensures.rest ∙ ap (unmarked c.args.var) c.deref.ensures.value) in
    let p = err_from_is_err_and c.from_residual-in_err-function.result c.from_residual-in_err-function.ensures.1 in
    rw (p.1, p.2) (if-wide-stage c.in_err-function.field-0.0 (StopsIn w (joins (function_of w.table c.first-item.result) (functions_of w.table others))) (TurnStops w c.args.var (nodes_of ps))
    (λ stage level s. turn-stops-joining w c.args.var (nodes_of ps) (nodes_of c.in_ok-bucket.rest.items) others c.first-item.result stage level split s)
    c.in_err-function.ensures.wide)

pub returns-in_err-node-clause-wide : goal.returns-in_err-node-clause-wide
returns-in_err-node-clause-wide c =
    let w = c.args.work.now in
    let ps = c.args.pieces.items in
    let others = rest_of c.as_slice.result.now in
    let split : IsSplit w c.args.var (nodes_of ps) (c.first-item.result ∷ others) (nodes_of c.in_ok-bucket.rest.items) =
    split-marked w c.args.var c.args.later.now ps c.in_ok-bucket.rest.items (c.first-item.result ∷ others) c.requires.pieces c.requires.marked
    (sym (first-of c.as_slice.result.now c.first-item.result c.in-len1-up.len_at_least c.first-item.is) ∙ c.as_slice.ensures.value ∙ c.in_ok-bucket.ensures.bucket ∙ ap (marked_nodes c.args.var) c.deref.ensures.value)
    (c.in_ok-bucket.ensures.rest ∙ ap (unmarked c.args.var) c.deref.ensures.value) in
    let p = err_from_is_err_and c.from_residual-in_err-node.result c.from_residual-in_err-node.ensures.1 in
    rw (p.1, p.2) (if-wide-stage c.in_err-node.field-0.0 (StopsIn c.note.new.self (Quantify c.args.var (function_of c.note.new.self.table c.in_ok-function.function) ∷ [])) (TurnStops w c.args.var (nodes_of ps))
    (λ stage level s. turn-stops-quantifying w c.conjoin.new.work c.note.new.self c.args.var (nodes_of ps) (nodes_of c.in_ok-bucket.rest.items) others c.first-item.result
    c.in_ok-function.function stage level split c.in_ok-function.ensures.makes c.in_ok-function.ensures.node c.in_ok-note.ensures s)
    c.in_err-node.ensures.wide)

pub returns-clause-turn : goal.returns-clause-turn
returns-clause-turn c =
    let w = c.args.work.now in
    let ps = c.args.pieces.items in
    let others = rest_of c.as_slice.result.now in
    let split : IsSplit w c.args.var (nodes_of ps) (c.first-item.result ∷ others) (nodes_of c.in_ok-bucket.rest.items) =
    split-marked w c.args.var c.args.later.now ps c.in_ok-bucket.rest.items (c.first-item.result ∷ others) c.requires.pieces c.requires.marked
    (sym (first-of c.as_slice.result.now c.first-item.result c.in-len1-up.len_at_least c.first-item.is) ∙ c.as_slice.ensures.value ∙ c.in_ok-bucket.ensures.bucket ∙ ap (marked_nodes c.args.var) c.deref.ensures.value)
    (c.in_ok-bucket.ensures.rest ∙ ap (unmarked c.args.var) c.deref.ensures.value) in
    let more : nodes_of c.push.new.self.items ≡ nodes_of c.in_ok-bucket.rest.items ++ c.in_ok-node.node ∷ [] =
    ap nodes_of c.in_ok-push.ensures.items ∙ nodes-append c.in_ok-bucket.rest.items (record { node = c.in_ok-node.node; lowest = c.in_ok-lowest.lowest } ∷ []) in
    subst (Turns w c.exists.new.self c.args.var (nodes_of ps)) (sym more)
    (turns-full w c.conjoin.new.work c.note.new.self c.exists.new.self c.args.var (nodes_of ps) (nodes_of c.in_ok-bucket.rest.items) others
    c.first-item.result c.in_ok-function.function c.in_ok-node.node split c.in_ok-function.ensures.makes c.in_ok-function.ensures.node c.in_ok-note.ensures c.in_ok-node.ensures.makes c.in_ok-node.ensures.node)

pub returns-clause-marked : goal.returns-clause-marked
returns-clause-marked c =
    let w = c.args.work.now in
    let ps = c.args.pieces.items in
    let others = rest_of c.as_slice.result.now in
    let split : IsSplit w c.args.var (nodes_of ps) (c.first-item.result ∷ others) (nodes_of c.in_ok-bucket.rest.items) =
    split-marked w c.args.var c.args.later.now ps c.in_ok-bucket.rest.items (c.first-item.result ∷ others) c.requires.pieces c.requires.marked
    (sym (first-of c.as_slice.result.now c.first-item.result c.in-len1-up.len_at_least c.first-item.is) ∙ c.as_slice.ensures.value ∙ c.in_ok-bucket.ensures.bucket ∙ ap (marked_nodes c.args.var) c.deref.ensures.value)
    (c.in_ok-bucket.ensures.rest ∙ ap (unmarked c.args.var) c.deref.ensures.value) in
    let old = w.table in
    let new = c.exists.new.self.table in
    let later = c.args.later.now in
    let rest = c.in_ok-bucket.rest.items in
    let kept = (returns-clause-turn c).makes.kept in
    let is : rest ≡ unmarked c.args.var ps = c.in_ok-bucket.ensures.rest ∙ ap (unmarked c.args.var) c.deref.ensures.value in
    let deepest : IsDeepest c.diagrams.result.now.order (function_of c.diagrams.result.now c.in_ok-node.node) (length later) c.in_ok-lowest.lowest = record {
      above = c.in_ok-lowest.ensures.above;
      depends = c.in_ok-lowest.ensures.depends;
      deepest = c.in_ok-lowest.ensures.deepest;
      none = c.in_ok-lowest.ensures.none;
    } in
    let here = subst (λ d. IsDeepest d.order (function_of d c.in_ok-node.node) (length later) c.in_ok-lowest.lowest) c.diagrams.ensures.value deepest in
    subst (AreMarked new later) (sym c.in_ok-push.ensures.items)
    (marked-more new later rest (record { node = c.in_ok-node.node; lowest = c.in_ok-lowest.lowest })
    (marked-kept old new later rest kept (pieces-there w rest split.in_rest) (subst (AreMarked old later) (sym is) (unmarked-marked old c.args.var later ps c.requires.marked)))
    (deepest-lowest new.order later (function_of new c.in_ok-node.node) c.in_ok-lowest.lowest (subst (λ o. AreOnTop o later) (sym kept.order) c.requires.on_top.2) here))
