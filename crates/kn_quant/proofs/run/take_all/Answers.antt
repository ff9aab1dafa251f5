use Rattle.std.proofs.Common.{◌≡◌, ◌<◌, ◌≤◌, ◌++◌, ◌∷◌, ◌∙◌, [], List, sym, ap, subst, rules, take, length}
use Rattle.kn_logic.specs.Constraints.{Bounded}
use Rattle.kn_diagram.specs.Diagrams.{function_of}
use Rattle.kn_quant.specs.Pieces.{nodes_of, AreMarked, AreOnTop}
use Rattle.kn_quant.specs.Eliminations.{Gathers}
use Rattle.kn_quant.proofs.JoinedLemmas.{gathers-more, taken-next}
use Rattle.kn_quant.proofs.PieceLemmas.{marked-kept, pieces-there, marked-more, nodes-append, IsDeepest, deepest-lowest, top-within}
use Rattle.kn_quant.proofs.run.take_all.Goals as goal

pub deepest_above-requires-clause-within : goal.deepest_above-requires-clause-within
deepest_above-requires-clause-within c =
    let order = c.in_ok-node.ensures.kept.order ∙ c.loop-clause.invariant.gathers.kept.order in
    subst (λ d. length c.args.aux.now ≤ length d.order) (sym c.diagrams.ensures.value)
    (subst (λ o. length c.args.aux.now ≤ length o) (sym order) (top-within c.args.work.now.table.order c.args.aux.now c.requires.on_top))

pub loop-clause-preserved : goal.loop-clause-preserved
loop-clause-preserved c =
    let within : c.loop-clause.clause-index < length c.args.clauses.now = search rules in
    let next = taken-next c.args.clauses.now c.loop-clause.clause-index c.clause-item.result within c.clause-item.is in
    let inv = c.loop-clause.invariant in
    let ps = c.loop-clause.pieces.items in
    let aux = c.args.aux.now in
    let old = c.loop-clause.work.table in
    let new = c.take.new.self.table in
    let kept = c.in_ok-node.ensures.kept in
    let order = kept.order ∙ inv.gathers.kept.order in
    let more : nodes_of c.push.new.self.items ≡ nodes_of ps ++ c.in_ok-node.node ∷ [] =
    ap nodes_of c.in_ok-push.ensures.items ∙ nodes-append ps (record { node = c.in_ok-node.node; lowest = c.in_ok-lowest.lowest } ∷ []) in
    let deepest : IsDeepest c.diagrams.result.now.order (function_of c.diagrams.result.now c.in_ok-node.node) (length aux) c.in_ok-lowest.lowest = record {
      above = c.in_ok-lowest.ensures.above;
      depends = c.in_ok-lowest.ensures.depends;
      deepest = c.in_ok-lowest.ensures.deepest;
      none = c.in_ok-lowest.ensures.none;
    } in
    let here = subst (λ d. IsDeepest d.order (function_of d c.in_ok-node.node) (length aux) c.in_ok-lowest.lowest) c.diagrams.ensures.value deepest in
    record {
      gathers = subst (λ cs. Gathers c.args.work.now c.take.new.self cs (nodes_of c.push.new.self.items)) (sym {A = List Bounded} next)
          (subst (Gathers c.args.work.now c.take.new.self (take c.loop-clause.clause-index c.args.clauses.now ++ c.clause-item.result ∷ [])) (sym more)
          (gathers-more c.args.work.now c.loop-clause.work c.take.new.self (take c.loop-clause.clause-index c.args.clauses.now) c.clause-item.result (nodes_of ps) c.in_ok-node.node
          inv.gathers c.in_ok-node.ensures));
      marked = subst (AreMarked new aux) (sym c.in_ok-push.ensures.items)
          (marked-more new aux ps (record { node = c.in_ok-node.node; lowest = c.in_ok-lowest.lowest })
          (marked-kept old new aux ps kept (pieces-there c.loop-clause.work ps inv.gathers.are) inv.marked)
          (deepest-lowest new.order aux (function_of new c.in_ok-node.node) c.in_ok-lowest.lowest (subst (λ o. AreOnTop o aux) (sym order) c.requires.on_top) here));
    }
