use Rattle.std.proofs.Common.{◌≡◌, ◌≤◌, ◌∙◌, List, Some, None, sym, subst, arith}
use Rattle.std.specs.List.{AllByRecursion}
use Rattle.kn_logic.specs.Constraints.{Bounded}
use Rattle.kn_logic.specs.Literals.{IsKnown}
use Rattle.kn_diagram.specs.Diagrams.{Table, IsTable}
use Rattle.kn_quant.specs.declared.stage.Stage.{Stage}
use Rattle.kn_rules.specs.States.{live_at}
use Rattle.kn_justify.specs.Closings.{AreJustifying, Replaces}
use Rattle.kn_justify.specs.Taken.{AreMadeInTurn, IsOrderKnown, klause_of}
use Rattle.kn_justify.proofs.GrowthLemmas.{adds-grow, such-grows, grown-live}
use Rattle.kn_justify.proofs.SettleLemmas.{error-ends}
use Rattle.kn_justify.proofs.TraceLemmas.{All-weaker}
use Rattle.kn_justify.proofs.ClosingLemmas.{replaces-behind, replaces-klause, replaces-gone, such-keeps, such-plain-not, closing-behind, live-grows, if-ok, ok-of}
use Rattle.kn_justify.proofs.MadeLemmas.{made-in-turn, holds-somewhere, group-known, taken-live}
use Rattle.kn_justify.proofs.eliminations.justify_elimination.Goals as goal

pub make_units-requires-clause-known : goal.make_units-requires-clause-known
make_units-requires-clause-known g c =
    subst (λ (d : Table). IsOrderKnown c.args.log.now.state.vars d) (sym c.diagrams-d.ensures.value) (group-known c.args.log.now.state.vars c.args.group.now c.args.elimination.now.table c.requires.known c.requires.elimination.order)

pub make_units-requires-clause-stages : goal.make_units-requires-clause-stages
make_units-requires-clause-stages g c =
    let ok : IsTable c.args.elimination.now.table = subst (λ (d : Table). IsTable d) c.diagrams-d.ensures.value c.depth-depth.ensures.table in
    let some = holds-somewhere c.args.group.now c.args.bound c.taken-clauses.ensures.group c.requires.counts c.requires.bound.1 in
    let made : AreMadeInTurn c.args.log.now.state.given c.args.elimination.now.table c.args.group.now.taken c.args.ids.now c.args.elimination.now.stages =
    made-in-turn c.args.group.now c.args.elimination.now c.args.log.now.state.given c.args.ids.now some.0 ok c.taken-clauses.ensures.group c.diagrams-d.ensures.elimination c.requires.elimination c.requires.live some.1 in
    subst (λ (d : Table). AreMadeInTurn c.args.log.now.state.given d c.taken-clauses.result.now c.args.ids.now c.stages-stages.result.now) (sym c.diagrams-d.ensures.value)
    (subst (λ (cs : List Bounded). AreMadeInTurn c.args.log.now.state.given c.args.elimination.now.table cs c.args.ids.now c.stages-stages.result.now) (sym c.taken-clauses.ensures.value)
    (subst (λ (ss : List Stage). AreMadeInTurn c.args.log.now.state.given c.args.elimination.now.table c.args.group.now.taken c.args.ids.now ss) (sym c.stages-stages.ensures.value) made))

pub returns-in_err-units-clause-kept : goal.returns-in_err-units-clause-kept
returns-in_err-units-clause-kept g c = λ id x other e.
    grown-live c.args.log.now.state c.make_units.new.log.state id x (such-grows c.args.log.now c.make_units.new.log _ _ c.make_units.result c.make_units.ensures.lines) e

pub returns-in_err-units-clause-lines : goal.returns-in_err-units-clause-lines
returns-in_err-units-clause-lines g c =
    error-ends (AreJustifying (klause_of c.args.group.now c.args.bound) c.args.ids.now) c.args.log.now c.make_units.new.log _ _ c.from_residual.result c.in_err-units.field-0.0 c.from_residual.ensures.1
    (such-plain-not (klause_of c.args.group.now c.args.bound) c.args.ids.now c.args.log.now c.make_units.new.log _ _ c.in_err-units.field-0.0 c.in_err-units.ensures.lines)

pub conclude-requires-clause-known : goal.conclude-requires-clause-known
conclude-requires-clause-known g c =
    let grown = adds-grow c.args.log.now c.make_units.new.log _ _ c.in_ok-units.ensures.lines in
    All-weaker (λ l. IsKnown c.args.log.now.state.vars l) (λ l. IsKnown c.make_units.new.log.state.vars l) c.args.group.now.border (λ l k. (k.0, omega (arith, k.1, grown.vars))) c.requires.known.border

pub conclude-requires-clause-live : goal.conclude-requires-clause-live
conclude-requires-clause-live g c =
    live-grows c.args.log.now.state c.make_units.new.log.state c.args.ids.now (adds-grow c.args.log.now c.make_units.new.log _ _ c.in_ok-units.ensures.lines) (taken-live c.args.log.now.state.given c.args.ids.now c.args.group.now.taken c.requires.live)

pub returns-clause-replaced : goal.returns-clause-replaced
returns-clause-replaced g c =
    let grown = adds-grow c.args.log.now c.make_units.new.log _ _ c.in_ok-units.ensures.lines in
    let k = klause_of c.args.group.now c.args.bound in
    if-ok c.conclude.result (Replaces c.make_units.new.log.state c.conclude.new.log.state c.args.ids.now k) (Replaces c.args.log.now.state c.conclude.new.log.state c.args.ids.now k) c.conclude.ensures.replaced
    (λ id r. replaces-behind c.args.log.now.state c.make_units.new.log.state c.conclude.new.log.state c.args.ids.now k id grown r)

pub returns-clause-klause : goal.returns-clause-klause
returns-clause-klause g c =
    let grown = adds-grow c.args.log.now c.make_units.new.log _ _ c.in_ok-units.ensures.lines in
    let k = klause_of c.args.group.now c.args.bound in
    let live = live-grows c.args.log.now.state c.make_units.new.log.state c.args.ids.now grown (taken-live c.args.log.now.state.given c.args.ids.now c.args.group.now.taken c.requires.live) in
    if-ok c.conclude.result (Replaces c.make_units.new.log.state c.conclude.new.log.state c.args.ids.now k) (λ id. live_at c.conclude.new.log.state.given id ≡ Some k) c.conclude.ensures.replaced
    (λ id r. replaces-klause c.make_units.new.log.state c.conclude.new.log.state c.args.ids.now k id live r)

pub returns-clause-gone : goal.returns-clause-gone
returns-clause-gone g c =
    let k = klause_of c.args.group.now c.args.bound in
    ok-of c.conclude.result (Replaces c.make_units.new.log.state c.conclude.new.log.state c.args.ids.now k) (AllByRecursion (λ id. live_at c.conclude.new.log.state.given id ≡ None) c.args.ids.now) c.conclude.ensures.replaced
    (λ id r. replaces-gone c.make_units.new.log.state c.conclude.new.log.state c.args.ids.now k id r)

pub returns-clause-kept : goal.returns-clause-kept
returns-clause-kept g c = λ id x other e.
    such-keeps c.args.log.now c.conclude.new.log _ _ c.conclude.result (klause_of c.args.group.now c.args.bound) c.args.ids.now id x
    (closing-behind (klause_of c.args.group.now c.args.bound) c.args.ids.now c.args.log.now c.make_units.new.log c.conclude.new.log _ _ _ c.conclude.result c.in_ok-units.ensures.lines c.conclude.ensures.lines) other e

pub returns-clause-lines : goal.returns-clause-lines
returns-clause-lines g c =
    closing-behind (klause_of c.args.group.now c.args.bound) c.args.ids.now c.args.log.now c.make_units.new.log c.conclude.new.log _ _ _ c.conclude.result c.in_ok-units.ensures.lines c.conclude.ensures.lines
