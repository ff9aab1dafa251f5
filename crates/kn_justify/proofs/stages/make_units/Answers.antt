use Rattle.std.proofs.Common.{ℕ, sym, subst, arith}
use Rattle.kn_log.specs.declared.error.LogError.TheVariants.{Memory}
use Rattle.kn_justify.specs.Growth.{ArePlain}
use Rattle.kn_justify.specs.Names.{IsNamed, IsUnit}
use Rattle.kn_justify.proofs.GrowthLemmas.{such-grows, adds-grow, plain-join, plain-behind-not}
use Rattle.kn_justify.proofs.SettleLemmas.{error-ends}
use Rattle.kn_justify.proofs.KnownLemmas.{order-grows}
use Rattle.kn_justify.proofs.MakingLemmas.{units-move, noted-units, made-more, next-at}
use Rattle.kn_justify.proofs.stages.make_units.Goals as goal

pub stage_unit-requires-clause-known : goal.stage_unit-requires-clause-known
stage_unit-requires-clause-known g c =
    order-grows c.args.log.now.state.vars c.loop-stage.log.state.vars c.args.d.now c.requires.known (adds-grow c.args.log.now c.loop-stage.log _ _ c.loop-stage.invariant.lines).vars

pub stage_unit-requires-clause-next : goal.stage_unit-requires-clause-next
stage_unit-requires-clause-next g c =
    next-at c.args.log.now.state c.loop-stage.log.state c.args.d.now c.args.clauses.now c.args.ids.now c.args.stages.now c.loop-stage.units c.loop-stage.stage-index c.stage-item.result
    (adds-grow c.args.log.now c.loop-stage.log _ _ c.loop-stage.invariant.lines) c.requires.stages c.loop-stage.invariant.made (omega (arith, c.loop-stage-test.true)) c.stage-item.is

pub returns-in_err-id-clause-lines : goal.returns-in_err-id-clause-lines
returns-in_err-id-clause-lines g c =
    error-ends ArePlain c.args.log.now c.stage_unit.new.log _ _ c.from_residual.result c.in_err-id.field-0.0 c.from_residual.ensures.1
    (plain-behind-not c.args.log.now c.loop-stage.log c.stage_unit.new.log _ _ _ c.in_err-id.field-0.0 c.loop-stage.invariant.lines c.in_err-id.ensures.lines)

pub returns-in_err-note-clause-lines : goal.returns-in_err-note-clause-lines
returns-in_err-note-clause-lines g c =
    error-ends ArePlain c.args.log.now c.stage_unit.new.log _ _ c.from_residual-in_err-note.result Memory c.from_residual-in_err-note.ensures.1
    (plain-join c.args.log.now c.loop-stage.log c.stage_unit.new.log _ _ _ c.loop-stage.invariant.lines c.in_ok-id.ensures.lines)

pub loop-stage-preserved : goal.loop-stage-preserved
loop-stage-preserved g c = record {
  lines = plain-join c.args.log.now c.loop-stage.log c.stage_unit.new.log _ _ _ c.loop-stage.invariant.lines c.in_ok-id.ensures.lines;
  right = c.stage_unit.ensures.right;
  units = noted-units c.stage_unit.new.log.state.given c.stage_unit.new.named c.node_of.result c.in_ok-id.id c.loop-stage.units c.note.new.units c.in_ok-note.ensures
      (units-move c.loop-stage.log.state c.stage_unit.new.log.state c.loop-stage.named c.stage_unit.new.named c.loop-stage.units (such-grows c.loop-stage.log c.stage_unit.new.log _ _ c.stage_unit.result c.stage_unit.ensures.lines) c.stage_unit.ensures.kept c.loop-stage.invariant.units)
      (subst (λ (x : ℕ). IsUnit c.stage_unit.new.log.state.given c.stage_unit.new.named x c.in_ok-id.id) (sym c.node_of.ensures) c.in_ok-id.ensures.unit)
      (subst (λ (x : ℕ). IsNamed c.stage_unit.new.named x) (sym c.node_of.ensures) c.in_ok-id.ensures.named);
  made = made-more c.node_of.result c.in_ok-id.id c.loop-stage.units c.note.new.units c.args.stages.now c.loop-stage.stage-index c.stage-item.result c.in_ok-note.ensures c.node_of.ensures c.loop-stage.invariant.made (omega (arith, c.loop-stage-test.true)) c.stage-item.is;
  later = omega (arith, c.loop-stage.invariant.later, c.stage_unit.ensures.later);
}
