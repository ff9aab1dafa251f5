use Rattle.std.proofs.Common.{arith}
use Rattle.kn_diagram.specs.Diagrams.{IsNode}
use Rattle.kn_justify.specs.Growth.{ArePlain}
use Rattle.kn_justify.proofs.GrowthLemmas.{adds-grow, plain-join, plain-behind-not}
use Rattle.kn_justify.proofs.SettleLemmas.{error-ends}
use Rattle.kn_justify.proofs.TraceLemmas.{All-place}
use Rattle.kn_justify.proofs.KnownLemmas.{order-grows, all-more}
use Rattle.kn_justify.proofs.naming.name_trace.Goals as goal

pub name_entry-requires-clause-there : goal.name_entry-requires-clause-there
name_entry-requires-clause-there g c =
    All-place (λ m. IsNode c.args.d.now m.u × IsNode c.args.d.now m.v × IsNode c.args.d.now m.w) c.args.trace.now c.loop-m.m-index c.m-item.result c.requires.there (omega (arith, c.loop-m-test.true)) c.m-item.is

pub name_entry-requires-clause-known : goal.name_entry-requires-clause-known
name_entry-requires-clause-known g c =
    order-grows c.args.log.now.state.vars c.loop-m.log.state.vars c.args.d.now c.requires.known (adds-grow c.args.log.now c.loop-m.log _ _ c.loop-m.invariant.lines).vars

pub returns-in_err-name_entry-clause-kept : goal.returns-in_err-name_entry-clause-kept
returns-in_err-name_entry-clause-kept g c = λ x n e. c.name_entry.ensures.kept x n (c.loop-m.invariant.kept x n e)

pub returns-in_err-name_entry-clause-lines : goal.returns-in_err-name_entry-clause-lines
returns-in_err-name_entry-clause-lines g c =
    error-ends ArePlain c.args.log.now c.name_entry.new.log _ _ c.from_residual.result c.in_err-name_entry.field-0.0 c.from_residual.ensures.1
    (plain-behind-not c.args.log.now c.loop-m.log c.name_entry.new.log _ _ _ c.in_err-name_entry.field-0.0 c.loop-m.invariant.lines c.in_err-name_entry.ensures.lines)

pub loop-m-preserved : goal.loop-m-preserved
loop-m-preserved g c = record {
  lines = plain-join c.args.log.now c.loop-m.log c.name_entry.new.log _ _ _ c.loop-m.invariant.lines c.in_ok-name_entry.ensures.lines;
  right = c.name_entry.ensures.right;
  kept = λ x n e. c.name_entry.ensures.kept x n (c.loop-m.invariant.kept x n e);
  all = all-more c.loop-m.named c.name_entry.new.named c.args.trace.now c.loop-m.m-index c.m-item.result c.name_entry.ensures.kept c.loop-m.invariant.all (omega (arith, c.loop-m-test.true)) c.m-item.is c.in_ok-name_entry.ensures.named;
  later = omega (arith, c.loop-m.invariant.later, c.name_entry.ensures.later);
}
