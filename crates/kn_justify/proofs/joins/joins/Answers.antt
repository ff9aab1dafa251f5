use Rattle.std.proofs.Common.{[], arith}
use Rattle.kn_log.specs.declared.error.LogError.TheVariants.{Memory}
use Rattle.kn_justify.specs.Growth.{ArePlain, Grown}
use Rattle.kn_justify.specs.Names.{IsNamedMet}
use Rattle.kn_justify.specs.Lemmas.{joined}
use Rattle.kn_justify.proofs.GrowthLemmas.{such-grows, adds-grow, plain-join, plain-behind-not}
use Rattle.kn_justify.proofs.SettleLemmas.{error-ends}
use Rattle.kn_justify.proofs.NameLemmas.{met-grows}
use Rattle.kn_justify.proofs.LookupLemmas.{none-found}
use Rattle.kn_justify.proofs.TraceLemmas.{All-place, explained-at, has-children, covered-more, joined-more}
use Rattle.kn_justify.proofs.joins.joins.Goals as goal

pub entry-requires-clause-met : goal.entry-requires-clause-met
entry-requires-clause-met g c =
    met-grows c.args.log.now.state c.loop-m.log.state c.args.d.now c.args.named.now c.m-item.result (adds-grow c.args.log.now c.loop-m.log _ _ c.loop-m.invariant.lines)
    (All-place (IsNamedMet c.args.log.now.state c.args.d.now c.args.named.now) c.args.trace.now c.loop-m.m-index c.m-item.result c.requires.named (omega (arith, c.loop-m-test.true)) c.m-item.is)

pub entry-requires-clause-children : goal.entry-requires-clause-children
entry-requires-clause-children g c =
    has-children c.args.d.now c.args.side c.args.trace.now c.loop-m.lemmas c.loop-m.m-index c.m-item.result c.requires.explained c.loop-m.invariant.covered (omega (arith, c.loop-m-test.true)) c.m-item.is

pub returns-in_err-id-clause-lines : goal.returns-in_err-id-clause-lines
returns-in_err-id-clause-lines g c =
    error-ends ArePlain c.args.log.now c.entry.new.log _ _ c.from_residual.result c.in_err-id.field-0.0 c.from_residual.ensures.1
    (plain-behind-not c.args.log.now c.loop-m.log c.entry.new.log _ _ _ c.in_err-id.field-0.0 c.loop-m.invariant.lines c.in_err-id.ensures.lines)

pub returns-in_err-insert-clause-lines : goal.returns-in_err-insert-clause-lines
returns-in_err-insert-clause-lines g c =
    error-ends ArePlain c.args.log.now c.entry.new.log _ _ c.from_residual-in_err-insert.result Memory c.from_residual-in_err-insert.ensures.1
    (plain-join c.args.log.now c.loop-m.log c.entry.new.log _ _ _ c.loop-m.invariant.lines c.in_ok-id.ensures.lines)

pub loop-m-preserved : goal.loop-m-preserved
loop-m-preserved g c =
    let grown : Grown c.loop-m.log.state c.entry.new.log.state = such-grows c.loop-m.log c.entry.new.log _ _ c.entry.result c.entry.ensures.lines in
    let at = explained-at (joined c.args.side) c.args.d.now [] c.args.trace.now c.loop-m.m-index c.m-item.result c.requires.explained (omega (arith, c.loop-m-test.true)) c.m-item.is in
    record {
      lines = plain-join c.args.log.now c.loop-m.log c.entry.new.log _ _ _ c.loop-m.invariant.lines c.in_ok-id.ensures.lines;
      joined = joined-more c.loop-m.log.state c.entry.new.log.state c.args.d.now c.args.named.now c.args.side c.loop-m.lemmas c.insert.new.self c.m-item.result c.in_ok-id.id grown c.loop-m.invariant.joined at.right c.in_ok-id.ensures.settled c.in_ok-insert.ensures.ok;
      covered = covered-more c.loop-m.lemmas c.insert.new.self c.args.trace.now c.loop-m.m-index c.m-item.result c.in_ok-id.id c.loop-m.invariant.covered (omega (arith, c.loop-m-test.true)) c.m-item.is
          (none-found c.get.result _ c.is_some.result c.is_some.ensures c.if-is_some.false c.get.ensures) c.in_ok-insert.ensures.ok;
      later = omega (arith, c.loop-m.invariant.later, c.in_ok-id.ensures.later);
    }
