use Rattle.std.proofs.Common.{List, refl, sym, ap, arith}
use Rattle.kn_logic.specs.Literals.{Literal}
use Rattle.kn_logic.specs.Constraints.{clause}
use Rattle.kn_lines.specs.declared.line.Line.TheVariants.{Learned}
use Rattle.kn_log.specs.declared.error.LogError.TheVariants.{Memory}
use Rattle.kn_search.proofs.Mirroring.{unused-id, mirrors-learned}
use Rattle.kn_search.proofs.Parts.{part-line, part-may, line-fails, handed-on}
use Rattle.kn_search.proofs.Held.{held-learned, kept-added}
use Rattle.kn_search.proofs.Levels.{waits-lower}
use Rattle.kn_search.proofs.concluding.conclude.Goals as goal

pub returns-in_err-id-clause-error : goal.returns-in_err-id-clause-error
returns-in_err-id-clause-error g c =
    handed-on _ c.from_residual-in_err-id.result c.in_err-id.field-0.0 c.from_residual-in_err-id.ensures.1
    (λ forget deletions. line-fails c.args.engine.now.trail.vars forget deletions 1 c.args.log.now c.log_clause.new.log _ _ (Learned (clause c.deref.result.now) c.into_parts-lits.result.1.items) c.in_err-id.field-0.0
    c.requires.whole (c.in_err-id.ensures.allows forget deletions) (omega arith) c.in_err-id.ensures.logs c.in_err-id.ensures.spelled)

pub take_clause-requires-clause-fresh : goal.take_clause-requires-clause-fresh
take_clause-requires-clause-fresh g c = unused-id c.args.engine.now.live c.args.log.now.state.given c.in_ok-id.id c.requires.mirrors c.in_ok-id.ensures.id

pub take_clause-requires-clause-waits : goal.take_clause-requires-clause-waits
take_clause-requires-clause-waits g c =
    waits-lower c.args.engine.now.trail c.in_ok-learned.learned.level c.landing-level.result c.in_ok-learned.learned.lits c.into_parts-lits.result.0.items (omega (arith, c.landing-level.ensures, c.level.ensures)) c.into_parts-lits.ensures.lits c.in_ok-learned.ensures.waits

pub returns-in_err-take_clause-clause-error : goal.returns-in_err-take_clause-clause-error
returns-in_err-take_clause-clause-error g c =
    handed-on _ c.from_residual-in_err-take_clause.result Memory c.from_residual-in_err-take_clause.ensures.1
    (λ forget deletions.
    let (steps, good, got) = c.in_ok-id.ensures.logs in
    part-may c.args.engine.now.trail.vars forget deletions 1 0 c.args.log.now c.log_clause.new.log _ _
    (part-line c.args.engine.now.trail.vars forget deletions c.args.log.now c.log_clause.new.log _ _ (Learned (clause c.deref.result.now) c.into_parts-lits.result.1.items) steps (c.in_ok-id.ensures.allows forget deletions) refl good c.in_ok-id.ensures.spelled got))

pub returns-clause-mirrors : goal.returns-clause-mirrors
returns-clause-mirrors g c =
    let (steps, good, got) = c.in_ok-id.ensures.logs in
    mirrors-learned c.args.engine.now.live c.take_clause.new.engine.live c.args.log.now.state c.log_clause.new.log.state (clause c.deref.result.now) (clause c.into_parts-lits.result.0.items) c.into_parts-lits.result.1.items c.in_ok-id.id
    c.requires.mirrors c.in_ok-id.ensures.id c.in_ok-take_clause.ensures.live (ap (λ (lits : List Literal). clause lits) (sym c.deref.ensures.value)) steps

pub returns-clause-held : goal.returns-clause-held
returns-clause-held g c = λ ids h.
    let (steps, good, got) = c.in_ok-id.ensures.logs in
    held-learned c.args.log.now.state c.log_clause.new.log.state (clause c.deref.result.now) c.into_parts-lits.result.1.items ids c.in_ok-id.id steps c.in_ok-id.ensures.id h

pub returns-clause-kept : goal.returns-clause-kept
returns-clause-kept g c = λ first ids h.
    kept-added first c.args.engine.now.live c.take_clause.new.engine.live ids c.in_ok-id.id (clause c.into_parts-lits.result.0.items)
    (unused-id c.args.engine.now.live c.args.log.now.state.given c.in_ok-id.id c.requires.mirrors c.in_ok-id.ensures.id) c.in_ok-take_clause.ensures.live h

pub returns-clause-logs : goal.returns-clause-logs
returns-clause-logs g c = λ forget deletions.
    let (steps, good, got) = c.in_ok-id.ensures.logs in
    part-line c.args.engine.now.trail.vars forget deletions c.args.log.now c.log_clause.new.log _ _ (Learned (clause c.deref.result.now) c.into_parts-lits.result.1.items) steps (c.in_ok-id.ensures.allows forget deletions) refl good c.in_ok-id.ensures.spelled got
