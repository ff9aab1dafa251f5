use Rattle.std.proofs.Common.{◌∙◌, sym, subst, refl}
use Rattle.kn_lines.specs.Lines.{AreIds}
use Rattle.kn_lines.specs.declared.line.Line.TheVariants.{Klause}
use Rattle.kn_log.proofs.Public.{logs-such-not}
use Rattle.kn_justify.specs.Closings.{AreClosing}
use Rattle.kn_justify.proofs.DeletionLemmas.{live-ids}
use Rattle.kn_justify.proofs.SettleLemmas.{error-ends}
use Rattle.kn_justify.proofs.ClosingLemmas.{deletion-steps, closes, closed-lines, closed-not}
use Rattle.kn_justify.proofs.closing.close.Goals as goal

pub returns-in_err-id-clause-lines : goal.returns-in_err-id-clause-lines
returns-in_err-id-clause-lines g c =
    error-ends (AreClosing c.args.klause c.args.ids.now) c.args.log.now c.klause-2.new.self _ _ c.from_residual-in_err-id.result c.in_err-id.field-0.0 c.from_residual-in_err-id.ensures.1
    (logs-such-not (AreClosing c.args.klause c.args.ids.now) (Klause c.args.klause c.args.root c.args.unit) c.args.log.now c.klause-2.new.self _ _ c.in_err-id.field-0.0 c.requires.whole tt refl c.in_err-id.ensures.logs c.in_err-id.ensures.spelled)

pub delete-requires-clause-formed : goal.delete-requires-clause-formed
delete-requires-clause-formed g c = subst AreIds (sym (c.new-gone.ensures ∙ c.in_ok-from_slice.ensures.items)) (live-ids c.args.log.now.state.given c.args.ids.now c.requires.live)

pub delete-requires-clause-steps : goal.delete-requires-clause-steps
delete-requires-clause-steps g c = deletion-steps c.args.log.now.state c.klause-2.new.self.state c.args.klause c.args.root c.args.unit c.args.ids.now c.new-gone.result c.requires.formed.0 c.in_ok-id.ensures.logs.0 c.requires.different c.requires.live (c.new-gone.ensures ∙ c.in_ok-from_slice.ensures.items)

pub returns-in_err-delete-clause-lines : goal.returns-in_err-delete-clause-lines
returns-in_err-delete-clause-lines g c =
    error-ends (AreClosing c.args.klause c.args.ids.now) c.args.log.now c.delete.new.self _ _ c.from_residual-in_err-delete.result c.in_err-delete.field-0.0 c.from_residual-in_err-delete.ensures.1
    (closed-not c.args.klause c.args.root c.args.unit c.args.ids.now c.new-gone.result c.args.log.now c.klause-2.new.self c.delete.new.self _ _ _ c.in_err-delete.field-0.0 (c.new-gone.ensures ∙ c.in_ok-from_slice.ensures.items) c.in_ok-id.ensures.logs c.in_ok-id.ensures.spelled c.in_err-delete.ensures.logs c.in_err-delete.ensures.spelled)

pub returns-clause-closed : goal.returns-clause-closed
returns-clause-closed g c = closes c.args.log.now.state c.klause-2.new.self.state c.delete.new.self.state c.args.klause c.args.root c.args.unit c.in_ok-id.id c.args.ids.now c.new-gone.result c.requires.formed.0 c.in_ok-id.ensures.logs.0 c.in_ok-delete.ensures.logs.0 (c.new-gone.ensures ∙ c.in_ok-from_slice.ensures.items) c.in_ok-id.ensures.id

pub returns-clause-lines : goal.returns-clause-lines
returns-clause-lines g c = closed-lines c.args.klause c.args.root c.args.unit c.args.ids.now c.new-gone.result c.args.log.now c.klause-2.new.self c.delete.new.self _ _ _ (c.new-gone.ensures ∙ c.in_ok-from_slice.ensures.items) c.in_ok-id.ensures.logs c.in_ok-id.ensures.spelled c.in_ok-delete.ensures.logs c.in_ok-delete.ensures.spelled
