use Rattle.kn_lines.specs.declared.line.Line.TheVariants.{Define}
use Rattle.kn_log.proofs.Public.{logs-such-not}
use Rattle.kn_justify.specs.Growth.{ArePlain}
use Rattle.kn_justify.proofs.SettleLemmas.{adds-one, error-ends}
use Rattle.kn_justify.proofs.DefinitionLemmas.{definition-defines}
use Rattle.kn_justify.proofs.defining.define.Goals as goal

pub returns-in_err-var-clause-lines : goal.returns-in_err-var-clause-lines
returns-in_err-var-clause-lines g c =
    error-ends ArePlain c.args.log.now c.define.new.self _ _ c.from_residual.result c.in_err-var.field-0.0 c.from_residual.ensures.1
    (logs-such-not ArePlain (Define c.args.x c.args.high c.args.low) c.args.log.now c.define.new.self _ _ c.in_err-var.field-0.0 c.requires.whole tt (tt, tt) c.in_err-var.ensures.logs c.in_err-var.ensures.spelled)

pub returns-clause-defined : goal.returns-clause-defined
returns-clause-defined g c =
    definition-defines c.args.log.now.state c.define.new.self.state c.args.x c.args.high c.args.low c.in_ok-var.var c.next_id-id.result c.new.result c.vars-known.ensures.defined c.in_ok-var.ensures.logs.0 c.in_ok-var.ensures.variable c.next_id-id.ensures c.new.ensures

pub returns-clause-lines : goal.returns-clause-lines
returns-clause-lines g c = adds-one ArePlain (Define c.args.x c.args.high c.args.low) c.args.log.now c.define.new.self _ _ (tt, tt) c.in_ok-var.ensures.logs c.in_ok-var.ensures.spelled
