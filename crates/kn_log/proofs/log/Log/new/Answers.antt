use Rattle.std.proofs.Common.{◌<◌, ◌^◌, length, arith, rules, sym, ◌∙◌, subst}
use Rattle.kn_bytes.specs.Outside.{GotPrefix}
use Rattle.kn_log.proofs.Failing.{err_says}
use Rattle.kn_log.proofs.Text.{header_is_spelled}
use Rattle.kn_log.proofs.log.Log.new.Goals as goal

pub returns-then-is_err-clause-spelled : goal.returns-then-is_err-clause-spelled
returns-then-is_err-clause-spelled g c =
    let vars : c.args.f.now.vars < 2 ^ 64 = omega arith in
    let counted : length c.args.f.now.constraints < 2 ^ 64 = search rules in
    header_is_spelled c.args.f.now vars counted

pub returns-clause-spelled : goal.returns-clause-spelled
returns-clause-spelled g c =
    let vars : c.args.f.now.vars < 2 ^ 64 = omega arith in
    let counted : length c.args.f.now.constraints < 2 ^ 64 = search rules in
    header_is_spelled c.args.f.now vars counted

pub returns-then-is_err-clause-opens : goal.returns-then-is_err-clause-opens
returns-then-is_err-clause-opens g c =
    let front = subst (GotPrefix (g.S.Sink.written c.args.sink.now) (g.S.Sink.written c.write_all.new.sink)) (c.deref.ensures.value ∙ c.in_ok-text.ensures.text)
    (err_says c.write_all.result _ (sym c.is_err.ensures.value ∙ c.if-is_err.true) c.write_all.ensures.err) in
    rw (c.vars.ensures, c.len.ensures.count) at front
