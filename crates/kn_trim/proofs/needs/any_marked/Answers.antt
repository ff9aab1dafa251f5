use Rattle.std.proofs.Common.{◌+◌, ◌-◌, ◌||◌, sym, ap, ◌∙◌, arith}
use Rattle.kn_trim.specs.Marking.{is_any}
use Rattle.kn_trim.proofs.MarkLemmas.{any-open}
use Rattle.kn_trim.proofs.needs.any_marked.Goals as goal

pub returns-then-marks-place : goal.returns-then-marks-place
returns-then-marks-place c =
    let l = c.loop-left in
    sym (any-open c.args.marks.now l.place l.left c.loop-left-test.true ∙ ap (λ b. b || is_any c.args.marks.now (l.place + 1) (l.left - 1)) c.if-marks-place.true) ∙ l.invariant.any

pub loop-left-preserved : goal.loop-left-preserved
loop-left-preserved c =
    let l = c.loop-left in
    record {
      room = omega (arith, l.invariant.room, c.loop-left-test.true);
      any = sym (any-open c.args.marks.now l.place l.left c.loop-left-test.true ∙ ap (λ b. b || is_any c.args.marks.now (l.place + 1) (l.left - 1)) c.if-marks-place.false) ∙ l.invariant.any;
    }
