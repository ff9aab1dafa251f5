use Rattle.kn_extract.proofs.Judged.{no-klause}
use Rattle.kn_extract.proofs.counting.count_of.Goals as goal

pub returns : goal.returns
returns c = record {
  some = tt;
  none = λ bound h.
      let answer = c.in_ok-bound.field-0 in
      no-klause bound answer c.in_default.not-Klause
      (c.a_verdict_is_exact.ensures.klause c.args.group.now answer bound c.border-border.ensures.group c.in_ok-bound.ensures h.0 h.1 h.2);
}
