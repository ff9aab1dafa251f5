use Rattle.kn_trim.proofs.Joined.{needed-met}
use Rattle.kn_trim.proofs.writing.kept_text.Goals as goal

pub write_lines-requires-clause-met : goal.write_lines-requires-clause-met
write_lines-requires-clause-met c = needed-met c.args.f.now c.args.lines.now c.args.own.now c.in_ok-kept.kept c.requires.needed c.in_ok-kept.ensures
