use Rattle.std.proofs.Common.{◌+◌, arith}
use Rattle.std.proofs.lemmas.Grind.{common_steps}
use Rattle.kn_text.specs.Lines.{lines_of}
use Rattle.kn_rules.proofs.Faults.{turn-proof, turn-wrong}
use Rattle.kn_rules.proofs.whole.check_lines.Goals as goal

pub loop-text-preserved : goal.loop-text-preserved
loop-text-preserved c = record {
  proof = λ r. turn-proof (c.loop-text.line + 1) c.in-Some.text.now (lines_of c.in-Some.behind.now) _ c.loop-text.machine _ c.args.machine.now _ c.in-Ok.ensures c.in-Some.ensures.some c.loop-text.invariant.proof r;
  wrong = λ found w. turn-wrong (c.loop-text.line + 1) c.in-Some.text.now (lines_of c.in-Some.behind.now) _ c.loop-text.machine _ c.args.machine.now _ _ found c.in-Ok.ensures c.in-Some.ensures.some (c.loop-text.invariant.wrong found) w;
  count = grind (arith, common_steps);
  room = omega (arith, c.in-Some.ensures.shorter);
}
