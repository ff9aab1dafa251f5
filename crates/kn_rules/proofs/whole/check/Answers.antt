use Rattle.std.proofs.lemmas.Result.{IfOk-weaker}
use Rattle.kn_rules.proofs.Faults.{sound-result, refused-answer}
use Rattle.kn_rules.proofs.whole.check.Goals as goal

pub returns-clause-sound : goal.returns-clause-sound
returns-clause-sound c = sound-result c.args.f.now c.args.bytes.now c.answer.result c.answer.ensures.formula c.answer.ensures.verified

pub returns-clause-refused : goal.returns-clause-refused
returns-clause-refused c = IfOk-weaker c.answer.result _ _ (λ checked h. refused-answer c.args.f.now c.args.bytes.now checked h) c.answer.ensures.wrong
