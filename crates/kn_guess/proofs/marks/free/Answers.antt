use Rattle.std.proofs.lemmas.Result.{IfOk-weaker}
use Rattle.kn_guess.proofs.Marked.{free-seen}
use Rattle.kn_guess.proofs.marks.free.Goals as goal

pub returns : goal.returns
returns c = IfOk-weaker c.turned.result _ _ (λ free is. free-seen c.args.store.now c.in_ok-klause.klause free c.in_ok-klause.ensures is) c.turned.ensures
