use Rattle.kn_rules.proofs.Ready.{counted-within}
use Rattle.kn_rules.proofs.machine.Machine.keep_klause.Goals as goal

pub give-requires : goal.give-requires
give-requires c = counted-within c.args.self.now c.args.c c.args.root c.args.unit c.requires.formed c.requires.steps
