use Rattle.std.proofs.Common.{◌≡◌, true, rules}
use Rattle.kn_logic.proofs.Public.{are_known-more}
use Rattle.kn_rules.specs.Steps.{are_known}
use Rattle.kn_rules.proofs.Ready.{known-test}
use Rattle.kn_rules.proofs.machine.Machine.count.Goals as goal

pub are_different-requires-clause-known : goal.are_different-requires-clause-known
are_different-requires-clause-known c =
    let known : are_known c.self.inside.vars c.args.c.now.lits ≡ true = search rules in
    rw c.lits-2.ensures (are_known-more _ _ c.args.c.now.lits c.self.invariant.room (known-test _ _ known))
