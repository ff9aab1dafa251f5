use Rattle.std.proofs.Common.{◌≡◌, true, rules}
use Rattle.kn_logic.proofs.Public.{are_known-more}
use Rattle.kn_rules.specs.Steps.{are_known}
use Rattle.kn_rules.proofs.Extending.{live-more}
use Rattle.kn_rules.proofs.Ready.{known-test}
use Rattle.kn_rules.proofs.machine.Machine.follow.Goals as goal

pub follows-requires-clause-known : goal.follows-requires-clause-known
follows-requires-clause-known c =
    let known : are_known c.self.inside.vars c.args.c.now.lits ≡ true = search rules in
    rw c.lits-2.ensures (are_known-more _ _ c.args.c.now.lits c.self.invariant.room (known-test _ _ known))

pub follows-requires-clause-within : goal.follows-requires-clause-within
follows-requires-clause-within c = live-more _ _ c.self.inside.entries.given c.self.invariant.room c.self.invariant.within
