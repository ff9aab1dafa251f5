use Rattle.std.proofs.Common.{◌≡◌, Ok, rules}
use Rattle.kn_rules.specs.Steps.{deleted}
use Rattle.kn_rules.proofs.Ready.{deleted-ready}
use Rattle.kn_rules.proofs.machine.Machine.delete.Goals as goal

pub invariant_of-self-2 : goal.invariant_of-self-2
invariant_of-self-2 c =
    let stepped : deleted c.self.inside.entries.given c.args.ids.now ≡ Ok c.delete.new.self.given = search rules in
    let same : c.delete.new.self.defined ≡ c.self.inside.entries.defined = search rules in
    deleted-ready _ c.args.ids.now c.self.inside.entries c.delete.new.self _ c.self.invariant stepped same
