use Rattle.std.proofs.Common.{sym}
use Rattle.kn_search.proofs.Naming.{names-at}
use Rattle.kn_search.proofs.decider.has_value.Goals as goal

pub returns-in-Some : goal.returns-in-Some
returns-in-Some c = sym (names-at c.args.trail.now.made c.in-Some.field-0 c.args.var c.in-Some.ensures.inside c.in-Some.ensures.some)
