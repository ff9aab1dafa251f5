use Rattle.kn_rebuild.proofs.Setting.{variable-alike}
use Rattle.kn_rebuild.proofs.variables.rebuild_variable.Goals as goal

pub returns-clause-alike : goal.returns-clause-alike
returns-clause-alike c =
    variable-alike c.args.d.now c.args.bucket.function c.args.bucket.var c.args.m.now c.set.new.self c.set-2.new.self c.value-holds.result c.nodes-nodes.ensures.laws c.requires.bucket.0 c.requires.order
    c.requires.bucket.1 c.requires.bucket.2 c.set.ensures c.value-holds.ensures c.set-2.ensures
