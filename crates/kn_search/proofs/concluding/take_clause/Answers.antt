use Rattle.std.proofs.Common.{◌∙◌}
use Rattle.kn_search.proofs.Levels.{still-waits}
use Rattle.kn_search.proofs.concluding.take_clause.Goals as goal

pub add_clause-requires-clause-waits : goal.add_clause-requires-clause-waits
add_clause-requires-clause-waits g c =
    still-waits c.args.engine.now.trail c.back_to.new.self.trail c.args.level c.args.lits.items c.new-2.result.clause (c.new-2.ensures ∙ c.new.ensures) c.back_to.ensures.trail c.requires.waits
