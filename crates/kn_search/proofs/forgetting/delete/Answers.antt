use Rattle.std.proofs.Common.{◌∙◌}
use Rattle.kn_search.proofs.Forgotten.{deletion-steps}
use Rattle.kn_search.proofs.forgetting.delete.Goals as goal

pub delete-requires-clause-steps : goal.delete-requires-clause-steps
delete-requires-clause-steps g c =
    deletion-steps c.args.log.now.state c.args.ids.now c.new.result (c.new.ensures ∙ c.in_ok-copy.ensures.items) c.requires.learned c.requires.once
