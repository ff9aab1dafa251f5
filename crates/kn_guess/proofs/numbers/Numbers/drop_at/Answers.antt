use Rattle.std.proofs.Common.{◌∙◌, ap}
use Rattle.std.specs.List.{swap_remove}
use Rattle.kn_guess.proofs.Swapped.{swapped-among, swapped-behind}
use Rattle.kn_guess.proofs.numbers.Numbers.drop_at.Goals as goal

pub returns-clause-among : goal.returns-clause-among
returns-clause-among c = swapped-among c.args.self.now c.swap_remove.new.self.items c.args.place c.swap_remove.result c.requires (c.swap_remove.ensures.items ∙ ap (λ z. swap_remove z c.args.place c.swap_remove.result) c.self.view_is)

pub returns-clause-behind : goal.returns-clause-behind
returns-clause-behind c = swapped-behind c.args.self.now c.swap_remove.new.self.items c.args.place c.swap_remove.result c.requires (c.swap_remove.ensures.items ∙ ap (λ z. swap_remove z c.args.place c.swap_remove.result) c.self.view_is)
