use Rattle.std.proofs.Common.{◌∙◌, sym, ap}
use Rattle.kn_logic.specs.Groups.{is_among}
use Rattle.kn_guess.proofs.After.{all-cleared}
use Rattle.kn_guess.proofs.flag_set.FlagSet.clear.Goals as goal

pub invariant_of-self : goal.invariant_of-self
invariant_of-self c = λ v. all-cleared c.self.inside.flags.items c.clear.new.flags.items c.self.inside.vars.items c.deref.result.now c.self.invariant c.deref.ensures.value c.clear.ensures v ∙ sym (ap (λ z. is_among z v) c.clear-2.ensures.items)
