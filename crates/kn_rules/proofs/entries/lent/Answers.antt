use Rattle.std.proofs.Common.{sym, ap, ◌∙◌}
use Rattle.kn_rules.specs.declared.slot.Slot.{Slot}
use Rattle.kn_rules.specs.Entries.{given_of}
use Rattle.kn_rules.proofs.Entering.{lent-at}
use Rattle.kn_rules.proofs.entries.lent.Goals as goal

pub returns-in-Derived : goal.returns-in-Derived
returns-in-Derived c d e =
    c.lent_four.ensures ∙ lent-at d c.args.kept.now c.in-Derived.place c.in-Derived.number e
    ∙ ap (λ (s : Slot). (given_of d s).live) (sym c.in-Derived.is)
