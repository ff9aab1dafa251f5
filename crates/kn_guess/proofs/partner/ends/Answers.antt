use Rattle.std.proofs.Common.{◌∙◌, sym, ap}
use Rattle.std.specs.Prelude.{option_copied}
use Rattle.kn_logic.specs.Literals.{is_same}
use Rattle.kn_guess.proofs.Entered.{ends-at, same-eq}
use Rattle.kn_guess.proofs.partner.ends.Goals as goal

pub returns-in-Some : goal.returns-in-Some
returns-in-Some c = c.eq.ensures ∙ same-eq c.lit.result c.args.lit ∙ ap (λ z. is_same z c.args.lit) c.lit.ensures
    ∙ sym (ends-at c.args.lit c.args.all.now c.in-Some.last.now (sym c.last.ensures.value ∙ ap option_copied c.in-Some.is))
