use Rattle.std.proofs.Common.{◌∙◌, sym, ap}
use Rattle.std.specs.Prelude.{option_copied}
use Rattle.kn_guess.proofs.Entered.{enter-known}
use Rattle.kn_guess.proofs.rows.enter_all.Goals as goal

pub enter-requires : goal.enter-requires
enter-requires c = enter-known c.args.store.now _ c.in-Some.c.now c.args.lit _ c.requires.stored (sym c.get.ensures ∙ ap option_copied c.in-Some.is) c.loop-id.invariant.long
