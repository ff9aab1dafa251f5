use Rattle.std.proofs.Common.{◌<◌, ◌==◌, not, filter, length, take, List, slice_index_or, sym, ap, ◌∙◌, rules}
use Rattle.kn_store.specs.Stores.{Numbered, Stored}
use Rattle.kn_extract.specs.Taking.{without}
use Rattle.std.proofs.lemmas.Grind.{take_at_read}
use Rattle.kn_extract.proofs.Gone.{without-none, without-next}
use Rattle.kn_extract.proofs.taking.remove_all.Goals as goal

pub loop-id-init : goal.loop-id-init
loop-id-init c = let with : List Numbered → Stored = λ z. record { vars = c.args.store.now.vars; added = c.args.store.now.added; live = z } in ap with (sym (without-none c.args.store.now.live))

pub loop-id-preserved : goal.loop-id-preserved
loop-id-preserved c =
    let ids = c.args.ids.now in
    let i = c.loop-id.id-index in
    let s = c.args.store.now in
    let within : i < length ids = search rules in
    let id = slice_index_or ids i 0 in
    let one : Stored → Stored = λ u. record { vars = u.vars; added = u.added; live = filter (λ p. not (p.id == id)) u.live } in
    let with : List Numbered → Stored = λ z. record { vars = s.vars; added = s.added; live = z } in
    c.remove.ensures.gone
    ∙ ap one c.loop-id.invariant
    ∙ ap with (without-next (take i ids) id s.live ∙ ap (λ z. without z s.live) (sym (take_at_read ids i 0 within).1))
