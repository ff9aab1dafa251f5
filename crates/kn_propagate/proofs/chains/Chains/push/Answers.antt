use Rattle.std.proofs.Common.{◌≡◌, ◌≤◌, List, length, refl, sym, ap, ◌∙◌, subst, arith}
use Rattle.std.specs.Prelude.{vec_capacity}
use Rattle.std.proofs.lemmas.Grind.{common_steps}
use Rattle.kn_propagate.specs.declared.chains.Entry.{Entry}
use Rattle.kn_propagate.specs.declared.chains.Spot.{Spot}
use Rattle.kn_propagate.specs.Chains.{Chained, IsUnused, nobody}
use Rattle.kn_propagate.proofs.Entries.{spots_of, nexts_of, even_of, long_of, next_push, spot_push}
use Rattle.kn_propagate.proofs.Adding.{unused_pushed}
use Rattle.kn_propagate.proofs.chains.Chains.push.Goals as goal

pub returns : goal.returns
returns c =
    let old : Chained = c.args.self.now in
    let v = c.self.view_is in
    let entries = c.self.inside.entries.items in
    let spot : Spot = record { owner = nobody; place = 0 } in
    let new : Entry = record { spot = spot; next = 0 } in
    let spots = ap (λ (x : Chained). x.spots) v in
    let nexts = ap (λ (x : Chained). x.nexts) v in
    let even : length old.nexts ≡ length old.spots = ap (λ (x : Chained). length x.nexts) (sym v) ∙ even_of entries ∙ ap (λ (x : Chained). length x.spots) v in
    let len : c.len-entry.result ≡ length old.spots = grind (arith, common_steps, long_of entries, spots) in
    let room : old.room ≤ vec_capacity c.push.new.self = omega (arith, ap (λ (x : Chained). x.room) v, c.in-Ok.ensures.capacity) in
    let heads = ap (λ (x : Chained). x.heads) v in
    let spare = ap (λ (x : Chained). x.spare) v in
    subst (IsUnused old _) (sym len) (unused_pushed old _ spot 0 refl c.requires.spare even (ap (λ (xs : List Entry). spots_of xs) c.in-Ok.ensures.items ∙ spot_push entries new old.spots spots) (ap (λ (xs : List Entry). nexts_of xs) c.in-Ok.ensures.items ∙ next_push entries new old.nexts nexts) heads room spare)
