use Rattle.std.proofs.Common.{◌≡◌, ◌+◌, ◌-◌, ◌<◌, length, sym, ap, ◌∙◌, arith}
use Rattle.std.specs.Prelude.{slice_index_or}
use Rattle.std.proofs.lemmas.Grind.{common_steps}
use Rattle.std.proofs.lemmas.List.{get_or-map}
use Rattle.kn_propagate.specs.declared.chains.Entry.{Entry}
use Rattle.kn_propagate.specs.Chains.{Chained}
use Rattle.kn_propagate.proofs.Adding.{unused_drawn, spare_within}
use Rattle.kn_propagate.proofs.Entries.{even_of, long_of}
use Rattle.kn_propagate.proofs.chains.Chains.unused.Goals as goal

pub index-requires : goal.index-requires
index-requires c =
    let old : Chained = c.args.self.now in
    let v = c.self.view_is in
    let w = spare_within old c.requires.spare in
    let s : c.self.inside.spare ≡ old.spare = ap (λ (x : Chained). x.spare) v in
    let long : length old.nexts ≡ length c.self.inside.entries.items = ap (λ (x : Chained). length x.nexts) (sym v) ∙ even_of c.self.inside.entries.items ∙ long_of c.self.inside.entries.items in
    grind (arith, common_steps)

pub returns : goal.returns
returns c =
    let old : Chained = c.args.self.now in
    let v = c.self.view_is in
    let w = spare_within old c.requires.spare in
    let s : c.self.inside.spare ≡ old.spare = ap (λ (x : Chained). x.spare) v in
    let long : length old.nexts ≡ length c.self.inside.entries.items = ap (λ (x : Chained). length x.nexts) (sym v) ∙ even_of c.self.inside.entries.items ∙ long_of c.self.inside.entries.items in
    let even : length old.nexts ≡ length old.spots = ap (λ (x : Chained). length x.nexts) (sym v) ∙ even_of c.self.inside.entries.items ∙ ap (λ (x : Chained). length x.spots) v in
    let q : old.spare ≡ (c.self.inside.spare - 1) + 1 = grind (arith, common_steps) in
    let lt : c.self.inside.spare - 1 < length c.self.inside.entries.items = omega (arith, w, long, s, q) in
    let read : c.index.result.now.next ≡ slice_index_or old.nexts (c.self.inside.spare - 1) 0 =
    ap (λ (x : Entry). x.next) c.index.ensures ∙ sym (get_or-map (λ (x : Entry). x.next) c.self.inside.entries.items (c.self.inside.spare - 1) c.index.result.now 0 lt) ∙ ap (λ (x : Chained). slice_index_or x.nexts (c.self.inside.spare - 1) 0) v in
    unused_drawn old _ (c.self.inside.spare - 1) c.requires.spare q even (ap (λ (x : Chained). x.spots) v) (ap (λ (x : Chained). x.nexts) v) (ap (λ (x : Chained). x.heads) v) (ap (λ (x : Chained). x.room) v) read
