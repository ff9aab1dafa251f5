use Rattle.std.proofs.Common.{◌≡◌, ℕ, Option, length, refl, sym, ap, ◌∙◌, arith}
use Rattle.std.specs.Prelude.{slice_index_or}
use Rattle.kn_propagate.specs.Chains.{Chained, nexts_without}
use Rattle.kn_propagate.proofs.Entries.{even_of, long_of, next_read, next_set, spot_kept}
use Rattle.kn_propagate.proofs.chains.Chains.unlink.Goals as goal

pub returns-in-Some-clause-nexts : goal.returns-in-Some-clause-nexts
returns-in-Some-clause-nexts c =
    let old : Chained = c.args.self.now in
    let v = c.self.view_is in
    let long : length old.nexts ≡ length c.self.inside.entries.items = ap (λ (x : Chained). length x.nexts) (sym v) ∙ even_of c.self.inside.entries.items ∙ long_of c.self.inside.entries.items in
    let read = next_read c.self.inside.entries.items c.args.found.now.entry c.index.result.now old.nexts (ap (λ (x : Chained). x.nexts) v) (omega (arith, c.requires.entry, long)) c.index.ensures in
    next_set c.self.inside.entries.items c.in-Some.before (record { spot = c.index_mut.result.now.spot; next = c.index.result.now.next }) old.nexts (slice_index_or old.nexts c.args.found.now.entry 0) (ap (λ (x : Chained). x.nexts) v) read
    ∙ ap (λ (o : Option ℕ). nexts_without old o c.args.found.now.entry) (sym c.in-Some.is)

pub returns-in-Some-clause-spots : goal.returns-in-Some-clause-spots
returns-in-Some-clause-spots c =
    spot_kept c.self.inside.entries.items c.in-Some.before c.index_mut.result.now (record { spot = c.index_mut.result.now.spot; next = c.index.result.now.next }) c.args.self.now.spots (ap (λ (x : Chained). x.spots) c.self.view_is) c.index_mut.ensures.value refl
