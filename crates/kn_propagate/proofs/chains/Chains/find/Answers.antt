use Rattle.std.proofs.Common.{◌≡◌, ◌+◌, ◌-◌, ℕ, length, sym, ap, ◌∙◌, arith}
use Rattle.std.specs.Prelude.{slice_index_or}
use Rattle.std.proofs.lemmas.Grind.{common_steps}
use Rattle.kn_propagate.specs.Chains.{Chained, spot_at}
use Rattle.kn_propagate.proofs.Entries.{even_of, long_of, next_read, spot_read}
use Rattle.kn_propagate.proofs.Releasing.{sought_some, sought_inside, sought_found, sought_next, sought_less}
use Rattle.kn_propagate.proofs.chains.Chains.find.Goals as goal

pub index-at-requires : goal.index-at-requires
index-at-requires c =
    let old : Chained = c.args.self.now in
    let v = c.self.view_is in
    let inv = c.loop-link.invariant in
    let long : length old.nexts ≡ length c.self.inside.entries.items = ap (λ (x : Chained). length x.nexts) (sym v) ∙ even_of c.self.inside.entries.items ∙ long_of c.self.inside.entries.items in
    let some = sought_some old c.args.chain c.args.spot c.loop-link.before c.loop-link.link inv in
    let lt = sought_inside old c.args.chain c.args.spot c.loop-link.before c.loop-link.link (c.loop-link.link - 1) inv (omega (arith, some)) in
    grind (arith, common_steps)

pub returns-then-is_same : goal.returns-then-is_same
returns-then-is_same c =
    let old : Chained = c.args.self.now in
    let v = c.self.view_is in
    let inv = c.loop-link.invariant in
    let e : ℕ = c.loop-link.link - 1 in
    let long : length old.nexts ≡ length c.self.inside.entries.items = ap (λ (x : Chained). length x.nexts) (sym v) ∙ even_of c.self.inside.entries.items ∙ long_of c.self.inside.entries.items in
    let some = sought_some old c.args.chain c.args.spot c.loop-link.before c.loop-link.link inv in
    let link : c.loop-link.link ≡ e + 1 = omega (arith, some) in
    let lt = sought_inside old c.args.chain c.args.spot c.loop-link.before c.loop-link.link e inv link in
    let here : c.index-at.result.now.spot ≡ spot_at old.spots e = spot_read c.self.inside.entries.items e c.index-at.result.now old.spots (ap (λ (x : Chained). x.spots) v) (omega (arith, lt, long)) c.index-at.ensures in
    sought_found old c.args.chain c.args.spot c.loop-link.before c.loop-link.link e inv link (sym here ∙ c.is_same.ensures.same c.if-is_same.true)

pub loop-link-smaller : goal.loop-link-smaller
loop-link-smaller c =
    let old : Chained = c.args.self.now in
    let v = c.self.view_is in
    let inv = c.loop-link.invariant in
    let e : ℕ = c.loop-link.link - 1 in
    let long : length old.nexts ≡ length c.self.inside.entries.items = ap (λ (x : Chained). length x.nexts) (sym v) ∙ even_of c.self.inside.entries.items ∙ long_of c.self.inside.entries.items in
    let some = sought_some old c.args.chain c.args.spot c.loop-link.before c.loop-link.link inv in
    let link : c.loop-link.link ≡ e + 1 = omega (arith, some) in
    let lt = sought_inside old c.args.chain c.args.spot c.loop-link.before c.loop-link.link e inv link in
    let next : c.index-at.result.now.next ≡ slice_index_or old.nexts e 0 = next_read c.self.inside.entries.items e c.index-at.result.now old.nexts (ap (λ (x : Chained). x.nexts) v) (omega (arith, lt, long)) c.index-at.ensures in
    sought_less old c.args.chain c.args.spot c.loop-link.before c.loop-link.link e c.index-at.result.now.next inv link next

pub loop-link-preserved : goal.loop-link-preserved
loop-link-preserved c =
    let old : Chained = c.args.self.now in
    let v = c.self.view_is in
    let inv = c.loop-link.invariant in
    let e : ℕ = c.loop-link.link - 1 in
    let long : length old.nexts ≡ length c.self.inside.entries.items = ap (λ (x : Chained). length x.nexts) (sym v) ∙ even_of c.self.inside.entries.items ∙ long_of c.self.inside.entries.items in
    let some = sought_some old c.args.chain c.args.spot c.loop-link.before c.loop-link.link inv in
    let link : c.loop-link.link ≡ e + 1 = omega (arith, some) in
    let lt = sought_inside old c.args.chain c.args.spot c.loop-link.before c.loop-link.link e inv link in
    let here : c.index-at.result.now.spot ≡ spot_at old.spots e = spot_read c.self.inside.entries.items e c.index-at.result.now old.spots (ap (λ (x : Chained). x.spots) v) (omega (arith, lt, long)) c.index-at.ensures in
    let next : c.index-at.result.now.next ≡ slice_index_or old.nexts e 0 = next_read c.self.inside.entries.items e c.index-at.result.now old.nexts (ap (λ (x : Chained). x.nexts) v) (omega (arith, lt, long)) c.index-at.ensures in
    sought_next old c.args.chain c.args.spot c.loop-link.before c.loop-link.link e c.index-at.result.now.next inv link (λ q. c.is_same.ensures.other c.if-is_same.false (here ∙ q)) next

pub unreachable-requires : goal.unreachable-requires
unreachable-requires c =
    let some = sought_some c.args.self.now c.args.chain c.args.spot c.loop-link.before c.loop-link.link c.loop-link.invariant in
    absurd (omega (arith, some, c.loop-link-test.false))
