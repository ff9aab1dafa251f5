use Rattle.std.proofs.Common.{List, ℕ, take, sym, subst}
use Rattle.std.proofs.lemmas.List.{take_more}
use Rattle.kn_search.specs.Searches.{IsSplit}
use Rattle.kn_search.proofs.Once.{once-before}
use Rattle.kn_search.proofs.forgetting.split.Goals as goal

pub loop-id-preserved : goal.loop-id-preserved
loop-id-preserved g c =
    let ids = c.args.ids.now in
    let k = c.loop-id.id-index in
    subst (λ (xs : List ℕ). IsSplit c.args.engine.now.trail.made xs c.sort_out.new.parts.out.items c.sort_out.new.parts.rest.items) (sym (take_more ids k 0 c.loop-id-test.true))
    (c.in_ok-sort_out.ensures (take k ids) (once-before ids k 0 c.requires c.loop-id-test.true) c.loop-id.invariant)
