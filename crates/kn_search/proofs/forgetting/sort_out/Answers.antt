use Rattle.std.proofs.Common.{ℕ, List, ◌++◌, ◌∷◌, [], sym, subst}
use Rattle.kn_search.specs.Searches.{IsSplit}
use Rattle.kn_search.proofs.Splits.{split-out, split-rest}
use Rattle.kn_search.proofs.forgetting.sort_out.Goals as goal

pub returns-then-takes : goal.returns-then-takes
returns-then-takes g c = λ ids new h.
    subst (λ (xs : List ℕ). IsSplit c.args.engine.now.trail.made (ids ++ c.args.id ∷ []) xs c.args.parts.now.rest.items) (sym c.in_ok-push.ensures.items)
    (split-out c.args.engine.now.trail.made ids c.args.parts.now.out.items c.args.parts.now.rest.items c.args.id (c.free_len.ensures (c.takes.ensures c.if-takes.true)) new h)

pub returns : goal.returns
returns g c = λ ids new h.
    subst (λ (xs : List ℕ). IsSplit c.args.engine.now.trail.made (ids ++ c.args.id ∷ []) c.args.parts.now.out.items xs) (sym c.in_ok-push-2.ensures.items)
    (split-rest c.args.engine.now.trail.made ids c.args.parts.now.out.items c.args.parts.now.rest.items c.args.id new h)
