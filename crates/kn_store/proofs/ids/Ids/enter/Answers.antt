use Rattle.std.proofs.Common.{◌≡◌, ◌≤◌, ◌++◌, ◌∷◌, [], ◌∙◌, drop, sym, ap, subst}
use Rattle.std.specs.List.{AllByRecursion}
use Rattle.std.proofs.lemmas.List.{drop-append-le}
use Rattle.kn_store.specs.Kept.{with_id}
use Rattle.kn_store.proofs.Places.{joined-last, differs}
use Rattle.kn_store.proofs.ids.Ids.enter.Goals as goal

pub returns-clause-ok : goal.returns-clause-ok
returns-clause-ok c =
    let view : drop c.self.inside.from c.push.new.self.items ≡ c.ids.result.now ++ c.args.id ∷ [] =
    ap (drop c.self.inside.from) c.in_ok-push.ensures.items ∙ drop-append-le c.self.inside.from c.self.inside.ids.items (c.args.id ∷ []) c.self.invariant.0
    ∙ ap (λ z. z ++ c.args.id ∷ []) (c.self.view_is ∙ sym c.ids.ensures.value) in
    let joined = joined-last c.ids.result.now (drop c.self.inside.from c.push.new.self.items) c.args.id c.ids.ensures.ascending
    (subst (AllByRecursion (λ i. i ≤ c.args.id)) (sym c.ids.ensures.value) c.requires) (λ e. differs c.copied.result c.args.id (sym c.eq.ensures ∙ c.if-eq.false) (c.copied.ensures ∙ c.last.ensures.value ∙ e)) view in
    joined.with ∙ ap (with_id c.args.id) c.ids.ensures.value
