use Rattle.std.proofs.Common.{◌≡◌, ◌∷◌, rules}
use Rattle.std.proofs.lemmas.Result.{on_ok_weaker}
use Rattle.kn_counter.proofs.RowForms.{counter-added}
use Rattle.kn_counter.proofs.rows.push_counter.Goals as goal

pub returns : goal.returns
returns c =
    let split : c.args.lits.now ≡ c.in-Some.x.now ∷ c.in-Some.rest.now = search rules in
    on_ok_weaker c.push_rows.result
    (λ added. counter-added c.args.front.now c.args.out.now _ _ c.args.first.start c.args.first.k c.args.lits.now c.in-Some.x.now c.in-Some.rest.now split c.in_ok-push_first.ensures added)
    c.push_rows.ensures
