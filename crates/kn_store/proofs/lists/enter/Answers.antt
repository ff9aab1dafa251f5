use Rattle.std.proofs.Common.{◌∙◌, ◌+◌, ◌++◌, length, take, ap}
use Rattle.std.specs.Prelude.{option_to_list, min}
use Rattle.kn_store.specs.Kept.{with_id, changed}
use Rattle.kn_store.proofs.Changed.{on-err, err-weaker, front-first, front-both, changed-append}
use Rattle.kn_store.proofs.lists.enter.Goals as goal

pub returns-in_err-enter_guard-clause-err : goal.returns-in_err-enter_guard-clause-err
returns-in_err-enter_guard-clause-err c =
    let guard = option_to_list c.guard.result in
    let h = c.in_err-enter_guard.ensures.err in
    on-err c.from_residual.result (min h.0 (length guard), h.1 ∙ ap (changed (with_id c.args.id) c.args.lists.now) (front-first h.0 guard c.args.c.now.lits ∙ ap (λ g. take (min h.0 (length guard)) (option_to_list g ++ c.args.c.now.lits)) c.guard.ensures))

pub returns-clause-err : goal.returns-clause-err
returns-clause-err c =
    let guard = option_to_list c.guard.result in
    err-weaker c.enter_all.result (λ h. (
      length guard + h.0,
      h.1 ∙ ap (λ z. changed (with_id c.args.id) z (take h.0 c.lits.result.now)) c.in_ok-enter_guard.ensures.ok
          ∙ changed-append (with_id c.args.id) c.args.lists.now guard (take h.0 c.lits.result.now)
          ∙ ap (changed (with_id c.args.id) c.args.lists.now) (front-both h.0 guard c.lits.result.now ∙ ap (λ z. take (length guard + h.0) (guard ++ z)) c.lits.ensures ∙ ap (λ g. take (length guard + h.0) (option_to_list g ++ c.args.c.now.lits)) c.guard.ensures),
    )) c.enter_all.ensures.err
