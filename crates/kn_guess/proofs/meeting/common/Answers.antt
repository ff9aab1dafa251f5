use Rattle.std.proofs.Common.{◌≡◌, ◌<◌, ◌+◌, ◌++◌, ◌∙◌, take, drop, filter, sym, ap, subst}
use Rattle.std.specs.List.{AllByRecursion}
use Rattle.kn_store.proofs.Public.{rises}
use Rattle.kn_guess.specs.Tables.{rank, ranks}
use Rattle.kn_guess.specs.Pairing.{is_common}
use Rattle.kn_guess.proofs.Meets.{before-first, before-rest, kept-yes, kept-no, item-cut}
use Rattle.kn_guess.proofs.meeting.common.Goals as goal
use Rattle.kn_guess.proofs.meeting.common.Goals.{then-is_met+in_ok-push, else-is_met}

pub advance-at-requires-clause-before : goal.advance-at-requires-clause-before
advance-at-requires-clause-before c =
    let xs = c.args.xs.now in
    let at = c.loop-x.x-index in
    let x = c.x-item.result in
    let before = before-first (take c.loop-x.at c.args.ys.now) (drop at xs) (drop (at + 1) xs) x (item-cut xs at x c.loop-x-test.true c.x-item.is) c.loop-x.invariant.before in
    subst (λ l. AllByRecursion (λ y. rank y.lit < rank l) (take c.loop-x.at c.args.ys.now)) (sym c.lit.ensures) before

pub loop-x-preserved : goal.loop-x-preserved
loop-x-preserved c =
    let live = c.args.store.now.live in
    let xs = c.args.xs.now in
    let ys = c.args.ys.now in
    let at = c.loop-x.x-index in
    let x = c.x-item.result in
    let cut = item-cut xs at x c.loop-x-test.true c.x-item.is in
    record {
      rest = elim c.if-is_met.branch [
        | then-is_met+in_ok-push w ↦ kept-yes live ys c.loop-x.kept.items c.if-is_met.kept.items (drop at xs) (drop (at + 1) xs) (filter (is_common live ys) xs) x
            (sym c.is_met.ensures ∙ w.if-is_met.true) cut (ap (λ v. v.items) w.kept-is ∙ w.in_ok-push.ensures.items) c.loop-x.invariant.rest
        | else-is_met w ↦ subst (λ z. z ++ filter (is_common live ys) (drop (at + 1) xs) ≡ filter (is_common live ys) xs) (sym (ap (λ v. v.items) w.kept-is))
            (kept-no live ys c.loop-x.kept.items (drop at xs) (drop (at + 1) xs) (filter (is_common live ys) xs) x (sym c.is_met.ensures ∙ w.if-is_met.false) cut c.loop-x.invariant.rest)
      ];
      within = c.advance-at.ensures.within;
      before = before-rest (take c.advance-at.result ys) xs (drop (at + 1) xs) at x (rises (ranks xs) c.requires.xs) cut
          (subst (λ l. AllByRecursion (λ y. rank y.lit < rank l) (take c.advance-at.result ys)) c.lit.ensures c.advance-at.ensures.place.before);
    }
