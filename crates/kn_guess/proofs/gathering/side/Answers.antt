use Rattle.std.proofs.Common.{◌∙◌, ◌+◌, ◌≤◌, sym, ap, subst, drop}
use Rattle.std.specs.List.{AllByRecursion}
use Rattle.std.proofs.lemmas.List.{drop_more}
use Rattle.kn_guess.specs.Gathering.{with_ids, with_members, outside_key}
use Rattle.kn_guess.proofs.gathering.side.Goals as goal

pub loop-member-preserved : goal.loop-member-preserved
loop-member-preserved c =
    let s = c.args.store.now in
    let key = outside_key c.args.set.now c.args.positive in
    let members = c.args.members.now in
    let at = c.loop-member.member-index in
    let cut = drop_more members at 0 c.loop-member-test.true in
    record {
      rest = ap (λ z. with_members 128 key s.live z (drop (at + 1) members)) (c.in_ok-add_ids.ensures ∙ ap (λ w. with_ids 128 key s.live c.loop-member.side w) c.with_variable.ensures)
          ∙ ap (with_members 128 key s.live c.loop-member.side) (sym cut) ∙ c.loop-member.invariant.rest;
      known = (subst (AllByRecursion (λ x. (1 ≤ x) × (x ≤ s.vars))) cut c.loop-member.invariant.known).1;
    }
