use Rattle.std.proofs.Common.{◌≡◌, ◌+◌, ◌-◌, sym, arith, refl, subst}
use Rattle.kn_guess.specs.Walks.{is_later}
use Rattle.kn_guess.proofs.Walked.{IsVisit, IsWalking, set_of, walking-start, place-low, read-is, visit-members, visit-stays, visit-grows, walking-found, walking-drop, walking-all}
use Rattle.kn_guess.proofs.walking.walk.Goals as goal

pub loop-at-init : goal.loop-at-init
loop-at-init c = subst (λ m. IsWalking (is_later c.args.later.now.seed c.args.later.now.free.now) c.args.members.now.items c.args.members.now.items c.args.ids.now c.args.ids.now m c.args.set.now c.args.set.now c.len-at.result) (sym c.clear.ensures) (walking-start (is_later c.args.later.now.seed c.args.later.now.free.now) c.args.members.now.items c.args.ids.now c.args.set.now c.len-at.result c.len-at.ensures c.requires.few)

pub index_mut-requires : goal.index_mut-requires
index_mut-requires c =
    let at = c.loop-at.at in
    let test = c.loop-at-test.true in
    let e : at ≡ at - 1 + 1 = omega (arith, test) in
    let low = place-low (is_later c.args.later.now.seed c.args.later.now.free.now) c.args.members.now.items c.loop-at.members.items c.args.ids.now c.loop-at.ids c.loop-at.met c.args.set.now c.loop-at.set at (at - 1) c.at-id.result c.loop-at.invariant e c.requires.placed c.at-id.ensures in
    let real = c.loop-at.members.ok.0 in
    omega (arith, low, real)

pub returns-in_err-found-clause-members : goal.returns-in_err-found-clause-members
returns-in_err-found-clause-members c =
    let at = c.loop-at.at in
    let test = c.loop-at-test.true in
    let e : at ≡ at - 1 + 1 = omega (arith, test) in
    let low = place-low (is_later c.args.later.now.seed c.args.later.now.free.now) c.args.members.now.items c.loop-at.members.items c.args.ids.now c.loop-at.ids c.loop-at.met c.args.set.now c.loop-at.set at (at - 1) c.at-id.result c.loop-at.invariant e c.requires.placed c.at-id.ensures in
    let was = read-is c.loop-at.members.items c.at-id.result c.index_mut.result.now low c.index_mut.ensures.value in
    let thin = visit-members (is_later c.args.later.now.seed c.args.later.now.free.now) c.args.members.now.items c.loop-at.members.items c.args.ids.now c.loop-at.ids c.loop-at.met c.args.set.now c.loop-at.set at (at - 1) c.at-id.result c.index_mut.result.now c.meet.new.vars c.loop-at.invariant e c.requires.placed c.at-id.ensures was c.meet.ensures.vars in
    (visit-stays (is_later c.args.later.now.seed c.args.later.now.free.now) c.args.members.now.items c.loop-at.members.items (set_of c.loop-at.members.items c.at-id.result c.meet.new.vars) c.args.ids.now c.loop-at.ids c.loop-at.met c.args.set.now c.loop-at.set at c.loop-at.invariant thin).0

pub returns-in_err-found-clause-kept : goal.returns-in_err-found-clause-kept
returns-in_err-found-clause-kept c =
    let at = c.loop-at.at in
    let test = c.loop-at-test.true in
    let e : at ≡ at - 1 + 1 = omega (arith, test) in
    let low = place-low (is_later c.args.later.now.seed c.args.later.now.free.now) c.args.members.now.items c.loop-at.members.items c.args.ids.now c.loop-at.ids c.loop-at.met c.args.set.now c.loop-at.set at (at - 1) c.at-id.result c.loop-at.invariant e c.requires.placed c.at-id.ensures in
    let was = read-is c.loop-at.members.items c.at-id.result c.index_mut.result.now low c.index_mut.ensures.value in
    let thin = visit-members (is_later c.args.later.now.seed c.args.later.now.free.now) c.args.members.now.items c.loop-at.members.items c.args.ids.now c.loop-at.ids c.loop-at.met c.args.set.now c.loop-at.set at (at - 1) c.at-id.result c.index_mut.result.now c.meet.new.vars c.loop-at.invariant e c.requires.placed c.at-id.ensures was c.meet.ensures.vars in
    (visit-stays (is_later c.args.later.now.seed c.args.later.now.free.now) c.args.members.now.items c.loop-at.members.items (set_of c.loop-at.members.items c.at-id.result c.meet.new.vars) c.args.ids.now c.loop-at.ids c.loop-at.met c.args.set.now c.loop-at.set at c.loop-at.invariant thin).1

pub returns-then-len-gt-MOST_AUX-clause-members : goal.returns-then-len-gt-MOST_AUX-clause-members
returns-then-len-gt-MOST_AUX-clause-members c =
    let at = c.loop-at.at in
    let test = c.loop-at-test.true in
    let e : at ≡ at - 1 + 1 = omega (arith, test) in
    let low = place-low (is_later c.args.later.now.seed c.args.later.now.free.now) c.args.members.now.items c.loop-at.members.items c.args.ids.now c.loop-at.ids c.loop-at.met c.args.set.now c.loop-at.set at (at - 1) c.at-id.result c.loop-at.invariant e c.requires.placed c.at-id.ensures in
    let was = read-is c.loop-at.members.items c.at-id.result c.index_mut.result.now low c.index_mut.ensures.value in
    let thin = visit-members (is_later c.args.later.now.seed c.args.later.now.free.now) c.args.members.now.items c.loop-at.members.items c.args.ids.now c.loop-at.ids c.loop-at.met c.args.set.now c.loop-at.set at (at - 1) c.at-id.result c.index_mut.result.now c.meet.new.vars c.loop-at.invariant e c.requires.placed c.at-id.ensures was c.meet.ensures.vars in
    (visit-stays (is_later c.args.later.now.seed c.args.later.now.free.now) c.args.members.now.items c.loop-at.members.items (set_of c.loop-at.members.items c.at-id.result c.meet.new.vars) c.args.ids.now c.loop-at.ids c.loop-at.met c.args.set.now c.loop-at.set at c.loop-at.invariant thin).0

pub returns-then-len-gt-MOST_AUX-clause-kept : goal.returns-then-len-gt-MOST_AUX-clause-kept
returns-then-len-gt-MOST_AUX-clause-kept c =
    let at = c.loop-at.at in
    let test = c.loop-at-test.true in
    let e : at ≡ at - 1 + 1 = omega (arith, test) in
    let low = place-low (is_later c.args.later.now.seed c.args.later.now.free.now) c.args.members.now.items c.loop-at.members.items c.args.ids.now c.loop-at.ids c.loop-at.met c.args.set.now c.loop-at.set at (at - 1) c.at-id.result c.loop-at.invariant e c.requires.placed c.at-id.ensures in
    let was = read-is c.loop-at.members.items c.at-id.result c.index_mut.result.now low c.index_mut.ensures.value in
    let thin = visit-members (is_later c.args.later.now.seed c.args.later.now.free.now) c.args.members.now.items c.loop-at.members.items c.args.ids.now c.loop-at.ids c.loop-at.met c.args.set.now c.loop-at.set at (at - 1) c.at-id.result c.index_mut.result.now c.meet.new.vars c.loop-at.invariant e c.requires.placed c.at-id.ensures was c.meet.ensures.vars in
    (visit-stays (is_later c.args.later.now.seed c.args.later.now.free.now) c.args.members.now.items c.loop-at.members.items (set_of c.loop-at.members.items c.at-id.result c.meet.new.vars) c.args.ids.now c.loop-at.ids c.loop-at.met c.args.set.now c.loop-at.set at c.loop-at.invariant thin).1

pub returns-then-len-gt-MOST_AUX-clause-set : goal.returns-then-len-gt-MOST_AUX-clause-set
returns-then-len-gt-MOST_AUX-clause-set c =
    let at = c.loop-at.at in
    let test = c.loop-at-test.true in
    let e : at ≡ at - 1 + 1 = omega (arith, test) in
    let low = place-low (is_later c.args.later.now.seed c.args.later.now.free.now) c.args.members.now.items c.loop-at.members.items c.args.ids.now c.loop-at.ids c.loop-at.met c.args.set.now c.loop-at.set at (at - 1) c.at-id.result c.loop-at.invariant e c.requires.placed c.at-id.ensures in
    let was = read-is c.loop-at.members.items c.at-id.result c.index_mut.result.now low c.index_mut.ensures.value in
    let visit : IsVisit (is_later c.args.later.now.seed c.args.later.now.free.now) c.index_mut.result.now c.meet.new.vars c.loop-at.met c.meet.new.met c.loop-at.set c.meet.new.set = record {
      thins = c.meet.ensures.vars;
      within = c.in_ok-found.ensures.within;
      met_grows = c.in_ok-found.ensures.met;
      set_grows = c.in_ok-found.ensures.set;
      all = c.in_ok-found.ensures.all;
    } in
    visit-grows (is_later c.args.later.now.seed c.args.later.now.free.now) c.args.members.now.items c.loop-at.members.items c.args.ids.now c.loop-at.ids c.loop-at.met c.args.set.now c.loop-at.set at (at - 1) c.at-id.result c.index_mut.result.now c.meet.new.vars c.meet.new.met c.meet.new.set c.loop-at.invariant e c.at-id.ensures was visit

pub loop-at-preserved-then-found : goal.loop-at-preserved-then-found
loop-at-preserved-then-found c =
    let at = c.loop-at.at in
    let test = c.loop-at-test.true in
    let e : at ≡ at - 1 + 1 = omega (arith, test) in
    let low = place-low (is_later c.args.later.now.seed c.args.later.now.free.now) c.args.members.now.items c.loop-at.members.items c.args.ids.now c.loop-at.ids c.loop-at.met c.args.set.now c.loop-at.set at (at - 1) c.at-id.result c.loop-at.invariant e c.requires.placed c.at-id.ensures in
    let was = read-is c.loop-at.members.items c.at-id.result c.index_mut.result.now low c.index_mut.ensures.value in
    let thin = visit-members (is_later c.args.later.now.seed c.args.later.now.free.now) c.args.members.now.items c.loop-at.members.items c.args.ids.now c.loop-at.ids c.loop-at.met c.args.set.now c.loop-at.set at (at - 1) c.at-id.result c.index_mut.result.now c.meet.new.vars c.loop-at.invariant e c.requires.placed c.at-id.ensures was c.meet.ensures.vars in
    let visit : IsVisit (is_later c.args.later.now.seed c.args.later.now.free.now) c.index_mut.result.now c.meet.new.vars c.loop-at.met c.meet.new.met c.loop-at.set c.meet.new.set = record {
      thins = c.meet.ensures.vars;
      within = c.in_ok-found.ensures.within;
      met_grows = c.in_ok-found.ensures.met;
      set_grows = c.in_ok-found.ensures.set;
      all = c.in_ok-found.ensures.all;
    } in
    let long = c.len.ensures in let few = c.if-len-gt-MOST_AUX.false in
    walking-found (is_later c.args.later.now.seed c.args.later.now.free.now) c.args.members.now.items c.loop-at.members.items (set_of c.loop-at.members.items c.at-id.result c.meet.new.vars) c.args.ids.now c.loop-at.ids c.loop-at.met c.args.set.now c.loop-at.set at (at - 1) c.at-id.result c.index_mut.result.now c.meet.new.vars c.meet.new.met c.meet.new.set c.loop-at.invariant e c.at-id.ensures was refl thin low visit (omega (arith, long, few))

pub loop-at-preserved : goal.loop-at-preserved
loop-at-preserved c =
    let at = c.loop-at.at in
    let test = c.loop-at-test.true in
    let e : at ≡ at - 1 + 1 = omega (arith, test) in
    let low = place-low (is_later c.args.later.now.seed c.args.later.now.free.now) c.args.members.now.items c.loop-at.members.items c.args.ids.now c.loop-at.ids c.loop-at.met c.args.set.now c.loop-at.set at (at - 1) c.at-id.result c.loop-at.invariant e c.requires.placed c.at-id.ensures in
    let was = read-is c.loop-at.members.items c.at-id.result c.index_mut.result.now low c.index_mut.ensures.value in
    let thin = visit-members (is_later c.args.later.now.seed c.args.later.now.free.now) c.args.members.now.items c.loop-at.members.items c.args.ids.now c.loop-at.ids c.loop-at.met c.args.set.now c.loop-at.set at (at - 1) c.at-id.result c.index_mut.result.now c.meet.new.vars c.loop-at.invariant e c.requires.placed c.at-id.ensures was c.meet.ensures.vars in
    let visit : IsVisit (is_later c.args.later.now.seed c.args.later.now.free.now) c.index_mut.result.now c.meet.new.vars c.loop-at.met c.meet.new.met c.loop-at.set c.meet.new.set = record {
      thins = c.meet.ensures.vars;
      within = c.in_ok-found.ensures.within;
      met_grows = c.in_ok-found.ensures.met;
      set_grows = c.in_ok-found.ensures.set;
      all = c.in_ok-found.ensures.all;
    } in
    let long = c.len.ensures in let few = c.if-len-gt-MOST_AUX.false in
    walking-drop (is_later c.args.later.now.seed c.args.later.now.free.now) c.args.members.now.items c.loop-at.members.items (set_of c.loop-at.members.items c.at-id.result c.meet.new.vars) c.args.ids.now c.loop-at.ids c.drop_at.new.self c.loop-at.met c.args.set.now c.loop-at.set at (at - 1) c.at-id.result c.index_mut.result.now c.meet.new.vars c.meet.new.met c.meet.new.set c.loop-at.invariant e c.at-id.ensures was refl thin low visit (omega (arith, long, few))
    (c.in_ok-found.ensures.none c.if-found.false) c.drop_at.ensures.among c.drop_at.ensures.behind c.drop_at.ensures.len

pub returns-clause-all : goal.returns-clause-all
returns-clause-all c = λ few v q.
    let end = c.loop-at-test.false in
    walking-all (is_later c.args.later.now.seed c.args.later.now.free.now) c.args.members.now.items c.loop-at.members.items c.args.ids.now c.loop-at.ids c.loop-at.met c.args.set.now c.loop-at.set c.loop-at.at c.loop-at.invariant (omega (arith, end)) v q
