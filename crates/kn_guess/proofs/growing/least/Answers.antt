use Rattle.std.proofs.Common.{◌≡◌, ◌≤◌, ◌-◌, ◌∙◌, ◌∷◌, [], length, sym, ap, arith, false, subst}
use Rattle.std.specs.Prelude.{nat_eq}
use Rattle.std.proofs.lemmas.Option.{slice_get_within}
use Rattle.indexmap.specs.IndexSet.{insert_key}
use Rattle.kn_store.specs.Stores.{constraints_of}
use Rattle.kn_store.proofs.Public.{all-one}
use Rattle.kn_guess.specs.Guesses.{in_klause}
use Rattle.kn_guess.proofs.Walked.{read-is}
use Rattle.kn_guess.proofs.Grown.{IsMember, IsGrown, IsWalk, near-then, turn-then, over-then, ids-there, placed-there, member-is, finished, started}
use Rattle.kn_guess.proofs.growing.least.Goals as goal

pub loop-member-init : goal.loop-member-init
loop-member-init c =
    let set : c.insert.new.self ≡ c.args.later.now.seed ∷ [] = c.in_ok-insert.ensures ∙ ap (λ z. insert_key nat_eq z c.args.later.now.seed) c.clear.ensures in
    record {
      grown = subst (IsGrown c.args.store.now c.args.later.now.seed 0) (sym set) (started c.args.store.now c.args.later.now.seed c.requires.first c.requires.last c.requires.seed);
      near = c.requires.near;
      few = let n = ap length set in omega (arith, n);
    }

pub overflow_sub-member : goal.overflow_sub-member
overflow_sub-member c = (member-is c.args.store.now c.args.later.now.seed c.loop-member.at c.in-Some.member c.loop-member.set c.loop-member.invariant.grown (sym c.get.ensures ∙ c.in-Some.is)).known.0

pub index_mut-requires : goal.index_mut-requires
index_mut-requires c = let low = ids-there c.args.store.now c.loop-member.entries.items c.loop-member.members.items c.args.later.now.seed c.loop-member.at c.in-Some.member c.loop-member.set c.loop-member.invariant.near c.loop-member.invariant.grown (sym c.get.ensures ∙ c.in-Some.is) in let real = c.loop-member.entries.ok.0 in omega (arith, low, real)

pub walk-requires-clause-placed : goal.walk-requires-clause-placed
walk-requires-clause-placed c =
    let was = read-is c.loop-member.entries.items (c.in-Some.member - 1) c.index_mut.result.now (ids-there c.args.store.now c.loop-member.entries.items c.loop-member.members.items c.args.later.now.seed c.loop-member.at c.in-Some.member c.loop-member.set c.loop-member.invariant.near c.loop-member.invariant.grown (sym c.get.ensures ∙ c.in-Some.is)) c.index_mut.ensures.value in
    placed-there c.args.store.now c.loop-member.entries.items c.loop-member.members.items c.args.later.now.seed c.loop-member.at c.in-Some.member c.index_mut.result.now c.loop-member.set c.loop-member.invariant.near c.loop-member.invariant.grown (sym c.get.ensures ∙ c.in-Some.is) was

pub returns-in_err-walk-clause-near : goal.returns-in_err-walk-clause-near
returns-in_err-walk-clause-near c =
    let was = read-is c.loop-member.entries.items (c.in-Some.member - 1) c.index_mut.result.now (ids-there c.args.store.now c.loop-member.entries.items c.loop-member.members.items c.args.later.now.seed c.loop-member.at c.in-Some.member c.loop-member.set c.loop-member.invariant.near c.loop-member.invariant.grown (sym c.get.ensures ∙ c.in-Some.is)) c.index_mut.ensures.value in
    let walk : IsWalk c.args.later.now.seed c.args.later.now.free.now c.loop-member.members.items c.walk.new.members.items c.index_mut.result.now c.walk.new.ids = record { ids_less = c.walk.ensures.ids; thin = c.walk.ensures.members; stays = c.walk.ensures.kept } in
    near-then c.args.store.now c.args.later.now.free.now c.loop-member.entries.items c.loop-member.members.items c.walk.new.members.items c.args.later.now.seed c.loop-member.at c.in-Some.member c.index_mut.result.now c.walk.new.ids c.loop-member.set c.vars-vars.ensures.stored c.requires.seen c.loop-member.invariant.near c.loop-member.invariant.grown (sym c.get.ensures ∙ c.in-Some.is) was walk

pub returns-then-len-gt-MOST_AUX-clause-near : goal.returns-then-len-gt-MOST_AUX-clause-near
returns-then-len-gt-MOST_AUX-clause-near c =
    let was = read-is c.loop-member.entries.items (c.in-Some.member - 1) c.index_mut.result.now (ids-there c.args.store.now c.loop-member.entries.items c.loop-member.members.items c.args.later.now.seed c.loop-member.at c.in-Some.member c.loop-member.set c.loop-member.invariant.near c.loop-member.invariant.grown (sym c.get.ensures ∙ c.in-Some.is)) c.index_mut.ensures.value in
    let walk : IsWalk c.args.later.now.seed c.args.later.now.free.now c.loop-member.members.items c.walk.new.members.items c.index_mut.result.now c.walk.new.ids = record { ids_less = c.walk.ensures.ids; thin = c.walk.ensures.members; stays = c.walk.ensures.kept } in
    near-then c.args.store.now c.args.later.now.free.now c.loop-member.entries.items c.loop-member.members.items c.walk.new.members.items c.args.later.now.seed c.loop-member.at c.in-Some.member c.index_mut.result.now c.walk.new.ids c.loop-member.set c.vars-vars.ensures.stored c.requires.seen c.loop-member.invariant.near c.loop-member.invariant.grown (sym c.get.ensures ∙ c.in-Some.is) was walk

pub returns-then-len-gt-MOST_AUX-clause-many : goal.returns-then-len-gt-MOST_AUX-clause-many
returns-then-len-gt-MOST_AUX-clause-many c = λ e.
    let was = read-is c.loop-member.entries.items (c.in-Some.member - 1) c.index_mut.result.now (ids-there c.args.store.now c.loop-member.entries.items c.loop-member.members.items c.args.later.now.seed c.loop-member.at c.in-Some.member c.loop-member.set c.loop-member.invariant.near c.loop-member.invariant.grown (sym c.get.ensures ∙ c.in-Some.is)) c.index_mut.ensures.value in
    let long = c.len.ensures in let high = c.if-len-gt-MOST_AUX.true in
    over-then c.args.store.now c.args.later.now.free.now c.loop-member.entries.items c.loop-member.members.items c.args.later.now.seed c.loop-member.at c.in-Some.member c.index_mut.result.now c.loop-member.set c.walk.new.set c.vars-vars.ensures.stored c.requires.seen c.loop-member.invariant.near c.loop-member.invariant.grown (sym c.get.ensures ∙ c.in-Some.is) was c.in_ok-walk.ensures.set (omega (arith, long, high))

pub overflow_add-at : goal.overflow_add-at
overflow_add-at c =
    let inside = slice_get_within c.loop-member.set c.loop-member.at c.in-Some.member (sym c.get.ensures ∙ c.in-Some.is) in
    let few = c.loop-member.invariant.few in
    omega (arith, inside, few)

pub loop-member-smaller : goal.loop-member-smaller
loop-member-smaller c =
    let inside = slice_get_within c.loop-member.set c.loop-member.at c.in-Some.member (sym c.get.ensures ∙ c.in-Some.is) in
    let few = c.loop-member.invariant.few in
    omega (arith, inside, few)

pub loop-member-preserved : goal.loop-member-preserved
loop-member-preserved c =
    let was = read-is c.loop-member.entries.items (c.in-Some.member - 1) c.index_mut.result.now (ids-there c.args.store.now c.loop-member.entries.items c.loop-member.members.items c.args.later.now.seed c.loop-member.at c.in-Some.member c.loop-member.set c.loop-member.invariant.near c.loop-member.invariant.grown (sym c.get.ensures ∙ c.in-Some.is)) c.index_mut.ensures.value in
    let walk : IsWalk c.args.later.now.seed c.args.later.now.free.now c.loop-member.members.items c.walk.new.members.items c.index_mut.result.now c.walk.new.ids = record { ids_less = c.walk.ensures.ids; thin = c.walk.ensures.members; stays = c.walk.ensures.kept } in
    let long = c.len.ensures in let low = c.if-len-gt-MOST_AUX.false in
    record {
      grown = turn-then c.args.store.now c.args.later.now.free.now c.loop-member.entries.items c.loop-member.members.items c.args.later.now.seed c.loop-member.at c.in-Some.member c.index_mut.result.now c.loop-member.set c.walk.new.set c.vars-vars.ensures.stored c.requires.seen c.loop-member.invariant.near c.loop-member.invariant.grown (sym c.get.ensures ∙ c.in-Some.is) was c.in_ok-walk.ensures.set c.in_ok-walk.ensures.all (omega (arith, long, low));
      near = near-then c.args.store.now c.args.later.now.free.now c.loop-member.entries.items c.loop-member.members.items c.walk.new.members.items c.args.later.now.seed c.loop-member.at c.in-Some.member c.index_mut.result.now c.walk.new.ids c.loop-member.set c.vars-vars.ensures.stored c.requires.seen c.loop-member.invariant.near c.loop-member.invariant.grown (sym c.get.ensures ∙ c.in-Some.is) was walk;
      few = omega (arith, long, low);
    }

pub returns-clause-few : goal.returns-clause-few
returns-clause-few c = λ e. record {
  least = finished c.args.store.now c.args.later.now.seed c.loop-member.at c.loop-member.set c.loop-member.invariant.grown (sym c.get.ensures ∙ c.in_default.is);
  known = all-one (IsMember c.args.store.now c.args.later.now.seed) (λ x. (1 ≤ x) × (x ≤ c.args.store.now.vars)) (λ x m. m.known) c.loop-member.set c.loop-member.invariant.grown.members;
  alone = all-one (IsMember c.args.store.now c.args.later.now.seed) (λ x. in_klause (constraints_of c.args.store.now.live) x ≡ false) (λ x m. m.alone) c.loop-member.set c.loop-member.invariant.grown.members;
  few = c.loop-member.invariant.few;
}
