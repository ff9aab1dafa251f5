use Rattle.std.proofs.Common.{◌≡◌, ◌+◌, ◌++◌, ◌∙◌, length, take, drop, sym, ap, ap₂, subst, arith, true, false}
use Rattle.kn_store.specs.Stores.{ids_of, naming}
use Rattle.kn_guess.specs.Pairing.{all_entered}
use Rattle.kn_guess.proofs.Joined.{cands, of-variable}
use Rattle.kn_guess.proofs.Entered.{IsMade, made-variable, made-last, all-long, whole}
use Rattle.kn_guess.proofs.pairs.Pairs.new.Goals as goal

pub loop-place-preserved : goal.loop-place-preserved
loop-place-preserved c =
    let s = c.args.store.now in
    let k = c.loop-place.place in
    let rows = c.loop-place.rows.items in
    let n = c.loop-place.rows.len in
    let real = c.loop-place.rows.ok.0 in
    let on = c.enter_all.new.rows in
    let off = c.enter_all-in-loop-place.new.rows in
    let test = c.loop-place-test.true in
    let vars = c.vars-vars.ensures.value in
    let is-on : on ≡ all_entered s.live (of-variable (k + 1) true) rows (ids_of (naming (k + 1) s.live)) =
    c.in_ok-enter_all.ensures ∙ ap₂ (λ l t. all_entered s.live l t (ids_of (naming l.variable s.live))) c.new.ensures c.deref_mut.ensures.value in
    let long-on : length on ≡ n = ap length is-on ∙ all-long s.live (of-variable (k + 1) true) (ids_of (naming (k + 1) s.live)) rows ∙ sym real in
    let there = whole n on rows long-on (sym real) in
    let is-off : off ≡ all_entered s.live (of-variable (k + 1) false) on (ids_of (naming (k + 1) s.live)) =
    c.in_ok-enter_all-2.ensures ∙ ap₂ (λ l t. all_entered s.live l t (ids_of (naming l.variable s.live))) c.new-in-loop-place.ensures (c.deref_mut-in-loop-place.ensures.value ∙ there) in
    let long-off : length off ≡ n = ap length is-off ∙ all-long s.live (of-variable (k + 1) false) (ids_of (naming (k + 1) s.live)) on ∙ long-on in
    let made = made-variable s k rows on off c.vars-vars.ensures.stored c.loop-place.invariant (omega (arith, test, vars)) is-on is-off in
    subst (IsMade s (cands 1 (k + 1))) (sym (ap (λ z. take n (off ++ drop (length off) z)) there ∙ whole n off on long-off long-on)) made

pub returns : goal.returns
returns c =
    let end = c.loop-place.auto.place-end in
    let vars = c.vars-vars.ensures.value in
    let test = c.loop-place-test.false in
    made-last c.args.store.now c.loop-place.rows.items (subst (λ n. IsMade c.args.store.now (cands 1 n) c.loop-place.rows.items) (let e : c.loop-place.place ≡ c.args.store.now.vars = omega (arith, end, vars, test) in e) c.loop-place.invariant)
