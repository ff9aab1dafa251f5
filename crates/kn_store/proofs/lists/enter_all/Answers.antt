use Rattle.std.proofs.Common.{◌≡◌, ◌≤◌, ◌-◌, ◌<◌, ◌∙◌, ℕ, [], length, sym, ap, subst, arith, slice_index_or, slice_set}
use Rattle.std.specs.List.{AllByRecursion}
use Rattle.std.proofs.lemmas.List.{take_all, set-get_or}
use Rattle.kn_store.specs.Kept.{with_id, changed}
use Rattle.kn_store.proofs.Changed.{changed-more, known-read, low-with, low-set, low-read, on-err}
use Rattle.kn_store.proofs.lists.enter_all.Goals as goal

pub enter-requires : goal.enter-requires
enter-requires c =
    let known = known-read _ c.args.lits.now c.loop-lit.lit-index c.lit-item.result c.requires.known c.loop-lit-test.true c.lit-item.is in
    let var = c.var.ensures.value in
    let low = c.var.ensures.counted in
    let long = c.loop-lit.auto.lists in
    let read = low-read (AllByRecursion (λ i. i ≤ c.args.id)) c.loop-lit.lists (c.var.result - 1) c.index-lists-var.result c.loop-lit.invariant.last (let high = known.1 in omega (arith, high, var, low, long)) c.index-lists-var.is in
    subst (AllByRecursion (λ i. i ≤ c.args.id)) c.index-lists-var.is read

pub returns-in_err-enter-clause-err : goal.returns-in_err-enter-clause-err
returns-in_err-enter-clause-err c = on-err c.from_residual.result
    (c.loop-lit.lit-index, ap (slice_set c.loop-lit.lists (c.var.result - 1)) c.in_err-enter.ensures.err ∙ set-get_or c.loop-lit.lists (c.var.result - 1) c.index-lists-var.result ∙ c.loop-lit.invariant.here)

pub loop-lit-preserved : goal.loop-lit-preserved
loop-lit-preserved c =
    let known = known-read _ c.args.lits.now c.loop-lit.lit-index c.lit-item.result c.requires.known c.loop-lit-test.true c.lit-item.is in
    let var = c.var.ensures.value in
    let low = c.var.ensures.counted in
    let long = c.loop-lit.auto.lists in
    let inside : c.var.result - 1 < length c.loop-lit.lists = let high = known.1 in omega (arith, high, var, low, long) in
    let read = low-read (AllByRecursion (λ i. i ≤ c.args.id)) c.loop-lit.lists (c.var.result - 1) c.index-lists-var.result c.loop-lit.invariant.last inside c.index-lists-var.is in
    let new : c.enter.new.self ≡ with_id c.args.id c.index-lists-var.result = c.in_ok-enter.ensures.ok ∙ ap (with_id c.args.id) (sym c.index-lists-var.is) in
    record {
      here = changed-more (with_id c.args.id) c.args.lists.now c.loop-lit.lists c.args.lits.now c.loop-lit.lit-index c.var.result c.lit-item.result c.index-lists-var.result c.enter.new.self
          c.loop-lit.invariant.here c.loop-lit-test.true c.lit-item.is var c.index-lists-var.is inside new;
      last = low-set (AllByRecursion (λ i. i ≤ c.args.id)) c.loop-lit.lists (c.var.result - 1) c.enter.new.self c.loop-lit.invariant.last
          (subst (AllByRecursion (λ i. i ≤ c.args.id)) (sym new) (low-with c.args.id c.index-lists-var.result read));
    }

pub returns-clause-ok : goal.returns-clause-ok
returns-clause-ok c = c.loop-lit.invariant.here ∙ ap (changed (with_id c.args.id) c.args.lists.now) (take_all c.loop-lit.lit-index c.args.lits.now c.loop-lit-test.false)

pub returns-in_err-enter-clause-last : goal.returns-in_err-enter-clause-last
returns-in_err-enter-clause-last c =
    subst (λ z. (k : ℕ) → AllByRecursion (λ i. i ≤ c.args.id) (slice_index_or z k []))
    (sym (ap (slice_set c.loop-lit.lists (c.var.result - 1)) c.in_err-enter.ensures.err ∙ set-get_or c.loop-lit.lists (c.var.result - 1) c.index-lists-var.result)) c.loop-lit.invariant.last
