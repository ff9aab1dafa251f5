use Rattle.std.proofs.Common.{◌≡◌, ℕ, ◌+◌, ◌≤◌, ◌<◌, Bool, true, false, cond, List, length, take, slice_index_or, refl, ap, subst, arith}
use Rattle.std.proofs.lemmas.List.{take_all}
use Rattle.kn_logic.specs.Literals.{Literal}
use Rattle.kn_logic.specs.Propagation.{is_open, open_places}
use Rattle.kn_watch.specs.Trails.{literals, below}
use Rattle.kn_watch.proofs.Public.{open_take}
use Rattle.kn_propagate.proofs.tests.count_open.Goals as goal

at_most : (b : Bool) → cond b 1 0 ≤ 1
at_most true = omega arith
at_most false = omega arith

one_more : (trail lits : List Literal) (place count : ℕ) (l : Literal) (b : Bool) → place < length lits → l ≡ slice_index_or lits place l → count ≤ open_places trail (take place lits) → (b ≡ true → is_open trail l ≡ true) → count + cond b 1 0 ≤ open_places trail (take (place + 1) lits)
one_more trail lits place count l true lt is h o = omega (arith, open_take trail lits place l lt is, ap (λ (t : Bool). cond {A = ℕ} t 1 0) (o refl), h)
one_more trail lits place count l false lt is h o = omega (arith, open_take trail lits place l lt is, h)

pub loop-lit-preserved : goal.loop-lit-preserved
loop-lit-preserved c = record {
  few = omega (arith, c.loop-lit.invariant.few, c.weight-count.ensures, at_most c.was_open.result);
  open_ = λ k lt. (
      let o = one_more (literals (below (k + 1) c.args.trail.now.made)) c.args.lits.now c.loop-lit.lit-index c.loop-lit.count c.lit-item.result c.was_open.result c.loop-lit-test.true c.lit-item.is (c.loop-lit.invariant.open_ k lt) (λ t. c.was_open.ensures t k lt) in
      omega (arith, o, c.weight-count.ensures));
}

pub returns : goal.returns
returns c k lt = subst (λ (x : List Literal). c.loop-lit.count ≤ open_places (literals (below (k + 1) c.args.trail.now.made)) x) (take_all c.loop-lit.lit-index c.args.lits.now (omega (arith, c.loop-lit-test.false))) (c.loop-lit.invariant.open_ k lt)
