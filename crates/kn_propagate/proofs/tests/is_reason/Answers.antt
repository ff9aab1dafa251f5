use Rattle.std.proofs.Common.{◌≡◌, ℕ, Some, arith, subst, inl, inr}
use Rattle.std.specs.Prelude.{slice_get}
use Rattle.std.proofs.lemmas.Bool.{cases_lt}
use Rattle.std.proofs.lemmas.Option.{slice_get_within}
use Rattle.kn_propagate.proofs.tests.is_reason.Goals as goal

pub loop-place-preserved : goal.loop-place-preserved
loop-place-preserved c p m lt e r = elim (cases_lt p c.loop-place.place) [
  | inl l ↦ c.loop-place.invariant p m l e r
  | inr ge ↦ (
      let q : p ≡ c.loop-place.place = omega (arith, lt, ge) in
      c.was_forced.ensures c.if-was_forced.false m (subst (λ (k : ℕ). slice_get c.args.trail.now.made k ≡ Some m) q e) r)
]

pub returns : goal.returns
returns c f p m e r =
    let lt = slice_get_within c.args.trail.now.made p m e in
    c.loop-place.invariant p m (omega (arith, lt, c.loop-place-test.false, c.len-place-end.ensures.value)) e r
