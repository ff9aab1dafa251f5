use Rattle.std.proofs.Common.{arith}
use Rattle.kn_verdict.proofs.Indices.{bits-same}
use Rattle.kn_verdict.proofs.few.values_at.Goals as goal

pub returns : goal.returns
returns c = bits-same c.loop-place.values c.args.index c.args.n c.loop-place.invariant.long (λ k h. c.loop-place.invariant.bits k (omega (arith, h, c.loop-place-test.false)))
