-- The sink got what stood before the place, and then a piece more.
use Rattle.std.proofs.Common.{rules}
use Rattle.kn_bytes.proofs.Public.{Got-take}
use Rattle.kn_bytes.proofs.write.write_all.Goals as goal

pub loop-at-preserved : goal.loop-at-preserved
loop-at-preserved g c = record {
  within = search rules;
  got = Got-take _ _ _ c.loop-at.at c.in-Ok.size c.args.bytes.now _ c.split_at.ensures.back c.loop-at.invariant.got c.in-Ok.ensures.bytes;
  later = search rules;
}
