use Rattle.std.proofs.Common.{length}
use Rattle.kn_rebuild.proofs.variables.+rebuild_buckets.Given as goal

abbrev pub decreases-rebuild_buckets : goal.decreases-rebuild_buckets
decreases-rebuild_buckets l = length l.buckets.now
