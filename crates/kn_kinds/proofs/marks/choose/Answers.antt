use Rattle.kn_watch.specs.Trails.{literals}
use Rattle.kn_kinds.specs.Kinds.{marked_place}
use Rattle.kn_kinds.proofs.Ranks.{rank-le, rank_open}
use Rattle.kn_kinds.proofs.Marking.{latest_open}
use Rattle.kn_kinds.proofs.marks.choose.Goals as goal

pub loop-count-init : goal.loop-count-init
loop-count-init c = record {
  long = c.mark_open-count.ensures.long;
  most = c.mark_open-count.ensures.most;
  counted = c.mark_open-count.ensures.count;
  latest = latest_open (literals c.args.trail.now.made) c.args.lits.now (marked_place c.mark_open-count.new.marks) (rank-le (literals c.args.trail.now.made)) (rank_open (literals c.args.trail.now.made)) c.mark_open-count.ensures.open_;
}
