use Rattle.kn_extract.specs.Extractions.{IsPairTaken}
use Rattle.kn_extract.proofs.Tried.{tried-next}
use Rattle.kn_extract.proofs.starts.try_each.Goals as goal

pub loop-place-preserved : goal.loop-place-preserved
loop-place-preserved c = record {
  tried = tried-next IsPairTaken c.loop-place.place c.args.store.now c.loop-place.store c.try_start.new.store c.args.taken.now.items c.loop-place.taken.items c.try_start.new.taken.items
      c.loop-place.invariant.tried c.in_ok-try_start.ensures.tried;
  table = c.in_ok-try_start.ensures.table;
  added = c.in_ok-try_start.ensures.added;
}
