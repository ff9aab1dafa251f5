use Rattle.std.proofs.Common.{◌∙◌, arith}
use Rattle.kn_extract.specs.Extractions.{IsSeedTaken}
use Rattle.kn_extract.proofs.Tried.{tried-next}
use Rattle.kn_extract.proofs.seeds.try_each.Goals as goal

pub loop-place-preserved : goal.loop-place-preserved
loop-place-preserved c = record {
  tried = tried-next IsSeedTaken c.loop-place.place c.args.store.now c.loop-place.store c.try_seed.new.store c.args.taken.now.items c.loop-place.taken.items c.try_seed.new.taken.items
      c.loop-place.invariant.tried c.in_ok-try_seed.ensures.tried;
  added = c.in_ok-try_seed.ensures.added;
  vars = c.in_ok-try_seed.ensures.vars ∙ c.loop-place.invariant.vars;
  table = c.in_ok-try_seed.ensures.table;
  from = omega (arith, c.in_ok-try_seed.ensures.from);
}
