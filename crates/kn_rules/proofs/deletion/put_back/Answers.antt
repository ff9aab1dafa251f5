use Rattle.std.proofs.Common.{◌≡◌, ◌<◌, ◌++◌, ◌∷◌, [], length, arith, rules}
use Rattle.std.proofs.lemmas.Grind.{common_steps}
use Rattle.kn_rules.proofs.Deleting.{back-more}
use Rattle.kn_rules.proofs.deletion.put_back.Goals as goal

pub loop-slot-preserved : goal.loop-slot-preserved
loop-slot-preserved c =
    let items : c.loop-slot.taken.items ≡ c.pop.new.self.items ++ c.in-Some.slot ∷ [] = c.in-Some.ensures.items in
    let within : length c.pop.new.self.items < length c.args.ids.now = grind (arith, common_steps) in
    let place : c.len.result ≡ length c.pop.new.self.items = search rules in
    record {
      count = grind (arith, common_steps);
      rest = back-more _ _ _ _ _ _ _ _ place within c.put.ensures items c.loop-slot.invariant.rest;
    }
