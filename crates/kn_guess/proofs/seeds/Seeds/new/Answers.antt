use Rattle.std.proofs.Common.{sym, subst}
use Rattle.kn_guess.specs.Seen.{IsSeen}
use Rattle.kn_guess.proofs.Built.{near-first}
use Rattle.kn_guess.proofs.seeds.Seeds.new.Goals as goal

pub returns-clause-table : goal.returns-clause-table
returns-clause-table c =
    let members = c.in_ok-members.ensures in
    let entries = c.in_ok-entries.ensures in
    record {
      seen = subst (IsSeen c.args.store.now) (sym c.free-2.view_is) c.in_ok-free.ensures;
      long = c.in_ok-seeds.ensures.long;
      tested = c.in_ok-seeds.ensures.tested;
      deep = c.in_ok-deep.ensures;
      near = near-first c.args.store.now 1 c.in_ok-entries.field-0.items c.in_ok-members.members.items entries.stored entries.long entries.ids members.placed members.named members.known;
    }
