use Rattle.std.proofs.Common.{length, arith}
use Rattle.kn_kinds.proofs.Marking.{all_marked, one_more}
use Rattle.kn_kinds.proofs.marks.mark_latest.Goals as goal

pub unreachable-requires : goal.unreachable-requires
unreachable-requires c = omega (arith, all_marked c.args.marks.now (length c.args.lits.now) c.requires.long c.in_default.ensures.none, c.requires.fewer)

pub returns-clause-count : goal.returns-clause-count
returns-clause-count c = one_more c.args.marks.now c.latest_unmarked-place.result (length c.args.lits.now) c.requires.long c.latest_unmarked-place.ensures.within c.latest_unmarked-place.ensures.unmarked
