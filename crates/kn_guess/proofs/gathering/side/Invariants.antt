use Rattle.std.proofs.Common.{◌≡◌, ◌≤◌, drop, []}
use Rattle.std.specs.List.{AllByRecursion}
use Rattle.kn_guess.specs.Gathering.{with_members, outside_key}
use Rattle.kn_guess.proofs.gathering.side.Given as goal

abbrev pub invariant-loop-member : goal.invariant-loop-member
invariant-loop-member l = record {
  rest : with_members 128 (outside_key l.fn.set l.fn.positive) l.store.live l.side (drop l.member-index l.members) ≡ with_members 128 (outside_key l.fn.set l.fn.positive) l.store.live [] l.members;
  known : AllByRecursion (λ x. (1 ≤ x) × (x ≤ l.store.vars)) (drop l.member-index l.members);
}
