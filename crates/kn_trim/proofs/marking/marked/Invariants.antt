use Rattle.std.proofs.Common.{◌≡◌, ◌≤◌, drop, length}
use Rattle.kn_trim.specs.Marking.{marked, none_of, place_at, place_of}
use Rattle.kn_trim.proofs.marking.marked.Given as goal

abbrev pub invariant-loop-at : goal.invariant-loop-at
invariant-loop-at l = record {
  room : (l.variables ≤ l.all_variables) × (l.ids ≤ l.all_ids);
  within : l.at ≤ length l.lines;
  variables : (place_at (place_of l.f) l.lines l.at).variables ≡ l.variables;
  ids : (place_at (place_of l.f) l.lines l.at).ids ≡ l.ids;
  needs : l.needs ≡ (marked (none_of l.all_variables l.all_ids) (place_at (place_of l.f) l.lines l.at) (drop l.at l.lines)).need;
  own : drop l.at l.own.items ≡ (marked (none_of l.all_variables l.all_ids) (place_at (place_of l.f) l.lines l.at) (drop l.at l.lines)).own;
  length : length l.own.items ≡ length l.lines;
}

abbrev pub decreases-loop-at : goal.decreases-loop-at
decreases-loop-at l = l.at
