use Rattle.std.proofs.Common.{◌≡◌, ◌≤◌, ◌<◌, ◌==◌, ◌&&◌, ◌||◌, ℕ, length, take}
use Rattle.std.specs.List.{AllByRecursion}
use Rattle.kn_logic.specs.Groups.{is_among}
use Rattle.kn_guess.specs.Walks.{kept}
use Rattle.kn_guess.proofs.tables.enter.Given as goal

abbrev pub invariant-loop-id : goal.invariant-loop-id
invariant-loop-id l = record {
  more : length l.fn.members.items ≤ length l.members.items;
  placed : AllByRecursion (λ k. k < length l.members.items) (take l.id-index l.ids);
  among : (k x : ℕ) → is_among (kept l.members.items k) x ≡ (is_among (kept l.fn.members.items k) x || (is_among (take l.id-index l.ids) k && (l.var == x)));
}
