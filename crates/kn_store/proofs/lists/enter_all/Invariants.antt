use Rattle.std.proofs.Common.{◌≡◌, ◌≤◌, [], ℕ, take, slice_index_or}
use Rattle.std.specs.List.{AllByRecursion}
use Rattle.kn_store.specs.Kept.{with_id, changed}
use Rattle.kn_store.proofs.lists.enter_all.Given as goal

abbrev pub invariant-loop-lit : goal.invariant-loop-lit
invariant-loop-lit l = record {
  here : l.lists ≡ changed (with_id l.id) l.fn.lists (take l.lit-index l.lits);
  last : (k : ℕ) → AllByRecursion (λ i. i ≤ l.id) (slice_index_or l.lists k []);
}
