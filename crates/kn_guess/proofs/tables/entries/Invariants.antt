use Rattle.std.proofs.Common.{◌≡◌, ◌≤◌, ◌-◌, ℕ, length}
use Rattle.kn_store.specs.Stores.{ids_of, naming}
use Rattle.kn_guess.specs.Walks.{kept}
use Rattle.kn_guess.proofs.tables.entries.Given as goal

abbrev pub invariant-loop-place : goal.invariant-loop-place
invariant-loop-place l = record {
  long : length l.entries.items ≡ l.place;
  ids : (x : ℕ) → 1 ≤ x → x ≤ l.place → kept l.entries.items (x - 1) ≡ ids_of (naming x l.store.live);
}
