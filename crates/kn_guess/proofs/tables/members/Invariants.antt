use Rattle.std.proofs.Common.{◌≡◌, ◌≤◌, ◌<◌, ℕ, length, true}
use Rattle.std.specs.List.{AllByRecursion}
use Rattle.kn_logic.specs.Groups.{is_among}
use Rattle.kn_store.specs.Stores.{ids_of, naming}
use Rattle.kn_guess.specs.Walks.{kept}
use Rattle.kn_guess.proofs.tables.members.Given as goal

abbrev pub invariant-loop-place : goal.invariant-loop-place
invariant-loop-place l = record {
  placed : (x : ℕ) → 1 ≤ x → x ≤ l.place → AllByRecursion (λ k. k < length l.members.items) (ids_of (naming x l.store.live));
  named : (k x : ℕ) → 1 ≤ x → x ≤ l.place → is_among (kept l.members.items k) x ≡ is_among (ids_of (naming x l.store.live)) k;
  known : (k x : ℕ) → is_among (kept l.members.items k) x ≡ true → (1 ≤ x) × (x ≤ l.place);
}
