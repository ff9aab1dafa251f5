use Rattle.std.proofs.Common.{◌≡◌, ◌⊎◌, ℕ, true, slice_index}
use Rattle.kn_logic.specs.Groups.{is_among}
use Rattle.kn_guess.proofs.deep.lift.Given as goal

abbrev pub invariant-loop-id : goal.invariant-loop-id
invariant-loop-id l = (id : ℕ) → (slice_index l.best.items id ≡ slice_index l.fn.best.items id) ⊎ ((is_among l.ids id ≡ true) × (slice_index l.best.items id ≡ l.many))
