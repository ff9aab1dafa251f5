-- What a checker does with a line.
use Rattle.std.specs.Prelude.{ℕ, ◌≡◌, Result, Ok, Err}
use Rattle.kn_rules.specs.declared.checker.FeedError.{FeedError}
use Rattle.kn_rules.specs.declared.checker.FeedError.TheVariants.{Wrong, Memory}
use Rattle.kn_rules.specs.States.{ProofState}

-- a line is refused with its cause, or memory was short; the state is as before
abbrev pub Refuses : FeedError → Result ProofState ℕ → ProofState → ProofState → Type 0
Refuses (Wrong why) step old new = (step ≡ Err why) × (new ≡ old)
Refuses Memory step old new = new ≡ old

-- a line that steps leads to the new state
abbrev pub Feeds : {T : Type 0} → Result T FeedError → Result ProofState ℕ → ProofState → ProofState → Type 0
Feeds (Ok _) step old new = step ≡ Ok new
Feeds (Err e) step old new = Refuses e step old new
