-- How an engine stands to the log of a search: they have the same constraints under the same ids.
use Rattle.std.specs.Prelude.{ℕ, ◌≡◌, true, List, Some}
use Rattle.kn_logic.specs.Constraints.{Bounded}
use Rattle.kn_rules.specs.declared.given.Given.{Given}
use Rattle.kn_rules.specs.States.{given_at}
use Rattle.kn_rules.specs.Searching.{is_searched}
use Rattle.kn_propagate.specs.Engines.{Live, live_in}

-- The live constraints of the engine are those that were given by the file, as klauses or as learned clauses, and are
-- live in the log, each under its id.
pub record Mirrors (live : List Live) (given : List Given) : Type 0 where
  pub in_engine : (id : ℕ) (entry : Given) (c : Bounded) → given_at given id ≡ Some entry → is_searched entry.origin ≡ true → entry.live ≡ Some c → live_in live id ≡ Some c
  pub in_log : (id : ℕ) (c : Bounded) → live_in live id ≡ Some c → (entry : Given) × (given_at given id ≡ Some entry) × (is_searched entry.origin ≡ true) × (entry.live ≡ Some c)
