-- The values that the buckets of a run give to the variables that it took.
use Rattle.std.specs.Prelude.{ℕ, Bool, true, List, [], ◌∷◌}
use Rattle.kn_diagram.specs.Diagrams.{with_value}
use Rattle.kn_quant.specs.Runs.{Function}

-- From the last bucket to the first, its variable becomes true where its function holds with "true", and
-- else false.
abbrev pub rebuilt : List (ℕ × Function) → (ℕ → Bool) → ℕ → Bool
rebuilt [] v = v
rebuilt (b ∷ later) v = with_value (rebuilt later v) b.0 (b.1 (with_value (rebuilt later v) b.0 true))
