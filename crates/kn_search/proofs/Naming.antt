-- The variables that a trail names.
use Rattle.std.proofs.Common.{◌≡◌, ℕ, zero, suc, ◌<◌, true, eqb, List, [], ◌∷◌, length, IfSome, arith}
use Rattle.std.specs.List.{slice_get}
use Rattle.std.proofs.lemmas.Bool.{or_left, or_right, eq-eqb}
use Rattle.kn_logic.specs.Literals.{names}
use Rattle.kn_watch.specs.declared.trail.Made.{Made}
use Rattle.kn_watch.specs.Trails.{literals}

pub names-at : (made : List Made) (place v : ℕ) → place < length made → IfSome (slice_get made place) (λ m. m.lit.variable ≡ v) → names (literals made) v ≡ true
names-at [] place v less h = absurd (omega (arith, less))
names-at (m ∷ made) zero v less h = or_left (eqb m.lit.variable v) (names (literals made) v) (eq-eqb m.lit.variable v h)
names-at (m ∷ made) (suc place) v less h = or_right (eqb m.lit.variable v) (names (literals made) v) (names-at made place v (omega (arith, less)) h)
