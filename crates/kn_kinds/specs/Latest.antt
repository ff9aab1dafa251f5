-- Which places are watched first: those whose literals are not false and, behind them, those whose literals
-- became false last.
use Rattle.std.specs.Prelude.{ℕ, ◌≡◌, ◌≤◌, ◌<◌, Bool, true, false, List, length}
use Rattle.std.specs.List.{position_or_len}
use Rattle.kn_logic.specs.Literals.{Literal, negated, is_same}
use Rattle.kn_watch.specs.Watches.{lit_at}

-- the place on the trail at which a literal became false; the number of all places where it is not false
abbrev pub rank : List Literal → Literal → ℕ
rank trail l = position_or_len (is_same (negated l)) trail

-- no place that is not watched ranks above one that is
abbrev pub AreLatest : List Literal → List Literal → (ℕ → Bool) → Type 0
AreLatest trail lits watched = (p q : ℕ) → p < length lits → q < length lits → watched p ≡ true → watched q ≡ false → rank trail (lit_at lits q) ≤ rank trail (lit_at lits p)
