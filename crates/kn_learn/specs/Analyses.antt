-- The analysis of a conflict: which places of the trail it rests on, which of them stand in the clause, and which are
-- derived from those by their reasons.
use Rattle.std.specs.Prelude.{ℕ, ◌≡◌, ◌≤◌, ◌<◌, ◌⊎◌, true, false, List, [], ◌∷◌, filter, Some, slice_get}
use Rattle.std.specs.List.{AllByRecursion}
use Rattle.kn_logic.specs.Literals.{Literal, negated}
use Rattle.kn_logic.specs.Constraints.{Bounded}
use Rattle.kn_watch.specs.declared.trail.Made.{Made}
use Rattle.kn_watch.specs.Trails.{Trailed}
use Rattle.kn_propagate.specs.Engines.{Live, live_in}
use Rattle.kn_learn.specs.declared.marks.Mark.{Mark}
use Rattle.kn_learn.specs.declared.marks.Mark.TheVariants.{Unseen, Seen, Pending, Explained, Failed}
use Rattle.kn_learn.specs.declared.analysis.Walk.{Walk}
use Rattle.kn_learn.specs.Reasons.{rests_on, contains}
use Rattle.kn_learn.specs.Marking.{mark_at, AreUnseen, is_needed, is_seen}

-- the conflict rests on the literal of the place
abbrev pub IsNeeded : List Mark → ℕ → Type 0
IsNeeded marks place = is_needed (mark_at marks place) ≡ true

-- Each literal before a place that the constraint rests on is marked as needed.
abbrev pub AreNeeded : List Made → List Mark → Bounded → ℕ → Type 0
AreNeeded made marks c place =
    (q : ℕ) (m : Made) → q < place → slice_get made q ≡ Some m → rests_on c m.lit ≡ true → IsNeeded marks q

-- where the literal was made false before a place, that is marked as needed
abbrev pub IsNeededFor : List Made → List Mark → ℕ → Literal → Type 0
IsNeededFor made marks before l =
    (q : ℕ) (m : Made) → q < before → slice_get made q ≡ Some m → m.lit ≡ negated l → IsNeeded marks q

-- the literal of the place has a reason, which rests on literals that are marked as needed
abbrev pub IsRested : List Live → List Made → List Mark → ℕ → Type 0
IsRested live made marks place =
    (m : Made) × (id : ℕ) × (slice_get made place ≡ Some m) × (m.reason ≡ Some id)
    × ((c : Bounded) → live_in live id ≡ Some c → AreNeeded made marks c place)

-- the literal of the place came below the present level
abbrev pub IsLower : Trailed → ℕ → Type 0
IsLower t place = (m : Made) × (slice_get t.made place ≡ Some m) × (m.level < t.level)

abbrev pub IsTop : Trailed → ℕ → Type 0
IsTop t place = (m : Made) × (slice_get t.made place ≡ Some m) × (m.level ≡ t.level)

-- the literal of the place came below the present level, and has a reason
abbrev pub IsRemovable : Trailed → ℕ → Type 0
IsRemovable t place = (m : Made) × (id : ℕ) × (slice_get t.made place ≡ Some m) × (m.reason ≡ Some id) × (m.level < t.level)

-- no place stands there twice
abbrev pub AreOnce : List ℕ → Type 0
AreOnce [] = Unit {0}
AreOnce (p ∷ ps) = (contains ps p ≡ false) × AreOnce ps

-- What a mark says of a place, when the walk has come down to `p`, and of what was found to be explained `left` is
-- left. A place that was seen is kept, or derived, or still to come, between the lowest one of the present level and p.
abbrev pub IsFound : Walk → ℕ → List ℕ → ℕ → Mark → Type 0
IsFound w p left q Unseen = Unit {0}
IsFound w p left q Seen = (contains w.kept.items q ≡ true) ⊎ ((contains w.derived.items q ≡ true) ⊎ ((w.lowest ≤ q) × (q ≤ p)))
IsFound w p left q Pending = (contains w.derived.items q ≡ true) ⊎ (contains left q ≡ true)
IsFound w p left q Explained = contains w.explained.items q ≡ true
IsFound w p left q Failed = Unit {0}

-- what an analysis keeps
pub record IsWalking (t : Trailed) (live : List Live) (p : ℕ) (left : List ℕ) (w : Walk) : Type 0 where
  pub found : (q : ℕ) → IsFound w p left q (mark_at w.marks q)
  pub rested : AllByRecursion (IsRested live t.made w.marks) w.derived.items
  pub lower : AllByRecursion (IsLower t) w.kept.items
  pub once : AreOnce w.kept.items
  pub needed : AllByRecursion (IsNeeded w.marks) w.kept.items
  pub low : IsTop t w.lowest

-- the tables of a walk that begins at this place
pub record IsBlank (last : ℕ) (w : Walk) : Type 0 where
  pub unseen : AreUnseen w.marks
  pub kept : w.kept.items ≡ []
  pub derived : w.derived.items ≡ []
  pub explained : w.explained.items ≡ []
  pub lowest : w.lowest ≡ last

-- More places before this one are needed; what was derived and explained is as before.
pub record Grows (before : ℕ) (old new : Walk) : Type 0 where
  pub stays : (q : ℕ) → IsNeeded old.marks q → IsNeeded new.marks q
  pub derived : new.derived.items ≡ old.derived.items
  pub explained : new.explained.items ≡ old.explained.items
  pub lowest : (new.lowest ≡ old.lowest) ⊎ (new.lowest < before)

-- what is explained before this place is left
abbrev pub IsLeft : Walk → ℕ → List ℕ → Type 0
IsLeft w before left = (q : ℕ) → q < before → contains w.explained.items q ≡ true → contains left q ≡ true

-- More was found to be explained; what is needed is as before.
pub record Explores (t : Trailed) (old new : Walk) : Type 0 where
  pub walking : (live : List Live) (p : ℕ) → IsWalking t live p old.explained.items old → IsWalking t live p new.explained.items new
  pub same : (q : ℕ) → is_needed (mark_at new.marks q) ≡ is_needed (mark_at old.marks q)
  pub removable : AllByRecursion (IsRemovable t) old.explained.items → AllByRecursion (IsRemovable t) new.explained.items
  pub kept : new.kept.items ≡ old.kept.items
  pub lowest : new.lowest ≡ old.lowest

-- the places that stand in the clause behind the lowest one
abbrev pub rest_of : List Mark → List ℕ → List ℕ
rest_of marks kept = filter (λ p. is_seen (mark_at marks p)) kept

-- each of the places came at this level or below
abbrev pub AreWithin : List Made → ℕ → List ℕ → Type 0
AreWithin made n places = AllByRecursion (λ p. (m : Made) × (slice_get made p ≡ Some m) × (m.level ≤ n)) places

-- the level is that of one of the places, or 0
abbrev pub IsReached : List Made → ℕ → List ℕ → Type 0
IsReached made n places = (n ≡ 0) ⊎ ((p : ℕ) × (m : Made) × (contains places p ≡ true) × (slice_get made p ≡ Some m) × (m.level ≡ n))

-- at level 0 all that is needed is derived
pub record IsRooted (live : List Live) (made : List Made) (w : Walk) : Type 0 where
  pub derived : (q : ℕ) → IsNeeded w.marks q → contains w.derived.items q ≡ true
  pub rested : AllByRecursion (IsRested live made w.marks) w.derived.items

-- no literal of this variable came by the id
abbrev pub IsNotBy : List Made → ℕ → Literal → Type 0
IsNotBy made id l = (p : ℕ) (m : Made) → slice_get made p ≡ Some m → m.lit.variable ≡ l.variable → m.reason ≡ Some id → ⊥
