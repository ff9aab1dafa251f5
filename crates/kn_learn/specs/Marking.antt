-- Marks on places of a trail. A place that the list does not reach is unseen.
use Rattle.std.specs.Prelude.{ℕ, ◌≡◌, ◌<◌, ◌==◌, ◌⊎◌, Bool, true, false, if◌then◌else◌, List, length, slice_index_or}
use Rattle.std.specs.List.{AllByRecursion}
use Rattle.kn_learn.specs.declared.marks.Mark.{Mark}
use Rattle.kn_learn.specs.declared.marks.Mark.TheVariants.{Unseen, Seen, Pending, Explained, Failed}
use Rattle.kn_learn.specs.Reasons.{contains}

abbrev pub mark_at : List Mark → ℕ → Mark
mark_at marks place = slice_index_or marks place Unseen

abbrev pub AreUnseen : List Mark → Type 0
AreUnseen marks = (place : ℕ) → mark_at marks place ≡ Unseen

-- one place is marked anew
abbrev pub IsMarked : List Mark → ℕ → Mark → List Mark → Type 0
IsMarked old place mark new = (q : ℕ) → mark_at new q ≡ (if q == place then mark else mark_at old q)

-- whether the conflict rests on the literal of a place with this mark
abbrev pub is_needed : Mark → Bool
is_needed Unseen = false
is_needed Seen = true
is_needed Pending = true
is_needed Explained = false
is_needed Failed = false

abbrev pub is_seen : Mark → Bool
is_seen Unseen = false
is_seen Seen = true
is_seen Pending = false
is_seen Explained = false
is_seen Failed = false

-- each place that is marked is one of these, or unseen, and they are reached
pub record AreTouched (touched : List ℕ) (marks : List Mark) : Type 0 where
  pub within : AllByRecursion (λ p. p < length marks) touched
  pub each : (q : ℕ) → (mark_at marks q ≡ Unseen) ⊎ (contains touched q ≡ true)
