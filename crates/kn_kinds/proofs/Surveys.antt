-- What counting all places tells, and what it says of the answers of a visit and of the first watches.
use Rattle.std.proofs.Common.{◌≡◌, ℕ, zero, ◌≤◌, ◌<◌, ◌⊎◌, Bool, true, false, not, List, Option, Some, None, length, refl, sym, ◌∙◌, subst, inl, inr, arith}
use Rattle.std.proofs.lemmas.Bool.{cases_Bool, cases_lt, and_parts, and_from, and_cases, not-true, not-false, not_from_false, true_from_ne_false}
use Rattle.kn_logic.proofs.Public.{negated_twice}
use Rattle.kn_logic.specs.Literals.{Literal, negated, has}
use Rattle.kn_logic.specs.Constraints.{Bounded}
use Rattle.kn_logic.specs.Propagation.{is_open, open_places, has_unset, IsShort, IsShortUnder}
use Rattle.kn_watch.specs.declared.watched.Visit.{Visit}
use Rattle.kn_watch.specs.declared.watched.Visit.TheVariants.{Moved, Satisfied, Forces, Conflict}
use Rattle.kn_watch.specs.Trails.{Trailed, literals, IsTrail}
use Rattle.kn_watch.specs.Watches.{listed, lit_at, is_unset, IsReleased, IsBinding, IsSatisfied, IsConflicting, IsForcing, NoneFalse, HasWatches, IsLatest, IsStart, IsTurn}
use Rattle.kn_watch.proofs.Public.{all_true, tight, open_lt, lit_last, long_one, forces_own}
use Rattle.kn_kinds.specs.Latest.{AreLatest}
use Rattle.kn_kinds.specs.Kinds.{is_undecided, IsSurveyed}
use Rattle.kn_kinds.proofs.Ranks.{latest_is}

-- a guard without a value
on_or_off : (trail : List Literal) (guard : Option Literal) → (IsReleased trail guard → ⊥) → is_undecided trail guard ≡ false → IsBinding trail guard
on_or_off trail None r u = tt
on_or_off trail (Some g) r u = elim (and_cases (is_open trail g) (not (has trail g)) u) [
  | inl o ↦ absurd (r o)
  | inr h ↦ not-false (has trail g) h
]

not_on : (trail : List Literal) (guard : Option Literal) → is_undecided trail guard ≡ true → IsBinding trail guard → ⊥
not_on trail None u b = absurd cc
not_on trail (Some g) u b = let n = not-true _ (and_parts (is_open trail g) (not (has trail g)) u).1 in absurd cc

unset_negated : (trail : List Literal) (g : Literal) → is_unset trail g ≡ true → is_unset trail (negated g) ≡ true
unset_negated trail g u =
    let p = and_parts (is_open trail g) (not (has trail g)) u in
    and_from (is_open trail (negated g)) (not (has trail (negated g))) (subst (λ (z : Literal). not (has trail z) ≡ true) (sym (negated_twice g)) p.1) p.0

-- the guard's place
forces_off : (trail : List Literal) (lits : List Literal) (guard : Option Literal) (bound : ℕ) → is_undecided trail guard ≡ true → open_places trail lits < bound → IsForcing trail (record { guard = guard; bound = bound; lits = lits })
forces_off trail lits None bound u lt = absurd cc
forces_off trail lits (Some g) bound u lt = (
  length lits,
  omega (arith, long_one lits (negated g)),
  (subst (λ (z : Literal). is_unset trail z ≡ true) (sym (lit_last lits (negated g) (length lits) refl)) (unset_negated trail g u), inr (omega arith, lt)),
)

few_unset : (trail : List Literal) (c : Bounded) → (IsSatisfied trail c → ⊥) → open_places trail c.lits ≡ c.bound → has_unset trail c.lits ≡ true
few_unset trail c n o = true_from_ne_false (has_unset trail c.lits) (λ e. n (inl (omega (arith, o, all_true trail c.lits e))))

-- the answers of a survey
pub survey_moved : (trail : List Literal) (c : Bounded) → (IsSatisfied trail c → ⊥) → (c.bound < open_places trail c.lits) ⊎ ((is_undecided trail c.guard ≡ true) × (open_places trail c.lits ≡ c.bound)) → IsSurveyed trail c (Moved 0)
survey_moved trail c n h = (
  refl,
  n,
  λ f. elim (f.2.1) [
    | inl o ↦ elim h [ inl lt ↦ omega (arith, lt, o.1) | inr u ↦ not_on trail c.guard u.0 o.2 ]
    | inr o ↦ elim h [ inl lt ↦ omega (arith, lt, o.1) | inr u ↦ omega (arith, u.1, o.1) ]
  ],
  λ k. elim h [ inl lt ↦ omega (arith, lt, k.0) | inr u ↦ omega (arith, u.1, k.0) ],
)

pub survey_forces : (trail : List Literal) (c : Bounded) → (IsSatisfied trail c → ⊥) → open_places trail c.lits ≤ c.bound → (u : Bool) → is_undecided trail c.guard ≡ u → ((u ≡ true) × (open_places trail c.lits < c.bound)) ⊎ ((u ≡ false) × (open_places trail c.lits ≡ c.bound)) → IsForcing trail c
survey_forces trail c n le u e (inl h) = forces_off trail c.lits c.guard c.bound (e ∙ h.0) h.1
survey_forces trail c n le u e (inr h) = forces_own trail c (on_or_off trail c.guard (λ r. n (inr r)) (e ∙ h.0)) h.1 (few_unset trail c n h.1)

pub survey_conflict : (trail : List Literal) (c : Bounded) → (IsSatisfied trail c → ⊥) → is_undecided trail c.guard ≡ false → open_places trail c.lits < c.bound → IsConflicting trail c
survey_conflict trail c n u lt = (lt, on_or_off trail c.guard (λ r. n (inr r)) u)

-- what is neither in conflict nor forces anything is not short
unshort_parts : (trail lits : List Literal) (guard : Option Literal) (bound : ℕ) → (IsForcing trail (record { guard = guard; bound = bound; lits = lits }) → ⊥) → (IsConflicting trail (record { guard = guard; bound = bound; lits = lits }) → ⊥) → IsShortUnder trail guard bound lits → ⊥
unshort_parts trail lits None bound f k (inl lt) = k (lt, tt)
unshort_parts trail lits None bound f k (inr e) = f (forces_own trail (record { guard = None; bound = bound; lits = lits }) tt e.0 e.1)
unshort_parts trail lits (Some g) bound f k (inl e) = elim (cases_Bool (has trail g)) [
  | inl on ↦ k (e.1, on)
  | inr off ↦ f (forces_off trail lits (Some g) bound (and_from (is_open trail g) (not (has trail g)) e.0 (not_from_false _ off)) e.1)
]
unshort_parts trail lits (Some g) bound f k (inr e) = f (forces_own trail (record { guard = Some g; bound = bound; lits = lits }) e.0 e.1 e.2)

unshort : (trail : List Literal) (c : Bounded) → (IsForcing trail c → ⊥) → (IsConflicting trail c → ⊥) → IsShort trail c → ⊥
unshort trail c f k short = unshort_parts trail c.lits c.guard c.bound f k short

-- more places are open than the bound asks for, where nothing else holds
many_open : (trail : List Literal) (c : Bounded) (to : ℕ) → IsSurveyed trail c (Moved to) → c.bound < open_places trail (listed c)
many_open trail c to s = elim (cases_lt c.bound (open_places trail (listed c))) [
  | inl lt ↦ lt
  | inr le ↦ absurd (s.1 (tight trail c le (unshort trail c s.2 s.3)))
]

none_false : (t : Trailed) (c : Bounded) (watched : ℕ → Bool) (to : ℕ) → IsLatest t.made c watched → HasWatches c watched → IsSurveyed (literals t.made) c (Moved to) → NoneFalse (literals t.made) c watched
none_false t c watched to latest hw s = λ p pl wp. elim (cases_Bool (is_open (literals t.made) (lit_at (listed c) p))) [
  | inl o ↦ o
  | inr o ↦ (
      let lt = open_lt (literals t.made) watched (listed c) zero p
      (λ q ql x. subst (λ (n : ℕ). watched n ≡ true) (omega arith) (latest.open_ p q pl ql wp o x)) pl
      (subst (λ (n : ℕ). watched n ≡ true) (omega arith) wp) o in
      absurd (omega (arith, lt, hw, many_open (literals t.made) c to s)))
]

-- What a survey says of the first watches.
pub start_means : (t : Trailed) (c : Bounded) (watched : ℕ → Bool) (v : Visit) → IsTrail t → HasWatches c watched → AreLatest (literals t.made) (listed c) watched → IsSurveyed (literals t.made) c v → IsStart t.made c watched v
start_means t c watched (Moved to) k hw h s = (s.0, none_false t c watched to (latest_is t c watched k h) hw s, s.1, s.2, s.3)
start_means t c watched Satisfied k hw h s = (latest_is t c watched k h, s)
start_means t c watched Forces k hw h s = (latest_is t c watched k h, s)
start_means t c watched Conflict k hw h s = (latest_is t c watched k h, s)

-- What a survey says of a visit that finds no other place to watch.
pub turn_means : (trail : List Literal) (c : Bounded) (watched : ℕ → Bool) (place : ℕ) (v : Visit) → open_places trail (listed c) ≤ c.bound → IsSurveyed trail c v → IsTurn trail c watched watched place v
turn_means trail c watched place (Moved to) le s = absurd (omega (arith, le, many_open trail c to s))
turn_means trail c watched place Satisfied le s = (refl, s)
turn_means trail c watched place Forces le s = (refl, s)
turn_means trail c watched place Conflict le s = (refl, s)
