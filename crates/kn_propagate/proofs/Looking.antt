-- A look at a constraint that was added: it is satisfied then, or in conflict.
use Rattle.std.proofs.Common.{◌≡◌, ℕ, zero, suc, ◌+◌, ◌≤◌, ◌<◌, ◌⊎◌, ◌++◌, Bool, true, false, cond, eqb, List, [], ◌∷◌, Option, Some, None, length, take, refl, sym, ap, ◌∙◌, subst, inl, inr, arith}
use Rattle.std.specs.Prelude.{slice_index_or}
use Rattle.std.proofs.lemmas.Bool.{not_from_false, and_from, cases_Bool, or_left, or_right, or_cases, eq-eqb, eqb-true}
use Rattle.std.proofs.lemmas.List.{take_more}
use Rattle.std.proofs.lemmas.List.Folds.{list_any-append}
use Rattle.kn_logic.specs.Literals.{Literal, negated, has}
use Rattle.kn_logic.specs.Constraints.{Bounded}
use Rattle.kn_logic.specs.Propagation.{is_open, open_places, IsShort, IsShortUnder}
use Rattle.kn_logic.proofs.Public.{places-le, negated_twice}
use Rattle.kn_watch.specs.Trails.{Trailed, literals}
use Rattle.kn_propagate.specs.Chains.{Watching, at_slot, is_in, IsGrown, AreSettled}
use Rattle.kn_watch.specs.Watches.{listed, unguarded, lit_at, is_unset, IsBinding, IsSatisfied, IsConflicting, IsForcing}
use Rattle.kn_watch.proofs.Public.{Within, open_within, satisfied_within, all_within_grown, tight, forces_own, lit_last, long_one}

at_guard : (trail : List Literal) (c : Bounded) (g : Literal) → c.guard ≡ Some g → is_open trail g ≡ true → has trail g ≡ false → open_places trail c.lits < c.bound → IsForcing trail c
at_guard trail c g is o h lt =
    let long : length (listed c) ≡ length c.lits + 1 = ap (λ (x : Option Literal). length (c.lits ++ unguarded x)) is ∙ long_one c.lits (negated g) in
    let lit : lit_at (listed c) (length c.lits) ≡ negated g = ap (λ (x : Option Literal). lit_at (c.lits ++ unguarded x) (length c.lits)) is ∙ lit_last c.lits (negated g) (length c.lits) refl in
    let free : is_open trail (negated g) ≡ true = not_from_false _ (subst (λ (z : Literal). has trail z ≡ false) (sym (negated_twice g)) h) in
    (length c.lits, omega (arith, long), (subst (λ (z : Literal). is_unset trail z ≡ true) (sym lit) (and_from (is_open trail (negated g)) _ free o), inr (omega arith, lt)))

parts : (trail : List Literal) (c : Bounded) (guard : Option Literal) → c.guard ≡ guard → (IsConflicting trail c → ⊥) → (IsForcing trail c → ⊥) → IsShortUnder trail guard c.bound c.lits → ⊥
parts trail c None is nc nf (inl lt) = nc (lt, subst (IsBinding trail) (sym is) tt)
parts trail c None is nc nf (inr e) = nf (forces_own trail c (subst (IsBinding trail) (sym is) tt) e.0 e.1)
parts trail c (Some g) is nc nf (inl e) = elim (cases_Bool (has trail g)) [
  | inl h ↦ nc (e.1, subst (IsBinding trail) (sym is) h)
  | inr h ↦ nf (at_guard trail c g is e.0 h e.1)
]
parts trail c (Some g) is nc nf (inr e) = nf (forces_own trail c (subst (IsBinding trail) (sym is) e.0) e.1 e.2)

-- what is neither in conflict nor forces a literal is not short
pub quiet_look : (trail : List Literal) (c : Bounded) → (IsConflicting trail c → ⊥) × (IsForcing trail c → ⊥) → IsShort trail c → ⊥
quiet_look trail c n short = parts trail c c.guard refl n.0 n.1 short

-- fewer literals are not false under more literals
pub open_less : (small large lits : List Literal) → Within small large → open_places large lits ≤ open_places small lits
open_less small large lits w = places-le (is_open large) (is_open small) (λ l h. open_within small large l w h) lits

pub tight_now : (small large : List Literal) (c : Bounded) → Within small large → open_places small (listed c) ≤ c.bound → (IsShort large c → ⊥) → IsSatisfied large c
tight_now small large c w le n = tight large c (omega (arith, le, open_less small large (listed c) w)) n

most_step : (b : Bool) (m n : ℕ) → m ≤ n → cond b 1 0 + m ≤ n + 1
most_step true m n le = omega arith
most_step false m n le = omega arith

pub open_most : (trail lits : List Literal) → open_places trail lits ≤ length lits
open_most trail [] = omega arith
open_most trail (l ∷ lits) = omega (arith, most_step (is_open trail l) (open_places trail lits) (length lits) (open_most trail lits))

-- a number at a place of a list stands in it
pub in_at : (xs : List ℕ) (k : ℕ) → k < length xs → is_in (slice_index_or xs k 0) xs ≡ true
in_at [] k lt = absurd (omega (arith, lt))
in_at (x ∷ xs) zero lt = or_left (eqb x x) (is_in x xs) (eq-eqb x x refl)
in_at (x ∷ xs) (suc k) lt = or_right (eqb x (slice_index_or xs k 0)) (is_in (slice_index_or xs k 0) xs) (in_at xs k (omega (arith, lt)))

-- a number of a longer front
pub in_more : (xs : List ℕ) (k x : ℕ) → k < length xs → is_in x (take (k + 1) xs) ≡ true → (is_in x (take k xs) ≡ true) ⊎ (x ≡ slice_index_or xs k 0)
in_more xs k x lt h =
    let both = subst (λ (ys : List ℕ). is_in x ys ≡ true) (take_more xs k 0 lt) h in
    elim (or_cases (is_in x (take k xs)) (is_in x (slice_index_or xs k 0 ∷ [])) (sym (list_any-append (λ (y : ℕ). eqb y x) (take k xs) (slice_index_or xs k 0 ∷ [])) ∙ both)) [
      | inl i ↦ inl i
      | inr i ↦ elim (or_cases (eqb (slice_index_or xs k 0) x) false i) [
        | inl e ↦ inr (sym (eqb-true _ _ e))
        | inr e ↦ absurd cc
      ]
    ]

pub settled_step : (ws : List Watching) (pending : List ℕ) (k : ℕ) (t u v : Trailed) → k < length pending → IsGrown t u → IsGrown u v → IsGrown t v → (IsShort (literals v.made) (at_slot ws (slice_index_or pending k 0)).c → ⊥) → AreSettled (literals t.made) (literals u.made) ws (take k pending) → AreSettled (literals t.made) (literals v.made) ws (take (k + 1) pending)
settled_step ws pending k t u v lt g h all quiet s slot i le = elim (in_more pending k slot lt i) [
  | inl a ↦ satisfied_within (literals u.made) (literals v.made) (at_slot ws slot).c (all_within_grown u.level u.made v.made h.grows) (s slot a le)
  | inr e ↦ tight_now (literals t.made) (literals v.made) (at_slot ws slot).c (all_within_grown t.level t.made v.made all.grows) le (subst (λ (z : ℕ). IsShort (literals v.made) (at_slot ws z).c → ⊥) (sym e) quiet)
]
