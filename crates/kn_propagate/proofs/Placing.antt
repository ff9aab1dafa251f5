-- A new constraint among the tables: at rest, or to be looked at by the next propagation.
use Rattle.std.proofs.Common.{◌≡◌, ◌≢◌, ℕ, zero, ◌+◌, ◌*◌, ◌≤◌, ◌<◌, ◌⊎◌, ◌++◌, Bool, true, false, not, eqb, cond, List, [], ◌∷◌, Option, Some, None, length, take, refl, sym, ap, ◌∙◌, subst, inl, inr, arith}
use Rattle.std.specs.Prelude.{slice_get, nat_lt, ◌||◌}
use Rattle.std.proofs.lemmas.Bool.{cases_lt, not_from_true, or_left, or_right, or_cases, eq-eqb, eqb-true, le-ltb, cond-false}
use Rattle.std.proofs.lemmas.List.Folds.{list_any-append}
use Rattle.kn_logic.proofs.Public.{negated_twice}
use Rattle.kn_logic.specs.Literals.{Literal, negated, has}
use Rattle.kn_logic.specs.Constraints.{Bounded, IsWithin}
use Rattle.kn_logic.specs.Propagation.{is_open, open_places, IsShort, Forces}
use Rattle.kn_watch.specs.declared.trail.Made.{Made}
use Rattle.kn_watch.specs.Trails.{Trailed, literals, below, IsTrail}
use Rattle.kn_watch.specs.declared.watched.Visit.{Visit}
use Rattle.kn_watch.specs.declared.watched.Visit.TheVariants as turned
use Rattle.kn_watch.specs.Watches.{listed, unguarded, NoneFalse, IsBinding, IsSatisfied, IsConflicting, IsForcing, HasWatches, IsLatest, IsStart}
use Rattle.kn_watch.proofs.Public.{open_append, tight, started, none_false_within, settled_now, rising_top, below_top}
use Rattle.kn_propagate.specs.Chains.{Watching, Chained, at_slot, is_in, nobody, nothing, vacancy, IsKept, IsAtRest, IsStill, AreSpare}
use Rattle.kn_propagate.specs.Wholes.{IsPending, IsGuarded, IsQuiet, AreFounded, IsTabled}
use Rattle.kn_propagate.proofs.Changing.{Changes, each}
use Rattle.kn_propagate.proofs.Walks.{has_take}
use Rattle.kn_propagate.proofs.Looking.{quiet_look, open_most}

-- how many places are left
shut : (trail : List Literal) (g : Literal) → has trail g ≡ true → is_open trail (negated g) ≡ false
shut trail g h = subst (λ (z : Literal). not (has trail z) ≡ false) (sym (negated_twice g)) (not_from_true _ h)

none_more : (b : Bool) → b ≡ false → cond b 1 0 + 0 ≡ 0
none_more true e = absurd cc
none_more false e = omega arith

one_more : (b : Bool) → cond b 1 0 + 0 ≤ 1
one_more true = omega arith
one_more false = omega arith

bound_few : (trail : List Literal) (lits : List Literal) (bound : ℕ) (guard : Option Literal) → open_places trail lits ≤ bound → IsBinding trail guard → open_places trail lits + open_places trail (unguarded guard) ≤ bound
bound_few trail lits bound None le b = omega (arith, le)
bound_few trail lits bound (Some g) le b = omega (arith, le, none_more (is_open trail (negated g)) (shut trail g b))

guard_few : (trail : List Literal) (lits : List Literal) (bound : ℕ) (guard : Option Literal) → open_places trail lits < bound → open_places trail lits + open_places trail (unguarded guard) ≤ bound
guard_few trail lits bound None lt = omega (arith, lt)
guard_few trail lits bound (Some g) lt = omega (arith, lt, one_more (is_open trail (negated g)))

pub conflict_few : (trail : List Literal) (c : Bounded) → IsConflicting trail c → open_places trail (listed c) ≤ c.bound
conflict_few trail c k = omega (arith, open_append trail c.lits (unguarded c.guard), guard_few trail c.lits c.bound c.guard k.0)

pub forcing_few : (trail : List Literal) (c : Bounded) → IsForcing trail c → open_places trail (listed c) ≤ c.bound
forcing_few trail c f = elim (f.2.1) [
  | inl o ↦ omega (arith, open_append trail c.lits (unguarded c.guard), bound_few trail c.lits c.bound c.guard (omega (arith, o.1)) o.2)
  | inr o ↦ omega (arith, open_append trail c.lits (unguarded c.guard), guard_few trail c.lits c.bound c.guard o.1)
]

below_zero : (made : List Made) → below zero made ≡ []
below_zero [] = refl
below_zero (m ∷ made) = cond-false (nat_lt m.level zero) (m ∷ below zero made) (below zero made) (le-ltb m.level zero (omega arith)) ∙ below_zero made

none_zero : (made : List Made) (c : Bounded) (watched : ℕ → Bool) (level : ℕ) → level ≡ 0 → NoneFalse (literals (below level made)) c watched
none_zero made c watched level z = subst (λ (k : ℕ). NoneFalse (literals (below k made)) c watched) (sym z) (subst (λ (x : List Made). NoneFalse (literals x) c watched) (sym (below_zero made)) (λ place lt w. refl))

-- what is not short under what going back to a lower level leaves
Waits : Trailed → Bounded → Type 0
Waits t c = (k : ℕ) → k < t.level → IsShort (literals (below (k + 1) t.made)) c → ⊥

-- at rest, or to be looked at; and more literals than the bound, or satisfied for good, or to be looked at
abbrev Placed : Trailed → ℕ → List ℕ → ℕ → Watching → Type 0
Placed t visited pending slot w = (IsAtRest t.made (take visited (literals t.made)) w ⊎ IsPending t pending slot w) × IsGuarded t pending slot w

settled_low : (t : Trailed) (visited : ℕ) (pending : List ℕ) (slot : ℕ) (w : Watching) → IsSatisfied (literals (below 1 t.made)) w.c → Placed t visited pending slot w
settled_low t visited pending slot w s = (inl (inl (0, s, none_zero t.made w.c w.watches 0 refl)), inr (inl s))

-- a constraint with no more literals than its bound, above level 0
low : (t : Trailed) (c : Bounded) → length (listed c) ≤ c.bound → Waits t c → 1 ≤ t.level → IsSatisfied (literals (below 1 t.made)) c
unfolding Waits
low t c le waits high = tight (literals (below 1 t.made)) c (omega (arith, le, open_most (literals (below 1 t.made)) (listed c))) (waits 0 high)

all_at : (t : Trailed) → IsTrail t → t.level ≡ 0 → below 1 t.made ≡ t.made
all_at t k z = ap (λ (n : ℕ). below (n + 1) t.made) (sym z) ∙ below_top t.level t.made (rising_top t.level t.made k.rising)

placed_moved : (t : Trailed) (visited : ℕ) (pending : List ℕ) (slot : ℕ) (w : Watching) → NoneFalse (literals t.made) w.c w.watches → (IsSatisfied (literals t.made) w.c → ⊥) → (IsForcing (literals t.made) w.c → ⊥) → (IsConflicting (literals t.made) w.c → ⊥) → Placed t visited pending slot w
placed_moved t visited pending slot w none ns nf nc = (
  inl (inr (none_false_within (take visited (literals t.made)) (literals t.made) w.c w.watches (λ l h. has_take visited (literals t.made) l h) none)),
  elim (cases_lt w.c.bound (length (listed w.c))) [
    | inl b ↦ inl b
    | inr ge ↦ absurd (ns (tight (literals t.made) w.c (omega (arith, ge, open_most (literals t.made) (listed w.c))) (quiet_look (literals t.made) w.c (nc, nf))))
  ],
)

placed_satisfied : (t : Trailed) (visited : ℕ) (pending : List ℕ) (slot : ℕ) (w : Watching) → IsTrail t → IsLatest t.made w.c w.watches → IsSatisfied (literals t.made) w.c → HasWatches w.c w.watches → Waits t w.c → Placed t visited pending slot w
unfolding Waits
placed_satisfied t visited pending slot w k latest sat has waits = elim (cases_lt w.c.bound (length (listed w.c))) [
  | inl b ↦ (
    elim (started t.made w.c w.watches t.level latest has b waits) [
      | inl n ↦ inl (inl (settled_now t.level t.made w.c w.watches (rising_top t.level t.made k.rising) sat n))
      | inr s ↦ inl (inl s)
    ],
    inl b,
  )
  | inr ge ↦ elim (cases_lt 0 t.level) [
    | inl high ↦ settled_low t visited pending slot w (low t w.c ge waits (omega (arith, high)))
    | inr z ↦ settled_low t visited pending slot w (subst (λ (x : List Made). IsSatisfied (literals x) w.c) (sym (all_at t k (omega (arith, z)))) sat)
  ]
]

placed_due : (t : Trailed) (visited : ℕ) (pending : List ℕ) (slot : ℕ) (w : Watching) → IsTrail t → IsLatest t.made w.c w.watches → open_places (literals t.made) (listed w.c) ≤ w.c.bound → HasWatches w.c w.watches → Waits t w.c → is_in slot pending ≡ true → Placed t visited pending slot w
unfolding Waits
placed_due t visited pending slot w k latest few has waits i = elim (cases_lt w.c.bound (length (listed w.c))) [
  | inl b ↦ (
    elim (started t.made w.c w.watches t.level latest has b waits) [
      | inl n ↦ inr (i, n, few)
      | inr s ↦ inl (inl s)
    ],
    inl b,
  )
  | inr ge ↦ elim (cases_lt 0 t.level) [
    | inl high ↦ settled_low t visited pending slot w (low t w.c ge waits (omega (arith, high)))
    | inr z ↦ (inr (i, none_zero t.made w.c w.watches t.level (omega (arith, z)), few), inr (inr (omega (arith, z), i)))
  ]
]

-- no literal was forced by what the slot held
abbrev pub IsUnneeded : List Watching → List Made → ℕ → Type 0
IsUnneeded ws made slot = (place : ℕ) (m : Made) (id : ℕ) → slice_get made place ≡ Some m → m.reason ≡ Some id → (at_slot ws slot).id ≡ Some id → ⊥

pub unneeded_free : (ws : List Watching) (made : List Made) (slot : ℕ) → (at_slot ws slot).id ≡ None → IsUnneeded ws made slot
unneeded_free ws made slot n place m id e r i = absurd cc

founded_changed : (ws new : List Watching) (slot : ℕ) (w : Watching) (made : List Made) → Changes ws new slot w → IsUnneeded ws made slot → AreFounded ws made → AreFounded new made
founded_changed ws new slot w made c free f place m e = elim (f place m e) [
  | inl a ↦ inl a
  | inr a ↦ (
      let h = a.0 in
      let d : h.0 ≢ slot = λ q. free place m h.1 e h.3 (subst (λ (z : ℕ). (at_slot ws z).id ≡ Some h.1) q h.4) in
      let lt : h.0 < length new = omega (arith, h.2, c.long) in
      let s = (c.others h.0 lt d).1 in
      inr ((h.0, h.1, lt, h.3, ap (λ (x : Watching). x.id) s ∙ h.4, subst (λ (x : Watching). Forces (take place (literals made)) x.c m.lit) (sym s) h.5), a.1))
]

pending_more : (t : Trailed) (pending more : List ℕ) (slot : ℕ) (w : Watching) → (is_in slot pending ≡ true → is_in slot more ≡ true) → IsPending t pending slot w → IsPending t more slot w
pending_more t pending more slot w h p = (h p.0, p.1, p.2)

guarded_more : (t : Trailed) (pending more : List ℕ) (slot : ℕ) (w : Watching) → (is_in slot pending ≡ true → is_in slot more ≡ true) → IsGuarded t pending slot w → IsGuarded t more slot w
guarded_more t pending more slot w h g = elim g [
  | inl b ↦ inl b
  | inr g ↦ elim g [
    | inl s ↦ inr (inl s)
    | inr z ↦ inr (inr (z.0, h z.1))
  ]
]

tabled_changed : (t : Trailed) (ws new : List Watching) (slot : ℕ) (w : Watching) (chains more : Chained) (visited : ℕ) (pending due : List ℕ) → IsTabled t ws chains visited pending → Changes ws new slot w → IsUnneeded ws t.made slot → IsStill new more → AreSpare more → length more.heads ≡ 2 * t.vars + 3 → length new ≤ nobody → IsKept t.vars w → Waits t w.c
    → ((x : ℕ) → is_in x pending ≡ true → is_in x due ≡ true) → ((x : ℕ) → is_in x due ≡ true → (is_in x pending ≡ true) ⊎ (x ≡ slot)) → Placed t visited due slot w → IsTabled t new more visited due
unfolding Waits
tabled_changed t ws new slot w chains more visited pending due e c free still spare sized few kept waits up down placed = record {
  small = e.small;
  sized = sized;
  visited_ = e.visited_;
  few = few;
  kept = each (λ x v. IsKept t.vars v) ws new slot w c (λ x lt d. e.kept x lt) kept;
  fresh = e.fresh;
  founded = founded_changed ws new slot w t.made c free e.founded;
  begun = e.begun;
  still = still;
  spare = spare;
  rest = each (λ x v. IsAtRest t.made (take visited (literals t.made)) v ⊎ IsPending t due x v) ws new slot w c (λ x lt d. elim (e.rest x lt) [
    | inl a ↦ inl a
    | inr p ↦ inr (pending_more t pending due x (at_slot ws x) (up x) p)
  ]) placed.0;
  narrow = each (λ x v. IsGuarded t due x v) ws new slot w c (λ x lt d. guarded_more t pending due x (at_slot ws x) (up x) (e.narrow x lt)) placed.1;
  due = λ x i. elim (down x i) [
    | inl j ↦ omega (arith, e.due x j, c.long)
    | inr j ↦ omega (arith, j, c.inside)
  ];
  lower = λ k kl. each (λ x v. IsShort (literals (below (k + 1) t.made)) v.c → ⊥) ws new slot w c (λ x lt d. e.lower k kl x lt) (waits k kl);
}

in_push : (xs : List ℕ) (y x : ℕ) → is_in x xs ≡ true → is_in x (xs ++ y ∷ []) ≡ true
in_push xs y x i = list_any-append (λ (z : ℕ). eqb z x) xs (y ∷ []) ∙ or_left _ _ i

in_last : (xs : List ℕ) (y : ℕ) → is_in y (xs ++ y ∷ []) ≡ true
in_last xs y = list_any-append (λ (z : ℕ). eqb z y) xs (y ∷ []) ∙ or_right (is_in y xs) _ (or_left (eqb y y) false (eq-eqb y y refl))

in_either : (xs : List ℕ) (y x : ℕ) → is_in x (xs ++ y ∷ []) ≡ true → (is_in x xs ≡ true) ⊎ (x ≡ y)
in_either xs y x i = elim (or_cases (is_in x xs) (eqb y x || false) (sym (list_any-append (λ (z : ℕ). eqb z x) xs (y ∷ [])) ∙ i)) [
  | inl a ↦ inl a
  | inr a ↦ elim (or_cases (eqb y x) false a) [
    | inl b ↦ inr (sym (eqb-true y x b))
    | inr b ↦ absurd cc
  ]
]

abbrev Start : Trailed → Watching → Visit → Type 0
Start t w visit = IsStart t.made w.c w.watches visit

-- a constraint came into a slot that was free
module _ (t : Trailed) (ws new : List Watching) (slot : ℕ) (w : Watching) (chains more : Chained) (visited id : ℕ) (pending : List ℕ) (e : IsTabled t ws chains visited pending) (c : Changes ws new slot w) (free : (at_slot ws slot).id ≡ None) (still : IsStill new more) (spare : AreSpare more) (sized : length more.heads ≡ 2 * t.vars + 3) (few : length new ≤ nobody) (within : IsWithin t.vars w.c) (has : HasWatches w.c w.watches) (is : w.id ≡ Some id) (waits : (k : ℕ) → k < t.level → IsShort (literals (below (k + 1) t.made)) w.c → ⊥) where
  kept : IsKept t.vars w
  kept = record { free = λ n. (let q = sym is ∙ n in absurd cc); within = within; has = has }

  -- not to be looked at
  pub tabled_rests : (((place : ℕ) × Start t w (turned.Moved place)) ⊎ Start t w turned.Satisfied) → IsTabled t new more visited pending
  unfolding Waits
  tabled_rests s =
      tabled_changed t ws new slot w chains more visited pending pending e c (unneeded_free ws t.made slot free) still spare sized few kept waits (λ x i. i) (λ x i. inl i) (elim s [
        | inl m ↦ placed_moved t visited pending slot w m.1.1 m.1.2 m.1.3 m.1.4
        | inr a ↦ placed_satisfied t visited pending slot w e.fresh.trail a.0 a.1 has waits
      ])

  -- to be looked at
  pub tabled_waits : (Start t w turned.Forces ⊎ Start t w turned.Conflict) → IsTabled t new more visited (pending ++ slot ∷ [])
  unfolding Waits
  tabled_waits s =
      let i = in_last pending slot in
      tabled_changed t ws new slot w chains more visited pending (pending ++ slot ∷ []) e c (unneeded_free ws t.made slot free) still spare sized few kept waits (λ x j. in_push pending slot x j) (λ x j. in_either pending slot x j) (elim s [
        | inl f ↦ placed_due t visited (pending ++ slot ∷ []) slot w e.fresh.trail f.0 (forcing_few (literals t.made) w.c f.1) has waits i
        | inr k ↦ placed_due t visited (pending ++ slot ∷ []) slot w e.fresh.trail k.0 (conflict_few (literals t.made) w.c k.1) has waits i
      ])

-- what is at least none of no literals is never short
vacancy_quiet : (trail : List Literal) → IsShort trail nothing → ⊥
vacancy_quiet trail (inl lt) = absurd (omega (arith, lt))
vacancy_quiet trail (inr e) = (let f = e.1 in absurd cc)

kept_vacancy : (vars : ℕ) → IsKept vars vacancy
kept_vacancy vars = record { free = λ n. refl; within = record { guard = tt; lits = tt }; has = refl }

-- a slot is free that was not, or was not there
pub tabled_free : (t : Trailed) (ws new : List Watching) (slot : ℕ) (chains more : Chained) (visited : ℕ) (pending : List ℕ) → IsTabled t ws chains visited pending → Changes ws new slot vacancy → IsUnneeded ws t.made slot → IsStill new more → AreSpare more → length more.heads ≡ 2 * t.vars + 3 → length new ≤ nobody → IsTabled t new more visited pending
unfolding Waits
tabled_free t ws new slot chains more visited pending e c free still spare sized few =
    tabled_changed t ws new slot vacancy chains more visited pending pending e c free still spare sized few (kept_vacancy t.vars) (λ k kl. vacancy_quiet (literals (below (k + 1) t.made))) (λ x i. i) (λ x i. inl i)
    (inl (inr (λ place lt h. absurd (omega (arith, lt)))), inr (inl (inl (omega arith))))

pub quiet_free : (trail : List Literal) (ws new : List Watching) (slot : ℕ) → Changes ws new slot vacancy → IsQuiet trail ws → IsQuiet trail new
quiet_free trail ws new slot c q = each (λ x v. IsShort trail v.c → ⊥) ws new slot vacancy c (λ x lt d. q x lt) (vacancy_quiet trail)
