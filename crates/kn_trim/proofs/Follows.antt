-- The state of the trimmed proof beside that of the whole one.
use Rattle.std.proofs.Common.{◌≡◌, ℕ, zero, suc, ◌+◌, ◌-◌, ◌≤◌, Bool, true, false, cond, eqb, ltb, List, [], ◌∷◌, map, length, Option, None, Some, IfSome, refl, sym, ap, ◌∙◌, subst, arith}
use Rattle.std.specs.List.{AllByRecursion, slice_get}
use Rattle.std.specs.Option.{option_map, option_and_then}
use Rattle.std.proofs.lemmas.Bool.{cond_both, ltb-true, lt-ltb}
use Rattle.kn_logic.specs.Constraints.{Bounded}
use Rattle.kn_rules.specs.declared.definition.Definition.{Definition}
use Rattle.kn_rules.specs.declared.given.Given.{Given}
use Rattle.kn_rules.specs.States.{ProofState, definition_of, given_at, live_at}
use Rattle.kn_rules.specs.Steps.{hinted}
use Rattle.kn_trim.specs.Numbers.{mark_at, is_marked, new_number}
use Rattle.kn_trim.specs.Used.{picked}
use Rattle.kn_trim.specs.Needed.{Kept, AreMarked, renumbered_constraint}
use Rattle.kn_trim.proofs.NumberLemmas.{number-apart, number_positive, number-mono, number-step, number-at}
use Rattle.kn_trim.proofs.Renaming.{IsInjective, IsOver}
use Rattle.kn_trim.proofs.Grids.{IsDefinedOver, renumbered_definition, AreDefinedAlike}

abbrev pub IsKept : List Bool → ℕ → Type 0
IsKept marks n = is_marked marks n ≡ true

pub injective : (marks : List Bool) → IsInjective (IsKept marks) (new_number marks)
injective marks = record { apart = number-apart marks }

-- the constraint of an entry, if there is one that is live
abbrev pub live_in : Option Given → Option Bounded
live_in o = option_and_then (λ (entry : Given). entry.live) o

-- what stands at this place of the one list stands, by its new numbers, at the new place of the other
pub record IsLiveAlike (kept : Kept) (given' : List Given) (place : ℕ) (c : Bounded) : Type 0 where
  pub same : live_in (slice_get given' (new_number kept.ids place)) ≡ Some (renumbered_constraint (new_number kept.variables) c)
  pub over : IsOver (IsKept kept.variables) c

abbrev pub IsEntryAlike : Kept → List Given → ℕ → Given → Type 0
IsEntryAlike kept given' place entry = mark_at kept.ids place ≡ true → IfSome entry.live (IsLiveAlike kept given' place)

pub record IsDefinitionAlike (kept : Kept) (base : ℕ) (definitions' : List Definition) (place : ℕ) (d : Definition) : Type 0 where
  pub same : slice_get definitions' (new_number kept.variables (base + place) - base) ≡ Some (renumbered_definition (new_number kept.variables) d)
  pub over : IsDefinedOver (IsKept kept.variables) d

-- The first `base` variables are the formula's.
pub record Follows (base : ℕ) (kept : Kept) (s t : ProofState) : Type 0 where
  pub vars : t.vars ≡ new_number kept.variables s.vars
  pub ids : length t.given ≡ new_number kept.ids (length s.given)
  pub count : s.vars ≡ base + length s.definitions
  pub count' : t.vars ≡ base + length t.definitions
  pub first : new_number kept.variables base ≡ base
  pub live : (place : ℕ) → IfSome (slice_get s.given place) (IsEntryAlike kept t.given place)
  pub defined : (place : ℕ) → IfSome (slice_get s.definitions place) (λ d. mark_at kept.variables (base + place) ≡ true → IsDefinitionAlike kept base t.definitions place d)

-- numbers count from 1, and places from 0
pub given-at : (given : List Given) (place : ℕ) → given_at given (suc place) ≡ slice_get given place
given-at given place =
    let some : eqb (suc place) 0 ≡ false = grind arith in
    let here : suc place - 1 ≡ place = omega arith in
    rw (some, here) refl

-- an id that is kept
pub live-alike : (base : ℕ) (kept : Kept) (s t : ProofState) → Follows base kept s t → (id : ℕ) → IsKept kept.ids id → (c : Bounded) → live_at s.given id ≡ Some c → (live_at t.given (new_number kept.ids id) ≡ Some (renumbered_constraint (new_number kept.variables) c)) × IsOver (IsKept kept.variables) c
live-alike base kept s t h zero k c e = absurd cc
live-alike base kept s t h (suc place) k c e =
    let here : live_in (slice_get s.given place) ≡ Some c = ap live_in (sym (given-at s.given place)) ∙ e in
    let found : IsLiveAlike kept t.given place c = entry (slice_get s.given place) (h.live place) here in
    let number : new_number kept.ids (suc place) ≡ suc (new_number kept.ids place) = number-step kept.ids place ∙ ap (λ m. new_number kept.ids place + cond m 1 0) k ∙ omega arith in
    (ap (live_at t.given) number ∙ ap live_in (given-at t.given (new_number kept.ids place)) ∙ found.same, found.over)
  where
    entry : (o : Option Given) → IfSome o (IsEntryAlike kept t.given place) → live_in o ≡ Some c → IsLiveAlike kept t.given place c
    entry None m f = absurd cc
    entry (Some g) m f = subst (λ (x : Option Bounded). IfSome x (IsLiveAlike kept t.given place)) f (m k)

-- the definitions of what is kept
pub defined-alike : (base : ℕ) (kept : Kept) (s t : ProofState) → Follows base kept s t → AreDefinedAlike (IsKept kept.variables) (new_number kept.variables) (definition_of s) (definition_of t)
defined-alike base kept s t h = record { alike = at }
  where
    r : ℕ → ℕ
    r = new_number kept.variables

    found : (v place : ℕ) → v ≡ base + place + 1 → is_marked kept.variables v ≡ true → (o : Option Definition) → IfSome o (λ d. mark_at kept.variables (base + place) ≡ true → IsDefinitionAlike kept base t.definitions place d) → IfSome o (λ d. (definition_of t (new_number kept.variables v) ≡ Some (renumbered_definition (new_number kept.variables) d)) × IsDefinedOver (IsKept kept.variables) d)
    found v place e k None m = tt
    found v place e k (Some d) m =
        let next : v ≡ suc (base + place) = omega (arith, e) in
        let marked : mark_at kept.variables (base + place) ≡ true = subst (λ n. is_marked kept.variables n ≡ true) next k in
        let alike : IsDefinitionAlike kept base t.definitions place d = m marked in
        let number : new_number kept.variables (base + place + 1) ≡ new_number kept.variables (base + place) + 1 = number-at kept.variables (base + place) true marked in
        let more : new_number kept.variables base ≤ new_number kept.variables (base + place) = number-mono kept.variables base (base + place) (omega arith) in
        let new : new_number kept.variables v ≡ new_number kept.variables (base + place) + 1 = ap (new_number kept.variables) e ∙ number in
        let base' : t.vars - length t.definitions ≡ base = omega (arith, h.count') in
        let above : ltb (t.vars - length t.definitions) (new_number kept.variables v) ≡ true = lt-ltb _ _ (omega (arith, base', new, more, h.first)) in
        let where' : new_number kept.variables v - (t.vars - length t.definitions) - 1 ≡ new_number kept.variables (base + place) - base = omega (arith, base', new, more, h.first) in
        (rw above (rw where' alike.same), alike.over)

    at : (v : ℕ) → IsKept kept.variables v → IfSome (definition_of s v) (λ d. (definition_of t (new_number kept.variables v) ≡ Some (renumbered_definition (new_number kept.variables) d)) × IsDefinedOver (IsKept kept.variables) d)
    at v k =
        let base' : s.vars - length s.definitions ≡ base = omega (arith, h.count) in
        cond_both (ltb (s.vars - length s.definitions) v) (slice_get s.definitions (v - (s.vars - length s.definitions) - 1)) None (λ o. IfSome o (λ d. (definition_of t (new_number kept.variables v) ≡ Some (renumbered_definition (new_number kept.variables) d)) × IsDefinedOver (IsKept kept.variables) d))
        (λ e.
        let less = ltb-true _ _ e in
        found v (v - (s.vars - length s.definitions) - 1) (omega (arith, less, base')) k _ (h.defined (v - (s.vars - length s.definitions) - 1)))
        (λ _. tt)

-- a variable that is kept is known
pub known-alike : (base : ℕ) (kept : Kept) (s t : ProofState) → Follows base kept s t → (v : ℕ) → IsKept kept.variables v → v ≤ s.vars → (1 ≤ new_number kept.variables v) × (new_number kept.variables v ≤ t.vars)
known-alike base kept s t h v k le =
    let positive = number_positive kept.variables v k in
    let below = number-mono kept.variables v s.vars le in
    (positive, omega (arith, below, h.vars))

-- the hints that are kept
abbrev pub AreHintsAlike : Kept → ProofState → List ℕ → List Bounded → Type 0
AreHintsAlike kept t ids cs = (hinted t.given (map (new_number kept.ids) ids) ≡ Some (map (renumbered_constraint (new_number kept.variables)) cs)) × AllByRecursion (IsOver (IsKept kept.variables)) cs

hint-more : (kept : Kept) (t : ProofState) (id : ℕ) (c : Bounded) (ids : List ℕ) (cs : List Bounded) → live_at t.given (new_number kept.ids id) ≡ Some (renumbered_constraint (new_number kept.variables) c) → IsOver (IsKept kept.variables) c → AreHintsAlike kept t ids cs → AreHintsAlike kept t (id ∷ ids) (c ∷ cs)
hint-more kept t id c ids cs e o h = (rw (e, h.0) refl, (o, h.1))

pub hinted-parts : (given : List Given) (id : ℕ) (ids : List ℕ) (cs : List Bounded) → hinted given (id ∷ ids) ≡ Some cs → (c : Bounded) × (rest : List Bounded) × (live_at given id ≡ Some c) × (hinted given ids ≡ Some rest) × (cs ≡ c ∷ rest)
hinted-parts given id ids cs e = split (live_at given id) (hinted given ids) refl refl e
  where
    split : (o : Option Bounded) (p : Option (List Bounded)) → live_at given id ≡ o → hinted given ids ≡ p → option_and_then (λ (c : Bounded). option_map (λ (xs : List Bounded). c ∷ xs) p) o ≡ Some cs → (c : Bounded) × (rest : List Bounded) × (live_at given id ≡ Some c) × (hinted given ids ≡ Some rest) × (cs ≡ c ∷ rest)
    split None p a b e = absurd cc
    split (Some c) None a b e = absurd cc
    split (Some c) (Some rest) a b e = (c, rest, a, b, cc)

hinted-turn : (base : ℕ) (kept : Kept) (s t : ProofState) → Follows base kept s t → (id : ℕ) (ids : List ℕ) (c : Bounded) (cs : List Bounded) (m : Bool) (marks : List Bool) → live_at s.given id ≡ Some c → (AreMarked kept.ids (picked marks ids) → AreHintsAlike kept t (picked marks ids) (picked marks cs)) → AreMarked kept.ids (picked (m ∷ marks) (id ∷ ids)) → AreHintsAlike kept t (picked (m ∷ marks) (id ∷ ids)) (picked (m ∷ marks) (c ∷ cs))
hinted-turn base kept s t h id ids c cs true marks e rest k =
    let one = live-alike base kept s t h id k.0 c e in
    hint-more kept t id c (picked marks ids) (picked marks cs) one.0 one.1 (rest k.1)
hinted-turn base kept s t h id ids c cs false marks e rest k = rest k

pub hinted-alike : (base : ℕ) (kept : Kept) (s t : ProofState) → Follows base kept s t → (marks : List Bool) (ids : List ℕ) (cs : List Bounded) → hinted s.given ids ≡ Some cs → AreMarked kept.ids (picked marks ids) → AreHintsAlike kept t (picked marks ids) (picked marks cs)
hinted-alike base kept s t h [] ids cs e k = (refl, tt)
hinted-alike base kept s t h (m ∷ marks) [] [] e k = (refl, tt)
hinted-alike base kept s t h (m ∷ marks) [] (c ∷ cs) e k = absurd cc
hinted-alike base kept s t h (m ∷ marks) (id ∷ ids) cs e k =
    let parts = hinted-parts s.given id ids cs e in
    subst (λ (xs : List Bounded). AreHintsAlike kept t (picked (m ∷ marks) (id ∷ ids)) (picked (m ∷ marks) xs)) (sym parts.4)
    (hinted-turn base kept s t h id ids parts.0 parts.1 m marks parts.2 (λ n. hinted-alike base kept s t h marks ids parts.1 parts.3 n) k)
