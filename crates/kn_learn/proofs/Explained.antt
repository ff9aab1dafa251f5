-- A run of the reasons of places that explain one another gives their literals.
use Rattle.std.proofs.Common.{◌≡◌, ℕ, ◌≤◌, ◌<◌, ◌⊎◌, ◌++◌, Bool, true, false, not, cond, eqb, List, [], ◌∷◌, map, length, take, Option, None, Some, refl, sym, ap, ◌∙◌, subst, inl, inr, arith}
use Rattle.std.specs.List.{AllByRecursion, slice_get}
use Rattle.std.specs.Option.{option_and_then, option_map}
use Rattle.std.proofs.lemmas.Bool.{or_cases, or_left, or_right, eqb-true, cases_Bool, cases_lt}
use Rattle.std.proofs.lemmas.Option.{same_Some}
use Rattle.std.proofs.lemmas.List.{take_all}
use Rattle.kn_logic.specs.Literals.{Literal, negated, has}
use Rattle.kn_logic.specs.Constraints.{Bounded}
use Rattle.kn_logic.specs.Propagation.{after_hint, hint_run, Forces}
use Rattle.kn_logic.proofs.Public.{has-filtered, Covers, Grows, hint-keeps}
use Rattle.kn_watch.specs.declared.trail.Made.{Made}
use Rattle.kn_watch.specs.Trails.{literals}
use Rattle.kn_propagate.specs.Engines.{Live, live_in}
use Rattle.kn_learn.specs.Lessons.{hinted_by}
use Rattle.kn_learn.specs.Reasons.{rests_on, contains, RestsOn, IsForcedTrail, IsExplained, IsAscending, id_of, reason_or, reason_at, is_last, without_repeats}
use Rattle.kn_learn.proofs.Runs.{rested, gives-rested, conflict-rested}
use Rattle.kn_learn.proofs.Forced.{filter-passes, forced-earlier}
use Rattle.kn_learn.proofs.Places.{has-place, place-has, same-made}

-- The list has the literals of these places.
abbrev HasPlaces : List Made → List ℕ → List Literal → Type 0
HasPlaces made places big = (q : ℕ) (m : Made) → contains places q ≡ true → slice_get made q ≡ Some m → has big m.lit ≡ true

-- the run has ended in conflict, or its list is such
abbrev OnRun : (List Literal → Type 0) → Option (List Literal) → Type 0
OnRun P None = Unit {0}
OnRun P (Some next) = P next

abbrev HasAll : List Made → List Literal → List ℕ → List Literal → Type 0
HasAll made start places big = Covers start big × HasPlaces made places big

-- The list has all literals from this place on whose reason is the last hint.
abbrev HasForced : List Made → Option ℕ → ℕ → List Literal → Type 0
HasForced made None place big = Unit {0}
HasForced made (Some id) place big = (q : ℕ) (m : Made) → place ≤ q → slice_get made q ≡ Some m → m.reason ≡ Some id → has big m.lit ≡ true

above : (p q : ℕ) (ps : List ℕ) → AllByRecursion (λ r. p ≤ r) ps → contains ps q ≡ true → p ≤ q
above p q [] h e = absurd cc
above p q (r ∷ ps) h e = elim (or_cases (eqb r q) (contains ps q) e) [ inl s ↦ omega (arith, h.0, eqb-true r q s) | inr s ↦ above p q ps h.1 s ]

-- a place of all, before the first of those that are left, is one of those that are done
is-done : (places done ps : List ℕ) (p q : ℕ) → AllByRecursion (λ r. p ≤ r) ps → ((r : ℕ) → contains places r ≡ true → (contains done r ≡ true) ⊎ (contains (p ∷ ps) r ≡ true)) → q < p → contains places q ≡ true → contains done q ≡ true
is-done places done ps p q up split less h =
    elim (split q h) [
      | inl s ↦ s
      | inr s ↦ elim (or_cases (eqb p q) (contains ps q) s) [ inl e ↦ absurd (omega (arith, less, eqb-true p q e)) | inr e ↦ absurd (omega (arith, less, above p q ps up e)) ]
    ]

rests-covered : (made : List Made) (start : List Literal) (places : List ℕ) (done : List ℕ) (c : Bounded) (p : ℕ) (big : List Literal) → RestsOn made start places c p → ((q : ℕ) → q < p → contains places q ≡ true → contains done q ≡ true) → HasAll made start done big → Covers (rested c (take p (literals made))) big
rests-covered made start places done c p big rests before has-all = λ x h.
    let (q, m, less, at, same) = has-place made p x (has-filtered (rests_on c) (take p (literals made)) x h) in
    let on : rests_on c m.lit ≡ true = subst (λ (y : Literal). rests_on c y ≡ true) same (filter-passes (rests_on c) (take p (literals made)) x h) in
    subst (λ (y : Literal). has big y ≡ true) (sym same)
    (elim (rests q m less at on) [ inl s ↦ has-all.0 m.lit s | inr s ↦ has-all.1 q m (before q less s) at ])

reason-is : (made : List Made) (p id : ℕ) (m : Made) → slice_get made p ≡ Some m → m.reason ≡ Some id → reason_at made p ≡ id
reason-is made p id m at is = ap (λ (o : Option Made). reason_or o) at ∙ ap id_of is

hinted-split : (o : Option (List Bounded)) (c : Bounded) (cs : List Bounded) → option_map (λ xs. c ∷ xs) o ≡ Some cs → (rest : List Bounded) × (o ≡ Some rest) × (cs ≡ c ∷ rest)
hinted-split None c cs e = absurd cc
hinted-split (Some rest) c cs e = (rest, refl, sym (same_Some (c ∷ rest) cs e))

hinted-parts : (live : ℕ → Option Bounded) (id : ℕ) (ids : List ℕ) (c : Bounded) (cs : List Bounded) → live id ≡ Some c → hinted_by live (id ∷ ids) ≡ Some cs → (rest : List Bounded) × (hinted_by live ids ≡ Some rest) × (cs ≡ c ∷ rest)
hinted-parts live id ids c cs is e =
    hinted-split (hinted_by live ids) c cs (subst (λ (o : Option Bounded). option_and_then (λ x. option_map (λ xs. x ∷ xs) (hinted_by live ids)) o ≡ Some cs) is e)

on-next : (P : List Literal → Type 0) (o : Option (List Literal)) (cs : List Bounded) → ((next : List Literal) → o ≡ Some next → OnRun P (hint_run next cs)) → OnRun P (option_and_then (λ next. hint_run next cs) o)
on-next P None cs h = tt
on-next P (Some next) cs h = h next refl

kept-by : (big next : List Literal) (c : Bounded) → after_hint big c ≡ Some next → Covers big next
kept-by big next c e = subst (λ (o : Option (List Literal)). Grows (Some big) o) e (hint-keeps big c)

-- one place more
next-has : (made : List Made) (start : List Literal) (done : List ℕ) (p : ℕ) (m : Made) (big next : List Literal) → HasAll made start done big → Covers big next → has next m.lit ≡ true → slice_get made p ≡ Some m → HasAll made start (p ∷ done) next
next-has made start done p m big next h kept new at = (
  λ l k. kept l (h.0 l k),
  λ q n k get. elim (or_cases (eqb p q) (contains done q) k) [
    | inl s ↦ (let one = same_Some m n (sym at ∙ subst (λ (r : ℕ). slice_get made r ≡ Some n) (sym (eqb-true p q s)) get) in
        subst (λ (x : Made). has next x.lit ≡ true) one new)
    | inr s ↦ kept n.lit (h.1 q n s get)
  ],
)

split-next : (places done ps : List ℕ) (p : ℕ) → ((r : ℕ) → contains places r ≡ true → (contains done r ≡ true) ⊎ (contains (p ∷ ps) r ≡ true)) → (r : ℕ) → contains places r ≡ true → (contains (p ∷ done) r ≡ true) ⊎ (contains ps r ≡ true)
split-next places done ps p h r k =
    elim (h r k) [
      | inl s ↦ inl (or_right (eqb p r) (contains done r) s)
      | inr s ↦ elim (or_cases (eqb p r) (contains ps r) s) [ inl e ↦ inl (or_left (eqb p r) (contains done r) e) | inr e ↦ inr e ]
    ]

all-done : (made : List Made) (start : List Literal) (places done : List ℕ) (big : List Literal) → ((r : ℕ) → contains places r ≡ true → (contains done r ≡ true) ⊎ (contains [] r ≡ true)) → HasAll made start done big → HasAll made start places big
all-done made start places done big split h = (h.0, λ q m k at. elim (split q k) [ inl s ↦ h.1 q m s at | inr s ↦ absurd cc ])

-- what a constraint forced at a later place too
forced-later : (live : List Live) (made : List Made) → IsForcedTrail live made → (p id : ℕ) (m : Made) (c : Bounded) (big next : List Literal) → slice_get made p ≡ Some m → live_in live id ≡ Some c → Forces (take p (literals made)) c m.lit → Covers (rested c (take p (literals made))) big → after_hint big c ≡ Some next → HasForced made (Some id) p next
forced-later live made trail p id m c big next at lives forces covers run q n le get by =
    let small = take p (literals made) in
    let (d, stands, more) = trail.forced q n id get by in
    let same : d ≡ c = same_Some d c (sym stands ∙ lives) in
    let un : has small n.lit ≡ false = not-yet p q n le get in
    gives-rested small big c n.lit (elim (cases_lt p q) [
      | inl less ↦ forced-earlier small (take q (literals made)) c m.lit n.lit (fronts p q le) (apart q) (trail.new p m at) forces
          (place-has made q p m less at) (trail.new q n get) (subst (λ (x : Bounded). Forces (take q (literals made)) x n.lit) same more)
      | inr more-le ↦ subst (λ (x : Made). Forces small c x.lit) (same_Some m n (sym at ∙ subst (λ (k : ℕ). slice_get made k ≡ Some n) (equal p q le more-le) get)) forces
    ]) un covers next run
  where
    equal : (p q : ℕ) → p ≤ q → q ≤ p → q ≡ p
    equal p q h k = omega (arith, h, k)

    fronts : (p q : ℕ) → p ≤ q → Covers (take p (literals made)) (take q (literals made))
    fronts p q le = λ l h. (let (r, x, less, get, same) = has-place made p l h in
        subst (λ (y : Literal). has (take q (literals made)) y ≡ true) (sym same) (place-has made q r x (omega (arith, less, le)) get))

    not-yet : (p q : ℕ) (n : Made) → p ≤ q → slice_get made q ≡ Some n → has (take p (literals made)) n.lit ≡ false
    not-yet p q n le get = elim (cases_Bool (has (take p (literals made)) n.lit)) [
      | inl s ↦ (let t = fronts p q le n.lit s in let f = trail.new q n get in absurd cc)
      | inr s ↦ s
    ]

    differ : (b : Bool) → not b ≡ b → ⊥
    differ true e = absurd cc
    differ false e = absurd cc

    apart : (q : ℕ) (x : Literal) → has (take q (literals made)) x ≡ true → has (take q (literals made)) (negated x) ≡ true → ⊥
    apart q x h k =
        let (r, a, less, get, is) = has-place made q x h in
        let (s, b, lt, at-b, same) = has-place made q (negated x) k in
        let one = same-made made s r b a trail.different at-b get (sym (ap (λ (l : Literal). l.variable) same) ∙ ap (λ (l : Literal). l.variable) is) in
        differ x.positive (ap (λ (l : Literal). l.positive) same ∙ ap (λ (y : Made). y.lit.positive) one ∙ sym (ap (λ (l : Literal). l.positive) is))

forced-on : (made : List Made) (last : Option ℕ) (low high : ℕ) (big : List Literal) → low ≤ high → HasForced made last low big → HasForced made last high big
forced-on made None low high big le h = tt
forced-on made (Some id) low high big le h = λ q m more at by. h q m (omega (arith, le, more)) at by

last-has : (made : List Made) (last : Option ℕ) (id p : ℕ) (m : Made) (big : List Literal) → is_last last id ≡ true → HasForced made last p big → slice_get made p ≡ Some m → m.reason ≡ Some id → has big m.lit ≡ true
last-has made None id p m big e h at is = absurd cc
last-has made (Some x) id p m big e h at is = h p m (omega arith) at (subst (λ (n : ℕ). m.reason ≡ Some n) (sym (eqb-true x id e)) is)

-- one place of a run: its reason was the last hint, or is run
run-step : (live : List Live) (made : List Made) (start : List Literal) (places : List ℕ) → IsForcedTrail live made → (p : ℕ) (ps done : List ℕ) (last : Option ℕ) (low : ℕ) (b : Bool) → is_last last (reason_at made p) ≡ b → IsExplained live made start places p → AllByRecursion (λ r. p ≤ r) ps → low ≤ p → AllByRecursion (λ r. low ≤ r) ps
    → ((r : ℕ) → contains places r ≡ true → (contains done r ≡ true) ⊎ (contains (p ∷ ps) r ≡ true))
    → ((d : List ℕ) (l : Option ℕ) (n : ℕ) → AllByRecursion (λ r. n ≤ r) ps → ((r : ℕ) → contains places r ≡ true → (contains d r ≡ true) ⊎ (contains ps r ≡ true)) → (cs : List Bounded) → hinted_by (live_in live) (without_repeats l (map (reason_at made) ps)) ≡ Some cs → (big : List Literal) → HasAll made start d big → HasForced made l n big → OnRun (HasAll made start places) (hint_run big cs))
    → (cs : List Bounded) → hinted_by (live_in live) (cond b (without_repeats last (map (reason_at made) ps)) (reason_at made p ∷ without_repeats (Some (reason_at made p)) (map (reason_at made) ps))) ≡ Some cs → (big : List Literal) → HasAll made start done big → HasForced made last low big → OnRun (HasAll made start places) (hint_run big cs)
run-step live made start places trail p ps done last low true is (m, id, at, by, rests) up le lows split ih cs hints big h f =
    let named = reason-is made p id m at by in
    let there = last-has made last id p m big (subst (λ (n : ℕ). is_last last n ≡ true) named is) (forced-on made last low p big le f) at by in
    ih (p ∷ done) last low lows (split-next places done ps p split) cs hints big (next-has made start done p m big big h (λ l k. k) there at) f
run-step live made start places trail p ps done last low false is (m, id, at, by, rests) up le lows split ih cs hints big h f =
    let (c, lives, forces) = trail.forced p m id at by in
    let named : live_in live (reason_at made p) ≡ Some c = ap (λ (n : ℕ). live_in live n) (reason-is made p id m at by) ∙ lives in
    let (more, ids, whole) = hinted-parts (live_in live) (reason_at made p) (without_repeats (Some (reason_at made p)) (map (reason_at made) ps)) c cs named hints in
    let covers = rests-covered made start places done c p big (rests c lives) (λ q less k. is-done places done ps p q up split less k) h in
    let gives = gives-rested (take p (literals made)) big c m.lit forces (trail.new p m at) covers in
    subst (λ (hs : List Bounded). OnRun (HasAll made start places) (hint_run big hs)) (sym whole)
    (on-next (HasAll made start places) (after_hint big c) more
    (λ next run. ih (p ∷ done) (Some (reason_at made p)) p up (split-next places done ps p split) more ids next
    (next-has made start done p m big next h (kept-by big next c run) (gives next run) at)
    (forced-later live made trail p (reason_at made p) m c big next at named forces covers run)))

-- The reasons of places that explain one another, run in the order of the places, give all their literals.
run-reaches : (live : List Live) (made : List Made) (start : List Literal) (places : List ℕ) → IsForcedTrail live made → (rest done : List ℕ) (last : Option ℕ) (low : ℕ) → AllByRecursion (IsExplained live made start places) rest → IsAscending rest → AllByRecursion (λ r. low ≤ r) rest
    → ((r : ℕ) → contains places r ≡ true → (contains done r ≡ true) ⊎ (contains rest r ≡ true)) → (cs : List Bounded) → hinted_by (live_in live) (without_repeats last (map (reason_at made) rest)) ≡ Some cs → (big : List Literal) → HasAll made start done big → HasForced made last low big → OnRun (HasAll made start places) (hint_run big cs)
run-reaches live made start places trail [] done last low explained up lows split cs hints big h f =
    subst (λ (hs : List Bounded). OnRun (HasAll made start places) (hint_run big hs)) (same_Some [] cs hints) (all-done made start places done big split h)
run-reaches live made start places trail (p ∷ ps) done last low explained up lows split cs hints big h f =
    run-step live made start places trail p ps done last low (is_last last (reason_at made p)) refl explained.0 up.0 lows.0 lows.1 split
    (λ d l n ns s ds k b a g. run-reaches live made start places trail ps d l n explained.1 up.1 ns s ds k b a g) cs hints big h f

-- one hint more, that ends the run
next-ends : (P : List Literal → Type 0) (o : Option (List Literal)) (cs : List Bounded) (c : Bounded) → OnRun P (option_and_then (λ next. hint_run next cs) o) → ((next : List Literal) → OnRun P (hint_run next cs) → hint_run next (cs ++ c ∷ []) ≡ None) → option_and_then (λ next. hint_run next (cs ++ c ∷ [])) o ≡ None
next-ends P None cs c h ih = refl
next-ends P (Some next) cs c h ih = ih next h

run-ends : (P : List Literal → Type 0) (cs : List Bounded) (big : List Literal) (c : Bounded) → OnRun P (hint_run big cs) → ((next : List Literal) → P next → after_hint next c ≡ None) → hint_run big (cs ++ c ∷ []) ≡ None
run-ends P [] big c h k = rw (k big h) refl
run-ends P (d ∷ cs) big c h k = next-ends P (after_hint big d) cs c h (λ next m. run-ends P cs next c m k)

-- all hints are live
hinted-push : (live : ℕ → Option Bounded) (id : ℕ) (ids : List ℕ) (c : Bounded) (cs : List Bounded) → live id ≡ Some c → hinted_by live ids ≡ Some cs → hinted_by live (id ∷ ids) ≡ Some (c ∷ cs)
hinted-push live id ids c cs e f = rw (e, f) refl

pub reasons-live : (live : List Live) (made : List Made) (start : List Literal) (places : List ℕ) → IsForcedTrail live made → (rest : List ℕ) (last : Option ℕ) → AllByRecursion (IsExplained live made start places) rest → (cs : List Bounded) × (hinted_by (live_in live) (without_repeats last (map (reason_at made) rest)) ≡ Some cs)
reasons-live live made start places trail [] last h = ([], refl)
reasons-live live made start places trail (p ∷ ps) last h =
    one (is_last last (reason_at made p)) last p ps h.0 (λ l. reasons-live live made start places trail ps l h.1)
  where
    one : (b : Bool) (last : Option ℕ) (p : ℕ) (ps : List ℕ) → IsExplained live made start places p → ((l : Option ℕ) → (cs : List Bounded) × (hinted_by (live_in live) (without_repeats l (map (reason_at made) ps)) ≡ Some cs))
        → (cs : List Bounded) × (hinted_by (live_in live) (cond b (without_repeats last (map (reason_at made) ps)) (reason_at made p ∷ without_repeats (Some (reason_at made p)) (map (reason_at made) ps))) ≡ Some cs)
    one true last p ps e ih = ih last
    one false last p ps (m, id, at, by, rests) ih =
        let (c, lives, forces) = trail.forced p m id at by in
        let named : live_in live (reason_at made p) ≡ Some c = ap (λ (n : ℕ). live_in live n) (reason-is made p id m at by) ∙ lives in
        let (cs, hints) = ih (Some (reason_at made p)) in
        (c ∷ cs, hinted-push (live_in live) (reason_at made p) (without_repeats (Some (reason_at made p)) (map (reason_at made) ps)) c cs named hints)

no-floor : (ps : List ℕ) → AllByRecursion (λ r. 0 ≤ r) ps
no-floor [] = tt
no-floor (p ∷ ps) = (omega arith, no-floor ps)

-- From the literals that are started from, the reasons in the order of their places and then the conflict end in
-- conflict.
pub explained-conflict : (live : List Live) (made : List Made) (start : List Literal) (places : List ℕ) (c : Bounded) (cs : List Bounded) → IsForcedTrail live made → AllByRecursion (IsExplained live made start places) places → IsAscending places → after_hint (literals made) c ≡ None → RestsOn made start places c (length (literals made)) → hinted_by (live_in live) (without_repeats None (map (reason_at made) places)) ≡ Some cs → hint_run start (cs ++ c ∷ []) ≡ None
explained-conflict live made start places c cs trail explained up conflict rests hints =
    run-ends (HasAll made start places) cs start c
    (run-reaches live made start places trail places [] None 0 explained up (no-floor places) (λ r k. inr k) cs hints start (λ l k. k, λ q m k at. absurd cc) tt)
    (λ next h. conflict-rested (literals made) next c conflict
    (subst (λ (lits : List Literal). Covers (rested c lits) next) (take_all (length (literals made)) (literals made) (omega arith))
    (rests-covered made start places places c (length (literals made)) next rests (λ q less k. k) h)))
