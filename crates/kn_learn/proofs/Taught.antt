-- What an analysis that is done gives: a clause that is new, with hints that refute its negation.
use Rattle.std.proofs.Common.{◌≡◌, ℕ, zero, suc, ◌+◌, ◌-◌, ◌≤◌, ◌<◌, ◌⊎◌, ◌++◌, true, false, eqb, List, [], ◌∷◌, map, length, max, Option, None, Some, refl, sym, ap, ◌∙◌, subst, inl, inr, arith}
use Rattle.std.specs.List.{AllByRecursion, slice_get}
use Rattle.std.specs.List.Sorted.{IsPermutation, IsNonDecreasing}
use Rattle.std.specs.Option.{option_and_then, option_map}
use Rattle.std.proofs.lemmas.Bool.{or_cases, or_left, or_right, or_parts, eqb-true, eq-eqb, cases_Bool, cases_lt}
use Rattle.std.proofs.lemmas.List.{nil_from_length}
use Rattle.std.proofs.lemmas.Option.{same_Some}
use Rattle.kn_logic.specs.Literals.{Literal, negated, is_same, has, names, IsKnown, AreKnown, AreDifferent}
use Rattle.kn_logic.specs.Constraints.{Bounded, clause}
use Rattle.kn_logic.specs.Newness.{IsNew}
use Rattle.kn_logic.specs.Propagation.{IsShort, after_hint, hint_run}
use Rattle.kn_logic.proofs.Public.{same-refl, negated_twice}
use Rattle.kn_watch.specs.declared.trail.Made.{Made}
use Rattle.kn_watch.specs.Trails.{Trailed, literals, below}
use Rattle.kn_watch.proofs.Public.{length-literals}
use Rattle.kn_propagate.specs.Engines.{Live, Engined, constraints, live_in, HasStepped, IsConflict, IsEngine}
use Rattle.kn_propagate.specs.declared.step.Step.TheVariants.{Conflict}
use Rattle.kn_learn.specs.declared.marks.Mark.{Mark}
use Rattle.kn_learn.specs.declared.marks.Mark.TheVariants.{Unseen, Seen, Pending, Explained, Failed}
use Rattle.kn_learn.specs.declared.analysis.Walk.{Walk}
use Rattle.kn_learn.specs.Lessons.{Lesson, hinted_by, Refutes, IsRefutedAt, IsHighest, IsLesson}
use Rattle.kn_learn.specs.Reasons.{contains, RestsOn, IsExplained, lit_or, negations_at, reason_at, without_repeats, hints_of}
use Rattle.kn_learn.specs.Marking.{mark_at, is_needed, is_seen}
use Rattle.kn_learn.specs.Analyses.{IsNeeded, AreNeeded, IsRested, IsLower, IsTop, AreOnce, IsFound, IsWalking, IsRooted, rest_of, AreWithin, IsReached}
use Rattle.kn_learn.proofs.Lists.{contains-push, contains-last, all-contains, all-permuted, permuted-has, once-filter, all-filter, contains-filter, ascending-from}
use Rattle.kn_learn.proofs.Places.{at-length, there-is, one-place, engine-trail}
use Rattle.kn_learn.proofs.Explained.{reasons-live, explained-conflict}
use Rattle.kn_learn.proofs.Fresh.{asserted-new, asserted-waits}

-- the literals of places
abbrev literals_at : List Made → List ℕ → List Literal
literals_at made places = map (λ p. lit_or (slice_get made p)) places

lit-is : (made : List Made) (p : ℕ) (m : Made) → slice_get made p ≡ Some m → lit_or (slice_get made p) ≡ m.lit
lit-is made p m at = ap lit_or at

negations-twice : (made : List Made) (places : List ℕ) → map negated (negations_at made places) ≡ literals_at made places
negations-twice made [] = refl
negations-twice made (p ∷ places) = rw (negated_twice (lit_or (slice_get made p)), negations-twice made places) refl

starts : (made : List Made) (places : List ℕ) (q : ℕ) (m : Made) → contains places q ≡ true → slice_get made q ≡ Some m → has (literals_at made places) m.lit ≡ true
starts made [] q m h at = absurd cc
starts made (p ∷ places) q m h at =
    elim (or_cases (eqb p q) (contains places q) h) [
      | inl s ↦ or_left (is_same m.lit (lit_or (slice_get made p))) (has (literals_at made places) m.lit)
          (subst (λ (l : Literal). is_same m.lit l ≡ true) (sym (lit-is made p m (subst (λ (n : ℕ). slice_get made n ≡ Some m) (sym (eqb-true p q s)) at))) (same-refl m.lit))
      | inr s ↦ or_right (is_same m.lit (lit_or (slice_get made p))) (has (literals_at made places) m.lit) (starts made places q m s at)
    ]

has-negation : (made : List Made) (rest : List ℕ) (p : ℕ) (m : Made) → contains rest p ≡ true → slice_get made p ≡ Some m → has (negations_at made rest) (negated m.lit) ≡ true
has-negation made [] p m h at = absurd cc
has-negation made (q ∷ rest) p m h at =
    elim (or_cases (eqb q p) (contains rest p) h) [
      | inl s ↦ or_left (is_same (negated m.lit) (negated (lit_or (slice_get made q)))) (has (negations_at made rest) (negated m.lit))
          (subst (λ (l : Literal). is_same (negated m.lit) (negated l) ≡ true) (sym (lit-is made q m (subst (λ (n : ℕ). slice_get made n ≡ Some m) (sym (eqb-true q p s)) at))) (same-refl (negated m.lit)))
      | inr s ↦ or_right (is_same (negated m.lit) (negated (lit_or (slice_get made q)))) (has (negations_at made rest) (negated m.lit)) (has-negation made rest p m s at)
    ]

-- what is needed is started from or derived
settled-step : (w : Walk) (made : List Made) (sorted : List ℕ) (q : ℕ) (m : Made) (mark : Mark) → mark_at w.marks q ≡ mark → is_needed mark ≡ true → IsFound w w.lowest [] q mark → ((r : ℕ) → contains w.derived.items r ≡ true → contains sorted r ≡ true) → slice_get made q ≡ Some m → (has (literals_at made (w.lowest ∷ rest_of w.marks w.kept.items)) m.lit ≡ true) ⊎ (contains sorted q ≡ true)
settled-step w made sorted q m Unseen is n h within at = absurd cc
settled-step w made sorted q m Seen is n h within at = elim h [
  | inl s ↦ inl (starts made (w.lowest ∷ rest_of w.marks w.kept.items) q m (or_right (eqb w.lowest q) (contains (rest_of w.marks w.kept.items) q) (contains-filter (λ p. is_seen (mark_at w.marks p)) w.kept.items q s (ap is_seen is))) at)
  | inr b ↦ elim b [
    | inl s ↦ inr (within q s)
    | inr s ↦ inl (starts made (w.lowest ∷ rest_of w.marks w.kept.items) q m (or_left (eqb w.lowest q) (contains (rest_of w.marks w.kept.items) q) (eq-eqb w.lowest q (omega (arith, s.0, s.1)))) at)
  ]
]
settled-step w made sorted q m Pending is n h within at = elim h [ inl s ↦ inr (within q s) | inr s ↦ absurd cc ]
settled-step w made sorted q m Explained is n h within at = absurd cc
settled-step w made sorted q m Failed is n h within at = absurd cc

settled-rests : (t : Trailed) (live : List Live) (w : Walk) (sorted : List ℕ) (c : Bounded) (p : ℕ) → IsWalking t live w.lowest [] w → ((q : ℕ) → contains w.derived.items q ≡ true → contains sorted q ≡ true) → AreNeeded t.made w.marks c p → RestsOn t.made (literals_at t.made (w.lowest ∷ rest_of w.marks w.kept.items)) sorted c p
settled-rests t live w sorted c p h within needed q m less at on = settled-step w t.made sorted q m (mark_at w.marks q) refl (needed q m less at on) (h.found q) within at

explained-of : (t : Trailed) (live : List Live) (start : List Literal) (w : Walk) (sorted : List ℕ) → ((c : Bounded) (p : ℕ) → AreNeeded t.made w.marks c p → RestsOn t.made start sorted c p) → (ps : List ℕ) → AllByRecursion (IsRested live t.made w.marks) ps → AllByRecursion (IsExplained live t.made start sorted) ps
explained-of t live start w sorted rest [] all = tt
explained-of t live start w sorted rest (p ∷ ps) all =
    let (m, id, at, is, rests) = all.0 in
    ((m, id, at, is, λ c lives. rest c p (rests c lives)), explained-of t live start w sorted rest ps all.1)

-- the conflict behind other hints
hinted-split : (o : Option (List Bounded)) (x : Bounded) (cs : List Bounded) → option_map (λ xs. x ∷ xs) o ≡ Some cs → (rest : List Bounded) × (o ≡ Some rest) × (cs ≡ x ∷ rest)
hinted-split None x cs e = absurd cc
hinted-split (Some rest) x cs e = (rest, refl, sym (same_Some (x ∷ rest) cs e))

hinted-behind : (live : ℕ → Option Bounded) (i : ℕ) (ids : List ℕ) (id : ℕ) (c : Bounded) (cs : List Bounded) (o : Option Bounded) → live i ≡ o → option_and_then (λ x. option_map (λ xs. x ∷ xs) (hinted_by live ids)) o ≡ Some cs → ((ds : List Bounded) → hinted_by live ids ≡ Some ds → hinted_by live (ids ++ id ∷ []) ≡ Some (ds ++ c ∷ [])) → hinted_by live (i ∷ ids ++ id ∷ []) ≡ Some (cs ++ c ∷ [])
hinted-behind live i ids id c cs None at g ih = absurd cc
hinted-behind live i ids id c cs (Some x) at g ih =
    let (rest, k, same) = hinted-split (hinted_by live ids) x cs g in
    subst (λ (ds : List Bounded). hinted_by live (i ∷ ids ++ id ∷ []) ≡ Some (ds ++ c ∷ [])) (sym same) (rw (at, ih rest k) refl)

hinted-last : (live : ℕ → Option Bounded) (ids : List ℕ) (id : ℕ) (c : Bounded) (cs : List Bounded) → live id ≡ Some c → hinted_by live ids ≡ Some cs → hinted_by live (ids ++ id ∷ []) ≡ Some (cs ++ c ∷ [])
hinted-last live [] id c cs e f = subst (λ (ds : List Bounded). hinted_by live (id ∷ []) ≡ Some (ds ++ c ∷ [])) (same_Some [] cs f) (rw e refl)
hinted-last live (i ∷ ids) id c cs e f = hinted-behind live i ids id c cs (live i) refl f (λ ds k. hinted-last live ids id c ds e k)

-- places that are derived refute what they start from
derived-refute : (g : Engined) (start : List Literal) (w : Walk) (sorted : List ℕ) (conflict : ℕ) → IsEngine g → IsConflict g conflict → AllByRecursion (IsRested g.live g.trail.made w.marks) w.derived.items → ((c : Bounded) (p : ℕ) → AreNeeded g.trail.made w.marks c p → RestsOn g.trail.made start sorted c p)
    → ((c : Bounded) → live_in g.live conflict ≡ Some c → AreNeeded g.trail.made w.marks c (length g.trail.made)) → IsPermutation w.derived.items sorted → IsNonDecreasing sorted
    → (cs : List Bounded) × (hinted_by (live_in g.live) (hints_of g.trail.made sorted conflict) ≡ Some cs) × (hint_run start cs ≡ None)
derived-refute g start w sorted conflict engine (c, lives, fails) rested rest needed permuted order =
    let trail = engine-trail g engine in
    let explained = all-permuted (IsExplained g.live g.trail.made start sorted) w.derived.items sorted permuted (explained-of g.trail g.live start w sorted rest w.derived.items rested) in
    let (cs, hints) = reasons-live g.live g.trail.made start sorted trail sorted None explained in
    let rests = rest c (length g.trail.made) (needed c lives) in (
      cs ++ c ∷ [],
      hinted-last (live_in g.live) (without_repeats None (map (reason_at g.trail.made) sorted)) conflict c cs lives hints,
      explained-conflict g.live g.trail.made start sorted c cs trail explained (ascending-from sorted order) fails (subst (λ (n : ℕ). RestsOn g.trail.made start sorted c n) (sym (length-literals g.trail.made)) rests) hints,
    )

learned-refutes : (g : Engined) (w : Walk) (sorted : List ℕ) (conflict : ℕ) → IsEngine g → IsConflict g conflict → IsWalking g.trail g.live w.lowest [] w → ((c : Bounded) → live_in g.live conflict ≡ Some c → AreNeeded g.trail.made w.marks c (length g.trail.made)) → IsPermutation w.derived.items sorted → IsNonDecreasing sorted → Refutes g.live (negations_at g.trail.made (w.lowest ∷ rest_of w.marks w.kept.items)) (hints_of g.trail.made sorted conflict)
learned-refutes g w sorted conflict engine fails h needed permuted order =
    let places = w.lowest ∷ rest_of w.marks w.kept.items in
    let (cs, hints, run) = derived-refute g (literals_at g.trail.made places) w sorted conflict engine fails h.rested
    (λ c p k. settled-rests g.trail g.live w sorted c p h (permuted-has w.derived.items sorted permuted) k) needed permuted order in
    (cs, hints, subst (λ (lits : List Literal). hint_run lits cs ≡ None) (sym (negations-twice g.trail.made places)) run)

-- no variable stands there twice
unnamed : (t : Trailed) (p : ℕ) (m : Made) (rest : List ℕ) → AreDifferent (literals t.made) → slice_get t.made p ≡ Some m → AllByRecursion (IsLower t) rest → contains rest p ≡ false → names (negations_at t.made rest) m.lit.variable ≡ false
unnamed t p m [] d at lower none = refl
unnamed t p m (q ∷ rest) d at lower none =
    let parts = or_parts (eqb q p) (contains rest p) none in
    let (n, get, less) = lower.0 in
    elim (cases_Bool (eqb (lit_or (slice_get t.made q)).variable m.lit.variable)) [
      | inl s ↦ (let same : n.lit.variable ≡ m.lit.variable = sym (ap (λ (l : Literal). l.variable) (lit-is t.made q n get)) ∙ eqb-true (lit_or (slice_get t.made q)).variable m.lit.variable s in
          let one : eqb q p ≡ true = eq-eqb q p (one-place t.made q p n m d get at same) in
          let other : eqb q p ≡ false = parts.0 in absurd cc)
      | inr s ↦ rw s (unnamed t p m rest d at lower.1 parts.1)
    ]

different-of : (t : Trailed) (rest : List ℕ) → AreDifferent (literals t.made) → AllByRecursion (IsLower t) rest → AreOnce rest → AreDifferent (negations_at t.made rest)
different-of t [] d lower once = tt
different-of t (p ∷ rest) d lower once =
    let (m, at, less) = lower.0 in (
      subst (λ (l : Literal). names (negations_at t.made rest) l.variable ≡ false) (sym (lit-is t.made p m at)) (unnamed t p m rest d at lower.1 once.0),
      different-of t rest d lower.1 once.1,
    )

not-lower : (t : Trailed) (p : ℕ) (rest : List ℕ) → IsTop t p → AllByRecursion (IsLower t) rest → contains rest p ≡ false
not-lower t p rest (m, at, top) lower =
    elim (cases_Bool (contains rest p)) [
      | inl s ↦ (let (n, get, less) = all-contains (IsLower t) rest p lower s in
          let one : n.level ≡ m.level = ap (λ (x : Made). x.level) (same_Some n m (sym get ∙ at)) in
          absurd (omega (arith, less, top, one)))
      | inr s ↦ s
    ]

-- levels
refuted-of : (made : List Made) (n : ℕ) (rest : List ℕ) → AreWithin made n rest → AllByRecursion (IsRefutedAt (λ k. k ≤ n) made) (negations_at made rest)
refuted-of made n [] h = tt
refuted-of made n (p ∷ rest) h =
    let (m, at, le) = h.0 in
    ((p, m, at, ap (λ (l : Literal). negated l) (lit-is made p m at), le), refuted-of made n rest h.1)

highest-of : (made : List Made) (n : ℕ) (rest : List ℕ) → AreWithin made n rest → IsReached made n rest → IsHighest made (negations_at made rest) n
highest-of made n rest within reached = record {
  within = refuted-of made n rest within;
  reached = elim reached [
    | inl z ↦ inl z
    | inr s ↦ (let (p, m, there, at, level) = s in inr (negated m.lit, has-negation made rest p m there at, (p, m, at, refl, level)))
  ];
}

-- the clause is over the engine's variables
known-at : (vars : ℕ) (made : List Made) (p : ℕ) (m : Made) → AreKnown vars (literals made) → slice_get made p ≡ Some m → IsKnown vars m.lit
known-at vars [] p m h at = absurd cc
known-at vars (x ∷ made) zero m h at = subst (λ (y : Made). IsKnown vars y.lit) (same_Some x m at) h.0
known-at vars (x ∷ made) (suc p) m h at = known-at vars made p m h.1 at

known-rest : (t : Trailed) (rest : List ℕ) → AreKnown t.vars (literals t.made) → AllByRecursion (IsLower t) rest → AreKnown t.vars (negations_at t.made rest)
known-rest t [] known h = tt
known-rest t (p ∷ rest) known h =
    let (m, at, less) = h.0 in
    (subst (λ (l : Literal). IsKnown t.vars (negated l)) (sym (lit-is t.made p m at)) (known-at t.vars t.made p m known at), known-rest t rest known h.1)

-- What is learned, with the negation of the literal of the present level in front.
pub lesson-of : (g : Engined) (w : Walk) (level : ℕ) (sorted : List ℕ) (conflict : ℕ) → IsEngine g → IsConflict g conflict → IsWalking g.trail g.live w.lowest [] w → ((c : Bounded) → live_in g.live conflict ≡ Some c → AreNeeded g.trail.made w.marks c (length g.trail.made)) → IsPermutation w.derived.items sorted → IsNonDecreasing sorted
    → AreWithin g.trail.made level (rest_of w.marks w.kept.items) → level < g.trail.level → IsReached g.trail.made level (rest_of w.marks w.kept.items)
    → IsLesson g (record { lits = negations_at g.trail.made (w.lowest ∷ rest_of w.marks w.kept.items); level = level; hints = hints_of g.trail.made sorted conflict })
lesson-of g w level sorted conflict engine fails h needed permuted order within lower reached =
    let t = g.trail in
    let rest = rest_of w.marks w.kept.items in
    let others = negations_at t.made rest in
    let under = all-filter (IsLower t) (λ p. is_seen (mark_at w.marks p)) w.kept.items h.lower in
    let rest-once = once-filter (λ p. is_seen (mark_at w.marks p)) w.kept.items h.once in
    let (u, at, top) = h.low in
    let same : negated u.lit ≡ negated (lit_or (slice_get t.made w.lowest)) = ap negated (sym (lit-is t.made w.lowest u at)) in
    let highest = highest-of t.made level rest within reached in
    let none = not-lower t w.lowest rest h.low under in
    record {
      first = negated (lit_or (slice_get t.made w.lowest));
      others = others;
      parts = refl;
      top = (w.lowest, u, at, sym same, top);
      highest = highest;
      lower = lower;
      known = (subst (IsKnown t.vars) same (known-at t.vars t.made w.lowest u engine.known at), known-rest t rest engine.known under);
      new = subst (λ (l : Literal). IsNew (constraints g.live) (l ∷ others)) same
          (asserted-new g level w.lowest u others engine lower at (omega (arith, lower, top))
          (unnamed t w.lowest u rest engine.different at under none, different-of t rest engine.different under rest-once)
          highest.within);
      refutes = learned-refutes g w sorted conflict engine fails h needed permuted order;
      waits = λ k less short. asserted-waits t.made k level w.lowest u others engine.different at (omega (arith, lower, top)) highest.reached less
          (subst (λ (l : Literal). IsShort (literals (below (k + 1) t.made)) (clause (l ∷ others))) (sym same) short);
    }

-- level 0
pub root-top : (g : Engined) → IsEngine g → g.trail.level ≡ 0 → 1 ≤ length g.trail.made → IsTop g.trail (length g.trail.made - 1)
root-top g h root some =
    let (m, at) = there-is g.trail.made (length g.trail.made - 1) (omega (arith, some)) in
    (m, at, omega (arith, h.levels (length g.trail.made - 1) m at, root))

none-lower : (t : Trailed) (ps : List ℕ) (q : ℕ) → t.level ≡ 0 → AllByRecursion (IsLower t) ps → contains ps q ≡ true → ⊥
none-lower t ps q root lower h = let (m, at, less) = all-contains (IsLower t) ps q lower h in omega (arith, less, root)

rooted-step : (t : Trailed) (w : Walk) (q : ℕ) (mark : Mark) → mark_at w.marks q ≡ mark → is_needed mark ≡ true → IsFound w 0 [] q mark → t.level ≡ 0 → AllByRecursion (IsLower t) w.kept.items → (IsNeeded w.marks 0 → contains w.derived.items 0 ≡ true) → contains w.derived.items q ≡ true
rooted-step t w q Unseen is n h root lower here = absurd cc
rooted-step t w q Seen is n h root lower here = elim h [
  | inl s ↦ absurd (none-lower t w.kept.items q root lower s)
  | inr b ↦ elim b [
    | inl s ↦ s
    | inr s ↦ (let zero : 0 ≡ q = omega (arith, s.1) in
        subst (λ (k : ℕ). contains w.derived.items k ≡ true) zero (here (subst (λ (k : ℕ). IsNeeded w.marks k) (sym zero) (ap is_needed is))))
  ]
]
rooted-step t w q Pending is n h root lower here = elim h [ inl s ↦ s | inr s ↦ absurd cc ]
rooted-step t w q Explained is n h root lower here = absurd cc
rooted-step t w q Failed is n h root lower here = absurd cc

pub rooted-of : (t : Trailed) (live : List Live) (w : Walk) → t.level ≡ 0 → IsWalking t live 0 [] w → (IsNeeded w.marks 0 → contains w.derived.items 0 ≡ true) → IsRooted live t.made w
rooted-of t live w root h here = record {
  derived = λ q k. rooted-step t w q (mark_at w.marks q) refl k (h.found q) root h.lower here;
  rested = h.rested;
}

pub root-refutes : (g : Engined) (w : Walk) (sorted : List ℕ) (conflict : ℕ) → IsEngine g → IsConflict g conflict → IsRooted g.live g.trail.made w → ((c : Bounded) → live_in g.live conflict ≡ Some c → AreNeeded g.trail.made w.marks c (length g.trail.made)) → IsPermutation w.derived.items sorted → IsNonDecreasing sorted → Refutes g.live [] (hints_of g.trail.made sorted conflict)
root-refutes g w sorted conflict engine fails h needed permuted order =
    derived-refute g [] w sorted conflict engine fails h.rested
    (λ c p k q m less at on. inr (permuted-has w.derived.items sorted permuted q (h.derived q (k q m less at on)))) needed permuted order

pub empty-refutes : (g : Engined) (conflict : ℕ) → IsConflict g conflict → length g.trail.made ≡ 0 → Refutes g.live [] (conflict ∷ [])
empty-refutes g conflict (c, lives, fails) none =
    (c ∷ [], hinted-last (live_in g.live) [] conflict c [] lives refl, run c (subst (λ (xs : List Made). after_hint (literals xs) c ≡ None) (nil_from_length g.trail.made none) fails))
  where
    run : (c : Bounded) → after_hint [] c ≡ None → hint_run [] (c ∷ []) ≡ None
    run c e = rw e refl

pub rested-within : (live : List Live) (made : List Made) (marks : List Mark) (ps : List ℕ) → AllByRecursion (IsRested live made marks) ps → AllByRecursion (λ p. p < length made) ps
rested-within live made marks [] h = tt
rested-within live made marks (p ∷ ps) h = let (m, id, at, is, rests) = h.0 in (at-length made p m at, rested-within live made marks ps h.1)

-- the highest level of places
pub within-push : (made : List Made) (m n : ℕ) (places : List ℕ) (p : ℕ) (x : Made) → m ≤ n → slice_get made p ≡ Some x → x.level ≤ n → AreWithin made m places → AreWithin made n (places ++ p ∷ [])
within-push made m n [] p x le at lower h = ((x, at, lower), tt)
within-push made m n (q ∷ places) p x le at lower h =
    let (y, get, less) = h.0 in
    ((y, get, omega (arith, less, le)), within-push made m n places p x le at lower h.1)

pub reached-push : (made : List Made) (m n : ℕ) (places : List ℕ) (p : ℕ) (x : Made) → slice_get made p ≡ Some x → (n ≡ x.level) ⊎ (n ≡ m) → IsReached made m places → IsReached made n (places ++ p ∷ [])
reached-push made m n places p x at one h =
    elim one [
      | inl s ↦ inr (p, x, contains-last places p, at, sym s)
      | inr s ↦ elim h [
        | inl z ↦ inl (s ∙ z)
        | inr r ↦ (let (q, y, there, get, level) = r in inr (q, y, contains-push places p q there, get, level ∙ sym s))
      ]
    ]

pub max-one : (n m k l : ℕ) → n ≡ max m k → m ≡ l → (n ≡ l) ⊎ (n ≡ k)
max-one n m k l e same = elim (cases_lt m k) [ inl h ↦ inr (second n m k e h) | inr h ↦ inl (first n m k l e same h) ]
  where
    second : (n m k : ℕ) → n ≡ max m k → m < k → n ≡ k
    second n m k e h = omega (arith, e, h)

    first : (n m k l : ℕ) → n ≡ max m k → m ≡ l → k ≤ m → n ≡ l
    first n m k l e same h = omega (arith, e, same, h)

-- what is said of a trail and of places is said of those that they equal
pub said-as : (P : Trailed → List ℕ → Type 0) (t u : Trailed) (ps qs : List ℕ) → t ≡ u → ps ≡ qs → P t ps → P u qs
said-as P t u ps qs e f h = subst (λ (x : Trailed). P x qs) e (subst (P t) f h)

pub lesson-as : (l : Lesson) (a b : List Literal) (level : ℕ) (x y : List ℕ) → l ≡ record { lits = a; level = level; hints = x } → a ≡ b → x ≡ y → l ≡ record { lits = b; level = level; hints = y }
lesson-as l a b level x y is e f =
    is ∙ ap (λ (z : List Literal). the_lesson z level x) e ∙ ap (λ (z : List ℕ). the_lesson b level z) f
  where
    the_lesson : List Literal → ℕ → List ℕ → Lesson
    the_lesson lits level hints = record { lits = lits; level = level; hints = hints }

-- the places that stand in the clause are lower ones
pub rest-lower : (t : Trailed) (w : Walk) → AllByRecursion (IsLower t) w.kept.items → AllByRecursion (IsLower t) (rest_of w.marks w.kept.items)
rest-lower t w h = all-filter (IsLower t) (λ p. is_seen (mark_at w.marks p)) w.kept.items h

-- the conflict of the last step
pub conflict-of : (g : Engined) (id : ℕ) → IsEngine g → g.last ≡ Some (Conflict id) → IsConflict g id
conflict-of g id engine is = subst (HasStepped g) is engine.stepped

pub negations-last : (made : List Made) (ps : List ℕ) (p : ℕ) (m : Made) (l : Literal) → slice_get made p ≡ Some m → l ≡ negated m.lit → negations_at made ps ++ l ∷ [] ≡ negations_at made (ps ++ p ∷ [])
negations-last made [] p m l at is = ap (λ (x : Literal). x ∷ []) (is ∙ ap negated (sym (lit-is made p m at)))
negations-last made (q ∷ ps) p m l at is = ap (λ (ls : List Literal). negated (lit_or (slice_get made q)) ∷ ls) (negations-last made ps p m l at is)
