-- What is explained is derived, from the last place down.
use Rattle.std.proofs.Common.{◌≡◌, ℕ, ◌+◌, ◌≤◌, ◌<◌, ◌++◌, true, false, List, [], ◌∷◌, length, take, get_or, refl, sym, ap, subst, inl, inr, arith}
use Rattle.std.specs.List.{AllByRecursion}
use Rattle.std.specs.List.Sorted.{IsPermutation}
use Rattle.std.proofs.lemmas.Bool.{cases_lt}
use Rattle.std.proofs.lemmas.List.{take_all}
use Rattle.kn_logic.proofs.Public.{All-push}
use Rattle.kn_watch.specs.Trails.{Trailed, IsRising}
use Rattle.kn_propagate.specs.Engines.{Live}
use Rattle.kn_learn.specs.declared.marks.Mark.{Mark}
use Rattle.kn_learn.specs.declared.marks.Mark.TheVariants.{Unseen, Seen, Pending, Explained, Failed}
use Rattle.kn_learn.specs.declared.analysis.Walk.{Walk}
use Rattle.kn_learn.specs.Reasons.{contains}
use Rattle.kn_learn.specs.Marking.{mark_at, is_needed}
use Rattle.kn_learn.specs.Analyses.{IsNeeded, IsRested, IsLower, IsRemovable, IsTop, AreOnce, IsFound, IsWalking, Grows}
use Rattle.kn_learn.proofs.Lists.{contains-push, contains-last, contains-next, permuted-has}
use Rattle.kn_learn.proofs.Places.{not-above}

-- the order of what is explained does not matter
sorted-found : (old new : Walk) (p q : ℕ) (m : Mark) → new.kept.items ≡ old.kept.items → new.derived.items ≡ old.derived.items → ((r : ℕ) → contains old.explained.items r ≡ true → contains new.explained.items r ≡ true) → new.lowest ≡ old.lowest → IsFound old p old.explained.items q m → IsFound new p (take (length new.explained.items) new.explained.items) q m
sorted-found old new p q Unseen kept derived more low h = tt
sorted-found old new p q Seen kept derived more low h = elim h [
  | inl s ↦ inl (subst (λ (ps : List ℕ). contains ps q ≡ true) (sym kept) s)
  | inr b ↦ elim b [ inl s ↦ inr (inl (subst (λ (ps : List ℕ). contains ps q ≡ true) (sym derived) s)) | inr s ↦ inr (inr (omega (arith, low, s.0), s.1)) ]
]
sorted-found old new p q Pending kept derived more low h = elim h [
  | inl s ↦ inl (subst (λ (ps : List ℕ). contains ps q ≡ true) (sym derived) s)
  | inr s ↦ inr (subst (λ (ps : List ℕ). contains ps q ≡ true) (sym (take_all (length new.explained.items) new.explained.items (omega arith))) (more q s))
]
sorted-found old new p q Explained kept derived more low h = more q h
sorted-found old new p q Failed kept derived more low h = tt

pub walking-sorted : (t : Trailed) (live : List Live) (old new : Walk) → new.marks ≡ old.marks → new.kept.items ≡ old.kept.items → new.derived.items ≡ old.derived.items → IsPermutation old.explained.items new.explained.items → new.lowest ≡ old.lowest → IsWalking t live old.lowest old.explained.items old → IsWalking t live new.lowest (take (length new.explained.items) new.explained.items) new
walking-sorted t live old new marks kept derived permuted low h =
    let more = permuted-has old.explained.items new.explained.items permuted in
    subst (λ (p : ℕ). IsWalking t live p (take (length new.explained.items) new.explained.items) new) (sym low) (record {
      found = λ q. subst (λ (ms : List Mark). IsFound new old.lowest (take (length new.explained.items) new.explained.items) q (mark_at ms q)) (sym marks)
          (sorted-found old new old.lowest q (mark_at old.marks q) kept derived more low (h.found q));
      rested = subst (λ (ms : List Mark). AllByRecursion (IsRested live t.made ms) new.derived.items) (sym marks) (subst (AllByRecursion (IsRested live t.made old.marks)) (sym derived) h.rested);
      lower = subst (AllByRecursion (IsLower t)) (sym kept) h.lower;
      once = subst AreOnce (sym kept) h.once;
      needed = subst (λ (ms : List Mark). AllByRecursion (IsNeeded ms) new.kept.items) (sym marks) (subst (AllByRecursion (IsNeeded old.marks)) (sym kept) h.needed);
      low = subst (IsTop t) (sym low) h.low;
    })

not-pending : (m : Mark) → m ≡ Pending → is_needed m ≡ false → ⊥
not-pending m e h = let f : is_needed m ≡ true = ap is_needed e in absurd cc

skipped : (w : Walk) (p : ℕ) (es : List ℕ) (at q : ℕ) (m : Mark) → at < length es → (m ≡ Pending → get_or es at 0 ≡ q → ⊥) → IsFound w p (take (at + 1) es) q m → IsFound w p (take at es) q m
skipped w p es at q Unseen less d h = tt
skipped w p es at q Seen less d h = h
skipped w p es at q Pending less d h = elim h [
  | inl s ↦ inl s
  | inr s ↦ elim (contains-next es at q less s) [ inl k ↦ inr k | inr e ↦ absurd (d refl e) ]
]
skipped w p es at q Explained less d h = h
skipped w p es at q Failed less d h = tt

-- a place that is not needed is left out
pub walking-skipped : (t : Trailed) (live : List Live) (p : ℕ) (es : List ℕ) (at : ℕ) (w : Walk) → at < length es → is_needed (mark_at w.marks (get_or es at 0)) ≡ false → IsWalking t live p (take (at + 1) es) w → IsWalking t live p (take at es) w
walking-skipped t live p es at w less un h = record {
  found = λ q. skipped w p es at q (mark_at w.marks q) less (λ is e. not-pending (mark_at w.marks (get_or es at 0)) (subst (λ (n : ℕ). mark_at w.marks n ≡ Pending) (sym e) is) un) (h.found q);
  rested = h.rested;
  lower = h.lower;
  once = h.once;
  needed = h.needed;
  low = h.low;
}

swept : (w new : Walk) (p : ℕ) (es : List ℕ) (at q : ℕ) (m : Mark) → at < length es → new.kept.items ≡ w.kept.items → new.derived.items ≡ w.derived.items ++ get_or es at 0 ∷ [] → new.explained.items ≡ w.explained.items → new.lowest ≡ w.lowest → IsFound w p (take (at + 1) es) q m → IsFound new p (take at es) q m
swept w new p es at q Unseen less kept derived explained low h = tt
swept w new p es at q Seen less kept derived explained low h = elim h [
  | inl s ↦ inl (subst (λ (ps : List ℕ). contains ps q ≡ true) (sym kept) s)
  | inr b ↦ elim b [
    | inl s ↦ inr (inl (subst (λ (ps : List ℕ). contains ps q ≡ true) (sym derived) (contains-push w.derived.items (get_or es at 0) q s)))
    | inr s ↦ inr (inr (omega (arith, low, s.0), s.1))
  ]
]
swept w new p es at q Pending less kept derived explained low h = elim h [
  | inl s ↦ inl (subst (λ (ps : List ℕ). contains ps q ≡ true) (sym derived) (contains-push w.derived.items (get_or es at 0) q s))
  | inr s ↦ elim (contains-next es at q less s) [
    | inl k ↦ inr k
    | inr e ↦ inl (subst (λ (ps : List ℕ). contains ps q ≡ true) (sym derived) (subst (λ (n : ℕ). contains (w.derived.items ++ get_or es at 0 ∷ []) n ≡ true) e (contains-last w.derived.items (get_or es at 0))))
  ]
]
swept w new p es at q Explained less kept derived explained low h = subst (λ (ps : List ℕ). contains ps q ≡ true) (sym explained) h
swept w new p es at q Failed less kept derived explained low h = tt

-- a place that is needed is derived
pub walking-swept : (t : Trailed) (live : List Live) (p : ℕ) (es : List ℕ) (at : ℕ) (w new : Walk) → at < length es → new.marks ≡ w.marks → new.kept.items ≡ w.kept.items → new.derived.items ≡ w.derived.items ++ get_or es at 0 ∷ [] → new.explained.items ≡ w.explained.items → new.lowest ≡ w.lowest → IsRested live t.made w.marks (get_or es at 0) → IsWalking t live p (take (at + 1) es) w → IsWalking t live p (take at es) new
walking-swept t live p es at w new less marks kept derived explained low rested h = record {
  found = λ q. subst (λ (ms : List Mark). IsFound new p (take at es) q (mark_at ms q)) (sym marks) (swept w new p es at q (mark_at w.marks q) less kept derived explained low (h.found q));
  rested = subst (λ (ms : List Mark). AllByRecursion (IsRested live t.made ms) new.derived.items) (sym marks)
      (subst (AllByRecursion (IsRested live t.made w.marks)) (sym derived) (All-push (IsRested live t.made w.marks) w.derived.items (get_or es at 0) h.rested rested));
  lower = subst (AllByRecursion (IsLower t)) (sym kept) h.lower;
  once = subst AreOnce (sym kept) h.once;
  needed = subst (λ (ms : List Mark). AllByRecursion (IsNeeded ms) new.kept.items) (sym marks) (subst (AllByRecursion (IsNeeded w.marks)) (sym kept) h.needed);
  low = subst (IsTop t) (sym low) h.low;
}

pub removable-lower : (t : Trailed) (place : ℕ) → IsRemovable t place → IsLower t place
removable-lower t place (m, id, at, is, lower) = (m, at, lower)

-- the lowest place of the present level is above what is removed
pub removed-below : (t : Trailed) (p place : ℕ) → IsRising t.level t.made → IsTop t p → IsLower t place → place ≤ p
removed-below t p place rising top lower = elim (cases_lt p place) [ inl e ↦ absurd (not-above t p place rising top lower e) | inr e ↦ e ]

pub same-lowest : (t : Trailed) (place : ℕ) (old new : Walk) → IsRising t.level t.made → Grows place old new → IsTop t new.lowest → IsLower t place → new.lowest ≡ old.lowest
same-lowest t place old new rising h top lower = elim h.lowest [ inl e ↦ e | inr e ↦ absurd (not-above t new.lowest place rising top lower e) ]
