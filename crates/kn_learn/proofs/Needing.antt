-- What is needed, and what a walk keeps when more is.
use Rattle.std.proofs.Common.{◌≡◌, ℕ, zero, suc, ◌+◌, ◌≤◌, ◌<◌, ◌++◌, true, false, eqb, List, [], ◌∷◌, length, take, get_or, min, Some, refl, sym, ap, ◌∙◌, subst, inl, inr, arith}
use Rattle.std.specs.List.{AllByRecursion, slice_get}
use Rattle.std.proofs.lemmas.Bool.{cases_Bool, cases_eq, cases_lt, eqb-true}
use Rattle.std.proofs.lemmas.List.{take_more}
use Rattle.kn_logic.specs.Literals.{Literal, negated, has, AreDifferent}
use Rattle.kn_logic.specs.Constraints.{Bounded}
use Rattle.kn_logic.proofs.Public.{All-push, All-has, negated_twice}
use Rattle.kn_watch.specs.declared.trail.Made.{Made}
use Rattle.kn_watch.specs.Trails.{Trailed, literals}
use Rattle.kn_watch.specs.Watches.{listed}
use Rattle.kn_propagate.specs.Engines.{Live}
use Rattle.kn_learn.specs.declared.marks.Mark.{Mark}
use Rattle.kn_learn.specs.declared.marks.Mark.TheVariants.{Unseen, Seen, Pending, Explained, Failed}
use Rattle.kn_learn.specs.declared.analysis.Walk.{Walk}
use Rattle.kn_learn.specs.Reasons.{contains}
use Rattle.kn_learn.specs.Marking.{mark_at, IsMarked, is_needed}
use Rattle.kn_learn.specs.Analyses.{IsNeeded, AreNeeded, IsNeededFor, IsRested, IsLower, IsTop, AreOnce, IsFound, IsWalking, Grows, IsLeft}
use Rattle.kn_learn.proofs.Lists.{contains-push, contains-last, all-more, once-last}
use Rattle.kn_learn.proofs.Touching.{marked-here, marked-other}
use Rattle.kn_learn.proofs.Places.{one-place}

-- what is needed stays so where a place is marked as needed
pub stays-set : (old new : List Mark) (place : ℕ) (mark : Mark) → IsMarked old place mark new → is_needed mark ≡ true → (q : ℕ) → IsNeeded old q → IsNeeded new q
stays-set old new place mark h n q k = elim (cases_eq q place) [
  | inl e ↦ subst (IsNeeded new) (sym e) (ap is_needed (marked-here old place mark new h) ∙ n)
  | inr d ↦ ap is_needed (marked-other old place mark new q h d) ∙ k
]

-- what rests on needed places still does where more are needed
pub rested-more : (live : List Live) (made : List Made) (old new : List Mark) (ps : List ℕ) → ((q : ℕ) → IsNeeded old q → IsNeeded new q) → AllByRecursion (IsRested live made old) ps → AllByRecursion (IsRested live made new) ps
rested-more live made old new ps more all =
    all-more (IsRested live made old) (IsRested live made new) ps
    (λ p (m, id, at, is, rests). (m, id, at, is, λ c lives q n less get on. more q (rests c lives q n less get on))) all

-- a mark says the same where the lists are longer
found-more : (old new : Walk) (p : ℕ) (left : List ℕ) (q : ℕ) (mark : Mark) → ((r : ℕ) → contains old.kept.items r ≡ true → contains new.kept.items r ≡ true) → new.derived.items ≡ old.derived.items → new.explained.items ≡ old.explained.items → new.lowest ≤ old.lowest → IsFound old p left q mark → IsFound new p left q mark
found-more old new p left q Unseen kept derived explained low h = tt
found-more old new p left q Seen kept derived explained low h = elim h [
  | inl s ↦ inl (kept q s)
  | inr b ↦ elim b [ inl s ↦ inr (inl (subst (λ (ps : List ℕ). contains ps q ≡ true) (sym derived) s)) | inr s ↦ inr (inr (omega (arith, low, s.0), s.1)) ]
]
found-more old new p left q Pending kept derived explained low h = elim h [ inl s ↦ inl (subst (λ (ps : List ℕ). contains ps q ≡ true) (sym derived) s) | inr s ↦ inr s ]
found-more old new p left q Explained kept derived explained low h = subst (λ (ps : List ℕ). contains ps q ≡ true) (sym explained) h
found-more old new p left q Failed kept derived explained low h = tt

pub found-at : (w : Walk) (p : ℕ) (left : List ℕ) (q : ℕ) (m n : Mark) → m ≡ n → IsFound w p left q m → IsFound w p left q n
found-at w p left q m n e h = subst (IsFound w p left q) e h

-- one place is marked as needed
walking-marked : (t : Trailed) (live : List Live) (p : ℕ) (left : List ℕ) (old new : Walk) (place : ℕ) (mark : Mark) → IsMarked old.marks place mark new.marks → is_needed mark ≡ true
    → ((r : ℕ) → contains old.kept.items r ≡ true → contains new.kept.items r ≡ true) → new.derived.items ≡ old.derived.items → new.explained.items ≡ old.explained.items → new.lowest ≤ old.lowest
    → IsFound new p left place mark → AllByRecursion (IsLower t) new.kept.items → AreOnce new.kept.items → AllByRecursion (IsNeeded new.marks) new.kept.items → IsTop t new.lowest
    → IsWalking t live p left old → IsWalking t live p left new
walking-marked t live p left old new place mark marked is kept derived explained low here lower once needed top h =
    let more = stays-set old.marks new.marks place mark marked is in
    record {
      found = λ q. elim (cases_eq q place) [
        | inl e ↦ subst (λ (n : ℕ). IsFound new p left n (mark_at new.marks n)) (sym e)
            (found-at new p left place mark (mark_at new.marks place) (sym (marked-here old.marks place mark new.marks marked)) here)
        | inr d ↦ found-at new p left q (mark_at old.marks q) (mark_at new.marks q) (sym (marked-other old.marks place mark new.marks q marked d))
            (found-more old new p left q (mark_at old.marks q) kept derived explained low (h.found q))
      ];
      rested = subst (AllByRecursion (IsRested live t.made new.marks)) (sym derived) (rested-more live t.made old.marks new.marks old.derived.items more h.rested);
      lower = lower;
      once = once;
      needed = needed;
      low = top;
    }

-- a place that is explained is to be derived
pub walking-pending : (t : Trailed) (live : List Live) (p : ℕ) (left : List ℕ) (old new : Walk) (place : ℕ) → IsMarked old.marks place Pending new.marks → new.kept.items ≡ old.kept.items → new.derived.items ≡ old.derived.items → new.explained.items ≡ old.explained.items → new.lowest ≡ old.lowest
    → mark_at old.marks place ≡ Explained → IsWalking t live p left old → IsLeft old (place + 1) left → IsWalking t live p left new
walking-pending t live p left old new place marked kept derived explained low is h behind =
    let was : contains old.explained.items place ≡ true = found-at old p left place (mark_at old.marks place) Explained is (h.found place) in
    walking-marked t live p left old new place Pending marked refl (λ r k. subst (λ (ps : List ℕ). contains ps r ≡ true) (sym kept) k) derived explained (omega (arith, low))
    (inr (behind place (omega arith) was))
    (subst (AllByRecursion (IsLower t)) (sym kept) h.lower) (subst AreOnce (sym kept) h.once)
    (subst (AllByRecursion (IsNeeded new.marks)) (sym kept) (all-more (IsNeeded old.marks) (IsNeeded new.marks) old.kept.items (stays-set old.marks new.marks place Pending marked refl) h.needed))
    (subst (IsTop t) (sym low) h.low) h

none-of : (marks : List Mark) (ps : List ℕ) (p : ℕ) → AllByRecursion (IsNeeded marks) ps → is_needed (mark_at marks p) ≡ false → contains ps p ≡ false
none-of marks [] p h k = refl
none-of marks (x ∷ ps) p h k =
    elim (cases_Bool (eqb x p)) [
      | inl s ↦ (let f : is_needed (mark_at marks p) ≡ true = subst (IsNeeded marks) (eqb-true x p s) h.0 in absurd cc)
      | inr s ↦ rw s (none-of marks ps p h.1 k)
    ]

-- a place of a lower level is kept
pub walking-kept : (t : Trailed) (live : List Live) (p : ℕ) (left : List ℕ) (old new : Walk) (place : ℕ) → IsMarked old.marks place Seen new.marks → new.kept.items ≡ old.kept.items ++ place ∷ [] → new.derived.items ≡ old.derived.items → new.explained.items ≡ old.explained.items → new.lowest ≡ old.lowest
    → is_needed (mark_at old.marks place) ≡ false → IsLower t place → IsWalking t live p left old → IsWalking t live p left new
walking-kept t live p left old new place marked kept derived explained low unseen lower h =
    walking-marked t live p left old new place Seen marked refl
    (λ r k. subst (λ (ps : List ℕ). contains ps r ≡ true) (sym kept) (contains-push old.kept.items place r k)) derived explained (omega (arith, low))
    (inl (subst (λ (ps : List ℕ). contains ps place ≡ true) (sym kept) (contains-last old.kept.items place)))
    (subst (AllByRecursion (IsLower t)) (sym kept) (All-push (IsLower t) old.kept.items place h.lower lower))
    (subst AreOnce (sym kept) (once-last old.kept.items place h.once (none-of old.marks old.kept.items place h.needed unseen)))
    (subst (AllByRecursion (IsNeeded new.marks)) (sym kept)
    (All-push (IsNeeded new.marks) old.kept.items place
    (all-more (IsNeeded old.marks) (IsNeeded new.marks) old.kept.items (stays-set old.marks new.marks place Seen marked refl) h.needed)
    (ap is_needed (marked-here old.marks place Seen new.marks marked))))
    (subst (IsTop t) (sym low) h.low) h

min-top : (t : Trailed) (m n : ℕ) → IsTop t m → IsTop t n → IsTop t (min m n)
min-top t m n h k = elim (cases_lt m n) [ inl e ↦ subst (IsTop t) (sym (first m n e)) h | inr e ↦ subst (IsTop t) (sym (second m n e)) k ]
  where
    first : (m n : ℕ) → m < n → min m n ≡ m
    first m n e = omega (arith, e)

    second : (m n : ℕ) → n ≤ m → min m n ≡ n
    second m n e = omega (arith, e)

-- a place of the present level is still to come
pub walking-awaits : (t : Trailed) (live : List Live) (p : ℕ) (left : List ℕ) (old new : Walk) (place : ℕ) → IsMarked old.marks place Seen new.marks → new.kept.items ≡ old.kept.items → new.derived.items ≡ old.derived.items → new.explained.items ≡ old.explained.items → new.lowest ≡ min old.lowest place
    → IsTop t place → place ≤ p → IsWalking t live p left old → IsWalking t live p left new
walking-awaits t live p left old new place marked kept derived explained low top le h =
    walking-marked t live p left old new place Seen marked refl (λ r k. subst (λ (ps : List ℕ). contains ps r ≡ true) (sym kept) k) derived explained (omega (arith, low))
    (inr (inr (omega (arith, low), le)))
    (subst (AllByRecursion (IsLower t)) (sym kept) h.lower) (subst AreOnce (sym kept) h.once)
    (subst (AllByRecursion (IsNeeded new.marks)) (sym kept) (all-more (IsNeeded old.marks) (IsNeeded new.marks) old.kept.items (stays-set old.marks new.marks place Seen marked refl) h.needed))
    (subst (IsTop t) (sym low) (min-top t old.lowest place h.low top)) h

-- a literal that was false before a place
pub needed-for : (made : List Made) (marks : List Mark) (before p : ℕ) (m : Made) (l : Literal) → AreDifferent (literals made) → slice_get made p ≡ Some m → m.lit ≡ negated l → IsNeeded marks p → IsNeededFor made marks before l
needed-for made marks before p m l d at is h = λ q n less get same.
    subst (IsNeeded marks) (one-place made p q m n d at get (ap (λ (x : Literal). x.variable) is ∙ sym (ap (λ (x : Literal). x.variable) same))) h

needed-for-more : (made : List Made) (old new : List Mark) (before : ℕ) (lits : List Literal) → ((q : ℕ) → IsNeeded old q → IsNeeded new q) → AllByRecursion (IsNeededFor made old before) lits → AllByRecursion (IsNeededFor made new before) lits
needed-for-more made old new before [] more all = tt
needed-for-more made old new before (l ∷ lits) more all = ((λ q m less at is. more q (all.0 q m less at is)), needed-for-more made old new before lits more all.1)

-- one literal more
pub needed-for-next : (made : List Made) (old new : List Mark) (before : ℕ) (lits : List Literal) (k : ℕ) (l : Literal) → k < length lits → l ≡ get_or lits k l → ((q : ℕ) → IsNeeded old q → IsNeeded new q) → IsNeededFor made new before l → AllByRecursion (IsNeededFor made old before) (take k lits) → AllByRecursion (IsNeededFor made new before) (take (k + 1) lits)
needed-for-next made old new before lits k l less is more one all =
    subst (AllByRecursion (IsNeededFor made new before)) (ap (λ (x : Literal). take k lits ++ x ∷ []) is ∙ sym (take_more lits k l less))
    (All-push (IsNeededFor made new before) (take k lits) l (needed-for-more made old new before (take k lits) more all) one)

take-past : (lits : List Literal) (k : ℕ) → length lits ≤ k → take k lits ≡ lits
take-past [] zero h = refl
take-past [] (suc k) h = refl
take-past (l ∷ lits) zero h = absurd (omega (arith, h))
take-past (l ∷ lits) (suc k) h = ap (λ (xs : List Literal). l ∷ xs) (take-past lits k (omega (arith, h)))

-- all literals of a constraint
pub needed-all : (made : List Made) (marks : List Mark) (before : ℕ) (c : Bounded) (lits : List Literal) (k : ℕ) → lits ≡ listed c → length lits ≤ k → AllByRecursion (IsNeededFor made marks before) (take k lits) → AreNeeded made marks c before
needed-all made marks before c lits k is past all = λ q m less at on.
    All-has (IsNeededFor made marks before) lits (negated m.lit) (subst (AllByRecursion (IsNeededFor made marks before)) (take-past lits k past) all)
    (subst (λ (xs : List Literal). has xs (negated m.lit) ≡ true) (sym is) on) q m less at (sym (negated_twice m.lit))

pub grows-none : (before : ℕ) (w : Walk) → Grows before w w
grows-none before w = record { stays = λ q h. h; derived = refl; explained = refl; lowest = inl refl }

pub grows-join : (before : ℕ) (a b c : Walk) → Grows before a b → Grows before b c → Grows before a c
grows-join before a b c h k = record {
  stays = λ q s. k.stays q (h.stays q s);
  derived = k.derived ∙ h.derived;
  explained = k.explained ∙ h.explained;
  lowest = elim k.lowest [
    | inl e ↦ elim h.lowest [ inl f ↦ inl (e ∙ f) | inr f ↦ inr (omega (arith, e, f)) ]
    | inr e ↦ inr e
  ];
}

pub grows-wider : (less before : ℕ) (a b : Walk) → less ≤ before → Grows less a b → Grows before a b
grows-wider less before a b le h = record {
  stays = h.stays;
  derived = h.derived;
  explained = h.explained;
  lowest = elim h.lowest [ inl e ↦ inl e | inr e ↦ inr (omega (arith, e, le)) ];
}

pub left-as : (a b : Walk) (before : ℕ) (left : List ℕ) → b.explained.items ≡ a.explained.items → IsLeft a before left → IsLeft b before left
left-as a b before left e h = λ q less k. h q less (subst (λ (ps : List ℕ). contains ps q ≡ true) e k)
