-- What was found to be explained.
use Rattle.std.proofs.Common.{◌≡◌, ℕ, ◌++◌, true, false, List, [], ◌∷◌, refl, sym, ap, ◌∙◌, subst, inl, inr, arith}
use Rattle.std.specs.List.{AllByRecursion}
use Rattle.std.proofs.lemmas.Bool.{cases_eq}
use Rattle.kn_logic.proofs.Public.{All-push}
use Rattle.kn_watch.specs.Trails.{Trailed}
use Rattle.kn_learn.specs.declared.marks.Mark.{Mark}
use Rattle.kn_learn.specs.declared.marks.Mark.TheVariants.{Unseen, Seen, Pending, Explained, Failed}
use Rattle.kn_learn.specs.declared.analysis.Walk.{Walk}
use Rattle.kn_learn.specs.Reasons.{contains}
use Rattle.kn_learn.specs.Marking.{mark_at, IsMarked, is_needed}
use Rattle.kn_learn.specs.Analyses.{IsNeeded, IsRested, IsLower, IsRemovable, IsTop, AreOnce, IsFound, Explores}
use Rattle.kn_learn.proofs.Lists.{contains-push, contains-last, all-more}
use Rattle.kn_learn.proofs.Touching.{marked-here, marked-other}
use Rattle.kn_learn.proofs.Needing.{found-at, rested-more}

-- what is needed is as before where a mark that changes says the same of it
same-needed : (old new : List Mark) (place : ℕ) (mark : Mark) → IsMarked old place mark new → is_needed mark ≡ is_needed (mark_at old place) → (q : ℕ) → is_needed (mark_at new q) ≡ is_needed (mark_at old q)
same-needed old new place mark h e q = elim (cases_eq q place) [
  | inl s ↦ ap is_needed (subst (λ (n : ℕ). mark_at new n ≡ mark) (sym s) (marked-here old place mark new h)) ∙ e ∙ ap (λ (n : ℕ). is_needed (mark_at old n)) (sym s)
  | inr d ↦ ap is_needed (marked-other old place mark new q h d)
]

-- a mark says the same where more is explained
found-explored : (old new : Walk) (p : ℕ) (q : ℕ) (mark : Mark) → new.kept.items ≡ old.kept.items → new.derived.items ≡ old.derived.items → ((r : ℕ) → contains old.explained.items r ≡ true → contains new.explained.items r ≡ true) → new.lowest ≡ old.lowest → IsFound old p old.explained.items q mark → IsFound new p new.explained.items q mark
found-explored old new p q Unseen kept derived explained low h = tt
found-explored old new p q Seen kept derived explained low h = elim h [
  | inl s ↦ inl (subst (λ (ps : List ℕ). contains ps q ≡ true) (sym kept) s)
  | inr b ↦ elim b [ inl s ↦ inr (inl (subst (λ (ps : List ℕ). contains ps q ≡ true) (sym derived) s)) | inr s ↦ inr (inr (omega (arith, low, s.0), s.1)) ]
]
found-explored old new p q Pending kept derived explained low h = elim h [ inl s ↦ inl (subst (λ (ps : List ℕ). contains ps q ≡ true) (sym derived) s) | inr s ↦ inr (explained q s) ]
found-explored old new p q Explained kept derived explained low h = explained q h
found-explored old new p q Failed kept derived explained low h = tt

-- one place is marked anew
explores-marked : (t : Trailed) (old new : Walk) (place : ℕ) (mark : Mark) → IsMarked old.marks place mark new.marks → is_needed mark ≡ is_needed (mark_at old.marks place) → new.kept.items ≡ old.kept.items → new.derived.items ≡ old.derived.items → ((r : ℕ) → contains old.explained.items r ≡ true → contains new.explained.items r ≡ true) → new.lowest ≡ old.lowest
    → ((p : ℕ) → IsFound new p new.explained.items place mark) → (AllByRecursion (IsRemovable t) old.explained.items → AllByRecursion (IsRemovable t) new.explained.items) → Explores t old new
explores-marked t old new place mark marked e kept derived explained low here removable =
    let same = same-needed old.marks new.marks place mark marked e in
    let more : (q : ℕ) → IsNeeded old.marks q → IsNeeded new.marks q = λ q k. same q ∙ k in
    record {
      walking = λ live p h. record {
        found = λ q. elim (cases_eq q place) [
          | inl s ↦ subst (λ (n : ℕ). IsFound new p new.explained.items n (mark_at new.marks n)) (sym s)
              (found-at new p new.explained.items place mark (mark_at new.marks place) (sym (marked-here old.marks place mark new.marks marked)) (here p))
          | inr d ↦ found-at new p new.explained.items q (mark_at old.marks q) (mark_at new.marks q) (sym (marked-other old.marks place mark new.marks q marked d))
              (found-explored old new p q (mark_at old.marks q) kept derived explained low (h.found q))
        ];
        rested = subst (AllByRecursion (IsRested live t.made new.marks)) (sym derived) (rested-more live t.made old.marks new.marks old.derived.items more h.rested);
        lower = subst (AllByRecursion (IsLower t)) (sym kept) h.lower;
        once = subst AreOnce (sym kept) h.once;
        needed = subst (AllByRecursion (IsNeeded new.marks)) (sym kept) (all-more (IsNeeded old.marks) (IsNeeded new.marks) old.kept.items more h.needed);
        low = subst (IsTop t) (sym low) h.low;
      };
      same = same;
      removable = removable;
      kept = kept;
      lowest = low;
    }

-- a place is not found to be explained
pub explores-failed : (t : Trailed) (old new : Walk) (place : ℕ) → IsMarked old.marks place Failed new.marks → is_needed (mark_at old.marks place) ≡ false → new.kept.items ≡ old.kept.items → new.derived.items ≡ old.derived.items → new.explained.items ≡ old.explained.items → new.lowest ≡ old.lowest → Explores t old new
explores-failed t old new place marked un kept derived explained low =
    explores-marked t old new place Failed marked (sym un) kept derived (λ r k. subst (λ (ps : List ℕ). contains ps r ≡ true) (sym explained) k) low (λ p. tt)
    (λ h. subst (AllByRecursion (IsRemovable t)) (sym explained) h)

longer : (old new : List ℕ) (place r : ℕ) → new ≡ old ++ place ∷ [] → contains old r ≡ true → contains new r ≡ true
longer old new place r e k = subst (λ (ps : List ℕ). contains ps r ≡ true) (sym e) (contains-push old place r k)

last : (old new : List ℕ) (place : ℕ) → new ≡ old ++ place ∷ [] → contains new place ≡ true
last old new place e = subst (λ (ps : List ℕ). contains ps place ≡ true) (sym e) (contains-last old place)

-- a place is explained
pub explores-explained : (t : Trailed) (old new : Walk) (place : ℕ) → IsMarked old.marks place Explained new.marks → is_needed (mark_at old.marks place) ≡ false → IsRemovable t place → new.kept.items ≡ old.kept.items → new.derived.items ≡ old.derived.items → new.explained.items ≡ old.explained.items ++ place ∷ [] → new.lowest ≡ old.lowest → Explores t old new
explores-explained t old new place marked un removable kept derived explained low =
    explores-marked t old new place Explained marked (sym un) kept derived (λ r k. longer old.explained.items new.explained.items place r explained k) low
    (λ p. last old.explained.items new.explained.items place explained)
    (λ h. subst (AllByRecursion (IsRemovable t)) (sym explained) (All-push (IsRemovable t) old.explained.items place h removable))

-- a needed place is explained
pub explores-pending : (t : Trailed) (old new : Walk) (place : ℕ) → IsMarked old.marks place Pending new.marks → IsNeeded old.marks place → IsRemovable t place → new.kept.items ≡ old.kept.items → new.derived.items ≡ old.derived.items → new.explained.items ≡ old.explained.items ++ place ∷ [] → new.lowest ≡ old.lowest → Explores t old new
explores-pending t old new place marked needed removable kept derived explained low =
    explores-marked t old new place Pending marked (sym needed) kept derived (λ r k. longer old.explained.items new.explained.items place r explained k) low
    (λ p. inr (last old.explained.items new.explained.items place explained))
    (λ h. subst (AllByRecursion (IsRemovable t)) (sym explained) (All-push (IsRemovable t) old.explained.items place h removable))

pub explores-none : (t : Trailed) (w : Walk) → Explores t w w
explores-none t w = record { walking = λ live p h. h; same = λ q. refl; removable = λ h. h; kept = refl; lowest = refl }

pub explores-join : (t : Trailed) (a b c : Walk) → Explores t a b → Explores t b c → Explores t a c
explores-join t a b c h k = record {
  walking = λ live p w. k.walking live p (h.walking live p w);
  same = λ q. k.same q ∙ h.same q;
  removable = λ r. k.removable (h.removable r);
  kept = k.kept ∙ h.kept;
  lowest = k.lowest ∙ h.lowest;
}
