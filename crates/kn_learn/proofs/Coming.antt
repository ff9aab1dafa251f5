-- The walk, place by place.
use Rattle.std.proofs.Common.{◌≡◌, ℕ, ◌-◌, ◌≤◌, ◌<◌, ◌++◌, true, false, List, [], ◌∷◌, length, Option, None, Some, option_map, refl, sym, ap, ◌∙◌, subst, inl, inr, arith}
use Rattle.std.specs.List.{AllByRecursion, slice_get}
use Rattle.std.proofs.lemmas.Bool.{cases_eq}
use Rattle.std.proofs.lemmas.Option.{same_Some}
use Rattle.kn_logic.specs.Literals.{Literal}
use Rattle.kn_logic.specs.Constraints.{Bounded}
use Rattle.kn_logic.proofs.Public.{All-push}
use Rattle.kn_watch.specs.declared.trail.Made.{Made}
use Rattle.kn_watch.specs.Trails.{Trailed}
use Rattle.kn_watch.specs.Watches.{listed}
use Rattle.kn_propagate.specs.Engines.{Live, Engined, live_in, IsEngine}
use Rattle.kn_learn.specs.declared.marks.Mark.{Mark}
use Rattle.kn_learn.specs.declared.marks.Mark.TheVariants.{Unseen, Seen, Pending, Explained, Failed}
use Rattle.kn_learn.specs.declared.analysis.Walk.{Walk}
use Rattle.kn_learn.specs.Reasons.{contains}
use Rattle.kn_learn.specs.Marking.{mark_at, is_needed, is_seen}
use Rattle.kn_learn.specs.Analyses.{IsNeeded, AreNeeded, IsRested, IsRemovable, IsLower, IsTop, AreOnce, IsFound, IsWalking, IsBlank}
use Rattle.kn_learn.proofs.Lists.{contains-push, contains-last}
use Rattle.kn_learn.proofs.Needing.{found-at}
use Rattle.kn_learn.proofs.Places.{there-is, at-length}

-- an empty table is one of a walk that begins
pub walking-start : (t : Trailed) (live : List Live) (last : ℕ) (w : Walk) → IsBlank last w → IsTop t last → IsWalking t live last [] w
walking-start t live last w h top = record {
  found = λ q. found-at w last [] q Unseen (mark_at w.marks q) (sym (h.unseen q)) tt;
  rested = subst (AllByRecursion (IsRested live t.made w.marks)) (sym h.derived) tt;
  lower = subst (AllByRecursion (IsLower t)) (sym h.kept) tt;
  once = subst AreOnce (sym h.kept) tt;
  needed = subst (AllByRecursion (IsNeeded w.marks)) (sym h.kept) tt;
  low = subst (IsTop t) (sym h.lowest) top;
}

not-seen : (m : Mark) → m ≡ Seen → is_seen m ≡ false → ⊥
not-seen m e h = let f : is_seen m ≡ true = ap is_seen e in absurd cc

past : (w : Walk) (place : ℕ) (left : List ℕ) (q : ℕ) (m : Mark) → ((m ≡ Seen) → q ≡ place → ⊥) → IsFound w place left q m → IsFound w (place - 1) left q m
past w place left q Unseen d h = tt
past w place left q Seen d h = elim h [
  | inl s ↦ inl s
  | inr b ↦ elim b [ inl s ↦ inr (inl s) | inr s ↦ inr (inr (s.0, less q place s.1 (d refl))) ]
]
  where
    less : (q place : ℕ) → q ≤ place → (q ≡ place → ⊥) → q ≤ place - 1
    less q place le d = omega (arith, le, d)
past w place left q Pending d h = h
past w place left q Explained d h = h
past w place left q Failed d h = tt

-- the walk goes by a place that was not seen
pub walking-past : (t : Trailed) (live : List Live) (place : ℕ) (left : List ℕ) (w : Walk) → is_seen (mark_at w.marks place) ≡ false → IsWalking t live place left w → IsWalking t live (place - 1) left w
walking-past t live place left w unseen h = record {
  found = λ q. past w place left q (mark_at w.marks q) (λ is e. not-seen (mark_at w.marks place) (subst (λ (n : ℕ). mark_at w.marks n ≡ Seen) e is) unseen) (h.found q);
  rested = h.rested;
  lower = h.lower;
  once = h.once;
  needed = h.needed;
  low = h.low;
}

derived-here : (w new : Walk) (place : ℕ) (left : List ℕ) (q : ℕ) (m : Mark) → new.kept.items ≡ w.kept.items → new.derived.items ≡ w.derived.items ++ place ∷ [] → new.explained.items ≡ w.explained.items → new.lowest ≡ w.lowest → IsFound w place left q m → IsFound new (place - 1) left q m
derived-here w new place left q Unseen kept derived explained low h = tt
derived-here w new place left q Seen kept derived explained low h = elim h [
  | inl s ↦ inl (subst (λ (ps : List ℕ). contains ps q ≡ true) (sym kept) s)
  | inr b ↦ elim b [
    | inl s ↦ inr (inl (subst (λ (ps : List ℕ). contains ps q ≡ true) (sym derived) (contains-push w.derived.items place q s)))
    | inr s ↦ elim (cases_eq q place) [
      | inl e ↦ inr (inl (subst (λ (ps : List ℕ). contains ps q ≡ true) (sym derived) (subst (λ (n : ℕ). contains (w.derived.items ++ place ∷ []) n ≡ true) (sym e) (contains-last w.derived.items place))))
      | inr d ↦ inr (inr (omega (arith, low, s.0), less q place s.1 d))
    ]
  ]
]
  where
    less : (q place : ℕ) → q ≤ place → (q ≡ place → ⊥) → q ≤ place - 1
    less q place le d = omega (arith, le, d)
derived-here w new place left q Pending kept derived explained low h = elim h [
  | inl s ↦ inl (subst (λ (ps : List ℕ). contains ps q ≡ true) (sym derived) (contains-push w.derived.items place q s))
  | inr s ↦ inr s
]
derived-here w new place left q Explained kept derived explained low h = subst (λ (ps : List ℕ). contains ps q ≡ true) (sym explained) h
derived-here w new place left q Failed kept derived explained low h = tt

-- the walk goes by a place that it derives
pub walking-derived : (t : Trailed) (live : List Live) (place : ℕ) (left : List ℕ) (w new : Walk) → new.marks ≡ w.marks → new.kept.items ≡ w.kept.items → new.derived.items ≡ w.derived.items ++ place ∷ [] → new.explained.items ≡ w.explained.items → new.lowest ≡ w.lowest → IsRested live t.made w.marks place → IsWalking t live place left w → IsWalking t live (place - 1) left new
walking-derived t live place left w new marks kept derived explained low rested h = record {
  found = λ q. subst (λ (ms : List Mark). IsFound new (place - 1) left q (mark_at ms q)) (sym marks) (derived-here w new place left q (mark_at w.marks q) kept derived explained low (h.found q));
  rested = subst (λ (ms : List Mark). AllByRecursion (IsRested live t.made ms) new.derived.items) (sym marks)
      (subst (AllByRecursion (IsRested live t.made w.marks)) (sym derived) (All-push (IsRested live t.made w.marks) w.derived.items place h.rested rested));
  lower = subst (AllByRecursion (IsLower t)) (sym kept) h.lower;
  once = subst AreOnce (sym kept) h.once;
  needed = subst (λ (ms : List Mark). AllByRecursion (IsNeeded ms) new.kept.items) (sym marks) (subst (AllByRecursion (IsNeeded w.marks)) (sym kept) h.needed);
  low = subst (IsTop t) (sym low) h.low;
}

-- what a place has for its reason
pub rested-by : (t read : Trailed) (live : List Live) (marks : List Mark) (place id : ℕ) (o : Option ℕ) → read ≡ t → place < length t.made → ((m : Made) → slice_get read.made place ≡ Some m → o ≡ m.reason) → o ≡ Some id → ((c : Bounded) → live_in live id ≡ Some c → AreNeeded t.made marks c place) → IsRested live t.made marks place
rested-by t read live marks place id o same less reads is rests =
    let (m, at) = there-is t.made place less in
    (m, id, at, sym (reads m (subst (λ (x : Trailed). slice_get x.made place ≡ Some m) (sym same) at)) ∙ is, rests)

none-from : (o : Option ℕ) → ((x : ℕ) → o ≡ Some x → ⊥) → o ≡ None
none-from None h = refl
none-from (Some x) h = absurd (h x refl)

-- a place above the lowest one of the present level was not assumed
pub not-assumed : (g : Engined) (read : Trailed) (lowest place : ℕ) (o : Option ℕ) → IsEngine g → read ≡ g.trail → IsTop g.trail lowest → lowest < place → place < length g.trail.made → ((m : Made) → slice_get read.made place ≡ Some m → o ≡ m.reason) → ((x : ℕ) → o ≡ Some x → ⊥) → ⊥
not-assumed g read lowest place o engine same (b, low, top) above less reads none =
    let (m, at) = there-is g.trail.made place less in
    let is : m.reason ≡ None = sym (reads m (subst (λ (x : Trailed). slice_get x.made place ≡ Some m) (sym same) at)) ∙ none-from o none in
    omega (arith, engine.assumed place lowest m b at is low above, engine.levels place m at, top)

-- nor was one of level 0
pub not-assumed_at_root : (g : Engined) (read : Trailed) (place : ℕ) (o : Option ℕ) → IsEngine g → read ≡ g.trail → g.trail.level ≡ 0 → place < length g.trail.made → ((m : Made) → slice_get read.made place ≡ Some m → o ≡ m.reason) → ((x : ℕ) → o ≡ Some x → ⊥) → ⊥
not-assumed_at_root g read place o engine same root less reads none =
    let (m, at) = there-is g.trail.made place less in
    let is : m.reason ≡ None = sym (reads m (subst (λ (x : Trailed). slice_get x.made place ≡ Some m) (sym same) at)) ∙ none-from o none in
    omega (arith, engine.assumed_above place m at is, engine.levels place m at, root)

-- nor one that is explained
pub not-removable : (t read : Trailed) (place : ℕ) (o : Option ℕ) → read ≡ t → IsRemovable t place → ((m : Made) → slice_get read.made place ≡ Some m → o ≡ m.reason) → ((x : ℕ) → o ≡ Some x → ⊥) → ⊥
not-removable t read place o same (m, id, at, is, lower) reads none = none id (reads m (subst (λ (x : Trailed). slice_get x.made place ≡ Some m) (sym same) at) ∙ is)

-- what is needed and was not seen is derived, where nothing is left
pub unseen-derived : (w : Walk) (place p : ℕ) (m : Mark) → is_seen m ≡ false → is_needed m ≡ true → IsFound w p [] place m → contains w.derived.items place ≡ true
unseen-derived w place p Unseen s n h = absurd cc
unseen-derived w place p Seen s n h = absurd cc
unseen-derived w place p Pending s n h = elim h [ inl k ↦ k | inr k ↦ absurd cc ]
unseen-derived w place p Explained s n h = absurd cc
unseen-derived w place p Failed s n h = absurd cc

-- the literals of a live constraint
pub listed-of : (lits : List Literal) (o : Option Bounded) (c : Bounded) → Some lits ≡ option_map listed o → o ≡ Some c → lits ≡ listed c
listed-of lits None c e is = absurd cc
listed-of lits (Some d) c e is = same_Some lits (listed d) e ∙ ap listed (same_Some d c is)

pub none-listed : (o : Option Bounded) (c : Bounded) → None ≡ option_map listed o → o ≡ Some c → ⊥
none-listed None c e is = absurd cc
none-listed (Some d) c e is = absurd cc

-- above level 0 the trail ends at the present level
pub last-top : (g : Engined) → IsEngine g → 1 ≤ g.trail.level → (1 ≤ length g.trail.made) × IsTop g.trail (length g.trail.made - 1)
last-top g h above =
    let (m, at, top) = h.last above in
    (omega (arith, at-length g.trail.made (length g.trail.made - 1) m at), (m, at, top))
