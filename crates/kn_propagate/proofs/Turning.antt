-- One element of a list of watched constraints is replaced: what the list is seen as then.
use Rattle.std.proofs.Common.{◌≡◌, ◌≢◌, ℕ, ◌<◌, Bool, true, Option, List, [], ◌∷◌, length, refl, sym, ap, ◌∙◌, subst, inl, inr, arith}
use Rattle.std.specs.Prelude.{slice_index_or, slice_set}
use Rattle.std.proofs.lemmas.List.{get_or-map, get_or-set_same, get_or-set_other, map-set}
use Rattle.std.proofs.lemmas.Bool.{cases_eq}
use Rattle.std.proofs.Math.ListN.{length-set}
use Rattle.std.proofs.Math.Seq.{map-set_same}
use Rattle.kn_logic.specs.Constraints.{Bounded, IsWithin}
use Rattle.kn_logic.specs.Literals.{Literal}
use Rattle.kn_logic.specs.Propagation.{is_open}
use Rattle.kn_propagate.specs.declared.slot.Slot.{Slot}
use Rattle.kn_watch.specs.declared.watched.Visit.{Visit}
use Rattle.kn_watch.specs.declared.watched.Visit.TheVariants as turned
use Rattle.kn_watch.specs.Watches.{listed, lit_at, IsTurn, IsSatisfied, IsForcing, IsConflicting, HasWatches}
use Rattle.kn_propagate.specs.Chains.{Watching, seen_as, at_slot, IsTurned, IsKept, vacancy}

abbrev a_watching : Option ℕ → Bounded → (ℕ → Bool) → Watching
a_watching id c w = record { id = id; c = c; watches = w }

module _ {W : Type 0} (bounded : W → Bounded) (watches : W → ℕ → Bool) where
  abbrev seen : Slot W → Watching
  seen s = a_watching s.id (bounded s.watch) (watches s.watch)

  pub seen_here : (xs : List (Slot W)) (i : ℕ) (x : Slot W) → i < length xs → x ≡ slice_index_or xs i x → at_slot (seen_as bounded watches xs) i ≡ a_watching x.id (bounded x.watch) (watches x.watch)
  seen_here xs i x lt is = get_or-map seen xs i x vacancy lt ∙ ap seen (sym is)

  pub length-seen : (xs : List (Slot W)) → length (seen_as bounded watches xs) ≡ length xs
  length-seen [] = refl
  length-seen (x ∷ xs) = omega (arith, length-seen xs)

  -- what a slot is, where the list is seen as this one
  pub slot_is : (xs : List (Slot W)) (i : ℕ) (x : Slot W) (ws : List Watching) → i < length ws → seen_as bounded watches xs ≡ ws → x ≡ slice_index_or xs i x → at_slot ws i ≡ a_watching x.id (bounded x.watch) (watches x.watch)
  slot_is xs i x ws lt e is = ap (λ (z : List Watching). at_slot z i) (sym e) ∙ seen_here xs i x (omega (arith, lt, length-seen xs, ap (λ (z : List Watching). length z) e)) is

  pub seen_set : (xs : List (Slot W)) (i : ℕ) (y : Slot W) → seen_as bounded watches (slice_set xs i y) ≡ slice_set (seen_as bounded watches xs) i (seen y)
  seen_set xs i y = map-set seen xs i y

  pub set_here : (xs : List (Slot W)) (i : ℕ) (y : Slot W) → i < length xs → at_slot (seen_as bounded watches (slice_set xs i y)) i ≡ seen y
  set_here xs i y lt = ap (λ (ws : List Watching). at_slot ws i) (seen_set xs i y) ∙ get_or-set_same (seen_as bounded watches xs) i (seen y) vacancy (omega (arith, lt, length-seen xs))

  pub set_there : (xs : List (Slot W)) (i j : ℕ) (y : Slot W) → j ≢ i → at_slot (seen_as bounded watches (slice_set xs i y)) j ≡ at_slot (seen_as bounded watches xs) j
  set_there xs i j y d = ap (λ (ws : List Watching). at_slot ws j) (seen_set xs i y) ∙ get_or-set_other (seen_as bounded watches xs) i j (seen y) vacancy d

  -- the slot with another watch
  abbrev after : Slot W → W → Slot W
  after x d = record { id = x.id; watch = d }

  same_seen : (xs : List (Slot W)) (i : ℕ) (x : Slot W) (d : W) → i < length xs → x ≡ slice_index_or xs i x → bounded d ≡ bounded x.watch → watches d ≡ watches x.watch → seen_as bounded watches (slice_set xs i (after x d)) ≡ seen_as bounded watches xs
  same_seen xs i x d lt is c w = map-set_same seen xs i (after x d) x (ap (λ (b : Bounded). a_watching x.id b (watches d)) c ∙ ap (λ (z : ℕ → Bool). a_watching x.id (bounded x.watch) z) w ∙ ap seen is)

  c_here : (xs : List (Slot W)) (i : ℕ) (x : Slot W) (d : W) → i < length xs → x ≡ slice_index_or xs i x → bounded d ≡ bounded x.watch → (at_slot (seen_as bounded watches xs) i).c ≡ bounded d
  c_here xs i x d lt is c = ap (λ (w : Watching). w.c) (seen_here xs i x lt is) ∙ sym c

  c_same : (xs : List (Slot W)) (i : ℕ) (x : Slot W) (d : W) (j : ℕ) → i < length xs → x ≡ slice_index_or xs i x → bounded d ≡ bounded x.watch → (at_slot (seen_as bounded watches (slice_set xs i (after x d))) j).c ≡ (at_slot (seen_as bounded watches xs) j).c
  c_same xs i x d j lt is c = elim (cases_eq j i) [
    | inl e ↦ subst (λ (z : ℕ). (at_slot (seen_as bounded watches (slice_set xs i (after x d))) z).c ≡ (at_slot (seen_as bounded watches xs) z).c) (sym e) (ap (λ (w : Watching). w.c) (set_here xs i (after x d) lt) ∙ sym (c_here xs i x d lt is c))
    | inr n ↦ ap (λ (w : Watching). w.c) (set_there xs i j (after x d) n)
  ]

  id_same : (xs : List (Slot W)) (i : ℕ) (x : Slot W) (d : W) (j : ℕ) → i < length xs → x ≡ slice_index_or xs i x → (at_slot (seen_as bounded watches (slice_set xs i (after x d))) j).id ≡ (at_slot (seen_as bounded watches xs) j).id
  id_same xs i x d j lt is = elim (cases_eq j i) [
    | inl e ↦ subst (λ (z : ℕ). (at_slot (seen_as bounded watches (slice_set xs i (after x d))) z).id ≡ (at_slot (seen_as bounded watches xs) z).id) (sym e) (ap (λ (w : Watching). w.id) (set_here xs i (after x d) lt) ∙ sym (ap (λ (w : Watching). w.id) (seen_here xs i x lt is)))
    | inr n ↦ ap (λ (w : Watching). w.id) (set_there xs i j (after x d) n)
  ]

  pub turned_seen : (trail : List Literal) (xs : List (Slot W)) (i place : ℕ) (x : Slot W) (d : W) (visit : Visit) → i < length xs → x ≡ slice_index_or xs i x → bounded d ≡ bounded x.watch → IsTurn trail (bounded d) (watches x.watch) (watches d) place visit → IsTurned trail (seen_as bounded watches xs) (seen_as bounded watches (slice_set xs i (after x d))) (record { owner = i; place = place }) visit
  turned_seen trail xs i place x d turned.Satisfied lt is c t = (same_seen xs i x d lt is c t.0, subst (λ (b : Bounded). IsSatisfied trail b) (sym (c_here xs i x d lt is c)) t.1)
  turned_seen trail xs i place x d turned.Forces lt is c t = (same_seen xs i x d lt is c t.0, subst (λ (b : Bounded). IsForcing trail b) (sym (c_here xs i x d lt is c)) t.1)
  turned_seen trail xs i place x d turned.Conflict lt is c t = (same_seen xs i x d lt is c t.0, subst (λ (b : Bounded). IsConflicting trail b) (sym (c_here xs i x d lt is c)) t.1)
  turned_seen trail xs i place x d (turned.Moved to) lt is c t =
      let new_w = λ (p : ℕ). ap (λ (w : Watching). w.watches p) (set_here xs i (after x d) lt) in
      let old_w = λ (p : ℕ). ap (λ (w : Watching). w.watches p) (seen_here xs i x lt is) in
      let b = sym (c_here xs i x d lt is c) in (
        record {
          long = length-seen (slice_set xs i (after x d)) ∙ length-set xs i (after x d) ∙ sym (length-seen xs);
          owner = refl;
          same = λ j. c_same xs i x d j lt is c;
          ids = λ j. id_same xs i x d j lt is;
          others = λ j n. set_there xs i j (after x d) n;
          within = subst (λ (z : Bounded). to < length (listed z)) b t.within;
          released = new_w place ∙ t.released;
          taken = new_w to ∙ t.taken;
          fresh = old_w to ∙ t.fresh;
          rest = λ p f g. new_w p ∙ t.others p f g ∙ sym (old_w p);
        },
        subst (λ (z : Bounded). is_open trail (lit_at (listed z) to) ≡ true) b t.open_,
      )

  pub kept_seen : (vars : ℕ) (xs : List (Slot W)) (i : ℕ) (x : Slot W) (d : W) → i < length xs → x ≡ slice_index_or xs i x → bounded d ≡ bounded x.watch → IsKept vars (at_slot (seen_as bounded watches xs) i) → HasWatches (bounded d) (watches d) → IsKept vars (at_slot (seen_as bounded watches (slice_set xs i (after x d))) i)
  kept_seen vars xs i x d lt is c k h =
      let k2 : IsKept vars (seen x) = subst (IsKept vars) (seen_here xs i x lt is) k in
      subst (IsKept vars) (sym (set_here xs i (after x d) lt)) (record { free = λ e. c ∙ k2.free e; within = subst (IsWithin vars) (sym c) k2.within; has = h })
