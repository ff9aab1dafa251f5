-- The engine as a whole after each of its calls.
use Rattle.std.proofs.Common.{◌≡◌, ◌≢◌, ℕ, zero, suc, ◌≤◌, ◌<◌, ◌++◌, eqb, cond, List, [], ◌∷◌, Option, Some, None, length, refl, sym, ap, ◌∙◌, subst, inl, inr, arith}
use Rattle.std.specs.Prelude.{IfNone, slice_set}
use Rattle.kn_logic.specs.Constraints.{Bounded}
use Rattle.kn_watch.specs.declared.trail.Made.{Made}
use Rattle.kn_watch.specs.Trails.{Trailed, literals}
use Rattle.kn_propagate.specs.Chains.{Watching, Chained, vacancy, nobody, at_slot, AreSame, AreReasoned}
use Rattle.kn_propagate.specs.Engines.{Live, Engined, live_in, HasReasonAt, IsAdded}
use Rattle.kn_propagate.specs.declared.step.Step.{Step}
use Rattle.kn_propagate.specs.declared.step.Step.TheVariants.{Closed, Conflict}
use Rattle.kn_watch.specs.Watches.{IsConflicting}
use Rattle.kn_propagate.specs.Wholes.{with_live, live_of, IsIndex, IsQuiet, Says, IsTabled, IsWhole, IsFilled, IsVacant}
use Rattle.kn_propagate.proofs.Adding.{still_agrees}
use Rattle.kn_propagate.proofs.Changing.{Changes, slot_past, changes_set, changes_push, agrees_changed, bare_vacancy}
use Rattle.kn_propagate.proofs.Placing.{unneeded_free, tabled_free, quiet_free}
use Rattle.std.proofs.lemmas.Bool.{cases_eq, eq-eqb, ne_eqb, cond-true, cond-false}
use Rattle.kn_propagate.proofs.Handing.{distinct, live_is}

pub if_none : {A : Type 0} (r : Option A) (P Q : Type 0) → (P → Q) → IfNone r P → IfNone r Q
if_none None P Q f h = f h
if_none (Some x) P Q f h = h

tail_same : (w v : Watching) (ws new : List Watching) → AreSame (w ∷ ws) (v ∷ new) → AreSame ws new
tail_same w v ws new s = record { long = omega (arith, s.long); same = λ slot. s.same (suc slot); ids = λ slot. s.ids (suc slot) }

-- the same constraints are live
pub live_same : (ws new : List Watching) → AreSame ws new → live_of new ≡ live_of ws
live_same [] [] s = refl
live_same [] (v ∷ new) s = absurd (omega (arith, s.long))
live_same (w ∷ ws) [] s = absurd (omega (arith, s.long))
live_same (w ∷ ws) (v ∷ new) s =
    ap (λ (o : Option ℕ). with_live o v.c (live_of new)) (s.ids zero) ∙ ap (λ (c : Bounded). with_live w.id c (live_of new)) (s.same zero) ∙ ap (with_live w.id w.c) (live_same ws new (tail_same w v ws new s))

pub index_same : (ws new : List Watching) (find : ℕ → Option ℕ) → AreSame ws new → IsIndex ws find → IsIndex new find
index_same ws new find s x = record {
  found = λ id slot e. (let o = x.found id slot e in (omega (arith, o.0, s.long), s.ids slot ∙ o.1));
  kept = λ id slot lt e. x.kept id slot (omega (arith, lt, s.long)) (sym (s.ids slot) ∙ e);
}

-- the reason of a literal that was added is live
pub reason_at : (ws : List Watching) (find : ℕ → Option ℕ) (made new : List Made) (p : ℕ) → IsIndex ws find → AreReasoned ws made new → length made ≤ p → HasReasonAt (live_of ws) new p
reason_at ws find made new p x r le m e =
    let h = r p m le e in
    (h.1, (at_slot ws h.0).c, h.3, live_is ws h.0 h.1 (distinct ws find x) h.2 h.4, h.5)

-- each literal that was added has a reason that is live
pub forced_now : (t u : Trailed) (now : Engined) (last : Option Step) (ws new : List Watching) (find : ℕ → Option ℕ) → IsIndex ws find → AreSame ws new → AreReasoned ws t.made u.made → (record { trail = t; live = live_of ws; last = last }) ≡ now → (p : ℕ) → length now.trail.made ≤ p → HasReasonAt (live_of new) u.made p
forced_now t u now last ws new find x s r is p le =
    subst (λ (live : List Live). HasReasonAt live u.made p) (sym (live_same ws new s)) (reason_at ws find t.made u.made p x r (omega (arith, le, ap (λ (g : Engined). length g.trail.made) is)))

pub whole_closed : (t : Trailed) (ws new : List Watching) (chains : Chained) (visited : ℕ) (pending : List ℕ) (find : ℕ → Option ℕ) → IsIndex ws find → AreSame ws new → IsTabled t new chains visited pending → length t.made ≤ visited → IsQuiet (literals t.made) new → IsWhole t new chains visited (Some Closed) pending find
whole_closed t ws new chains visited pending find x s w le q = record { tabled = w; index = index_same ws new find s x; says = (le, q) }

pub whole_conflict : (t : Trailed) (ws new : List Watching) (chains : Chained) (visited slot id : ℕ) (pending : List ℕ) (find : ℕ → Option ℕ) → IsIndex ws find → AreSame ws new → IsTabled t new chains visited pending → slot < length new → (at_slot new slot).id ≡ Some id → IsConflicting (literals t.made) (at_slot new slot).c → IsWhole t new chains visited (Some (Conflict id)) pending find
whole_conflict t ws new chains visited slot id pending find x s w lt e k = record { tabled = w; index = index_same ws new find s x; says = (slot, lt, e, k) }

-- the same tables, with more room
pub whole_room : (t : Trailed) (ws new : List Watching) (chains more : Chained) (visited : ℕ) (last : Option Step) (pending due : List ℕ) (find found : ℕ → Option ℕ) → IsWhole t ws chains visited last pending find → more ≡ (record chains { room = more.room }) → new ≡ ws → due ≡ pending → ((id : ℕ) → found id ≡ find id) → IsWhole t new more visited last due found
whole_room t ws new chains more visited last pending due find found w c a b f =
    let e = w.tabled in
    let same : IsTabled t ws (record chains { room = more.room }) visited pending = record {
      small = e.small;
      sized = e.sized;
      visited_ = e.visited_;
      few = e.few;
      kept = e.kept;
      fresh = e.fresh;
      founded = e.founded;
      begun = e.begun;
      still = record { from = e.still.from; chain = e.still.chain; home = e.still.home; wired = e.still.wired; empty = e.still.empty };
      spare = e.spare;
      rest = e.rest;
      narrow = e.narrow;
      due = e.due;
      lower = e.lower;
    } in
    let index : IsIndex ws found = record {
      found = λ id slot q. w.index.found id slot (sym (f id) ∙ q);
      kept = λ id slot lt q. f id ∙ w.index.kept id slot lt q;
    } in
    subst (λ (x : List Watching). IsWhole t x more visited last due found) (sym a)
    (subst (λ (x : Chained). IsWhole t ws x visited last due found) (sym c)
    (subst (λ (x : List ℕ). IsWhole t ws (record chains { room = more.room }) visited last x found) (sym b) (record { tabled = same; index = index; says = w.says })))

joined : (o : Option ℕ) (c : Bounded) (a b : List Live) → with_live o c (a ++ b) ≡ with_live o c a ++ b
joined None c a b = refl
joined (Some id) c a b = refl

-- a slot that was free has a constraint
filled : (ws : List Watching) (slot id : ℕ) (w : Watching) → slot < length ws → (at_slot ws slot).id ≡ None → w.id ≡ Some id → IsAdded (live_of ws) id w.c (live_of (slice_set ws slot w))
filled [] slot id w lt n e = absurd (omega (arith, lt))
filled (v ∷ ws) zero id w lt n e = ([], live_of ws, ap (λ (o : Option ℕ). with_live o v.c (live_of ws)) n, ap (λ (o : Option ℕ). with_live o w.c (live_of ws)) e)
filled (v ∷ ws) (suc slot) id w lt n e =
    let r = filled ws slot id w (omega (arith, lt)) n e in (
      with_live v.id v.c r.0,
      r.1,
      ap (with_live v.id v.c) r.2 ∙ joined v.id v.c r.0 r.1,
      ap (with_live v.id v.c) r.3 ∙ joined v.id v.c r.0 (record { id = id; constraint = w.c } ∷ r.1),
    )

-- one live constraint more
pub added_live : (ws new : List Watching) (slot id : ℕ) (c : Bounded) (live : List Live) → live_of ws ≡ live → slot < length ws → (at_slot ws slot).id ≡ None → IsFilled ws new slot id c → IsAdded live id c (live_of new)
added_live ws new slot id c live e lt n h =
    subst (λ (x : List Live). IsAdded x id c (live_of new)) e
    (subst (λ (x : List Watching). IsAdded (live_of ws) id c (live_of x)) (sym h.1)
    (subst (λ (x : Bounded). IsAdded (live_of ws) id x (live_of (slice_set ws slot h.0))) h.3 (filled ws slot id h.0 lt n h.2)))

pub whole_added : (t : Trailed) (ws new : List Watching) (chains : Chained) (visited slot id : ℕ) (c : Bounded) (pending : List ℕ) (find found : ℕ → Option ℕ) → IsTabled t new chains visited pending → slot < length ws → (at_slot ws slot).id ≡ None → IsFilled ws new slot id c → IsIndex ws find → live_in (live_of ws) id ≡ None → ((q : ℕ) → found q ≡ cond (eqb id q) (Some slot) (find q)) → IsWhole t new chains visited None pending found
whole_added t ws new chains visited slot id c pending find found w sl n h x fresh f =
    let changes : Changes ws new slot h.0 = subst (λ (z : List Watching). Changes ws z slot h.0) (sym h.1) (changes_set ws slot h.0 sl) in
    let here : (at_slot new slot).id ≡ Some id = ap (λ (z : Watching). z.id) changes.here ∙ h.2 in
    let other : (q y : ℕ) → y < length ws → (at_slot ws y).id ≡ Some q → id ≢ q = λ q y lt e s. (
    let l = live_is ws y id (distinct ws find x) lt (e ∙ ap (λ (z : ℕ). Some z) (sym s)) in absurd cc) in
    record {
      tabled = w;
      index = record {
        found = λ q y e. elim (cases_eq id q) [
          | inl s ↦ (
              let m : y ≡ slot = (let a = sym e ∙ f q ∙ cond-true (eqb id q) (Some slot) (find q) (eq-eqb id q s) in cc) in
              (omega (arith, m, changes.inside), ap (λ (z : ℕ). (at_slot new z).id) m ∙ here ∙ ap (λ (z : ℕ). Some z) s))
          | inr d ↦ (
              let o = x.found q y (sym (f q ∙ cond-false (eqb id q) (Some slot) (find q) (ne_eqb id q d)) ∙ e) in
              let lt : y < length new = omega (arith, o.0, changes.long) in
              let m : y ≢ slot = λ s. (let a = sym (ap (λ (z : ℕ). (at_slot ws z).id) s ∙ n) ∙ o.1 in absurd cc) in
              (lt, ap (λ (z : Watching). z.id) (changes.others y lt m).1 ∙ o.1))
        ];
        kept = λ q y lt e. elim (cases_eq y slot) [
          | inr d ↦ (
              let o = changes.others y lt d in
              let k = sym (ap (λ (z : Watching). z.id) o.1) ∙ e in
              f q ∙ cond-false (eqb id q) (Some slot) (find q) (ne_eqb id q (other q y o.0 k)) ∙ x.kept q y o.0 k)
          | inl m ↦ (
              let s : id ≡ q = (let a = sym here ∙ ap (λ (z : ℕ). (at_slot new z).id) (sym m) ∙ e in cc) in
              f q ∙ cond-true (eqb id q) (Some slot) (find q) (eq-eqb id q s) ∙ ap (λ (z : ℕ). Some z) (sym m))
        ];
      };
      says = tt;
    }

-- a free slot behind all others
live_vacant : (ws : List Watching) → live_of (ws ++ vacancy ∷ []) ≡ live_of ws
live_vacant [] = refl
live_vacant (w ∷ ws) = ap (with_live w.id w.c) (live_vacant ws)

pub vacant_live : (ws new : List Watching) (slot : ℕ) → IsVacant ws new slot → live_of new ≡ live_of ws
vacant_live ws new slot v = elim (v.grown) [
  | inl e ↦ ap live_of e
  | inr e ↦ ap live_of e ∙ live_vacant ws
]

-- the conflict that the last step says is not that of this slot
abbrev IsUnfinished : List Watching → ℕ → Option Step → Type 0
IsUnfinished ws slot last = (id : ℕ) → last ≡ Some (Conflict id) → (at_slot ws slot).id ≡ Some id → ⊥

says_free : (t : Trailed) (ws new : List Watching) (slot visited : ℕ) (last : Option Step) → Changes ws new slot vacancy → IsUnfinished ws slot last → Says t ws visited last → Says t new visited last
says_free t ws new slot visited None c n s = tt
says_free t ws new slot visited (Some Closed) c n s = (s.0, quiet_free (literals t.made) ws new slot c s.1)
says_free t ws new slot visited (Some (Conflict id)) c n s =
    let d : s.0 ≢ slot = λ q. n id refl (ap (λ (z : ℕ). (at_slot ws z).id) (sym q) ∙ s.2) in
    let lt : s.0 < length new = omega (arith, s.1, c.long) in
    let o = (c.others s.0 lt d).1 in
    (s.0, lt, ap (λ (z : Watching). z.id) o ∙ s.2, subst (λ (z : Watching). IsConflicting (literals t.made) z.c) (sym o) s.3)

whole_pushed : (t : Trailed) (ws : List Watching) (chains : Chained) (visited : ℕ) (last : Option Step) (pending : List ℕ) (find : ℕ → Option ℕ) → length (ws ++ vacancy ∷ []) ≤ nobody → IsWhole t ws chains visited last pending find → IsWhole t (ws ++ vacancy ∷ []) chains visited last pending find
whole_pushed t ws chains visited last pending find few w =
    let new = ws ++ vacancy ∷ [] in
    let c = changes_push ws vacancy in
    let e = w.tabled in
    let out : (at_slot ws (length ws)).id ≡ None = ap (λ (z : Watching). z.id) (slot_past ws (length ws) (omega arith)) in
    let still = still_agrees ws new chains (agrees_changed ws new (length ws) vacancy c (λ lt. absurd (omega (arith, lt))) bare_vacancy) e.still in
    record {
      tabled = tabled_free t ws new (length ws) chains chains visited pending e c (unneeded_free ws t.made (length ws) out) still e.spare e.sized few;
      index = record {
        found = λ id slot q. (
            let o = w.index.found id slot q in
            let lt : slot < length new = omega (arith, o.0, c.long) in
            (lt, ap (λ (z : Watching). z.id) (c.others slot lt (λ m. omega (arith, m, o.0))).1 ∙ o.1));
        kept = λ id slot lt q. elim (cases_eq slot (length ws)) [
          | inl m ↦ (let a = sym (ap (λ (z : Watching). z.id) (ap (at_slot new) m ∙ c.here)) ∙ q in absurd cc)
          | inr d ↦ (let o = c.others slot lt d in w.index.kept id slot o.0 (sym (ap (λ (z : Watching). z.id) o.1) ∙ q))
        ];
      };
      says = says_free t ws new (length ws) visited last c (λ id e q. (let a = sym out ∙ q in absurd cc)) w.says;
    }

pub whole_vacant : (t : Trailed) (ws new : List Watching) (slot : ℕ) (chains : Chained) (visited : ℕ) (last : Option Step) (pending : List ℕ) (find : ℕ → Option ℕ) → IsVacant ws new slot → IsWhole t ws chains visited last pending find → IsWhole t new chains visited last pending find
whole_vacant t ws new slot chains visited last pending find v w = elim (v.grown) [
  | inl e ↦ subst (λ (z : List Watching). IsWhole t z chains visited last pending find) (sym e) w
  | inr e ↦ subst (λ (z : List Watching). IsWhole t z chains visited last pending find) (sym e) (whole_pushed t ws chains visited last pending find (subst (λ (z : List Watching). length z ≤ nobody) e v.few) w)
]
