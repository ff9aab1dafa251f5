-- An engine without one of its constraints.
use Rattle.std.proofs.Common.{◌≡◌, ◌≢◌, ℕ, zero, suc, ◌+◌, ◌*◌, ◌<◌, Bool, true, false, not, eqb, cond, List, [], ◌∷◌, Option, Some, None, length, refl, sym, ap, ◌∙◌, subst, inl, inr, arith}
use Rattle.std.specs.Prelude.{slice_set}
use Rattle.std.proofs.lemmas.Bool.{cases_eq, eq-eqb, ne_eqb, cond-true, cond-false}
use Rattle.std.proofs.Math.ListN.{length-set}
use Rattle.kn_logic.specs.Constraints.{Bounded}
use Rattle.kn_watch.specs.Trails.{Trailed, literals}
use Rattle.kn_watch.specs.Watches.{listed}
use Rattle.kn_propagate.specs.declared.step.Step.{Step}
use Rattle.kn_propagate.specs.declared.step.Step.TheVariants.{Closed, Conflict}
use Rattle.kn_propagate.specs.Chains.{Watching, Chained, vacancy, at_slot, cut, IsStill, AreSpare}
use Rattle.kn_propagate.specs.Engines.{Live, live_in, removed, IsNoReason, closed_only}
use Rattle.kn_propagate.specs.Wholes.{with_live, live_of, Says, IsWhole}
use Rattle.kn_propagate.proofs.Adding.{still_agrees, at_cut}
use Rattle.kn_propagate.proofs.Changing.{Changes, changes_set, changes_bare, agrees_changed, bare_cut, bare_vacancy}
use Rattle.kn_propagate.proofs.Placing.{IsUnneeded, tabled_free, quiet_free}
use Rattle.kn_propagate.proofs.Handing.{distinct, none_is}

-- without an id that is not there
skipped : (l : Live) (live : List Live) (id : ℕ) → eqb l.id id ≡ false → removed id (l ∷ live) ≡ l ∷ removed id live
skipped l live id e = cond-true (not (eqb l.id id)) (l ∷ removed id live) (removed id live) (ap not e)

dropped : (l : Live) (live : List Live) (id : ℕ) → eqb l.id id ≡ true → removed id (l ∷ live) ≡ removed id live
dropped l live id e = cond-false (not (eqb l.id id)) (l ∷ removed id live) (removed id live) (ap not e)

another : (l : Live) (live : List Live) (id : ℕ) → live_in (l ∷ live) id ≡ None → (b : Bool) → eqb l.id id ≡ b → (b ≡ false) × (live_in live id ≡ None)
another l live id n true e = (let a = sym (cond-true (eqb l.id id) (Some l.constraint) (live_in live id) e) ∙ n in absurd cc)
another l live id n false e = (refl, sym (cond-false (eqb l.id id) (Some l.constraint) (live_in live id) e) ∙ n)

pub removed_none : (live : List Live) (id : ℕ) → live_in live id ≡ None → removed id live ≡ live
removed_none [] id n = refl
removed_none (l ∷ live) id n =
    let a = another l live id n (eqb l.id id) refl in
    skipped l live id a.0 ∙ ap (λ (x : List Live). l ∷ x) (removed_none live id a.1)

removed_other : (o : Option ℕ) (c : Bounded) (live : List Live) (id : ℕ) → (o ≡ Some id → ⊥) → removed id (with_live o c live) ≡ with_live o c (removed id live)
removed_other None c live id n = refl
removed_other (Some x) c live id n = skipped (record { id = x; constraint = c }) live id (ne_eqb x id (λ q. n (ap (λ (z : ℕ). Some z) q)))

removed_here : (c : Bounded) (live : List Live) (id : ℕ) → live_in live id ≡ None → removed id (with_live (Some id) c live) ≡ live
removed_here c live id n = dropped (record { id = id; constraint = c }) live id (eq-eqb id id refl) ∙ removed_none live id n

-- the slot of the id is free then
pub removed_live : (ws : List Watching) (slot id : ℕ) → slot < length ws → (at_slot ws slot).id ≡ Some id → ((x : ℕ) → x < length ws → (at_slot ws x).id ≡ Some id → x ≡ slot) → live_of (slice_set ws slot vacancy) ≡ removed id (live_of ws)
removed_live [] slot id lt e one = absurd (omega (arith, lt))
removed_live (w ∷ ws) zero id lt e one =
    let none = none_is ws id (λ x xl i. (let q = one (suc x) (omega (arith, xl)) i in absurd (omega (arith, q)))) in
    sym (ap (λ (o : Option ℕ). removed id (with_live o w.c (live_of ws))) e ∙ removed_here w.c (live_of ws) id none)
removed_live (w ∷ ws) (suc slot) id lt e one =
    ap (with_live w.id w.c) (removed_live ws slot id (omega (arith, lt)) e (λ x xl i. (let q = one (suc x) (omega (arith, xl)) i in omega (arith, q))))
    ∙ sym (removed_other w.id w.c (live_of ws) id (λ i. (let q = one zero (omega arith) i in absurd (omega (arith, q)))))

says_removed : (t : Trailed) (ws new : List Watching) (slot visited : ℕ) (last : Option Step) → Changes ws new slot vacancy → Says t ws visited last → Says t new visited (closed_only last)
says_removed t ws new slot visited None c s = tt
says_removed t ws new slot visited (Some Closed) c s = (s.0, quiet_free (literals t.made) ws new slot c s.1)
says_removed t ws new slot visited (Some (Conflict id)) c s = tt

pub whole_removed : (t : Trailed) (ws new : List Watching) (slot id : ℕ) (chains more : Chained) (visited : ℕ) (last : Option Step) (pending : List ℕ) (find found : ℕ → Option ℕ) → IsWhole t ws chains visited last pending find → find id ≡ Some slot → IsNoReason t.made id → new ≡ slice_set ws slot vacancy → ((q : ℕ) → found q ≡ cond (eqb id q) None (find q)) → length more.heads ≡ 2 * t.vars + 3 → IsStill (cut ws slot 0) more → AreSpare more → IsWhole t new more visited (closed_only last) pending found
whole_removed t ws new slot id chains more visited last pending find found w at free is f sized still spare =
    let e = w.tabled in
    let o = w.index.found id slot at in
    let c : Changes ws new slot vacancy = subst (λ (z : List Watching). Changes ws z slot vacancy) (sym is) (changes_set ws slot vacancy o.0) in
    let bare : Changes (cut ws slot 0) new slot vacancy = subst (λ (z : List Watching). Changes (cut ws slot 0) z slot vacancy) (sym is) (changes_bare ws slot vacancy o.0) in
    let unneeded : IsUnneeded ws t.made slot = λ place m i p r j. (let q : i ≡ id = (let a = sym j ∙ o.1 in cc) in free place m p (r ∙ ap (λ (z : ℕ). Some z) q)) in
    let old = still_agrees (cut ws slot 0) new more (agrees_changed (cut ws slot 0) new slot vacancy bare (λ lt place pl h. bare_cut (at_slot ws slot) place (subst (λ (z : Watching). place < length (listed z.c)) (at_cut ws slot 0 o.0) pl) (ap (λ (z : Watching). z.watches place) (sym (at_cut ws slot 0 o.0)) ∙ h)) bare_vacancy) still in
    let long : length new ≡ length ws = ap (λ (z : List Watching). length z) is ∙ length-set ws slot vacancy in
    record {
      tabled = tabled_free t ws new slot chains more visited pending e c unneeded old spare sized (omega (arith, e.few, long));
      index = record {
        found = λ q y h. elim (cases_eq id q) [
          | inl s ↦ (let a = sym (f q ∙ cond-true (eqb id q) None (find q) (eq-eqb id q s)) ∙ h in absurd cc)
          | inr d ↦ (
              let p = w.index.found q y (sym (f q ∙ cond-false (eqb id q) None (find q) (ne_eqb id q d)) ∙ h) in
              let lt : y < length new = omega (arith, p.0, long) in
              let m : y ≢ slot = λ s. d (let a = sym o.1 ∙ ap (λ (z : ℕ). (at_slot ws z).id) (sym s) ∙ p.1 in cc) in
              (lt, ap (λ (z : Watching). z.id) (c.others y lt m).1 ∙ p.1))
        ];
        kept = λ q y lt h. elim (cases_eq y slot) [
          | inl m ↦ (let a = sym (ap (λ (z : Watching). z.id) (ap (at_slot new) m ∙ c.here)) ∙ h in absurd cc)
          | inr d ↦ (
              let p = c.others y lt d in
              let h2 = sym (ap (λ (z : Watching). z.id) p.1) ∙ h in
              let n : id ≢ q = λ s. d (distinct ws find w.index y slot id p.0 o.0 (h2 ∙ ap (λ (z : ℕ). Some z) (sym s)) o.1) in
              f q ∙ cond-false (eqb id q) None (find q) (ne_eqb id q n) ∙ w.index.kept q y p.0 h2)
        ];
      };
      says = says_removed t ws new slot visited last c w.says;
    }
