-- What the tables of an engine keep, as its callers see it.
use Rattle.std.proofs.Common.{◌≡◌, ℕ, zero, suc, ◌+◌, ◌-◌, ◌≤◌, ◌<◌, true, eqb, List, [], ◌∷◌, Option, Some, None, length, refl, sym, ap, ◌∙◌, subst, inl, inr, arith}
use Rattle.std.specs.Prelude.{slice_get, slice_index_or}
use Rattle.std.specs.List.{AllByRecursion}
use Rattle.std.proofs.lemmas.Bool.{eq-eqb, ne_eqb, cond-true, cond-false}
use Rattle.std.proofs.lemmas.Option.{slice_get_within, slice_get-get_or}
use Rattle.kn_logic.specs.Literals.{Literal}
use Rattle.kn_logic.specs.Constraints.{Bounded, IsWithin}
use Rattle.kn_logic.specs.Propagation.{IsShort, IsConsistent, IsClosed, after_hint}
use Rattle.kn_logic.proofs.Public.{IsOn, short-conflict}
use Rattle.kn_watch.specs.declared.trail.Made.{Made}
use Rattle.kn_watch.specs.Trails.{Trailed, literals, below, IsRising, IsTrail}
use Rattle.kn_watch.specs.Watches.{IsBinding, IsConflicting}
use Rattle.kn_watch.proofs.Public.{consistent_of, consistent_below}
use Rattle.kn_propagate.specs.declared.step.Step.{Step}
use Rattle.kn_propagate.specs.declared.step.Step.TheVariants.{Closed, Conflict}
use Rattle.kn_propagate.specs.Chains.{Watching, Chained, at_slot}
use Rattle.kn_propagate.specs.Engines.{Live, constraints, live_in, AreApart, HasStepped, IsEngine}
use Rattle.kn_propagate.specs.Wholes.{with_live, live_of, IsIndex, IsQuiet, AreBegun, Says, IsWhole}

-- no two slots have one id
abbrev pub AreDistinct : List Watching → Type 0
AreDistinct ws = (i j id : ℕ) → i < length ws → j < length ws → (at_slot ws i).id ≡ Some id → (at_slot ws j).id ≡ Some id → i ≡ j

pub distinct : (ws : List Watching) (find : ℕ → Option ℕ) → IsIndex ws find → AreDistinct ws
distinct ws find x i j id il jl e f = let a = x.kept id i il e in let b = x.kept id j jl f in cc

tail_distinct : (w : Watching) (ws : List Watching) → AreDistinct (w ∷ ws) → AreDistinct ws
tail_distinct w ws d i j id il jl e f = omega (arith, d (suc i) (suc j) id (omega (arith, il)) (omega (arith, jl)) e f)

skip : (o : Option ℕ) (c : Bounded) (live : List Live) (id : ℕ) → (o ≡ Some id → ⊥) → live_in (with_live o c live) id ≡ live_in live id
skip None c live id n = refl
skip (Some x) c live id n = cond-false (eqb x id) (Some c) (live_in live id) (ne_eqb x id (λ (q : x ≡ id). n (ap (λ (z : ℕ). Some z) q)))

here : (c : Bounded) (live : List Live) (id : ℕ) → live_in (with_live (Some id) c live) id ≡ Some c
here c live id = cond-true (eqb id id) (Some c) (live_in live id) (eq-eqb id id refl)

pub live_is : (ws : List Watching) (slot id : ℕ) → AreDistinct ws → slot < length ws → (at_slot ws slot).id ≡ Some id → live_in (live_of ws) id ≡ Some (at_slot ws slot).c
live_is [] slot id d lt e = absurd (omega (arith, lt))
live_is (w ∷ ws) zero id d lt e = subst (λ (o : Option ℕ). live_in (with_live o w.c (live_of ws)) id ≡ Some w.c) (sym e) (here w.c (live_of ws) id)
live_is (w ∷ ws) (suc slot) id d lt e =
    skip w.id w.c (live_of ws) id (λ q. (let n = d zero (suc slot) id (omega arith) (omega (arith, lt)) q e in absurd (omega (arith, n))))
    ∙ live_is ws slot id (tail_distinct w ws d) (omega (arith, lt)) e

pub none_is : (ws : List Watching) (id : ℕ) → ((slot : ℕ) → slot < length ws → (at_slot ws slot).id ≡ Some id → ⊥) → live_in (live_of ws) id ≡ None
none_is [] id n = refl
none_is (w ∷ ws) id n = skip w.id w.c (live_of ws) id (λ q. n zero (omega arith) q) ∙ none_is ws id (λ slot lt e. n (suc slot) (omega (arith, lt)) e)

apart_step : (o : Option ℕ) (c : Bounded) (ws : List Watching) → ((id slot : ℕ) → o ≡ Some id → slot < length ws → (at_slot ws slot).id ≡ Some id → ⊥) → AreApart (live_of ws) → AreApart (with_live o c (live_of ws))
apart_step None c ws n h = h
apart_step (Some id) c ws n h = (none_is ws id (λ slot lt e. n id slot refl lt e), h)

apart_is : (ws : List Watching) → AreDistinct ws → AreApart (live_of ws)
apart_is [] d = tt
apart_is (w ∷ ws) d = apart_step w.id w.c ws (λ id slot q lt e. (let n = d zero (suc slot) id (omega arith) (omega (arith, lt)) q e in absurd (omega (arith, n)))) (apart_is ws (tail_distinct w ws d))

-- what holds of the constraint of each slot holds of each live one
all_step : (P : Bounded → Type 0) (o : Option ℕ) (c : Bounded) (live : List Live) → P c → AllByRecursion (λ l. P l.constraint) live → AllByRecursion (λ l. P l.constraint) (with_live o c live)
all_step P None c live p h = h
all_step P (Some id) c live p h = (p, h)

all_live : (P : Bounded → Type 0) (ws : List Watching) → ((slot : ℕ) → slot < length ws → P (at_slot ws slot).c) → AllByRecursion (λ l. P l.constraint) (live_of ws)
all_live P [] h = tt
all_live P (w ∷ ws) h = all_step P w.id w.c (live_of ws) (h zero (omega arith)) (all_live P ws (λ slot lt. h (suc slot) (omega (arith, lt))))

all_constraints : (P : Bounded → Type 0) (live : List Live) → AllByRecursion (λ l. P l.constraint) live → AllByRecursion P (constraints live)
all_constraints P [] h = tt
all_constraints P (l ∷ live) h = (h.0, all_constraints P live h.1)

pub closed_is : (trail : List Literal) (ws : List Watching) → IsConsistent trail → IsQuiet trail ws → IsClosed trail (constraints (live_of ws))
closed_is trail ws k q = record {
  consistent = k;
  quiet = all_constraints (λ c. IsShort trail c → ⊥) (live_of ws) (all_live (λ c. IsShort trail c → ⊥) ws q);
}

pub level_at : (top : ℕ) (made : List Made) (p : ℕ) (m : Made) → IsRising top made → slice_get made p ≡ Some m → m.level ≤ top
level_at top [] p m r e = absurd cc
level_at top (x ∷ made) zero m r e = let q : x ≡ m = cc in subst (λ (z : Made). z.level ≤ top) q r.0
level_at top (x ∷ made) (suc p) m r e = level_at top made p m r.2 e

all_at : (low : ℕ) (made : List Made) (p : ℕ) (m : Made) → AllByRecursion (λ n. low ≤ n.level) made → slice_get made p ≡ Some m → low ≤ m.level
all_at low [] p m a e = absurd cc
all_at low (x ∷ made) zero m a e = let q : x ≡ m = cc in subst (λ (z : Made). low ≤ z.level) q a.0
all_at low (x ∷ made) (suc p) m a e = all_at low made p m a.1 e

pub rising_at : (top : ℕ) (made : List Made) (p q : ℕ) (m n : Made) → IsRising top made → p ≤ q → slice_get made p ≡ Some m → slice_get made q ≡ Some n → m.level ≤ n.level
rising_at top [] p q m n r le e f = absurd cc
rising_at top (x ∷ made) zero zero m n r le e f = let s : m ≡ n = cc in subst (λ (z : Made). m.level ≤ z.level) s (omega arith)
rising_at top (x ∷ made) zero (suc q) m n r le e f = let s : x ≡ m = cc in subst (λ (z : Made). z.level ≤ n.level) s (all_at x.level made q n r.1 f)
rising_at top (x ∷ made) (suc p) zero m n r le e f = absurd (omega (arith, le))
rising_at top (x ∷ made) (suc p) (suc q) m n r le e f = rising_at top made p q m n r.2 (omega (arith, le)) e f

nothing_made : Made
nothing_made = record { lit = record { variable = 0; positive = true }; level = 0; reason = None }

last_is : (t : Trailed) → IsTrail t → AreBegun t → 1 ≤ t.level → (m : Made) × (slice_get t.made (length t.made - 1) ≡ Some m) × (m.level ≡ t.level)
last_is t k b le =
    let h = b t.level le (omega arith) in
    let lt = slice_get_within t.made h.0 h.1 h.2 in
    let m = slice_index_or t.made (length t.made - 1) nothing_made in
    let e : slice_get t.made (length t.made - 1) ≡ Some m = slice_get-get_or t.made (length t.made - 1) nothing_made (omega (arith, lt)) in
    let low = rising_at t.level t.made h.0 (length t.made - 1) h.1 m k.rising (omega (arith, lt)) h.2 e in
    let high = level_at t.level t.made (length t.made - 1) m k.rising e in
    (m, e, omega (arith, low, high, h.3))

on : (trail : List Literal) (guard : Option Literal) → IsBinding trail guard → IsOn trail guard
on trail None b = tt
on trail (Some g) b = b

pub conflict_is : (trail : List Literal) (c : Bounded) → IsConflicting trail c → after_hint trail c ≡ None
conflict_is trail c k = short-conflict trail c c.guard refl (on trail c.guard k.1) k.0

stepped_is : (t : Trailed) (ws : List Watching) (visited : ℕ) (last : Option Step) → IsTrail t → AreDistinct ws → Says t ws visited last → HasStepped (record { trail = t; live = live_of ws; last = last }) last
stepped_is t ws visited None k d s = tt
stepped_is t ws visited (Some Closed) k d s = closed_is (literals t.made) ws (consistent_of t k) s.1
stepped_is t ws visited (Some (Conflict id)) k d s = ((at_slot ws s.0).c, live_is ws s.0 id d s.1 s.2, conflict_is (literals t.made) (at_slot ws s.0).c s.3)

pub engine_is : (t : Trailed) (ws : List Watching) (chains : Chained) (visited : ℕ) (last : Option Step) (pending : List ℕ) (find : ℕ → Option ℕ) → IsWhole t ws chains visited last pending find → IsEngine (record { trail = t; live = live_of ws; last = last })
engine_is t ws chains visited last pending find w =
    let d = distinct ws find w.index in
    let k = w.tabled.fresh.trail in
    record {
      known = k.known;
      different = k.different;
      levels = λ p m e. level_at t.level t.made p m k.rising e;
      rising = k.rising;
      assumed = λ p q m n e r f lt. elim (w.tabled.founded p m e) [
        | inl a ↦ a.2 q n lt f
        | inr a ↦ (let b = a.0.3 in absurd cc)
      ];
      assumed_above = λ p m e r. elim (w.tabled.founded p m e) [
        | inl a ↦ a.1
        | inr a ↦ (let b = a.0.3 in absurd cc)
      ];
      first = λ p m e le before. elim (w.tabled.founded p m e) [
        | inl a ↦ a.0
        | inr a ↦ elim (a.1) [
          | inl z ↦ absurd (omega (arith, z, le))
          | inr f ↦ (let b = before f.0 f.1 f.2 f.3 in absurd (omega (arith, b, f.4)))
        ]
      ];
      last = λ le. last_is t k w.tabled.begun le;
      forced = λ p m id e r. elim (w.tabled.founded p m e) [
        | inl a ↦ (let b = a.0 in absurd cc)
        | inr a ↦ (
            let h = a.0 in
            let i : h.1 ≡ id = (let b = h.3 in cc) in
            ((at_slot ws h.0).c, live_is ws h.0 id d h.2 (h.4 ∙ ap (λ (z : ℕ). Some z) i), h.5))
      ];
      closed = λ n lt. closed_is (literals (below (n + 1) t.made)) ws (consistent_below t (n + 1) k) (w.tabled.lower n lt);
      stepped = stepped_is t ws visited last k d w.says;
      apart = apart_is ws d;
      within = all_live (IsWithin t.vars) ws (λ slot lt. (w.tabled.kept slot lt).within);
    }
