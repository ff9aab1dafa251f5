-- Each literal that is added to a trail, and the constraint that forced it.
use Rattle.std.proofs.Common.{◌≡◌, ℕ, zero, suc, ◌≤◌, ◌<◌, ◌++◌, true, false, List, [], ◌∷◌, Option, Some, None, length, take, refl, sym, ap, ◌∙◌, subst, inl, inr, arith}
use Rattle.std.specs.Prelude.{slice_get}
use Rattle.std.proofs.lemmas.Bool.{and_parts, not-true, cases_lt, or_right}
use Rattle.std.proofs.lemmas.Option.{slice_get_within}
use Rattle.std.proofs.lemmas.List.{map-append, take-append-le}
use Rattle.kn_logic.specs.Constraints.{Bounded}
use Rattle.kn_logic.specs.Literals.{Literal, negated, is_same, has}
use Rattle.kn_logic.specs.Propagation.{is_open, Forces}
use Rattle.kn_logic.proofs.Public.{IsOn, forces-bound, forces-guard, has-first, negated_twice}
use Rattle.kn_watch.specs.declared.trail.Made.{Made}
use Rattle.kn_watch.specs.Trails.{Trailed, literals}
use Rattle.kn_watch.specs.Watches.{listed, unguarded, lit_at, is_unset, IsBinding, IsForced}
use Rattle.kn_propagate.specs.Chains.{Watching, at_slot, AreSame, IsGrown, AreForcedBy, HasReason, AreReasoned}
use Rattle.kn_watch.proofs.Public.{lit_own, lit_last, long_none, long_one}
use Rattle.kn_propagate.proofs.Walks.{length-literals}

has_place : (lits : List Literal) (place : ℕ) → place < length lits → has lits (lit_at lits place) ≡ true
has_place [] place lt = absurd (omega (arith, lt))
has_place (l ∷ lits) zero lt = has-first l lits
has_place (l ∷ lits) (suc place) lt = or_right (is_same (lit_at lits place) l) (has lits (lit_at lits place)) (has_place lits place (omega (arith, lt)))

on : (trail : List Literal) (guard : Option Literal) → IsBinding trail guard → IsOn trail guard
on trail None b = tt
on trail (Some g) b = b

-- the last place of a list with a guard
guard_place : (lits : List Literal) (guard : Option Literal) (place : ℕ) → length lits ≤ place → place < length (lits ++ unguarded guard) → (g : Literal) × (guard ≡ Some g) × (place ≡ length lits) × (lit_at (lits ++ unguarded guard) place ≡ negated g)
guard_place lits None place le lt = absurd (omega (arith, le, lt, long_none lits))
guard_place lits (Some g) place le lt = (g, refl, omega (arith, le, lt, long_one lits (negated g)), lit_last lits (negated g) place (omega (arith, le, lt, long_one lits (negated g))))

-- what is forced is what a hint makes true
pub forces : (trail : List Literal) (c : Bounded) (place : ℕ) → place < length (listed c) → IsForced trail c place → Forces trail c (lit_at (listed c) place)
forces trail c place lt f = elim (f.1) [
  | inl o ↦ (
      let own = lit_own c.lits (unguarded c.guard) place o.0 in
      let unset = subst (λ (z : Literal). is_unset trail z ≡ true) own f.0 in
      subst (Forces trail c) (sym own) (forces-bound trail c c.guard (lit_at c.lits place) refl (on trail c.guard o.2) o.1 (has_place c.lits place o.0) (and_parts (is_open trail (lit_at c.lits place)) _ unset).0))
  | inr o ↦ (
      let g = guard_place c.lits c.guard place o.0 lt in
      let unset = and_parts (is_open trail (negated g.0)) _ (subst (λ (z : Literal). is_unset trail z ≡ true) g.3 f.0) in
      let off = subst (λ (z : Literal). has trail z ≡ false) (negated_twice g.0) (not-true _ unset.0) in
      subst (Forces trail c) (sym g.3) (forces-guard trail c g.0 g.1 off (not-true _ unset.1) o.1))
]

pub get_front : (a b : List Made) (place : ℕ) → place < length a → slice_get (a ++ b) place ≡ slice_get a place
get_front [] b place lt = absurd (omega (arith, lt))
get_front (m ∷ a) b zero lt = refl
get_front (m ∷ a) b (suc place) lt = get_front a b place (omega (arith, lt))

pub get_last : (a : List Made) (m n : Made) (place : ℕ) → length a ≤ place → slice_get (a ++ m ∷ []) place ≡ Some n → (place ≡ length a) × (n ≡ m)
get_last [] m n zero le e = (refl, cc)
get_last [] m n (suc place) le e = absurd cc
get_last (x ∷ a) m n zero le e = absurd (omega (arith, le))
get_last (x ∷ a) m n (suc place) le e = let h = get_last a m n place (omega (arith, le)) e in (omega (arith, h.0), h.1)

pub take_lits : (a b : List Made) (place : ℕ) → place ≤ length a → take place (literals (a ++ b)) ≡ take place (literals a)
take_lits a b place le = ap (take place) (map-append (λ (m : Made). m.lit) a b) ∙ take-append-le place (literals a) (literals b) (omega (arith, le, length-literals a))

take_all : (lits : List Literal) → take (length lits) lits ≡ lits
take_all [] = refl
take_all (l ∷ lits) = ap (λ (x : List Literal). l ∷ x) (take_all lits)

whole : (a b : List Made) → take (length a) (literals (a ++ b)) ≡ literals a
whole a b = take_lits a b (length a) (omega arith) ∙ ap (λ (n : ℕ). take n (literals a)) (sym (length-literals a)) ∙ take_all (literals a)

pub forced_none : (id : ℕ) (c : Bounded) (made : List Made) → AreForcedBy id c made made
forced_none id c made place m le e = absurd (omega (arith, le, slice_get_within made place m e))

pub forced_push : (id : ℕ) (c : Bounded) (made : List Made) (u v : Trailed) (m : Made) → v ≡ (record u { made = u.made ++ m ∷ [] }) → m.reason ≡ Some id → Forces (literals u.made) c m.lit → AreForcedBy id c made u.made → AreForcedBy id c made v.made
forced_push id c made u v m is r f h =
    subst (λ (x : List Made). AreForcedBy id c made x) (sym (ap (λ (x : Trailed). x.made) is)) (λ place n le e. elim (cases_lt place (length u.made)) [
      | inl lt ↦ (
          let k = h place n le (sym (get_front u.made (m ∷ []) place lt) ∙ e) in
          (k.0, subst (λ (x : List Literal). Forces x c n.lit) (sym (take_lits u.made (m ∷ []) place (omega (arith, lt)))) k.1))
      | inr ge ↦ (
          let k = get_last u.made m n place ge e in (
            ap (λ (x : Made). x.reason) k.1 ∙ r,
            subst (λ (i : ℕ). Forces (take i (literals (u.made ++ m ∷ []))) c n.lit) (sym k.0)
                (subst (λ (x : List Literal). Forces x c n.lit) (sym (whole u.made (m ∷ [])))
                (subst (λ (x : Made). Forces (literals u.made) c x.lit) (sym k.1) f)),
          ))
    ])

pub reasons_none : (ws : List Watching) (made : List Made) → AreReasoned ws made made
reasons_none ws made place m le e = absurd (omega (arith, le, slice_get_within made place m e))

pub reasons_of : (ws : List Watching) (slot id : ℕ) (c : Bounded) (made new : List Made) → slot < length ws → (at_slot ws slot).id ≡ Some id → (at_slot ws slot).c ≡ c → AreForcedBy id c made new → AreReasoned ws made new
reasons_of ws slot id c made new lt is same h place m le e =
    let k = h place m le e in
    (slot, id, lt, k.0, is, subst (λ (x : Bounded). Forces (take place (literals new)) x m.lit) (sym same) k.1)

pub reason_same : (ws new : List Watching) (trail : List Literal) (m : Made) → AreSame ws new → HasReason new trail m → HasReason ws trail m
reason_same ws new trail m s h = (h.0, h.1, omega (arith, h.2, s.long), h.3, sym (s.ids h.0) ∙ h.4, subst (λ (x : Bounded). Forces trail x m.lit) (s.same h.0) h.5)

pub reasons_same : (ws new : List Watching) (made more : List Made) → AreSame ws new → AreReasoned new made more → AreReasoned ws made more
reasons_same ws new made more s h place m le e = reason_same ws new (take place (literals more)) m s (h place m le e)

pub reasons_trans : (ws : List Watching) (made : List Made) (u v : Trailed) → IsGrown u v → AreReasoned ws made u.made → AreReasoned ws u.made v.made → AreReasoned ws made v.made
reasons_trans ws made u v g a b place m le e = elim (cases_lt place (length u.made)) [
  | inr ge ↦ b place m ge e
  | inl lt ↦ (
      let is = g.grows.1 in
      let e2 = sym (get_front u.made g.grows.0 place lt) ∙ ap (λ (x : List Made). slice_get x place) (sym is) ∙ e in
      subst (λ (x : List Literal). HasReason ws x m) (sym (ap (λ (x : List Made). take place (literals x)) is ∙ take_lits u.made g.grows.0 place (omega (arith, lt)))) (a place m le e2))
]
