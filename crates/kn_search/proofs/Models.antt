-- Where each variable has a value on a closed trail, the values are a model of the constraints.
use Rattle.std.proofs.Common.{◌≡◌, ℕ, ◌≤◌, ◌<◌, ◌⊎◌, ◌||◌, Bool, true, false, not, cond, eqb, leb, List, [], ◌∷◌, Option, None, Some, IfSome, refl, sym, ap, ◌∙◌, subst, inl, inr}
use Rattle.std.specs.List.{AllByRecursion}
use Rattle.std.proofs.lemmas.Bool.{cases_Bool, cond-true, cond-false, eqb-true, eq-eqb, leb-true, leb-false}
use Rattle.std.proofs.lemmas.Option.{same_Some}
use Rattle.kn_logic.specs.Literals.{Literal, negated, has, IsKnown, AreKnown}
use Rattle.kn_logic.specs.Assignments.{is_true, true_places}
use Rattle.kn_logic.specs.Constraints.{Bounded, IsOff, Holds, IsWithin}
use Rattle.kn_logic.specs.Propagation.{is_open, open_places, IsShortUnder, IsShort, IsClosed}
use Rattle.kn_watch.specs.Trails.{literals}
use Rattle.kn_watch.proofs.Public.{set-names, consistent_at}
use Rattle.kn_propagate.specs.Engines.{Engined, IsEngine, Live, live_in, constraints, AreApart}
use Rattle.kn_search.specs.Deciding.{AreValued, IsTotal, AreValuesOf}
use Rattle.kn_search.specs.Outcomes.{IsModelOf}
use Rattle.kn_search.specs.Searches.{AreKept}
use Rattle.kn_search.proofs.Mirroring.{live-all}

-- each variable from 1 to a number has one literal in the list, and the value that it asks for
record Decides (vars : ℕ) (lits : List Literal) (values : List Bool) : Type 0 where
  total : AreValued lits vars
  one : (l : Literal) → has lits l ≡ true → has lits (negated l) ≡ false
  values_ : AreValuesOf vars lits values

other_way : (a b : Bool) → (a || b) ≡ true → (a ≡ true → b ≡ false) → not b ≡ a
other_way true b h one = ap not (one refl)
other_way false true h one = refl
other_way false false h one = absurd cc

open_is_true : (vars : ℕ) (lits : List Literal) (values : List Bool) → Decides vars lits values → (l : Literal) → IsKnown vars l → is_open lits l ≡ has lits l
open_is_true vars lits values d l known = other_way (has lits l) (has lits (negated l)) (set-names lits l ∙ d.total l.variable known.0 known.1) (d.one l)

true_as : (vars : ℕ) (lits : List Literal) (values : List Bool) → Decides vars lits values → (v : ℕ) (p : Bool) → 1 ≤ v → v ≤ vars → is_true values (record { variable = v; positive = p }) ≡ has lits (record { variable = v; positive = p })
true_as vars lits values d v true first last = d.values_.exact v first last
true_as vars lits values d v false first last = ap not (d.values_.exact v first last) ∙ open_is_true vars lits values d (record { variable = v; positive = false }) (first, last)

open_as_true : (vars : ℕ) (lits : List Literal) (values : List Bool) → Decides vars lits values → (l : Literal) → IsKnown vars l → is_open lits l ≡ is_true values l
open_as_true vars lits values d l known = open_is_true vars lits values d l known ∙ sym (true_as vars lits values d l.variable l.positive known.0 known.1)

same_places : (vars : ℕ) (lits : List Literal) (values : List Bool) → Decides vars lits values → (xs : List Literal) → AreKnown vars xs → open_places lits xs ≡ true_places values xs
same_places vars lits values d [] known = refl
same_places vars lits values d (x ∷ xs) known = rw (open_as_true vars lits values d x known.0, same_places vars lits values d xs known.1) refl

enough : (a b : ℕ) → (a < b → ⊥) → b ≤ a
enough a b h = elim (cases_Bool (leb b a)) [ inl e ↦ leb-true b a e | inr e ↦ absurd (h (leb-false b a e)) ]

-- a constraint that is not short holds
guarded_holds : (vars : ℕ) (lits : List Literal) (values : List Bool) (guard : Literal) (bound : ℕ) (own : List Literal) → Decides vars lits values → IsKnown vars guard → AreKnown vars own → (IsShortUnder lits (Some guard) bound own → ⊥)
    → (b : Bool) → is_true values guard ≡ b → (bound ≤ true_places values own) ⊎ IsOff values (Some guard)
guarded_holds vars lits values guard bound own d known within quiet false is = inr is
guarded_holds vars lits values guard bound own d known within quiet true is =
    let open_ : is_open lits guard ≡ true = open_as_true vars lits values d guard known ∙ is in
    inl (subst (λ (n : ℕ). bound ≤ n) (same_places vars lits values d own within) (enough (open_places lits own) bound (λ less. quiet (inl (open_, less)))))

holds_under : (vars : ℕ) (lits : List Literal) (values : List Bool) (guard : Option Literal) (bound : ℕ) (own : List Literal) → Decides vars lits values → IfSome guard (IsKnown vars) → AreKnown vars own → (IsShortUnder lits guard bound own → ⊥)
    → (bound ≤ true_places values own) ⊎ IsOff values guard
holds_under vars lits values None bound own d known within quiet =
    inl (subst (λ (n : ℕ). bound ≤ n) (same_places vars lits values d own within) (enough (open_places lits own) bound (λ less. quiet (inl less))))
holds_under vars lits values (Some guard) bound own d known within quiet =
    guarded_holds vars lits values guard bound own d known within quiet (is_true values guard) refl

-- each constraint is found under its id
found_each : (P : Bounded → Type 0) (live : List Live) → AreApart live → ((id : ℕ) (c : Bounded) → live_in live id ≡ Some c → P c) → AllByRecursion P (constraints live)
found_each P [] apart h = tt
found_each P (x ∷ live) apart h = (
  h x.id x.constraint (cond-true (eqb x.id x.id) (Some x.constraint) (live_in live x.id) (eq-eqb x.id x.id refl)),
  found_each P live apart.1 (λ id c at. h id c (behind id c (eqb x.id id) refl at)),
)
  where
    behind : (id : ℕ) (c : Bounded) (b : Bool) → eqb x.id id ≡ b → live_in live id ≡ Some c → cond (eqb x.id id) (Some x.constraint) (live_in live id) ≡ Some c
    behind id c true e at = (let none : live_in live id ≡ None = subst (λ (n : ℕ). live_in live n ≡ None) (eqb-true x.id id e) apart.0 in absurd cc)
    behind id c false e at = cond-false (eqb x.id id) (Some x.constraint) (live_in live id) e ∙ at

within_live : (vars : ℕ) (live : List Live) (id : ℕ) (c : Bounded) → AllByRecursion (λ l. IsWithin vars l.constraint) live → live_in live id ≡ Some c → IsWithin vars c
within_live vars [] id c h at = absurd cc
within_live vars (x ∷ live) id c h at = here (eqb x.id id) at (within_live vars live id c h.1)
  where
    here : (b : Bool) → cond b (Some x.constraint) (live_in live id) ≡ Some c → (live_in live id ≡ Some c → IsWithin vars c) → IsWithin vars c
    here true e ih = subst (IsWithin vars) (same_Some x.constraint c e) h.0
    here false e ih = ih e

-- the values of a closed trail on which each variable has a value, and the constraints that were live at first
pub model-of : (first g : Engined) (values : List Bool) (ids : List ℕ) → AreApart first.live → g.trail.vars ≡ first.trail.vars → AreKept first.live g.live ids → IsEngine g → IsClosed (literals g.trail.made) (constraints g.live) → IsTotal g.trail
    → AreValuesOf g.trail.vars (literals g.trail.made) values → IsModelOf first values
model-of first g values ids apart vars kept engine closed total are =
    let d : Decides g.trail.vars (literals g.trail.made) values = record {
      total = total;
      one = λ l h. not_open (has (literals g.trail.made) (negated l)) (consistent_at (literals g.trail.made) (literals g.trail.made) l closed.consistent h);
      values_ = are;
    } in (
      are.count ∙ vars,
      found_each (Holds values) first.live apart (λ id c at.
          let there = kept.live_ id c at in
          let within = within_live g.trail.vars g.live id c engine.within there in
          holds_under g.trail.vars (literals g.trail.made) values c.guard c.bound c.lits d within.guard within.lits (live-all (λ x. IsShort (literals g.trail.made) x → ⊥) g.live id c closed.quiet there)),
    )
  where
    not_open : (b : Bool) → not b ≡ true → b ≡ false
    not_open true h = absurd cc
    not_open false h = refl
