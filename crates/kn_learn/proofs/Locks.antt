-- A constraint none of whose literals came by it is no reason.
use Rattle.std.proofs.Common.{◌≡◌, ℕ, ◌≤◌, true, false, eqb, List, length, take, Option, None, Some, option_map, refl, sym, ap, ◌∙◌, subst}
use Rattle.std.specs.List.{AllByRecursion, slice_get}
use Rattle.std.proofs.lemmas.Bool.{eq-eqb}
use Rattle.std.proofs.lemmas.List.{take_all}
use Rattle.std.proofs.lemmas.Option.{same_Some}
use Rattle.kn_logic.specs.Literals.{Literal, has, names, AreDifferent}
use Rattle.kn_logic.proofs.Public.{All-has}
use Rattle.kn_watch.specs.declared.trail.Made.{Made}
use Rattle.kn_watch.specs.Trails.{literals}
use Rattle.kn_watch.specs.Watches.{listed}
use Rattle.kn_propagate.specs.Engines.{Engined, live_in, IsEngine}
use Rattle.kn_learn.specs.Analyses.{IsNotBy}
use Rattle.kn_learn.proofs.Places.{engine-trail, same-made, no-name}
use Rattle.kn_learn.proofs.Coming.{listed-of, none-listed}
use Rattle.kn_learn.proofs.Forced.{forced-listed}

pub no-reason : (g : Engined) (id : ℕ) (lits : List Literal) (k : ℕ) → IsEngine g → Some lits ≡ option_map listed (live_in g.live id) → length lits ≤ k → AllByRecursion (IsNotBy g.trail.made id) (take k lits) → (p : ℕ) (m : Made) → slice_get g.trail.made p ≡ Some m → m.reason ≡ Some id → ⊥
no-reason g id lits k engine is past all p m at reason =
    let trail = engine-trail g engine in
    let (c, lives, forces) = trail.forced p m id at reason in
    let stands : has lits m.lit ≡ true = subst (λ (xs : List Literal). has xs m.lit ≡ true) (sym (listed-of lits (live_in g.live id) c is lives)) (forced-listed (take p (literals g.trail.made)) c m.lit (trail.new p m at) forces) in
    All-has (IsNotBy g.trail.made id) lits m.lit (subst (AllByRecursion (IsNotBy g.trail.made id)) (take_all k lits past) all) stands p m at refl reason

pub none-live : (g : Engined) (id : ℕ) → IsEngine g → None ≡ option_map listed (live_in g.live id) → (p : ℕ) (m : Made) → slice_get g.trail.made p ≡ Some m → m.reason ≡ Some id → ⊥
none-live g id engine is p m at reason = let (c, lives, forces) = engine.forced p m id at reason in none-listed (live_in g.live id) c is lives

other-reason : (o : Option ℕ) (reason id : ℕ) → o ≡ Some reason → o ≡ Some id → eqb reason id ≡ false → ⊥
other-reason o reason id e f h = let same : reason ≡ id = same_Some reason id (sym e ∙ f) in let t : eqb reason id ≡ true = eq-eqb reason id same in cc

pub not-by : (made : List Made) (l : Literal) (place id reason : ℕ) (x : Made) → AreDifferent (literals made) → slice_get made place ≡ Some x → x.lit.variable ≡ l.variable → x.reason ≡ Some reason → eqb reason id ≡ false → IsNotBy made id l
not-by made l place id reason x d at var is differ = λ p m get same by.
    let one = same-made made place p x m d at get (var ∙ sym same) in
    other-reason m.reason reason id (sym (ap (λ (y : Made). y.reason) one) ∙ is) by differ

pub not-forced : (made : List Made) (l : Literal) (place id : ℕ) (x : Made) → AreDifferent (literals made) → slice_get made place ≡ Some x → x.lit.variable ≡ l.variable → x.reason ≡ None → IsNotBy made id l
not-forced made l place id x d at var is = λ p m get same by.
    let one = same-made made place p x m d at get (var ∙ sym same) in
    let none : m.reason ≡ None = sym (ap (λ (y : Made). y.reason) one) ∙ is in
    absurd cc

pub unset-by : (made : List Made) (l : Literal) (v id : ℕ) → names (literals made) v ≡ false → v ≡ l.variable → IsNotBy made id l
unset-by made l v id none is = λ p m at same by. no-name made v p m none at (same ∙ sym is)
