use Rattle.std.proofs.Common.{◌≡◌, ℕ, ◌<◌, ◌+◌, ◌++◌, ◌∷◌, [], true, false, List, length, refl, sym, ap, ◌∙◌, subst, inl, inr, arith}
use Rattle.std.specs.Prelude.{slice_index_or, Some}
use Rattle.std.proofs.lemmas.Bool.{not-true}
use Rattle.std.proofs.lemmas.List.{get_or_read}
use Rattle.kn_logic.specs.Literals.{Literal, names}
use Rattle.kn_logic.specs.Constraints.{Bounded}
use Rattle.kn_logic.specs.Propagation.{Forces}
use Rattle.kn_watch.specs.declared.trail.Made.{Made}
use Rattle.kn_watch.specs.Trails.{Trailed, literals, IsTrail}
use Rattle.kn_watch.specs.Watches.{listed, lit_at, IsForced}
use Rattle.kn_propagate.specs.Chains.{IsGrown, AreForcedBy}
use Rattle.kn_propagate.proofs.Resting.{grown_same}
use Rattle.kn_watch.proofs.Public.{names_unset, consistent_of}
use Rattle.kn_watch.proofs.Public.{IsForcedTo, forced_first, not_forced, now_forced, forced_all}
use Rattle.kn_propagate.proofs.Reasons.{forces, forced_none, forced_push}
use Rattle.kn_propagate.proofs.Walks.{grown_push, literals_push}
use Rattle.kn_propagate.proofs.visiting.push_forced.Goals as goal
use Rattle.kn_propagate.proofs.visiting.push_forced.Goals.{then-forced, else-forced}

-- the literal that was read
lit_is : (lits : List Literal) (c : Bounded) (place : ℕ) (l : Literal) → lits ≡ listed c → place < length (listed c) → l ≡ slice_index_or lits place l → l ≡ lit_at (listed c) place
lit_is lits c place l e lt r = get_or_read (listed c) place l lt (r ∙ ap (λ (xs : List Literal). slice_index_or xs place l) e) (record { variable = 0; positive = true })

-- what the loop keeps
abbrev Kept : Trailed → Trailed → ℕ → Bounded → ℕ → Type 0
Kept t u id c place = (IsGrown t u) × (AreForcedBy id c t.made u.made) × (IsForcedTo (literals u.made) c place)

after_push : (t u v : Trailed) (id : ℕ) (c : Bounded) (place : ℕ) (m : Made) → IsGrown t u → AreForcedBy id c t.made u.made → v ≡ (record u { made = u.made ++ m ∷ [] }) → m.level ≡ u.level → m.reason ≡ Some id → m.lit ≡ lit_at (listed c) place → IsTrail v → place < length (listed c) → IsForced (literals u.made) c place → IsForcedTo (literals u.made) c place → Kept t v id c (place + 1)
after_push t u v id c place m g fb is e r l k lt f to = (
  grown_push t u v m g is e k,
  forced_push id c t.made u v m is r (subst (Forces (literals u.made) c) (sym l) (forces (literals u.made) c place lt f)) fb,
  subst (λ (x : List Literal). IsForcedTo x c (place + 1)) (sym (literals_push u v m is ∙ ap (λ (z : Literal). literals u.made ++ z ∷ []) l)) (now_forced (literals u.made) c place (consistent_of u g.kept) lt f to),
)

pub loop-place-init : goal.loop-place-init
loop-place-init g c = record {
  present = grown_same c.args.trail.now c.requires.trail;
  reasons = forced_none c.args.id (g.W.Watched.bounded c.args.w.now) c.args.trail.now.made;
  to = forced_first (literals c.args.trail.now.made) (g.W.Watched.bounded c.args.w.now) c.requires.forces;
}

pub push-requires-clause-unset : goal.push-requires-clause-unset
push-requires-clause-unset g c =
    let b = g.W.Watched.bounded c.args.w.now in
    let lt : c.loop-place.place < length (listed b) = omega (arith, c.loop-place-test.true, ap (λ (xs : List Literal). length xs) c.lits-place-end.ensures) in
    let l = lit_is c.lits.result.now b c.loop-place.place c.index-lits-place.result c.lits.ensures lt c.index-lits-place.is in
    let f = c.forced.ensures.0 c.if-forced.true in
    subst (λ (z : Literal). names (literals c.loop-place.trail.made) z.variable ≡ false) (sym l) (names_unset (literals c.loop-place.trail.made) (lit_at (listed b) c.loop-place.place) f.0)

pub loop-place-preserved : goal.loop-place-preserved
loop-place-preserved g c =
    let b = g.W.Watched.bounded c.args.w.now in
    let lt : c.loop-place.place < length (listed b) = omega (arith, c.loop-place-test.true, ap (λ (xs : List Literal). length xs) c.lits-place-end.ensures) in
    let inv = c.loop-place.invariant in
    let both : (IsGrown c.args.trail.now c.if-forced.trail) × (AreForcedBy c.args.id b c.args.trail.now.made c.if-forced.trail.made) × (IsForcedTo (literals c.if-forced.trail.made) b (c.loop-place.place + 1)) = elim c.if-forced.branch [
      | then-forced w ↦ (
          let l = lit_is w.lits.result.now b c.loop-place.place w.index-lits-place.result w.lits.ensures lt w.index-lits-place.is in
          let m : Made = record { lit = w.index-lits-place.result; level = c.loop-place.trail.level; reason = Some c.args.id } in
          let after = after_push c.args.trail.now c.loop-place.trail w.push.new.self c.args.id b c.loop-place.place m inv.present inv.reasons w.push.ensures.made refl refl l w.push.ensures.kept lt (c.forced.ensures.0 w.if-forced.true) inv.to in
          subst (λ (t : Trailed). (IsGrown c.args.trail.now t) × (AreForcedBy c.args.id b c.args.trail.now.made t.made) × (IsForcedTo (literals t.made) b (c.loop-place.place + 1))) (sym w.trail-is) after)
      | else-forced w ↦ (
          let after : (IsGrown c.args.trail.now c.loop-place.trail) × (AreForcedBy c.args.id b c.args.trail.now.made c.loop-place.trail.made) × (IsForcedTo (literals c.loop-place.trail.made) b (c.loop-place.place + 1)) = (inv.present, inv.reasons, not_forced (literals c.loop-place.trail.made) b c.loop-place.place lt (λ f. (let t = c.forced.ensures.1 f in let n = w.if-forced.false in absurd cc)) inv.to) in
          subst (λ (t : Trailed). (IsGrown c.args.trail.now t) × (AreForcedBy c.args.id b c.args.trail.now.made t.made) × (IsForcedTo (literals t.made) b (c.loop-place.place + 1))) (sym w.trail-is) after)
    ] in
    record { present = both.0; reasons = both.1; to = both.2 }

pub returns-clause-satisfied : goal.returns-clause-satisfied
returns-clause-satisfied g c h =
    let b = g.W.Watched.bounded c.args.w.now in
    let end : c.loop-place.place ≡ length (listed b) = omega (arith, c.loop-place-test.false, c.loop-place.auto.place-end, ap (λ (xs : List Literal). length xs) c.lits-place-end.ensures) in
    elim (forced_all (literals c.loop-place.trail.made) b (subst (λ (n : ℕ). IsForcedTo (literals c.loop-place.trail.made) b n) end c.loop-place.invariant.to)) [
      | inl s ↦ s
      | inr k ↦ (let t = c.is_conflicting.ensures.1 k in let n = not-true _ h in absurd cc)
    ]
