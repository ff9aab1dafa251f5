use Rattle.std.specs.Prelude.{vec_capacity}
use Rattle.std.proofs.Common.{List, ◌≡◌, ◌≤◌, ◌++◌, ◌∷◌, [], length, false, refl, sym, subst, arith}
use Rattle.std.proofs.lemmas.Grind.{common_steps}
use Rattle.kn_logic.specs.Literals.{names, IsKnown}
use Rattle.kn_watch.specs.declared.trail.Made.{Made}
use Rattle.kn_watch.specs.Trails.{Trailed, IsTrail, literals}
use Rattle.kn_watch.proofs.Tabled.{tables_push, tables_as}
use Rattle.kn_watch.proofs.TrailKeeps.{trail-push, room}
use Rattle.kn_watch.proofs.trail.Trail.push.Goals as goal

pub unreachable-requires : goal.unreachable-requires
unreachable-requires c =
    let m : Made = record { lit = c.args.lit; level = c.self.inside.level; reason = c.args.reason } in
    let t : Trailed = record { vars = c.self.inside.vars; level = c.self.inside.level; made = c.self.inside.made.items } in
    let known = subst (λ (x : Trailed). IsKnown x.vars c.args.lit) (sym c.self.view_is) c.requires.known in
    let unset = subst (λ (x : Trailed). names (literals x.made) c.args.lit.variable ≡ false) (sym c.self.view_is) c.requires.unset in
    let r = room t m c.self.invariant.0 known unset in
    let cap : c.self.inside.vars ≤ vec_capacity c.self.inside.made = c.self.invariant.1 in
    grind (arith, common_steps)

pub invariant_of-self : goal.invariant_of-self
invariant_of-self c =
    let m : Made = record { lit = c.args.lit; level = c.self.inside.level; reason = c.args.reason } in
    let t : Trailed = record { vars = c.self.inside.vars; level = c.self.inside.level; made = c.self.inside.made.items } in
    let known = subst (λ (x : Trailed). IsKnown x.vars c.args.lit) (sym c.self.view_is) c.requires.known in
    let unset = subst (λ (x : Trailed). names (literals x.made) c.args.lit.variable ≡ false) (sym c.self.view_is) c.requires.unset in
    let more = trail-push t m c.self.invariant.0 known unset refl in
    let items : c.push.new.self.items ≡ c.self.inside.made.items ++ m ∷ [] = grind (arith, common_steps) in
    let cap : c.self.inside.vars ≤ vec_capacity c.self.inside.made = c.self.invariant.1 in
    let tables = tables_push c.self.inside.vars c.self.inside.made.items m c.self.inside.values.items c.self.inside.places.items known c.self.invariant.2 in
    let count : c.len-place.result ≡ length c.self.inside.made.items = grind (arith, common_steps) in (
      subst (λ (x : List Made). IsTrail (record { vars = c.self.inside.vars; level = c.self.inside.level; made = x })) (sym items) more,
      grind (arith, common_steps),
      tables_as c.self.inside.vars c.push.new.self.items (c.self.inside.made.items ++ m ∷ []) c.self.inside.values.items c.self.inside.places.items c.var-var.result c.args.lit.variable c.is_positive.result c.args.lit.positive c.len-place.result (length c.self.inside.made.items) items c.var-var.ensures.value c.is_positive.ensures count tables,
    )

pub returns-clause-kept : goal.returns-clause-kept
returns-clause-kept c =
    let m : Made = record { lit = c.args.lit; level = c.self.inside.level; reason = c.args.reason } in
    let t : Trailed = record { vars = c.self.inside.vars; level = c.self.inside.level; made = c.self.inside.made.items } in
    let known = subst (λ (x : Trailed). IsKnown x.vars c.args.lit) (sym c.self.view_is) c.requires.known in
    let unset = subst (λ (x : Trailed). names (literals x.made) c.args.lit.variable ≡ false) (sym c.self.view_is) c.requires.unset in
    let more = trail-push t m c.self.invariant.0 known unset refl in
    let items : c.push.new.self.items ≡ c.self.inside.made.items ++ m ∷ [] = grind (arith, common_steps) in
    subst (λ (x : List Made). IsTrail (record { vars = c.self.inside.vars; level = c.self.inside.level; made = x })) (sym items) more
