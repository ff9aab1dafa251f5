use Rattle.std.proofs.Common.{◌≡◌, ◌<◌, Some, length, sym, ap, ◌∙◌, subst, arith}
use Rattle.std.specs.Prelude.{option_map, slice_get, IfSome}
use Rattle.kn_watch.specs.Trails.{Trailed, made_of}
use Rattle.kn_watch.proofs.Tabled.{var_within, place_read, unnamed_sign}
use Rattle.kn_watch.proofs.trail.Trail.place_of.Goals as goal

pub index-requires : goal.index-requires
index-requires c =
    let sign = sym c.in-Some.is ∙ c.sign_of.ensures.sign in
    let le = var_within c.args.self.now.vars c.args.var c.args.self.now.made c.in-Some.field-0 c.sign_of.ensures.kept.known sign in
    let vars = ap (λ (x : Trailed). x.vars) c.self.view_is in
    omega (arith, le, vars, c.self.invariant.2.placed)

pub returns-in-Some-clause-some : goal.returns-in-Some-clause-some
returns-in-Some-clause-some c =
    let t = c.self.inside in
    let sign = subst (λ (x : Trailed). Some c.in-Some.field-0 ≡ option_map (λ m. m.lit.positive) (made_of x.made c.args.var)) (sym c.self.view_is) (sym c.in-Some.is ∙ c.sign_of.ensures.sign) in
    let found = place_read t.vars c.args.var c.index.result.now t.made.items t.values.items t.places.items c.in-Some.field-0 c.self.invariant.0.known c.self.invariant.2 sign c.index.ensures in
    subst (λ (x : Trailed). IfSome (slice_get x.made c.index.result.now) (λ m. m.lit.variable ≡ c.args.var)) c.self.view_is found.1

pub returns-in-Some-clause-inside : goal.returns-in-Some-clause-inside
returns-in-Some-clause-inside c =
    let t = c.self.inside in
    let sign = subst (λ (x : Trailed). Some c.in-Some.field-0 ≡ option_map (λ m. m.lit.positive) (made_of x.made c.args.var)) (sym c.self.view_is) (sym c.in-Some.is ∙ c.sign_of.ensures.sign) in
    let found = place_read t.vars c.args.var c.index.result.now t.made.items t.values.items t.places.items c.in-Some.field-0 c.self.invariant.0.known c.self.invariant.2 sign c.index.ensures in
    subst (λ (x : Trailed). c.index.result.now < length x.made) c.self.view_is found.0

pub returns-in-None-clause-none : goal.returns-in-None-clause-none
returns-in-None-clause-none c = unnamed_sign c.args.self.now.made c.args.var (sym c.in-None.is ∙ c.sign_of.ensures.sign)
