use Rattle.std.proofs.Common.{◌≡◌, ◌<◌, ◌≤◌, Bool, List, Option, None, length, sym, ap, subst, arith}
use Rattle.std.specs.Prelude.{option_map, slice_index_or}
use Rattle.std.proofs.lemmas.Bool.{ltb-true, ltb-false}
use Rattle.kn_watch.specs.Trails.{Trailed, made_of}
use Rattle.kn_watch.proofs.Tabled.{sign_read, sign_none}
use Rattle.kn_watch.proofs.trail.Trail.sign_of.Goals as goal

pub returns-in-Some-clause-sign : goal.returns-in-Some-clause-sign
returns-in-Some-clause-sign c =
    let t = c.self.inside in
    let values = c.deref.ensures.value in
    let found = c.in-Some.ensures.lookup in
    let lt : c.args.var < length t.values.items = omega (arith, ltb-true _ _ (sym found.0), ap (λ (x : List (Option Bool)). length x) values) in
    let is = subst (λ (x : List (Option Bool)). c.in-Some.value.now ≡ slice_index_or x c.args.var c.in-Some.value.now) values found.1 in
    subst (λ (x : Trailed). c.in-Some.value.now ≡ option_map (λ m. m.lit.positive) (made_of x.made c.args.var)) c.self.view_is
    (sign_read t.vars c.args.var t.made.items t.values.items t.places.items c.in-Some.value.now c.self.invariant.0.different c.self.invariant.2 lt is)

pub returns-in-None-clause-sign : goal.returns-in-None-clause-sign
returns-in-None-clause-sign c =
    let t = c.self.inside in
    let le : length t.values.items ≤ c.args.var = omega (arith, ltb-false _ _ (sym c.in-None.ensures.lookup.0), ap (λ (x : List (Option Bool)). length x) c.deref.ensures.value) in
    subst (λ (x : Trailed). None ≡ option_map (λ m. m.lit.positive) (made_of x.made c.args.var)) c.self.view_is
    (sign_none t.vars c.args.var t.made.items t.values.items t.places.items c.self.invariant.0.known c.self.invariant.2 le)
