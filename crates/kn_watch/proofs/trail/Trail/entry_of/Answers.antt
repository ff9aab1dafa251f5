use Rattle.std.proofs.Common.{◌≡◌, ◌<◌, Some, length, sym, subst}
use Rattle.std.specs.Prelude.{slice_get, IfSome}
use Rattle.kn_watch.specs.Trails.{Trailed, made_of}
use Rattle.kn_watch.proofs.Tabled.{entry_found, none_of}
use Rattle.kn_watch.proofs.trail.Trail.entry_of.Goals as goal

pub returns-in-Some-clause-entry : goal.returns-in-Some-clause-entry
returns-in-Some-clause-entry c =
    let t = c.self.inside in
    let m = c.index.result.now in
    let found = subst (λ (x : Trailed). IfSome (slice_get x.made c.in-Some.place) (λ e. e.lit.variable ≡ c.args.var)) (sym c.self.view_is) c.in-Some.ensures.some in
    let lt = subst (λ (x : Trailed). c.in-Some.place < length x.made) (sym c.self.view_is) c.in-Some.ensures.inside in
    subst (λ (x : Trailed). Some m ≡ made_of x.made c.args.var) c.self.view_is (entry_found t.made.items c.args.var c.in-Some.place m c.self.invariant.0.different lt c.index.ensures found)

pub returns-in-None-clause-entry : goal.returns-in-None-clause-entry
returns-in-None-clause-entry c = sym (none_of c.args.self.now.made c.args.var c.in-None.ensures.none)
