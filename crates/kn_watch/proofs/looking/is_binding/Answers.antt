use Rattle.std.proofs.Common.{Bool, not, sym, ◌∙◌, subst}
use Rattle.std.specs.Prelude.{◌↔◌, IsTrue}
use Rattle.kn_watch.specs.Trails.{literals}
use Rattle.kn_watch.specs.Watches.{IsBinding}
use Rattle.kn_watch.proofs.Looks.{binding_last, last_read}
use Rattle.kn_watch.proofs.looking.is_binding.Goals as goal

pub returns : goal.returns
returns g c =
    let b = g.W.Watched.bounded c.args.w.now in
    let guarded = sym c.guarded.ensures ∙ c.if-not-guarded.false in
    let both = binding_last (literals c.args.trail.now.made) b.lits b.guard c.index-lits-lits.result guarded (last_read c.lits-lits.result.now b c.index-lits-lits.result guarded c.lits-lits.ensures c.index-lits-lits.is) in
    subst (λ (t : Bool). IsTrue (not t) ↔ IsBinding (literals c.args.trail.now.made) b.guard) (sym c.is_open.ensures) both
