use Rattle.std.proofs.Common.{ℕ, sym, ◌∙◌, arith}
use Rattle.std.proofs.lemmas.Bool.{cond-true, cond-false}
use Rattle.kn_logic.specs.Propagation.{is_open}
use Rattle.kn_watch.specs.Trails.{literals}
use Rattle.kn_watch.proofs.Looks.{open_take}
use Rattle.kn_watch.proofs.looking.count_open.Goals as goal
use Rattle.kn_watch.proofs.looking.count_open.Goals.{then-is_open, else-is_open}

pub loop-place-preserved : goal.loop-place-preserved
loop-place-preserved c =
    let t = open_take (literals c.args.trail.now.made) c.args.lits.now c.loop-place.place c.index-lits-place.result (omega arith) c.index-lits-place.is in
    let inv = c.loop-place.invariant in
    elim c.if-is_open.branch [
      | then-is_open w ↦ (let k = cond-true {A = ℕ} (is_open (literals c.args.trail.now.made) c.index-lits-place.result) 1 0 (sym c.is_open.ensures ∙ w.if-is_open.true) in (omega (arith, t, k, inv.0, w.found-is), omega (arith, inv.1, w.found-is)))
      | else-is_open w ↦ (let k = cond-false {A = ℕ} (is_open (literals c.args.trail.now.made) c.index-lits-place.result) 1 0 (sym c.is_open.ensures ∙ w.if-is_open.false) in (omega (arith, t, k, inv.0, w.found-is), omega (arith, inv.1, w.found-is)))
    ]
