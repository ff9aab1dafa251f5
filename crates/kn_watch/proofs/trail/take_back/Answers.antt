use Rattle.std.proofs.Common.{◌<◌, ◌-◌, ℕ, None, length, take, sym, subst, arith}
use Rattle.std.specs.Prelude.{slice_set}
use Rattle.kn_watch.specs.Tables.{AreTables}
use Rattle.kn_watch.proofs.Tabled.{known_made, back_step, some_at, cut_last, cut_empty}
use Rattle.kn_watch.proofs.trail.take_back.Goals as goal

pub returns-then-last-level-clause-below : goal.returns-then-last-level-clause-below
returns-then-last-level-clause-below c =
    let kept = c.loop-count.invariant in
    cut_last c.requires.rising.0 c.args.level c.loop-count.count c.args.made.now c.index-made-count.result c.requires.rising.1 c.loop-count-test.true kept.within c.index-made-count.is c.if-last-level.true kept.above

pub offset_bounds-values-var : goal.offset_bounds-values-var
offset_bounds-values-var c =
    let kept = c.loop-count.invariant in
    let known = known_made c.args.vars c.args.made.now (c.loop-count.count - 1) c.index-made-count.result c.requires.known (omega (arith, c.loop-count-test.true, kept.within)) c.index-made-count.is in
    omega (arith, known.1, c.var.ensures.value, kept.tables.valued)

pub bounds-values-var : goal.bounds-values-var
bounds-values-var c =
    let kept = c.loop-count.invariant in
    let known = known_made c.args.vars c.args.made.now (c.loop-count.count - 1) c.index-made-count.result c.requires.known (omega (arith, c.loop-count-test.true, kept.within)) c.index-made-count.is in
    omega (arith, known.1, c.var.ensures.value, kept.tables.valued)

pub loop-count-preserved : goal.loop-count-preserved
loop-count-preserved c =
    let kept = c.loop-count.invariant in
    let m = c.index-made-count.result in
    let lt : c.loop-count.count - 1 < length c.args.made.now = omega (arith, c.loop-count-test.true, kept.within) in
    let tables = back_step c.args.vars c.loop-count.count c.args.made.now m c.loop-count.values c.args.places.now c.requires.known c.requires.different kept.tables c.loop-count-test.true kept.within c.index-made-count.is in
    record {
      within = omega (arith, kept.within);
      tables = subst (λ (n : ℕ). AreTables c.args.vars (take (c.loop-count.count - 1) c.args.made.now) (slice_set c.loop-count.values n None) c.args.places.now) (sym c.var.ensures.value) tables;
      above = some_at c.args.made.now (c.loop-count.count - 1) m c.args.level lt c.index-made-count.is c.if-last-level.false;
    }

pub returns-clause-below : goal.returns-clause-below
returns-clause-below c =
    let kept = c.loop-count.invariant in
    cut_empty c.requires.rising.0 c.args.level c.loop-count.count c.args.made.now c.requires.rising.1 (omega (arith, c.loop-count-test.false)) kept.within kept.above
