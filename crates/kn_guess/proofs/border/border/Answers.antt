use Rattle.std.proofs.Common.{◌≡◌, ◌∙◌, ◌≤◌, ap, sym, subst, true, false, length, arith, map}
use Rattle.std.proofs.lemmas.List.{length-map}
use Rattle.std.specs.List.{AllByRecursion}
use Rattle.kn_guess.specs.Sides.{first_in_both, sided}
use Rattle.kn_guess.proofs.Bordered.{IsSide, IsJudged, taken_by, side-is, wide-positive, wide-negative, wide-both, border-variables, two-sided, border-is, known-variables, border-known}
use Rattle.kn_guess.proofs.border.border.Goals as goal

pub returns-then-len-gt-MOST_BORDER-clause-err : goal.returns-then-len-gt-MOST_BORDER-clause-err
returns-then-len-gt-MOST_BORDER-clause-err c =
    let s = c.args.store.now in
    let side : IsSide s c.args.set.now c.args.aux.now = record { stored = c.requires.stored; alone = c.requires.alone; same = c.requires.same } in
    let long = c.len.ensures in
    let many = c.if-len-gt-MOST_BORDER.true in
    wide-positive s c.args.set.now c.args.aux.now c.in_ok-positive.positive side c.in_ok-positive.ensures (omega (arith, long, many))

pub returns-then-len-gt-MOST_BORDER-2-clause-err : goal.returns-then-len-gt-MOST_BORDER-2-clause-err
returns-then-len-gt-MOST_BORDER-2-clause-err c =
    let s = c.args.store.now in
    let side : IsSide s c.args.set.now c.args.aux.now = record { stored = c.requires.stored; alone = c.requires.alone; same = c.requires.same } in
    let long = c.len-2.ensures in
    let many = c.if-len-gt-MOST_BORDER-2.true in
    wide-negative s c.args.set.now c.args.aux.now c.in_ok-negative.negative side c.in_ok-negative.ensures (omega (arith, long, many))

pub returns-then-len-lt-LEAST_BORDER-clause-err : goal.returns-then-len-lt-LEAST_BORDER-clause-err
returns-then-len-lt-LEAST_BORDER-clause-err c =
    let s = c.args.store.now in
    let side : IsSide s c.args.set.now c.args.aux.now = record { stored = c.requires.stored; alone = c.requires.alone; same = c.requires.same } in
    let on = c.in_ok-positive.positive in
    let off = c.in_ok-negative.negative in
    let variables = c.in_ok-variables.variables.items in
    let a = c.len.ensures in let b = c.if-len-gt-MOST_BORDER.false in
    let d = c.len-2.ensures in let e = c.if-len-gt-MOST_BORDER-2.false in
    let judged : IsJudged (taken_by s c.args.aux.now) c.args.aux.now on off variables = record {
      on_is = side-is s c.args.set.now c.args.aux.now on true side c.in_ok-positive.ensures (omega (arith, a, b));
      off_is = side-is s c.args.set.now c.args.aux.now off false side c.in_ok-negative.ensures (omega (arith, d, e));
      ascends = c.in_ok-variables.ensures.ascending;
      all = c.in_ok-variables.ensures.same;
    } in
    let long = c.len-3.ensures in let real = c.in_ok-variables.variables.ok.0 in let few = c.if-len-lt-LEAST_BORDER.true in
    (variables, border-variables (taken_by s c.args.aux.now) c.args.aux.now on off variables judged, omega (arith, long, real, few))

pub returns-then-len-gt-MOST_BORDER-3-clause-err : goal.returns-then-len-gt-MOST_BORDER-3-clause-err
returns-then-len-gt-MOST_BORDER-3-clause-err c =
    let s = c.args.store.now in
    let side : IsSide s c.args.set.now c.args.aux.now = record { stored = c.requires.stored; alone = c.requires.alone; same = c.requires.same } in
    let on = c.in_ok-positive.positive in
    let off = c.in_ok-negative.negative in
    let variables = c.in_ok-variables.variables.items in
    let a = c.len.ensures in let b = c.if-len-gt-MOST_BORDER.false in
    let d = c.len-2.ensures in let e = c.if-len-gt-MOST_BORDER-2.false in
    let judged : IsJudged (taken_by s c.args.aux.now) c.args.aux.now on off variables = record {
      on_is = side-is s c.args.set.now c.args.aux.now on true side c.in_ok-positive.ensures (omega (arith, a, b));
      off_is = side-is s c.args.set.now c.args.aux.now off false side c.in_ok-negative.ensures (omega (arith, d, e));
      ascends = c.in_ok-variables.ensures.ascending;
      all = c.in_ok-variables.ensures.same;
    } in
    let long = c.len-4.ensures in let real = c.in_ok-variables.variables.ok.0 in let many = c.if-len-gt-MOST_BORDER-3.true in
    wide-both (taken_by s c.args.aux.now) c.args.aux.now on off variables judged (omega (arith, long, real, many))

pub returns-in-Some-clause-err : goal.returns-in-Some-clause-err
returns-in-Some-clause-err c =
    let s = c.args.store.now in
    let side : IsSide s c.args.set.now c.args.aux.now = record { stored = c.requires.stored; alone = c.requires.alone; same = c.requires.same } in
    let on = c.in_ok-positive.positive in
    let off = c.in_ok-negative.negative in
    let variables = c.in_ok-variables.variables.items in
    let a = c.len.ensures in let b = c.if-len-gt-MOST_BORDER.false in
    let d = c.len-2.ensures in let e = c.if-len-gt-MOST_BORDER-2.false in
    let judged : IsJudged (taken_by s c.args.aux.now) c.args.aux.now on off variables = record {
      on_is = side-is s c.args.set.now c.args.aux.now on true side c.in_ok-positive.ensures (omega (arith, a, b));
      off_is = side-is s c.args.set.now c.args.aux.now off false side c.in_ok-negative.ensures (omega (arith, d, e));
      ascends = c.in_ok-variables.ensures.ascending;
      all = c.in_ok-variables.ensures.same;
    } in
    let real = c.in_ok-variables.variables.ok.0 in
    let f = c.len-3.ensures in let low = c.if-len-lt-LEAST_BORDER.false in
    let h = c.len-4.ensures in let high = c.if-len-gt-MOST_BORDER-3.false in
    two-sided (taken_by s c.args.aux.now) c.args.aux.now on off variables c.in-Some.var judged (omega (arith, real, f, low)) (omega (arith, real, h, high))
    (ap (first_in_both on off) (sym c.deref.ensures.value) ∙ sym c.first_in_both.ensures ∙ c.in-Some.is)

pub literals-requires : goal.literals-requires
literals-requires c =
    let s = c.args.store.now in
    let side : IsSide s c.args.set.now c.args.aux.now = record { stored = c.requires.stored; alone = c.requires.alone; same = c.requires.same } in
    let on = c.in_ok-positive.positive in
    let off = c.in_ok-negative.negative in
    let variables = c.in_ok-variables.variables.items in
    let a = c.len.ensures in let b = c.if-len-gt-MOST_BORDER.false in
    let d = c.len-2.ensures in let e = c.if-len-gt-MOST_BORDER-2.false in
    let judged : IsJudged (taken_by s c.args.aux.now) c.args.aux.now on off variables = record {
      on_is = side-is s c.args.set.now c.args.aux.now on true side c.in_ok-positive.ensures (omega (arith, a, b));
      off_is = side-is s c.args.set.now c.args.aux.now off false side c.in_ok-negative.ensures (omega (arith, d, e));
      ascends = c.in_ok-variables.ensures.ascending;
      all = c.in_ok-variables.ensures.same;
    } in
    subst (AllByRecursion (λ x. 1 ≤ x)) (sym c.deref-2.ensures.value)
    (known-variables (taken_by s c.args.aux.now) c.args.aux.now on off variables judged (border-known s c.args.set.now c.args.aux.now side))

pub returns-clause-ok : goal.returns-clause-ok
returns-clause-ok c =
    let s = c.args.store.now in
    let side : IsSide s c.args.set.now c.args.aux.now = record { stored = c.requires.stored; alone = c.requires.alone; same = c.requires.same } in
    let on = c.in_ok-positive.positive in
    let off = c.in_ok-negative.negative in
    let variables = c.in_ok-variables.variables.items in
    let a = c.len.ensures in let b = c.if-len-gt-MOST_BORDER.false in
    let d = c.len-2.ensures in let e = c.if-len-gt-MOST_BORDER-2.false in
    let judged : IsJudged (taken_by s c.args.aux.now) c.args.aux.now on off variables = record {
      on_is = side-is s c.args.set.now c.args.aux.now on true side c.in_ok-positive.ensures (omega (arith, a, b));
      off_is = side-is s c.args.set.now c.args.aux.now off false side c.in_ok-negative.ensures (omega (arith, d, e));
      ascends = c.in_ok-variables.ensures.ascending;
      all = c.in_ok-variables.ensures.same;
    } in
    let border = c.in_ok-literals.field-0.items in
    let is : border ≡ map (sided on) variables = c.in_ok-literals.ensures ∙ ap (map (sided on)) c.deref-2.ensures.value in
    let none = ap (first_in_both on off) (sym c.deref.ensures.value) ∙ sym c.first_in_both.ensures ∙ c.in_default.is in
    let n = ap length is ∙ length-map variables (sided on) in
    let real = c.in_ok-variables.variables.ok.0 in
    let f = c.len-3.ensures in let low = c.if-len-lt-LEAST_BORDER.false in
    let h = c.len-4.ensures in let high = c.if-len-gt-MOST_BORDER-3.false in
    (border-is (taken_by s c.args.aux.now) c.args.aux.now on off variables border judged none is, omega (arith, n, real, f, low), omega (arith, n, real, h, high))
