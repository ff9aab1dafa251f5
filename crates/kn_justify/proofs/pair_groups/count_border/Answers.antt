use Rattle.std.proofs.Common.{◌∙◌, ◌≡◌, ◌+◌, ◌-◌, refl, sym, subst, ap, arith, List, drop, Some}
use Rattle.kn_logic.specs.Literals.{Literal}
use Rattle.kn_justify.specs.Growth.{ArePlain}
use Rattle.kn_justify.specs.PairGroups.{IsAll, IsAllButOne}
use Rattle.kn_justify.proofs.GrowthLemmas.{such-grows, plain-grows, plain-behind-not, plain-join}
use Rattle.kn_justify.proofs.SettleLemmas.{error-ends, plain-none}
use Rattle.kn_justify.proofs.PairCountLemmas.{all-grows, but-one-grows}
use Rattle.kn_justify.proofs.PairGroupLemmas.{at-place, before-it, known-grown, paired-grown, from-place, before-place, starts-all, starts-but-one}
use Rattle.kn_justify.proofs.pair_groups.count_border.Goals as goal

pub loop-place-init : goal.loop-place-init
loop-place-init g c = record {
  within = (let two = c.requires.two in omega (arith, two));
  whole = c.requires.whole;
  lines = plain-none c.args.log.now _ c.requires.whole;
  all = starts-all c.args.log.now.state c.args.border.now _ c.requires.two refl c.new.ensures.items;
  but_one = starts-but-one c.args.log.now.state c.args.border.now c.requires.two;
  later = omega arith;
}

pub count_all-requires-clause-known : goal.count_all-requires-clause-known
count_all-requires-clause-known g c =
    known-grown c.args.log.now.state c.loop-place.log.state c.args.border.now c.loop-place.place c.index-border-place.result
    (plain-grows c.loop-place.invariant.lines.0 c.args.log.now.state c.loop-place.log.state c.loop-place.invariant.lines.1 c.loop-place.invariant.lines.2.steps) c.requires.known (at-place c.args.border.now c.loop-place.place c.index-border-place.result c.loop-place.invariant.within c.index-border-place.is)

pub returns-in_err-count_all-clause-lines : goal.returns-in_err-count_all-clause-lines
returns-in_err-count_all-clause-lines g c =
    error-ends ArePlain c.args.log.now c.count_all.new.log _ _ c.from_residual.result c.in_err-count_all.field-0.0 c.from_residual.ensures.1
    (plain-behind-not c.args.log.now c.loop-place.log c.count_all.new.log _ _ _ c.in_err-count_all.field-0.0 c.loop-place.invariant.lines c.in_err-count_all.ensures.lines)

pub count_all_but_one-requires-clause-known : goal.count_all_but_one-requires-clause-known
count_all_but_one-requires-clause-known g c =
    let front = plain-join c.args.log.now c.loop-place.log c.count_all.new.log _ _ _ c.loop-place.invariant.lines c.in_ok-count_all.ensures.lines in
    known-grown c.args.log.now.state c.count_all.new.log.state c.args.border.now (c.loop-place.place - 1) c.index-border-place-in-loop-place.result
    (plain-grows front.0 c.args.log.now.state c.count_all.new.log.state front.1 front.2.steps) c.requires.known (before-it c.args.border.now c.loop-place.place c.index-border-place-in-loop-place.result c.loop-place.invariant.within c.index-border-place-in-loop-place.is)

pub count_all_but_one-requires-clause-paired : goal.count_all_but_one-requires-clause-paired
count_all_but_one-requires-clause-paired g c =
    let front = plain-join c.args.log.now c.loop-place.log c.count_all.new.log _ _ _ c.loop-place.invariant.lines c.in_ok-count_all.ensures.lines in
    paired-grown c.args.log.now.state c.count_all.new.log.state c.args.pairs.now c.args.border.now c.split_at.result.1.now c.loop-place.place c.index-border-place-in-loop-place.result
    (plain-grows front.0 c.args.log.now.state c.count_all.new.log.state front.1 front.2.steps) c.loop-place-test.true c.requires.paired (before-it c.args.border.now c.loop-place.place c.index-border-place-in-loop-place.result c.loop-place.invariant.within c.index-border-place-in-loop-place.is) c.split_at.ensures.back

pub count_all_but_one-requires-clause-all : goal.count_all_but_one-requires-clause-all
count_all_but_one-requires-clause-all g c =
    subst (λ (xs : List Literal). IsAll c.count_all.new.log.state xs c.count_all.new.all)
    (sym (c.split_at.ensures.back ∙ from-place c.args.border.now c.loop-place.place c.index-border-place.result (at-place c.args.border.now c.loop-place.place c.index-border-place.result c.loop-place.invariant.within c.index-border-place.is)))
    (c.in_ok-count_all.ensures.counted (drop (c.loop-place.place + 1) c.args.border.now) c.loop-place.invariant.all)

pub count_all_but_one-requires-clause-but_one : goal.count_all_but_one-requires-clause-but_one
count_all_but_one-requires-clause-but_one g c =
    subst (λ (xs : List Literal). IsAllButOne c.count_all.new.log.state xs c.loop-place.held) (sym c.split_at.ensures.back)
    (but-one-grows c.loop-place.log.state c.count_all.new.log.state (drop c.loop-place.place c.args.border.now) c.loop-place.held
    (such-grows c.loop-place.log c.count_all.new.log _ _ c.count_all.result c.count_all.ensures.lines) c.loop-place.invariant.but_one)

pub returns-in_err-count_all_but_one-clause-lines : goal.returns-in_err-count_all_but_one-clause-lines
returns-in_err-count_all_but_one-clause-lines g c =
    let front = plain-join c.args.log.now c.loop-place.log c.count_all.new.log _ _ _ c.loop-place.invariant.lines c.in_ok-count_all.ensures.lines in
    error-ends ArePlain c.args.log.now c.count_all_but_one.new.log _ _ c.from_residual-in_err-count_all_but_one.result c.in_err-count_all_but_one.field-0.0 c.from_residual-in_err-count_all_but_one.ensures.1
    (plain-behind-not c.args.log.now c.count_all.new.log c.count_all_but_one.new.log _ _ _ c.in_err-count_all_but_one.field-0.0 front c.in_err-count_all_but_one.ensures.lines)

pub loop-place-preserved : goal.loop-place-preserved
loop-place-preserved g c =
    let front = plain-join c.args.log.now c.loop-place.log c.count_all.new.log _ _ _ c.loop-place.invariant.lines c.in_ok-count_all.ensures.lines in
    let some = c.loop-place-test.true in
    let within = c.loop-place.invariant.within in
    let next : c.loop-place.place - 1 + 1 ≡ c.loop-place.place = omega (arith, some) in
    let all = c.in_ok-count_all.ensures.counted (drop (c.loop-place.place + 1) c.args.border.now) c.loop-place.invariant.all in
    let lines = plain-join c.args.log.now c.count_all.new.log c.count_all_but_one.new.log _ _ _ front c.in_ok-count_all_but_one.ensures.lines in
    record {
      within = omega (arith, within);
      whole = lines.2.whole;
      lines = lines;
      all = subst (λ (xs : List Literal). IsAll c.count_all_but_one.new.log.state xs c.count_all.new.all)
          (sym (ap (λ n. drop n c.args.border.now) next ∙ from-place c.args.border.now c.loop-place.place c.index-border-place.result (at-place c.args.border.now c.loop-place.place c.index-border-place.result c.loop-place.invariant.within c.index-border-place.is)))
          (all-grows c.count_all.new.log.state c.count_all_but_one.new.log.state _ c.count_all.new.all (such-grows c.count_all.new.log c.count_all_but_one.new.log _ _ c.count_all_but_one.result c.count_all_but_one.ensures.lines) all);
      but_one = subst (λ (xs : List Literal). IsAllButOne c.count_all_but_one.new.log.state xs (Some c.in_ok-count_all_but_one.field-0))
          (sym (before-place c.args.border.now c.split_at.result.1.now c.loop-place.place c.index-border-place-in-loop-place.result some (before-it c.args.border.now c.loop-place.place c.index-border-place-in-loop-place.result c.loop-place.invariant.within c.index-border-place-in-loop-place.is) c.split_at.ensures.back))
          c.in_ok-count_all_but_one.ensures.counted;
      later = (let a = c.loop-place.invariant.later in let b = c.count_all.ensures.later in let d = c.count_all_but_one.ensures.later in omega (arith, a, b, d));
    }
