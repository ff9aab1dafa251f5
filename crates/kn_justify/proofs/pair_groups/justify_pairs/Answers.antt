use Rattle.std.proofs.Common.{◌-◌, length, refl}
use Rattle.kn_log.specs.declared.error.LogError.TheVariants.{Memory}
use Rattle.kn_justify.specs.Growth.{ArePlain}
use Rattle.kn_justify.specs.PairGroups.{pair_klause}
use Rattle.kn_justify.proofs.GrowthLemmas.{grown-live, such-grows}
use Rattle.kn_justify.proofs.SettleLemmas.{error-ends}
use Rattle.kn_justify.proofs.ClosingLemmas.{such-keeps, such-plain}
use Rattle.kn_justify.proofs.PairBorderLemmas.{border-known, border-paired}
use Rattle.kn_justify.proofs.PairClosingLemmas.{klause-is, group-steps, live-grown, replaced-behind, klause-behind, gone-behind, lines-behind}
use Rattle.kn_justify.proofs.pair_groups.justify_pairs.Goals as goal

pub count_border-requires-clause-known : goal.count_border-requires-clause-known
count_border-requires-clause-known g c =
    border-known c.args.log.now.state c.args.group.now c.args.ids.now c.in_ok-pairs.pairs c.border-border.result.now c.requires.pairs c.requires.live c.in_ok-pairs.ensures c.border-border.ensures.value

pub count_border-requires-clause-paired : goal.count_border-requires-clause-paired
count_border-requires-clause-paired g c =
    border-paired c.args.log.now.state c.args.group.now c.args.ids.now c.in_ok-pairs.pairs c.border-border.result.now c.requires.pairs c.requires.live c.in_ok-pairs.ensures c.border-border.ensures.value

pub returns-in_err-root-clause-kept : goal.returns-in_err-root-clause-kept
returns-in_err-root-clause-kept g c = λ id x other live.
    grown-live c.args.log.now.state c.count_border.new.log.state id x (such-grows c.args.log.now c.count_border.new.log _ _ c.count_border.result c.count_border.ensures.lines) live

pub returns-in_err-root-clause-lines : goal.returns-in_err-root-clause-lines
returns-in_err-root-clause-lines g c =
    such-plain (pair_klause c.args.group.now) c.args.ids.now c.args.log.now c.count_border.new.log _ _ c.from_residual-in_err-root.result
    (error-ends ArePlain c.args.log.now c.count_border.new.log _ _ c.from_residual-in_err-root.result c.in_err-root.field-0.0 c.from_residual-in_err-root.ensures.1 c.in_err-root.ensures.lines)

pub returns-in_err-from_slice-clause-kept : goal.returns-in_err-from_slice-clause-kept
returns-in_err-from_slice-clause-kept g c = λ id x other live.
    grown-live c.args.log.now.state c.count_border.new.log.state id x (such-grows c.args.log.now c.count_border.new.log _ _ c.count_border.result c.count_border.ensures.lines) live

pub returns-in_err-from_slice-clause-lines : goal.returns-in_err-from_slice-clause-lines
returns-in_err-from_slice-clause-lines g c =
    such-plain (pair_klause c.args.group.now) c.args.ids.now c.args.log.now c.count_border.new.log _ _ c.from_residual-in_err-from_slice.result
    (error-ends ArePlain c.args.log.now c.count_border.new.log _ _ c.from_residual-in_err-from_slice.result Memory c.from_residual-in_err-from_slice.ensures.1 c.in_ok-root.ensures.lines)

pub close-requires-clause-steps : goal.close-requires-clause-steps
close-requires-clause-steps g c =
    group-steps c.args.log.now.state c.count_border.new.log.state c.args.group.now c.new-klause.result c.in_ok-root.root c.border-border.result.now c.var.result c.requires.pairs
    (such-grows c.args.log.now c.count_border.new.log _ _ c.count_border.result c.count_border.ensures.lines)
    (border-known c.args.log.now.state c.args.group.now c.args.ids.now c.in_ok-pairs.pairs c.border-border.result.now c.requires.pairs c.requires.live c.in_ok-pairs.ensures c.border-border.ensures.value)
    c.border-border.ensures.value c.in_ok-root.ensures.counted
    (klause-is c.args.group.now c.new-klause.result c.in_ok-from_slice.field-0.items c.border-border.result.now (length c.border-border.result.now - 1) c.new-klause.ensures refl c.in_ok-from_slice.ensures.items c.border-border.ensures.value)
    c.var.ensures.value

pub close-requires-clause-live : goal.close-requires-clause-live
close-requires-clause-live g c =
    live-grown c.args.log.now.state c.count_border.new.log.state c.args.group.now.taken c.args.ids.now
    (such-grows c.args.log.now c.count_border.new.log _ _ c.count_border.result c.count_border.ensures.lines) c.requires.live

pub returns-clause-replaced : goal.returns-clause-replaced
returns-clause-replaced g c =
    replaced-behind c.args.log.now.state c.count_border.new.log.state c.close.new.log.state c.args.ids.now c.new-klause.result (pair_klause c.args.group.now) c.close.result
    (such-grows c.args.log.now c.count_border.new.log _ _ c.count_border.result c.count_border.ensures.lines)
    (klause-is c.args.group.now c.new-klause.result c.in_ok-from_slice.field-0.items c.border-border.result.now (length c.border-border.result.now - 1) c.new-klause.ensures refl c.in_ok-from_slice.ensures.items c.border-border.ensures.value)
    c.close.ensures.closed

pub returns-clause-klause : goal.returns-clause-klause
returns-clause-klause g c =
    klause-behind c.count_border.new.log.state c.close.new.log.state c.args.ids.now c.new-klause.result (pair_klause c.args.group.now) c.close.result
    (live-grown c.args.log.now.state c.count_border.new.log.state c.args.group.now.taken c.args.ids.now
    (such-grows c.args.log.now c.count_border.new.log _ _ c.count_border.result c.count_border.ensures.lines) c.requires.live)
    (klause-is c.args.group.now c.new-klause.result c.in_ok-from_slice.field-0.items c.border-border.result.now (length c.border-border.result.now - 1) c.new-klause.ensures refl c.in_ok-from_slice.ensures.items c.border-border.ensures.value)
    c.close.ensures.closed

pub returns-clause-taken : goal.returns-clause-taken
returns-clause-taken g c = gone-behind c.count_border.new.log.state c.close.new.log.state c.args.ids.now c.new-klause.result c.close.result c.close.ensures.closed

pub returns-clause-lines : goal.returns-clause-lines
returns-clause-lines g c =
    lines-behind c.new-klause.result (pair_klause c.args.group.now) c.args.ids.now c.args.log.now c.count_border.new.log c.close.new.log _ _ _ c.close.result
    (klause-is c.args.group.now c.new-klause.result c.in_ok-from_slice.field-0.items c.border-border.result.now (length c.border-border.result.now - 1) c.new-klause.ensures refl c.in_ok-from_slice.ensures.items c.border-border.ensures.value)
    c.in_ok-root.ensures.lines c.close.ensures.lines

pub returns-clause-kept : goal.returns-clause-kept
returns-clause-kept g c = λ id x other live.
    such-keeps c.args.log.now c.close.new.log _ _ c.close.result (pair_klause c.args.group.now) c.args.ids.now id x
    (lines-behind c.new-klause.result (pair_klause c.args.group.now) c.args.ids.now c.args.log.now c.count_border.new.log c.close.new.log _ _ _ c.close.result
    (klause-is c.args.group.now c.new-klause.result c.in_ok-from_slice.field-0.items c.border-border.result.now (length c.border-border.result.now - 1) c.new-klause.ensures refl c.in_ok-from_slice.ensures.items c.border-border.ensures.value)
    c.in_ok-root.ensures.lines c.close.ensures.lines)
    other live
