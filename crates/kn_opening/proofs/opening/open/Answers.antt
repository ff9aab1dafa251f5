use Rattle.std.proofs.Common.{◌≡◌, ◌<◌, ◌≤◌, ◌+◌, ◌^◌, ◌++◌, ◌∷◌, [], length, map, get_or, sym, ap, subst, ◌∙◌, arith, None, Some}
use Rattle.std.specs.Prelude.{filter}
use Rattle.std.specs.List.{AllByRecursion, range_with_len}
use Rattle.std.specs.Option.{is_some}
use Rattle.kn_rules.specs.States.{live_at}
use Rattle.kn_log.specs.declared.error.LogError.TheVariants.{Memory}
use Rattle.kn_log.proofs.Public.{Adds-none}
use Rattle.kn_extract.specs.Structure.{IsOver}
use Rattle.kn_extract.specs.Kept.{Took, found_of}
use Rattle.kn_justify.specs.Closings.{Replaces}
use Rattle.kn_opening.specs.Openings.{AreOpeningLines, klause_in_proof}
use Rattle.kn_opening.specs.Entries.{IsOpening}
use Rattle.kn_opening.proofs.OpeningLemmas.{opening-start, opening-next, opening-more, opening-not, error-ends, next-live, next-file, next-below, next-over, next-pair, opening-end}
use Rattle.kn_opening.proofs.opening.open.Goals as goal

pub loop-taken-init : goal.loop-taken-init
loop-taken-init g c =
    let e = c.args.e.now in (
      record {
        opening = subst (λ xs. IsOpening e c.args.log.now.state 0 xs) (sym c.new-klauses.ensures.items) (subst (λ s. IsOpening e s 0 []) (sym (ap (λ l. l.state) c.requires.fresh)) (opening-start e));
        lines = ([], tt, Adds-none c.args.log.now (g.S.Sink.written c.args.sink.now) (ap (λ l. l.failed) c.requires.fresh));
        whole = ap (λ l. l.failed) c.requires.fresh;
      },
      omega arith,
    )

pub justify-requires-clause-within : goal.justify-requires-clause-within
justify-requires-clause-within g c =
    let e = c.args.e.now in
    let x = c.taken-taken-items.ensures.extracted in
    let t = c.taken-item.result in
    let k = c.loop-taken.taken-index in
    let is = c.taken-item.is ∙ ap (λ l. get_or l k t) c.taken-taken-items.ensures.value in
    let less : k < length e.taken = subst (λ l. k < length l) c.taken-taken-items.ensures.value c.loop-taken-test.true in
    let few : length e.original.constraints < 2 ^ 64 = (let n = c.len-count.ensures.count ∙ ap (λ f. length f.constraints) c.original.ensures.value in let b : c.len-count.result < 2 ^ 64 = c.len-count.type_inv in omega (arith, n, b)) in
    subst (λ y. AllByRecursion (λ p. p < 18446744073709551615) y.places) (sym is) (next-below e k t less (c.groups_stand_apart.ensures.owned e.original e.formula (map found_of e.taken) x.original x.extraction) few)

pub justify-requires-clause-pair : goal.justify-requires-clause-pair
justify-requires-clause-pair g c =
    let e = c.args.e.now in
    let x = c.taken-taken-items.ensures.extracted in
    let t = c.taken-item.result in
    let k = c.loop-taken.taken-index in
    let is = c.taken-item.is ∙ ap (λ l. get_or l k t) c.taken-taken-items.ensures.value in
    let less : k < length e.taken = subst (λ l. k < length l) c.taken-taken-items.ensures.value c.loop-taken-test.true in
    subst (λ (y : Took). y.elimination ≡ None → y.klause.bound + 1 ≡ length y.group.border) (sym is) (next-pair e k t less x)

pub justify-requires-clause-over : goal.justify-requires-clause-over
justify-requires-clause-over g c =
    let e = c.args.e.now in
    let x = c.taken-taken-items.ensures.extracted in
    let t = c.taken-item.result in
    let k = c.loop-taken.taken-index in
    let is = c.taken-item.is ∙ ap (λ l. get_or l k t) c.taken-taken-items.ensures.value in
    let less : k < length e.taken = subst (λ l. k < length l) c.taken-taken-items.ensures.value c.loop-taken-test.true in
    subst (λ (y : Took). IsOver c.loop-taken.log.state.vars y.group) (sym is)
    (next-over e c.loop-taken.log.state k c.loop-taken.klauses.items t less c.loop-taken.invariant.0.opening (c.groups_stand_apart.ensures.over e.original e.formula (map found_of e.taken) x.original x.extraction))

pub justify-requires-clause-live : goal.justify-requires-clause-live
justify-requires-clause-live g c =
    let e = c.args.e.now in
    let x = c.taken-taken-items.ensures.extracted in
    let t = c.taken-item.result in
    let k = c.loop-taken.taken-index in
    let is = c.taken-item.is ∙ ap (λ l. get_or l k t) c.taken-taken-items.ensures.value in
    let less : k < length e.taken = subst (λ l. k < length l) c.taken-taken-items.ensures.value c.loop-taken-test.true in
    subst (λ (y : Took). map (live_at c.loop-taken.log.state.given) (map (λ p. p + 1) y.places) ≡ map (λ d. Some d) y.group.taken) (sym is)
    (next-live e c.loop-taken.log.state k c.loop-taken.klauses.items t less c.loop-taken.invariant.0.opening
    (c.groups_stand_apart.ensures.owned e.original e.formula (map found_of e.taken) x.original x.extraction) (c.groups_stand_apart.ensures.others e.original e.formula (map found_of e.taken) x.original x.extraction))

pub returns-in_err-id-clause-lines : goal.returns-in_err-id-clause-lines
returns-in_err-id-clause-lines g c =
    let t = c.taken-item.result in
    error-ends AreOpeningLines c.args.log.now c.justify.new.log (g.S.Sink.written c.args.sink.now) (g.S.Sink.written c.justify.new.sink) c.from_residual.result c.in_err-id.field-0.0 c.from_residual.ensures.1
    (opening-not (klause_in_proof t) (map (λ p. p + 1) t.places) c.args.log.now c.loop-taken.log c.justify.new.log (g.S.Sink.written c.args.sink.now) (g.S.Sink.written c.loop-taken.sink) (g.S.Sink.written c.justify.new.sink) c.in_err-id.field-0.0
    c.loop-taken.invariant.0.lines c.in_err-id.ensures.lines)

pub returns-in_err-keep-clause-lines : goal.returns-in_err-keep-clause-lines
returns-in_err-keep-clause-lines g c =
    let t = c.taken-item.result in
    error-ends AreOpeningLines c.args.log.now c.justify.new.log (g.S.Sink.written c.args.sink.now) (g.S.Sink.written c.justify.new.sink) c.from_residual-in_err-keep.result Memory c.from_residual-in_err-keep.ensures.1
    (opening-more (klause_in_proof t) (map (λ p. p + 1) t.places) c.args.log.now c.loop-taken.log c.justify.new.log (g.S.Sink.written c.args.sink.now) (g.S.Sink.written c.loop-taken.sink) (g.S.Sink.written c.justify.new.sink)
    c.loop-taken.invariant.0.lines c.in_ok-id.ensures.lines)

pub loop-taken-preserved : goal.loop-taken-preserved
loop-taken-preserved g c =
    let e = c.args.e.now in
    let x = c.taken-taken-items.ensures.extracted in
    let t = c.taken-item.result in
    let k = c.loop-taken.taken-index in
    let is = c.taken-item.is ∙ ap (λ l. get_or l k t) c.taken-taken-items.ensures.value in
    let less : k < length e.taken = subst (λ l. k < length l) c.taken-taken-items.ensures.value c.loop-taken-test.true in
    let owned = c.groups_stand_apart.ensures.owned e.original e.formula (map found_of e.taken) x.original x.extraction in
    let replaced = subst (λ (y : Took). Replaces c.loop-taken.log.state c.justify.new.log.state (map (λ p. p + 1) y.places) (klause_in_proof y) c.in_ok-id.id) is c.in_ok-id.ensures.replaced in (
      record {
        opening = subst (λ xs. IsOpening e c.justify.new.log.state (k + 1) xs) (sym c.in_ok-keep.ensures)
            (opening-next e c.loop-taken.log.state c.justify.new.log.state k c.loop-taken.klauses.items t c.in_ok-id.id less c.loop-taken.invariant.0.opening (next-file e k t less owned) replaced);
        lines = opening-more (klause_in_proof t) (map (λ p. p + 1) t.places) c.args.log.now c.loop-taken.log c.justify.new.log (g.S.Sink.written c.args.sink.now) (g.S.Sink.written c.loop-taken.sink) (g.S.Sink.written c.justify.new.sink)
            c.loop-taken.invariant.0.lines c.in_ok-id.ensures.lines;
        whole = c.in_ok-id.ensures.lines.2.whole;
      },
      (let a = c.loop-taken.invariant.1 in let b = c.justify.ensures.later in omega (arith, a, b)),
    )

pub returns-clause-opened : goal.returns-clause-opened
returns-clause-opened g c =
    let e = c.args.e.now in
    let x = c.taken-taken-items.ensures.extracted in
    let k = c.loop-taken.taken-index in
    let end : length e.taken ≤ k = let n = ap (λ l. length l) c.taken-taken-items.ensures.value in omega (arith, n, c.loop-taken-test.false) in
    opening-end e c.loop-taken.log.state k c.loop-taken.klauses.items c.extend_from_slice.new.self.items c.in_ok-ids.ids.items x
    (c.what_remains_is_known.ensures.remainder e.original e.formula (map found_of e.taken) x.original x.extraction) end c.loop-taken.invariant.0.opening
    (c.in_ok-ids.ensures ∙ ap (λ n. filter (λ id. is_some (live_at c.loop-taken.log.state.given id)) (range_with_len 1 n)) (c.len-count.ensures.count ∙ ap (λ f. length f.constraints) c.original.ensures.value))
    (c.in_ok-extend_from_slice.ensures.items ∙ ap (λ z. c.in_ok-ids.ids.items ++ z) c.deref.ensures.value)
