use Rattle.std.proofs.Common.{◌∙◌, sym, ap, arith}
use Rattle.std.proofs.lemmas.List.{nil_from_length}
use Rattle.kn_guess.specs.Tables.{row}
use Rattle.kn_guess.proofs.Joined.{rest-start, rest-step, rest-less, rest-full, rest-none, rest-known, rest-ascend, rows-ascend}
use Rattle.kn_guess.proofs.joining.joined.Goals as goal

pub loop-next-init : goal.loop-next-init
loop-next-init c = rest-start c.args.store.now c.args.rows.now c.args.first.now c.index-first-0.result c.index-first-1.result c.row.result.now c.row-2.result.now c.fewest_first.result.0.now c.fewest_first.result.1.now c.in_ok-rest.rest.items c.in_ok-group.group.items
    c.requires.table c.requires.known c.requires.pair c.index-first-0.is c.index-first-1.is c.row.ensures c.row-2.ensures c.fewest_first.ensures c.in_ok-rest.ensures c.in_ok-group.ensures.items

pub returns-then-len-ge-MOST_JOINED : goal.returns-then-len-ge-MOST_JOINED
returns-then-len-ge-MOST_JOINED c =
    let full = c.if-len-ge-MOST_JOINED.true in
    let long = c.len.ensures in
    let real = c.loop-next.group.ok.0 in
    rest-full c.args.store.now c.args.first.now c.loop-next.group.items c.loop-next.rest.items c.loop-next.invariant (omega (arith, full, long, real))

pub common-requires-in-Some-clause-xs : goal.common-requires-in-Some-clause-xs
common-requires-in-Some-clause-xs c =
    let cut = sym c.deref.ensures.value ∙ c.in-Some.ensures.cases.0 in
    rest-ascend c.args.store.now c.args.first.now c.loop-next.group.items c.loop-next.rest.items c.in-Some.behind.now c.in-Some.next.now c.loop-next.invariant cut

pub common-requires-in-Some-clause-ys : goal.common-requires-in-Some-clause-ys
common-requires-in-Some-clause-ys c =
    let cut = sym c.deref.ensures.value ∙ c.in-Some.ensures.cases.0 in
    let known = rest-known c.args.store.now c.args.first.now c.loop-next.group.items c.loop-next.rest.items c.in-Some.behind.now c.in-Some.next.now c.loop-next.invariant cut in
    rows-ascend c.args.store.now c.args.rows.now c.in-Some.next.now.lit c.row-in-Some.result.now c.requires.table known (c.row-in-Some.ensures ∙ ap (row c.args.rows.now) c.lit-lit.ensures)

pub loop-next-smaller : goal.loop-next-smaller
loop-next-smaller c =
    let cut = sym c.deref.ensures.value ∙ c.in-Some.ensures.cases.0 in
    rest-less c.args.store.now.live c.loop-next.rest.items c.in-Some.behind.now c.in_ok-rest-2.rest.items c.row-in-Some.result.now c.in-Some.next.now cut c.in_ok-rest-2.ensures

pub loop-next-preserved : goal.loop-next-preserved
loop-next-preserved c =
    let cut = sym c.deref.ensures.value ∙ c.in-Some.ensures.cases.0 in
    let low = c.if-len-ge-MOST_JOINED.false in
    let long = c.len.ensures in
    let real = c.loop-next.group.ok.0 in
    rest-step c.args.store.now c.args.rows.now c.args.first.now c.loop-next.group.items c.push.new.self.items c.loop-next.rest.items c.in-Some.behind.now c.in_ok-rest-2.rest.items c.in-Some.next.now c.lit-lit.result c.row-in-Some.result.now
    c.requires.table c.loop-next.invariant cut (omega (arith, low, long, real)) c.in_ok-push.ensures.items c.lit-lit.ensures (c.row-in-Some.ensures ∙ ap (row c.args.rows.now) c.lit-lit.ensures) c.in_ok-rest-2.ensures

pub returns : goal.returns
returns c = rest-none c.args.store.now c.args.first.now c.loop-next.group.items c.loop-next.rest.items c.loop-next.invariant (sym c.deref.ensures.value ∙ nil_from_length c.deref.result.now c.in_default.ensures.cases)
