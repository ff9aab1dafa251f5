use Rattle.std.proofs.Common.{arith}
use Rattle.kn_guess.proofs.Clique.{first-known, binary-pair, group-known, group-different, guess-of-cover, pair-group-is, no-group-few, no-group-none}
use Rattle.kn_guess.proofs.pairs.Pairs.guess.Goals as goal

pub joined-requires-clause-known : goal.joined-requires-clause-known
joined-requires-clause-known c = first-known c.args.store.now c.args.start c.in-Some.first.now c.lits.result.now c.vars-vars.ensures.stored c.in-Some.ensures.some.0 c.lits.ensures

pub joined-requires-clause-pair : goal.joined-requires-clause-pair
joined-requires-clause-pair c = binary-pair c.in-Some.first.now c.lits.result.now c.in-Some.ensures.some.1 c.lits.ensures

pub covered-requires-clause-known : goal.covered-requires-clause-known
covered-requires-clause-known c =
    let known = first-known c.args.store.now c.args.start c.in-Some.first.now c.lits.result.now c.vars-vars.ensures.stored c.in-Some.ensures.some.0 c.lits.ensures in
    group-known c.args.store.now c.lits.result.now c.in_ok-group.group.items c.deref-2.result.now known c.in_ok-group.ensures c.deref-2.ensures.value

pub covered-requires-clause-different : goal.covered-requires-clause-different
covered-requires-clause-different c =
    let pair = binary-pair c.in-Some.first.now c.lits.result.now c.in-Some.ensures.some.1 c.lits.ensures in
    group-different c.args.store.now c.lits.result.now c.in_ok-group.group.items c.deref-2.result.now pair c.in_ok-group.ensures c.deref-2.ensures.value

pub returns-clause-guess : goal.returns-clause-guess
returns-clause-guess c =
    let low = c.if-len-lt-LEAST_BORDER.false in let long = c.len.ensures in let real = c.in_ok-group.group.ok.0 in
    guess-of-cover c.args.store.now c.args.start c.in-Some.first.now c.lits.result.now c.in_ok-group.group.items c.deref-2.result.now c.in_ok-covered.field-0.group c.in_ok-covered.field-0.ids c.in-Some.ensures.some.0 c.in-Some.ensures.some.1
    c.lits.ensures c.in_ok-group.ensures c.deref-2.ensures.value (omega (arith, low, long, real)) c.in_ok-covered.ensures

pub returns-clause-pairs : goal.returns-clause-pairs
returns-clause-pairs c =
    let low = c.if-len-lt-LEAST_BORDER.false in let long = c.len.ensures in let real = c.in_ok-group.group.ok.0 in
    pair-group-is c.args.store.now c.args.start c.in_ok-covered.field-0.group c.in_ok-covered.field-0.ids
    (guess-of-cover c.args.store.now c.args.start c.in-Some.first.now c.lits.result.now c.in_ok-group.group.items c.deref-2.result.now c.in_ok-covered.field-0.group c.in_ok-covered.field-0.ids c.in-Some.ensures.some.0 c.in-Some.ensures.some.1
    c.lits.ensures c.in_ok-group.ensures c.deref-2.ensures.value (omega (arith, low, long, real)) c.in_ok-covered.ensures)

pub returns-then-len-lt-LEAST_BORDER-clause-none : goal.returns-then-len-lt-LEAST_BORDER-clause-none
returns-then-len-lt-LEAST_BORDER-clause-none c =
    let few = c.if-len-lt-LEAST_BORDER.true in let long = c.len.ensures in let real = c.in_ok-group.group.ok.0 in
    no-group-few c.args.store.now c.args.start c.in-Some.first.now c.lits.result.now c.in_ok-group.group.items c.in-Some.ensures.some.0 c.lits.ensures c.in_ok-group.ensures (omega (arith, few, long, real))

pub returns-in_default-clause-none : goal.returns-in_default-clause-none
returns-in_default-clause-none c = no-group-none c.args.store.now c.args.start c.in_default.ensures.none
