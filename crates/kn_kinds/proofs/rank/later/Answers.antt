use Rattle.std.proofs.Common.{true, ap, arith}
use Rattle.std.proofs.lemmas.List.{get_or_read}
use Rattle.kn_watch.specs.Trails.{literals}
use Rattle.kn_kinds.specs.Latest.{rank}
use Rattle.kn_kinds.proofs.rank.later.Goals as goal

pub returns-then-rank-clause-first : goal.returns-then-rank-clause-first
returns-then-rank-clause-first c =
    let r = rank (literals c.args.trail.now.made) in
    let a = get_or_read c.args.lits.now c.args.first c.index-lits-first.result c.requires.first c.index-lits-first.is (record { variable = 0; positive = true }) in
    let b = get_or_read c.args.lits.now c.args.second c.index-lits-second.result c.requires.second c.index-lits-second.is (record { variable = 0; positive = true }) in
    omega (arith, ap r a, ap r b, c.rank.ensures, c.rank-2.ensures, c.if-rank.true)

pub returns-else-rank-clause-second : goal.returns-else-rank-clause-second
returns-else-rank-clause-second c =
    let r = rank (literals c.args.trail.now.made) in
    let a = get_or_read c.args.lits.now c.args.first c.index-lits-first.result c.requires.first c.index-lits-first.is (record { variable = 0; positive = true }) in
    let b = get_or_read c.args.lits.now c.args.second c.index-lits-second.result c.requires.second c.index-lits-second.is (record { variable = 0; positive = true }) in
    omega (arith, ap r a, ap r b, c.rank.ensures, c.rank-2.ensures, c.if-rank.false)
