use Rattle.std.proofs.Common.{arith}
use Rattle.std.proofs.lemmas.Result.{on_ok_weaker}
use Rattle.kn_learn.proofs.Places.{there-is, level-within}
use Rattle.kn_learn.proofs.seeing.meet.Goals as goal

pub keep-requires-clause-lower : goal.keep-requires-clause-lower
keep-requires-clause-lower c =
    let (m, at) = there-is c.args.trail.now.made c.args.place c.requires.place in
    (m, at, omega (arith, c.level_at-level.ensures.value m at, c.level.ensures, c.if-level.true))

pub returns-then-level-clause-walking : goal.returns-then-level-clause-walking
returns-then-level-clause-walking c = on_ok_weaker c.keep.result (λ h live p left w le. h live p left w) c.keep.ensures.walking

pub await_place-requires-clause-top : goal.await_place-requires-clause-top
await_place-requires-clause-top c =
    let (m, at) = there-is c.args.trail.now.made c.args.place c.requires.place in
    (m, at, omega (arith, c.level_at-level.ensures.value m at, c.level.ensures, c.if-level.false, level-within c.args.trail.now.level c.args.trail.now.made c.args.place m c.level_at-level.ensures.kept.rising at))
