use Rattle.std.proofs.Common.{arith}
use Rattle.std.proofs.lemmas.Result.{on_ok_weaker}
use Rattle.kn_learn.proofs.Needing.{needed-for}
use Rattle.kn_learn.proofs.seeing.see_false.Goals as goal

pub returns-clause-walking : goal.returns-clause-walking
returns-clause-walking c =
    let (m, less, at, is) = c.in-Some.ensures.some in
    on_ok_weaker c.see.result (λ h live p left w le behind. h live p left w (omega (arith, less, le)) (λ q lt k. behind q (omega (arith, less, lt)) k)) c.see.ensures.walking

pub returns-clause-needed : goal.returns-clause-needed
returns-clause-needed c =
    let (m, less, at, is) = c.in-Some.ensures.some in
    on_ok_weaker c.see.result (λ n. needed-for c.args.trail.now.made c.see.new.a.walk.marks c.args.before c.in-Some.place m c.args.lit c.in-Some.ensures.kept.different at is n) c.see.ensures.needed
