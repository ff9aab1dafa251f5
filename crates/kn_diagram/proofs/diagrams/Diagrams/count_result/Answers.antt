use Rattle.std.proofs.Common.{arith}
use Rattle.kn_diagram.proofs.PartLemmas.{result-too-many}
use Rattle.kn_diagram.proofs.diagrams.Diagrams.count_result.Goals as goal

pub returns-then-count-gt-NARROW-clause-wide : goal.returns-then-count-gt-NARROW-clause-wide
returns-then-count-gt-NARROW-clause-wide c whole parts left =
    result-too-many c.args.self.now whole c.args.w c.depth.result c.in-Some.level c.args.census.now c.add.new.self c.depth.ensures.table c.requires c.depth.ensures.value
    c.in-Some.ensures.branch.depth_is c.in-Some.ensures.branch.within c.in_ok-count.ensures.entries c.in_ok-count.ensures.distinct
    (omega (arith, c.if-count-gt-NARROW.true, c.in_ok-count.ensures.count)) parts left
