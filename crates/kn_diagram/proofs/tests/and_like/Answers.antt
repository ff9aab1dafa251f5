use Rattle.std.proofs.Common.{◌≡◌, ◌+◌, ◌∙◌, ap, arith}
use Rattle.kn_diagram.proofs.TestLemmas.{in_order}
use Rattle.kn_diagram.proofs.tests.and_like.Goals as goal

pub either-requires-clause-other : goal.either-requires-clause-other
either-requires-clause-other c =
    let is : c.new-2.result.variable ≡ c.args.var + 8 = ap (λ l. l.variable) c.new-2.ensures in
    in_order c.args.d.now.order c.new-2.result.variable c.requires.order (omega (arith, is)) (omega (arith, is, c.requires.last))

pub either-requires-2-clause-other : goal.either-requires-2-clause-other
either-requires-2-clause-other c =
    let is : c.new-4.result.variable ≡ c.args.var + 8 = ap (λ l. l.variable) c.new-4.ensures in
    in_order c.and.new.self.order c.new-4.result.variable (c.and.ensures.kept.order ∙ c.either.ensures.kept.order ∙ c.requires.order) (omega (arith, is)) (omega (arith, is, c.requires.last))
