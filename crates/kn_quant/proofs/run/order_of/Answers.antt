use Rattle.std.proofs.Common.{◌≡◌, sym, subst, arith, nat_eq}
use Rattle.std.proofs.lemmas.Grind.{common_steps}
use Rattle.std.specs.List.{IsDistinct}
use Rattle.kn_quant.specs.Runs.{order_of}
use Rattle.kn_quant.proofs.OrderLemmas.{order-distinct}
use Rattle.kn_quant.proofs.run.order_of.Goals as goal

pub returns-clause-distinct : goal.returns-clause-distinct
returns-clause-distinct c =
    let same : c.reverse.new.self.items ≡ order_of c.args.group.now = grind (arith, common_steps) in
    subst (IsDistinct nat_eq) (sym same) (order-distinct c.args.group.now c.aux.ensures.group)
