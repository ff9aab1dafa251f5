use Rattle.std.proofs.Common.{◌≡◌, map, take}
use Rattle.kn_quant.proofs.run.order_of.Given as goal

abbrev pub invariant-loop-lit : goal.invariant-loop-lit
invariant-loop-lit l = l.order.items ≡ map (λ x. x.variable) (take l.lit-index l.fn.group.border)
