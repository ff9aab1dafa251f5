use Rattle.std.proofs.Common.{◌<◌, ap, slice_index, length, arith}
use Rattle.kn_diagram.proofs.CountLemmas.{of_depth-within}
use Rattle.kn_diagram.proofs.width.by_depth.Goals as goal

pub count-requires-clause-small : goal.count-requires-clause-small
count-requires-clause-small c k h =
    let within : k < length c.args.d.now.order = omega (arith, h, c.deref_mut.ensures.len, c.loop-number.invariant.len, ap length c.deref_mut.ensures.value) in
    omega (arith, ap (λ ws. slice_index ws k) c.deref_mut.ensures.value, c.loop-number.invariant.widths k within, of_depth-within c.args.d.now k c.args.numbers.now)
