use Rattle.std.proofs.Common.{refl}
use Rattle.std.specs.List.{IsDistinct}
use Rattle.kn_quant.proofs.tests.five.Goals as goal

pub new-requires : goal.new-requires
unfolding IsDistinct
new-requires c = ((refl, (refl, (refl, (refl, tt)))), ((refl, (refl, (refl, tt))), ((refl, (refl, tt)), ((refl, tt), (tt, tt)))))
