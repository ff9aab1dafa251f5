use Rattle.std.proofs.Common.{refl}
use Rattle.std.specs.List.{IsDistinct}
use Rattle.kn_diagram.proofs.tests.four.Goals as goal

pub new-requires : goal.new-requires
unfolding IsDistinct
new-requires c = ((refl, (refl, (refl, tt))), ((refl, (refl, tt)), ((refl, tt), (tt, tt))))
