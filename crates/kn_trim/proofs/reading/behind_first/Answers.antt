use Rattle.std.proofs.Common.{refl}
use Rattle.kn_trim.proofs.reading.behind_first.Goals as goal

pub loop-line-init : goal.loop-line-init
loop-line-init c = (1, refl)
