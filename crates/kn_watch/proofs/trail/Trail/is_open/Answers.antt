use Rattle.std.proofs.Common.{sym, ◌∙◌}
use Rattle.kn_watch.specs.Trails.{literals}
use Rattle.kn_watch.proofs.TrailKeeps.{consistent_of}
use Rattle.kn_watch.proofs.Tabled.{open_sign}
use Rattle.kn_watch.proofs.trail.Trail.is_open.Goals as goal

pub returns-in-Some : goal.returns-in-Some
returns-in-Some c = open_sign (literals c.args.self.now.made) c.args.lit c.in-Some.sign (consistent_of c.args.self.now c.value.ensures.kept) (sym c.in-Some.is ∙ c.value.ensures.value)
