use Rattle.kn_learn.proofs.Taught.{rooted-of}
use Rattle.kn_learn.proofs.rooting.descend.Goals as goal

pub returns-clause-rooted : goal.returns-clause-rooted
returns-clause-rooted g c =
    rooted-of c.args.engine.now.trail c.args.engine.now.live c.derive-2.new.a.walk c.requires.level c.in_ok-derive-2.ensures.walking c.in_ok-derive-2.ensures.here
