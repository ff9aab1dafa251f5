use Rattle.kn_search.proofs.Choices.{fewer_left}
use Rattle.kn_search.proofs.diving.dive.Goals as goal

pub loop-id-smaller : goal.loop-id-smaller
loop-id-smaller g c =
    fewer_left c.loop-id.engine.trail c.propagate.new.self.trail c.trail.result.now c.assume.new.self.trail c.in_ok-lit.lit
    c.propagate.ensures.grown c.trail.ensures.value c.in_ok-lit.ensures.some c.assume.ensures.trail
