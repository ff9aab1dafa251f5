use Rattle.std.proofs.Common.{◌≡◌, [], take}
use Rattle.kn_opening.specs.Openings.{live_behind}
use Rattle.kn_solve.proofs.LiveLemmas.{AreLoaded}
use Rattle.kn_solve.proofs.loading.engine_of.Given as goal

abbrev pub invariant-loop-id : goal.invariant-loop-id
invariant-loop-id l = record {
  trail : l.engine.trail ≡ record { vars = l.vars; level = 0; made = [] };
  loaded : AreLoaded l.engine.live (take l.id-index (live_behind 0 l.log.state.given));
}
