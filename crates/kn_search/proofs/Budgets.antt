-- A budget that was spent is a small one.
use Rattle.std.proofs.Common.{◌≡◌, ℕ, ◌<◌, ◌^◌, List, [], Option, subst}
use Rattle.kn_rules.specs.Searching.{learned_live, SearchesBy}
use Rattle.kn_rules.proofs.Public.{few-learned, few-forgetting}
use Rattle.kn_log.specs.Logs.{Logged}
use Rattle.kn_propagate.specs.Engines.{Engined}
use Rattle.kn_search.specs.declared.outcome.Options.{Options}
use Rattle.kn_search.specs.declared.outcome.Outcome.TheVariants.{Spent}
use Rattle.kn_search.specs.Outcomes.{Ends, IsSmall}

pub spent-small : (engine : Engined) (options : Options) (old new : Logged) (w w' : Option (List ℕ)) (learned : ℕ) → Ends engine options old new w w' (Spent learned) → learned_live old.state.given ≡ [] → IsSmall options engine.trail.vars
spent-small engine options old new w w' learned e none = (
  λ forget. subst (λ (n : ℕ). n < 3 ^ engine.trail.vars) e.tells.1 (few-learned engine.trail.vars old.state new.state e.lines
      (subst (λ (n : ℕ). SearchesBy engine.trail.vars n 0 old.state e.lines new.state) forget e.searches) none),
  subst (λ (n : ℕ). n < 9 ^ engine.trail.vars) e.tells.1 (few-forgetting engine.trail.vars options.forget old.state new.state e.lines e.searches none),
)
