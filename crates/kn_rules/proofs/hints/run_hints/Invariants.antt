use Rattle.std.proofs.Common.{◌≡◌, length, option_map}
use Rattle.std.specs.Option.{is_none}
use Rattle.kn_logic.specs.Propagation.{hint_run}
use Rattle.kn_rules.specs.Steps.{hinted}
use Rattle.kn_rules.proofs.hints.run_hints.Given as goal

abbrev pub invariant-loop-id : goal.invariant-loop-id
invariant-loop-id l = record {
  run : option_map (λ cs. is_none (hint_run l.assumed.lits cs)) (hinted l.entries.given l.left) ≡ option_map (λ cs. is_none (hint_run l.fn.assumed.lits cs)) (hinted l.entries.given l.hints);
  vars : l.assumed.vars ≡ l.fn.assumed.vars;
}

abbrev pub decreases-loop-id : goal.decreases-loop-id
decreases-loop-id l = length l.left
