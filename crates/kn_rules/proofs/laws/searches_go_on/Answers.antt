use Rattle.kn_rules.proofs.Stepping.{searches-step, searches-append, searches-push}
use Rattle.kn_rules.proofs.laws.searches_go_on.Goals as goal

pub returns : goal.returns
returns c = record { steps = searches-step; line = searches-push; more = searches-append }
