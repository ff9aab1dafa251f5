use Rattle.std.proofs.Common.{rules}
use Rattle.kn_rules.proofs.Ready.{file-within}
use Rattle.kn_rules.proofs.machine.Machine.new.Goals as goal

pub invariant_of-result : goal.invariant_of-result
invariant_of-result c = record {
  empty = search rules;
  room = search rules;
  count = search rules;
  within = rw (c.in_ok-new.ensures, c.vars-vars.ensures, c.constraints.ensures.value) (file-within _ _ c.constraints.ensures.formula);
}
