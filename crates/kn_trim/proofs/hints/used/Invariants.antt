use Rattle.std.proofs.Common.{◌≡◌, ◌++◌, drop}
use Rattle.kn_trim.specs.Noting.{used_from}
use Rattle.kn_trim.proofs.hints.used.Given as goal

abbrev pub invariant-loop-id : goal.invariant-loop-id
invariant-loop-id l = record {
  vars : l.assumed.vars ≡ l.checker.vars;
  used : l.ids.items ++ used_from l.checker.given l.assumed.lits (drop l.id-index l.hints) ≡ used_from l.checker.given l.fn.assumed.lits l.hints;
}
