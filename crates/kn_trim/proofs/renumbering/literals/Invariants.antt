use Rattle.std.proofs.Common.{◌≡◌, ◌++◌, drop, map}
use Rattle.kn_trim.specs.Numbers.{new_number}
use Rattle.kn_trim.specs.Needed.{AreMarked, renumbered_literal, variables_of}
use Rattle.kn_trim.proofs.renumbering.literals.Given as goal

abbrev pub invariant-loop-lit : goal.invariant-loop-lit
invariant-loop-lit l = record {
  marked : AreMarked l.variables (variables_of (drop l.lit-index l.lits));
  new : l.new.items ++ map (renumbered_literal (new_number l.variables)) (drop l.lit-index l.lits) ≡ map (renumbered_literal (new_number l.variables)) l.lits;
}
