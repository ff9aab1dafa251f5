use Rattle.std.proofs.Common.{◌≡◌, ◌++◌, take}
use Rattle.std.specs.List.{flat_map}
use Rattle.kn_text.specs.Numbers.{literal_word}
use Rattle.kn_lines.specs.Lines.{AreLiterals}
use Rattle.kn_lines.specs.Writing.{spaced}
use Rattle.kn_lines.proofs.writing.push_literals.Given as goal

abbrev pub invariant-loop-lit : goal.invariant-loop-lit
invariant-loop-lit l = record {
  text : l.out.items ≡ l.fn.out.items ++ flat_map (λ x. spaced (literal_word x)) (take l.lit-index l.lits);
  literals : AreLiterals (take l.lit-index l.lits);
}
