use Rattle.std.proofs.Common.{◌≡◌, ◌++◌, drop}
use Rattle.std.specs.List.{AllByRecursion, flat_map}
use Rattle.kn_text.specs.Lines.{line_text}
use Rattle.kn_lines.specs.Lines.{IsWellFormed, line_words}
use Rattle.kn_trim.specs.Needed.{AreMet, kept_lines, proof_text}
use Rattle.kn_trim.proofs.writing.write_lines.Given as goal

abbrev pub invariant-loop-place : goal.invariant-loop-place
invariant-loop-place l = record {
  met : AreMet l.kept (drop l.place l.lines) (drop l.place l.own);
  formed : AllByRecursion IsWellFormed (drop l.place l.lines);
  text : l.text.items ++ flat_map (λ line. line_text (line_words line)) (kept_lines l.kept (drop l.place l.lines) (drop l.place l.own)) ≡ proof_text l.f (kept_lines l.kept l.lines l.own);
}
