use Rattle.std.proofs.Common.{◌≡◌, ◌+◌, ◌<◌, ◌^◌, length}
use Rattle.kn_text.specs.Lines.{lines_of, content_from}
use Rattle.kn_rules.specs.Proofs.{Fault, WrongFrom}
use Rattle.kn_rules.specs.Checking.{EndsRefuted}
use Rattle.kn_rules.proofs.whole.check_lines.Given as goal

abbrev pub invariant-loop-text : goal.invariant-loop-text
invariant-loop-text l =
    let first = content_from (l.fn.line + 1) (lines_of l.fn.rest) in
    let here = content_from (l.line + 1) (lines_of l.rest) in
    let count = l.fn.line + length (lines_of l.fn.rest) in
    record {
      proof : EndsRefuted l.machine here → EndsRefuted l.fn.machine first;
      wrong : (found : Fault) → WrongFrom l.machine here count found → WrongFrom l.fn.machine first count found;
      count : l.line + length (lines_of l.rest) ≡ count;
      room : l.line + length l.rest < 2 ^ 64;
    }

abbrev pub decreases-loop-text : goal.decreases-loop-text
decreases-loop-text l = length l.rest
