use Rattle.std.proofs.Common.{◌≡◌, Some, None}
use Rattle.kn_text.specs.Lines.{words_of}
use Rattle.kn_lines.specs.Reading.{line_of}
use Rattle.kn_lines.proofs.Spelling.{read_is_spelled, spelled_is_formed, unread_spells_none}
use Rattle.kn_lines.proofs.reading.read_line.Goals as goal

pub returns-in-Some-clause-spelled : goal.returns-in-Some-clause-spelled
returns-in-Some-clause-spelled c =
    let h : line_of (words_of c.args.bytes.now) ≡ Some c.in-Some.line = cc c.in_ok-line.ensures in
    read_is_spelled (words_of c.args.bytes.now) c.in-Some.line h

pub returns-in-Some-clause-formed : goal.returns-in-Some-clause-formed
returns-in-Some-clause-formed c =
    let h : line_of (words_of c.args.bytes.now) ≡ Some c.in-Some.line = cc c.in_ok-line.ensures in
    spelled_is_formed (words_of c.args.bytes.now) c.in-Some.line (read_is_spelled (words_of c.args.bytes.now) c.in-Some.line h)

pub returns-in-None-clause-bad : goal.returns-in-None-clause-bad
returns-in-None-clause-bad c _ =
    let h : line_of (words_of c.args.bytes.now) ≡ None = cc c.in_ok-line.ensures in
    (cc, unread_spells_none (words_of c.args.bytes.now) h)
