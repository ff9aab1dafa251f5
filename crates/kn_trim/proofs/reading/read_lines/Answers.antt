use Rattle.std.proofs.Common.{◌≡◌, false, subst, List, ℕ, Option, IfSome}
use Rattle.kn_text.specs.Lines.{is_skipped, words_of}
use Rattle.kn_lines.specs.declared.line.Line.{Line}
use Rattle.kn_lines.specs.Lines.{SpellsLine}
use Rattle.kn_trim.proofs.Read.{IsReadUpTo, read-start, read-steps, read-line, read-all}
use Rattle.kn_trim.proofs.reading.read_lines.Goals as goal

pub loop-text-init : goal.loop-text-init
loop-text-init c =
    read-start c.args.f.now c.args.bytes.now c.behind_first-rest.result.now c.in_ok-reader.reader c.requires.proof c.behind_first-rest.ensures c.in_ok-reader.ensures.state c.in_ok-reader.ensures.lines c.in_ok-reader.ensures.idle

pub take-requires-clause-steps : goal.take-requires-clause-steps
take-requires-clause-steps c =
    let kept = subst (λ (o : Option Line). IfSome o (λ _. is_skipped (words_of c.in-Some.text.now) ≡ false)) c.in-Some-2.is c.in_ok-line.ensures.kept in
    let spelled = subst (λ (o : Option Line). IfSome o (SpellsLine c.in-Some.text.now)) c.in-Some-2.is c.in_ok-line.ensures.spelled in
    read-steps c.args.f.now c.args.bytes.now c.loop-text.rest.now c.in-Some.text.now c.in-Some.behind.now c.loop-text.reader c.in-Some-2.line c.in-Some.ensures.some kept spelled c.loop-text.invariant

pub loop-text-preserved-in-Continue-branch-4 : goal.loop-text-preserved-in-Continue-branch-4
loop-text-preserved-in-Continue-branch-4 c =
    let kept = subst (λ (o : Option Line). IfSome o (λ _. is_skipped (words_of c.in-Some.text.now) ≡ false)) c.in-Some-2.is c.in_ok-line.ensures.kept in
    let spelled = subst (λ (o : Option Line). IfSome o (SpellsLine c.in-Some.text.now)) c.in-Some-2.is c.in_ok-line.ensures.spelled in
    read-line c.args.f.now c.args.bytes.now c.loop-text.rest.now c.in-Some.text.now c.in-Some.behind.now c.loop-text.reader c.take.new.self c.in-Some-2.line c.in-Some.ensures.some kept spelled c.in_ok-take.ensures c.loop-text.invariant

pub returns : goal.returns
returns c =
    read-all c.args.f.now c.args.bytes.now c.loop-text.reader c.finish.result.lines.items c.finish.result.variables c.finish.result.ids c.requires.proof
    (subst (λ (rest : List ℕ). IsReadUpTo c.args.f.now c.args.bytes.now c.loop-text.reader rest) c.in_default.ensures.none c.loop-text.invariant)
    c.finish.ensures.lines c.finish.ensures.variables c.finish.ensures.ids
