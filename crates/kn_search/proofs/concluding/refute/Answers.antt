use Rattle.std.proofs.Common.{List, [], ap, ◌∙◌, arith}
use Rattle.kn_logic.specs.Literals.{Literal}
use Rattle.kn_logic.specs.Constraints.{Bounded, clause}
use Rattle.kn_lines.specs.declared.line.Line.TheVariants.{Lemma}
use Rattle.kn_rules.specs.declared.given.Origin.TheVariants as origin
use Rattle.kn_search.proofs.Hinted.{line-of}
use Rattle.kn_search.proofs.Mirroring.{lemma-mirrors}
use Rattle.kn_search.proofs.Parts.{line-logs}
use Rattle.kn_search.proofs.concluding.refute.Goals as goal

pub lemma-requires-clause-formed : goal.lemma-requires-clause-formed
lemma-requires-clause-formed g c =
    let is = c.new-clause.ensures ∙ ap (λ (lits : List Literal). clause lits) c.new.ensures.items in
    (line-of c.args.log.now.state origin.Lemma c.args.engine.now.live c.new-clause.result [] c.new-2.result c.in_ok-hints.hints.items is c.new-2.ensures c.requires.mirrors tt c.in_ok-hints.ensures).formed

pub lemma-requires-clause-steps : goal.lemma-requires-clause-steps
lemma-requires-clause-steps g c =
    let is = c.new-clause.ensures ∙ ap (λ (lits : List Literal). clause lits) c.new.ensures.items in
    (line-of c.args.log.now.state origin.Lemma c.args.engine.now.live c.new-clause.result [] c.new-2.result c.in_ok-hints.hints.items is c.new-2.ensures c.requires.mirrors tt c.in_ok-hints.ensures).steps

pub returns-clause-logs : goal.returns-clause-logs
returns-clause-logs g c = λ vars forget deletions.
    let is = c.new-clause.ensures ∙ ap (λ (lits : List Literal). clause lits) c.new.ensures.items in
    let line = line-of c.args.log.now.state origin.Lemma c.args.engine.now.live c.new-clause.result [] c.new-2.result c.in_ok-hints.hints.items is c.new-2.ensures c.requires.mirrors tt c.in_ok-hints.ensures in
    line-logs vars forget deletions 0 c.args.log.now c.lemma.new.self _ _ (Lemma c.new-clause.result c.new-2.result) c.lemma.result c.requires.whole (ap (λ (b : Bounded). b.lits) is, line.uses) (omega arith) c.lemma.ensures.logs c.lemma.ensures.spelled

pub returns-clause-mirrors : goal.returns-clause-mirrors
returns-clause-mirrors g c =
    lemma-mirrors c.args.engine.now.live c.args.log.now c.lemma.new.self _ _ c.new-clause.result c.new-2.result c.lemma.result c.requires.mirrors c.lemma.ensures.logs
