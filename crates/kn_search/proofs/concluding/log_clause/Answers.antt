use Rattle.std.proofs.Common.{◌≡◌, List, ap, ◌∙◌}
use Rattle.kn_logic.proofs.Public.{are_known-more}
use Rattle.kn_logic.specs.Literals.{Literal}
use Rattle.kn_logic.specs.Constraints.{clause}
use Rattle.kn_rules.specs.declared.given.Origin.TheVariants as origin
use Rattle.kn_search.proofs.Hinted.{line-of, learned-allowed}
use Rattle.kn_search.proofs.concluding.log_clause.Goals as goal

pub returns-in_err-from_slice-clause-allows : goal.returns-in_err-from_slice-clause-allows
returns-in_err-from_slice-clause-allows g c = λ forget deletions.
    learned-allowed c.args.engine.now.trail.vars forget deletions c.args.log.now.state c.args.engine.now.live c.args.lits.now c.args.hints.items c.requires.known c.requires.mirrors c.requires.lits c.requires.new c.requires.refutes

pub learned-requires-clause-formed : goal.learned-requires-clause-formed
learned-requires-clause-formed g c =
    let is = c.new-clause.ensures ∙ ap (λ (lits : List Literal). clause lits) c.in_ok-from_slice.ensures.items in
    let known = are_known-more c.args.engine.now.trail.vars c.args.log.now.state.vars c.args.lits.now c.requires.known c.requires.lits in
    (line-of c.args.log.now.state origin.Learned c.args.engine.now.live c.new-clause.result c.args.lits.now c.new.result c.args.hints.items is c.new.ensures c.requires.mirrors known c.requires.refutes).formed

pub learned-requires-clause-steps : goal.learned-requires-clause-steps
learned-requires-clause-steps g c =
    let is = c.new-clause.ensures ∙ ap (λ (lits : List Literal). clause lits) c.in_ok-from_slice.ensures.items in
    let known = are_known-more c.args.engine.now.trail.vars c.args.log.now.state.vars c.args.lits.now c.requires.known c.requires.lits in
    (line-of c.args.log.now.state origin.Learned c.args.engine.now.live c.new-clause.result c.args.lits.now c.new.result c.args.hints.items is c.new.ensures c.requires.mirrors known c.requires.refutes).steps

pub returns-clause-allows : goal.returns-clause-allows
returns-clause-allows g c = λ forget deletions.
    learned-allowed c.args.engine.now.trail.vars forget deletions c.args.log.now.state c.args.engine.now.live c.args.lits.now c.args.hints.items c.requires.known c.requires.mirrors c.requires.lits c.requires.new c.requires.refutes
