use Rattle.std.proofs.Common.{◌<◌, ◌∙◌, sym, ap, is_none}
use Rattle.std.proofs.lemmas.Bool.{ltb-true}
use Rattle.kn_logic.specs.Assignments.{value_of}
use Rattle.kn_diagram.proofs.NodeLemmas.{function_of-constant}
use Rattle.kn_diagram.proofs.diagrams.Diagrams.value.Goals as goal

pub returns : goal.returns
returns c =
    let low : c.loop-var.node < 2 = ltb-true c.loop-var.node 2 (sym c.parts.ensures.constant ∙ ap is_none c.in_default.is) in
    c.eq.ensures ∙ sym (function_of-constant c.args.self.now c.loop-var.node (value_of c.args.m.now) low) ∙ c.loop-var.invariant.same
