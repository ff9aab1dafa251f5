use Rattle.std.proofs.Common.{◌≡◌, sym, subst, ◌&&◌, List, []}
use Rattle.kn_diagram.specs.declared.trace.Met.{Met}
use Rattle.kn_quant.specs.declared.stage.Stage.{Stage}
use Rattle.kn_quant.specs.declared.stage.Stage.TheVariants.{And}
use Rattle.kn_quant.specs.Eliminations.{node_of}
use Rattle.kn_justify.specs.Names.{IsNamed}
use Rattle.kn_justify.specs.Lemmas.{AreNamed}
use Rattle.kn_justify.specs.Stages.{IsAnd, traces_of, left_of, right_of}
use Rattle.kn_justify.specs.Taken.{AreThere, AreAllNamed}
use Rattle.kn_justify.proofs.GrowthLemmas.{such-grows, plain-behind}
use Rattle.kn_justify.proofs.NameLemmas.{are-right-grow}
use Rattle.kn_justify.proofs.StageLemmas.{and-explained}
use Rattle.kn_justify.proofs.KnownLemmas.{named-entries, explained-there, always-ok}
use Rattle.kn_justify.proofs.MakingLemmas.{unit-moves, and-last}
use Rattle.kn_justify.proofs.stages.join.Goals as goal

pub name_trace-requires-clause-there : goal.name_trace-requires-clause-there
name_trace-requires-clause-there g c =
    let h : IsAnd c.args.d.now (And c.in-And.left c.in-And.right c.in-And.node c.in-And.met) = subst (λ (s : Stage). IsAnd c.args.d.now s) c.in-And.is c.requires.stage in
    subst (λ (x : List Met). AreThere c.args.d.now x) (sym c.met.ensures)
    (explained-there (λ a b. a && b) c.args.d.now [] c.in-And.met (and-explained c.args.d.now c.in-And.met (record { u = c.in-And.left; v = c.in-And.right; w = c.in-And.node }) h.0))

pub and_unit-requires-clause-named : goal.and_unit-requires-clause-named
and_unit-requires-clause-named g c =
    let h : IsAnd c.args.d.now (And c.in-And.left c.in-And.right c.in-And.node c.in-And.met) = subst (λ (s : Stage). IsAnd c.args.d.now s) c.in-And.is c.requires.stage in
    let all : AreAllNamed c.name_trace.new.named c.in-And.met = subst (λ (x : List Met). AreAllNamed c.name_trace.new.named x) c.met.ensures c.in_ok-name_trace.ensures.named in
    subst (λ (s : Stage). AreNamed c.name_trace.new.log.state c.args.d.now c.name_trace.new.named (traces_of s)) (sym c.in-And.is)
    (named-entries c.name_trace.new.log.state c.args.d.now c.name_trace.new.named c.in-And.met c.name_trace.ensures.right
    (explained-there (λ a b. a && b) c.args.d.now [] c.in-And.met (and-explained c.args.d.now c.in-And.met (record { u = c.in-And.left; v = c.in-And.right; w = c.in-And.node }) h.0)) all)

pub and_unit-requires-clause-left : goal.and_unit-requires-clause-left
and_unit-requires-clause-left g c =
    unit-moves c.args.log.now.state c.name_trace.new.log.state c.args.named.now c.name_trace.new.named (left_of c.args.stage.now) c.args.left (such-grows c.args.log.now c.name_trace.new.log _ _ c.name_trace.result c.name_trace.ensures.lines)
    c.name_trace.ensures.kept c.requires.left.1 c.requires.left.0

pub and_unit-requires-clause-right : goal.and_unit-requires-clause-right
and_unit-requires-clause-right g c =
    unit-moves c.args.log.now.state c.name_trace.new.log.state c.args.named.now c.name_trace.new.named (right_of c.args.stage.now) c.args.right (such-grows c.args.log.now c.name_trace.new.log _ _ c.name_trace.result c.name_trace.ensures.lines)
    c.name_trace.ensures.kept c.requires.other.1 c.requires.other.0

pub returns-clause-named : goal.returns-clause-named
returns-clause-named g c =
    let h : IsAnd c.args.d.now (And c.in-And.left c.in-And.right c.in-And.node c.in-And.met) = subst (λ (s : Stage). IsAnd c.args.d.now s) c.in-And.is c.requires.stage in
    let all : AreAllNamed c.name_trace.new.named c.in-And.met = subst (λ (x : List Met). AreAllNamed c.name_trace.new.named x) c.met.ensures c.in_ok-name_trace.ensures.named in
    let last = and-last c.args.d.now c.name_trace.new.named c.in-And.met (record { u = c.in-And.left; v = c.in-And.right; w = c.in-And.node }) h.0 all in
    always-ok c.and_unit.result (IsNamed c.name_trace.new.named (node_of c.args.stage.now))
    (subst (λ (s : Stage). IsNamed c.name_trace.new.named (node_of s)) (sym c.in-And.is) last.2)

pub returns-clause-right : goal.returns-clause-right
returns-clause-right g c = are-right-grow c.name_trace.new.log.state c.and_unit.new.log.state c.args.d.now c.name_trace.new.named c.and_unit.ensures.grown c.name_trace.ensures.right

pub returns-clause-lines : goal.returns-clause-lines
returns-clause-lines g c = plain-behind c.args.log.now c.name_trace.new.log c.and_unit.new.log _ _ _ c.and_unit.result c.in_ok-name_trace.ensures.lines c.and_unit.ensures.lines
