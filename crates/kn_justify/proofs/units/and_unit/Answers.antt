use Rattle.std.proofs.Common.{◌≡◌, sym, subst, ◌∙◌, List, [], refl}
use Rattle.kn_diagram.specs.declared.trace.Met.{Met}
use Rattle.kn_diagram.specs.Traces.{AreExplained}
use Rattle.kn_quant.specs.declared.stage.Stage.{Stage}
use Rattle.kn_quant.specs.declared.stage.Stage.TheVariants.{And}
use Rattle.kn_justify.specs.declared.side.Side.TheVariants.{Both}
use Rattle.kn_justify.specs.Names.{IsUnit}
use Rattle.kn_justify.specs.Lemmas.{AreNamed, AreCovered, joined}
use Rattle.kn_justify.specs.Stages.{IsAnd, traces_of, left_of, right_of}
use Rattle.kn_justify.proofs.GrowthLemmas.{Grown-join, such-grows, plain-behind}
use Rattle.kn_justify.proofs.NameLemmas.{is-named, arm_known, has-name-grows}
use Rattle.kn_justify.proofs.UnitLemmas.{unit-grows}
use Rattle.kn_justify.proofs.ReducedLemmas.{not-missing}
use Rattle.kn_justify.proofs.StageLemmas.{and-explained, and-named, and-there, and-lemma}
use Rattle.kn_justify.proofs.units.and_unit.Goals as goal

pub joins-requires-clause-explained : goal.joins-requires-clause-explained
joins-requires-clause-explained g c =
    let h : IsAnd c.args.d.now (And c.in-And.u c.in-And.v c.in-And.node c.in-And.met) = subst (λ (s : Stage). IsAnd c.args.d.now s) c.in-And.is c.requires.stage in
    subst (λ (x : List Met). AreExplained (joined Both) c.args.d.now [] x) (sym c.met.ensures) (and-explained c.args.d.now c.in-And.met (record { u = c.in-And.u; v = c.in-And.v; w = c.in-And.node }) h.0)

pub returns-in_err-lemmas-clause-grown : goal.returns-in_err-lemmas-clause-grown
returns-in_err-lemmas-clause-grown g c = such-grows c.args.log.now c.joins.new.log _ _ c.joins.result c.joins.ensures.lines

pub unreachable-requires-in_default-get : goal.unreachable-requires-in_default-get
unreachable-requires-in_default-get g c =
    let h : IsAnd c.args.d.now (And c.in-And.u c.in-And.v c.in-And.node c.in-And.met) = subst (λ (s : Stage). IsAnd c.args.d.now s) c.in-And.is c.requires.stage in
    let covered : AreCovered c.in_ok-lemmas.lemmas c.in-And.met = subst (λ (x : List Met). AreCovered c.in_ok-lemmas.lemmas x) c.met.ensures c.in_ok-lemmas.ensures.covered in
    not-missing c.in_ok-lemmas.lemmas c.in-And.u c.in-And.v c.in-And.u c.in-And.v c.get.result (and-there c.args.d.now c.in-And.met (record { u = c.in-And.u; v = c.in-And.v; w = c.in-And.node }) c.in_ok-lemmas.lemmas h.0 covered) refl refl c.get.ensures c.in_default-get.is

pub unit-requires-clause-named : goal.unit-requires-clause-named
unit-requires-clause-named g c =
    let h : IsAnd c.args.d.now (And c.in-And.u c.in-And.v c.in-And.node c.in-And.met) = subst (λ (s : Stage). IsAnd c.args.d.now s) c.in-And.is c.requires.stage in
    let named : AreNamed c.args.log.now.state c.args.d.now c.args.named.now c.in-And.met = subst (λ (s : Stage). AreNamed c.args.log.now.state c.args.d.now c.args.named.now (traces_of s)) c.in-And.is c.requires.named in
    is-named c.args.log.now.state c.args.d.now c.args.named.now c.in-And.node (and-named c.args.log.now.state c.args.d.now c.args.named.now c.in-And.met (record { u = c.in-And.u; v = c.in-And.v; w = c.in-And.node }) h.0 named).w_named

pub unit-requires-clause-known : goal.unit-requires-clause-known
unit-requires-clause-known g c =
    let h : IsAnd c.args.d.now (And c.in-And.u c.in-And.v c.in-And.node c.in-And.met) = subst (λ (s : Stage). IsAnd c.args.d.now s) c.in-And.is c.requires.stage in
    let named : AreNamed c.args.log.now.state c.args.d.now c.args.named.now c.in-And.met = subst (λ (s : Stage). AreNamed c.args.log.now.state c.args.d.now c.args.named.now (traces_of s)) c.in-And.is c.requires.named in
    arm_known c.joins.new.log.state c.args.d.now c.args.named.now c.in-And.node
    (has-name-grows c.args.log.now.state c.joins.new.log.state c.args.d.now c.args.named.now c.in-And.node (such-grows c.args.log.now c.joins.new.log _ _ c.joins.result c.joins.ensures.lines)
    (and-named c.args.log.now.state c.args.d.now c.args.named.now c.in-And.met (record { u = c.in-And.u; v = c.in-And.v; w = c.in-And.node }) h.0 named).w_named)

pub unit-requires-clause-left : goal.unit-requires-clause-left
unit-requires-clause-left g c =
    unit-grows c.args.log.now.state c.joins.new.log.state c.args.named.now c.in-And.u c.args.left (such-grows c.args.log.now c.joins.new.log _ _ c.joins.result c.joins.ensures.lines)
    (subst (λ (s : Stage). IsUnit c.args.log.now.state.given c.args.named.now (left_of s) c.args.left) c.in-And.is c.requires.left)

pub unit-requires-clause-right : goal.unit-requires-clause-right
unit-requires-clause-right g c =
    unit-grows c.args.log.now.state c.joins.new.log.state c.args.named.now c.in-And.v c.args.right (such-grows c.args.log.now c.joins.new.log _ _ c.joins.result c.joins.ensures.lines)
    (subst (λ (s : Stage). IsUnit c.args.log.now.state.given c.args.named.now (right_of s) c.args.right) c.in-And.is c.requires.right)

pub unit-requires-clause-lemma : goal.unit-requires-clause-lemma
unit-requires-clause-lemma g c =
    let h : IsAnd c.args.d.now (And c.in-And.u c.in-And.v c.in-And.node c.in-And.met) = subst (λ (s : Stage). IsAnd c.args.d.now s) c.in-And.is c.requires.stage in
    and-lemma c.joins.new.log.state.given c.args.d.now c.args.named.now c.in-And.met (record { u = c.in-And.u; v = c.in-And.v; w = c.in-And.node }) c.in_ok-lemmas.lemmas c.get.result c.in-Some.lemma c.depth-depth.ensures.table h.0 c.in_ok-lemmas.ensures.joined c.get.ensures c.in-Some.is

pub returns-clause-grown : goal.returns-clause-grown
returns-clause-grown g c =
    Grown-join c.args.log.now.state c.joins.new.log.state c.unit.new.log.state (such-grows c.args.log.now c.joins.new.log _ _ c.joins.result c.joins.ensures.lines)
    (such-grows c.joins.new.log c.unit.new.log _ _ c.unit.result c.unit.ensures.lines)

pub returns-clause-lines : goal.returns-clause-lines
returns-clause-lines g c = plain-behind c.args.log.now c.joins.new.log c.unit.new.log _ _ _ c.unit.result c.in_ok-lemmas.ensures.lines c.unit.ensures.lines
