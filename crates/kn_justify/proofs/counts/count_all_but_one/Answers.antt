use Rattle.std.proofs.Common.{◌≡◌, Option, Some, IfSome, ap, ◌∙◌, subst, refl, List, [], ◌∷◌, ℕ}
use Rattle.kn_logic.specs.Constraints.{clause}
use Rattle.kn_lines.specs.declared.line.Arm.{Arm}
use Rattle.kn_rules.specs.States.{live_at}
use Rattle.kn_justify.specs.Growth.{ArePlain}
use Rattle.kn_justify.specs.Definitions.{IsDefined}
use Rattle.kn_justify.specs.PairGroups.{unit_hints}
use Rattle.kn_justify.proofs.GrowthLemmas.{such-grows, plain-behind-not, plain-join}
use Rattle.kn_justify.proofs.SettleLemmas.{error-ends}
use Rattle.kn_justify.proofs.PairCountLemmas.{unit-ready, but-one-counted}
use Rattle.kn_justify.proofs.counts.count_all_but_one.Goals as goal

pub settle-requires-clause-hints : goal.settle-requires-clause-hints
settle-requires-clause-hints g c =
    unit-ready c.args.log.now.state c.define.new.log.state c.args.pairs.now c.args.held c.in_ok-name.name c.args.l c.args.lits.now c.args.all.now c.in_ok-hints.hints.items
    (such-grows c.args.log.now c.define.new.log _ _ c.define.result c.define.ensures.lines)
    (subst (λ (a : Arm). IsDefined c.define.new.log.state c.in_ok-name.name c.args.l a c.args.all.now.arm) c.arm_of.ensures c.in_ok-name.ensures.defined)
    c.requires.but_one c.requires.paired c.requires.all
    (c.in_ok-hints.ensures ∙ ap (λ (ids : List ℕ). unit_hints c.args.pairs.now c.args.held c.in_ok-name.name c.args.l c.args.lits.now ids) c.deref.ensures.value)

pub returns-in_err-unit-clause-lines : goal.returns-in_err-unit-clause-lines
returns-in_err-unit-clause-lines g c =
    error-ends ArePlain c.args.log.now c.settle.new.log _ _ c.from_residual-in_err-unit.result c.in_err-unit.field-0.0 c.from_residual-in_err-unit.ensures.1
    (plain-behind-not c.args.log.now c.define.new.log c.settle.new.log _ _ _ c.in_err-unit.field-0.0 c.in_ok-name.ensures.lines c.in_err-unit.ensures.lines)

pub returns-clause-counted : goal.returns-clause-counted
returns-clause-counted g c =
    but-one-counted c.args.log.now.state c.define.new.log.state c.settle.new.log.state c.args.l c.args.lits.now c.args.held c.in_ok-name.name c.args.all.now _ c.requires.filled
    (such-grows c.args.log.now c.define.new.log _ _ c.define.result c.define.ensures.lines)
    (such-grows c.define.new.log c.settle.new.log _ _ c.settle.result c.settle.ensures.lines)
    (subst (λ (a : Arm). IsDefined c.define.new.log.state c.in_ok-name.name c.args.l a c.args.all.now.arm) c.arm_of.ensures c.in_ok-name.ensures.defined)
    c.requires.but_one c.requires.all refl
    (subst (λ (o : Option ℕ). IfSome o (λ i. live_at c.settle.new.log.state.given i ≡ Some (clause (c.in_ok-name.name.lit ∷ [])))) c.in-Some.is c.in_ok-unit.ensures.told)

pub returns-clause-lines : goal.returns-clause-lines
returns-clause-lines g c = plain-join c.args.log.now c.define.new.log c.settle.new.log _ _ _ c.in_ok-name.ensures.lines c.in_ok-unit.ensures.lines
