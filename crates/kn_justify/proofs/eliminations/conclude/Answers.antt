use Rattle.std.proofs.Common.{◌≡◌, ◌≤◌, ◌∙◌, ℕ, List, Some, sym, ap, subst, reverse}
use Rattle.std.specs.Result.{IsOk}
use Rattle.kn_logic.specs.Constraints.{Bounded, klause}
use Rattle.kn_logic.specs.Literals.{Literal}
use Rattle.kn_rules.specs.Steps.{count}
use Rattle.kn_diagram.specs.Diagrams.{Table, IsTable, IsNode}
use Rattle.kn_justify.specs.Names.{name_of}
use Rattle.kn_justify.specs.Taken.{unit_of}
use Rattle.kn_justify.proofs.MadeLemmas.{result-unit, root-two, root-not-none, root-named, closing-steps, unit-counted}
use Rattle.kn_justify.proofs.MakingLemmas.{unit-there}
use Rattle.kn_justify.proofs.eliminations.conclude.Goals as goal

pub unreachable-requires : goal.unreachable-requires
unreachable-requires g c =
    let ok : IsTable c.args.elimination.now.table = subst (λ (d : Table). IsTable d) c.diagrams.ensures.value c.depth-depth.ensures.table in
    let there : IsNode c.args.elimination.now.table c.args.elimination.now.result = subst (λ (x : ℕ). IsNode c.args.elimination.now.table x) c.result-root.ensures.value c.result-root.ensures.there in
    let two : 2 ≤ c.args.elimination.now.result = root-two c.args.group.now c.args.elimination.now c.args.bound ok c.border-border.ensures.group c.requires.elimination there c.requires.counts c.requires.bound in
    unit-there c.args.units.now c.args.elimination.now.result c.get.result (result-unit c.args.elimination.now c.args.units.now c.result-root.ensures.elimination two c.requires.made)
    (c.get.ensures ∙ ap (λ (x : ℕ). unit_of c.args.units.now x) c.result-root.ensures.value) c.in_default.is

pub unreachable-requires-in_default-id : goal.unreachable-requires-in_default-id
unreachable-requires-in_default-id g c =
    let ok : IsTable c.args.elimination.now.table = subst (λ (d : Table). IsTable d) c.diagrams.ensures.value c.depth-depth.ensures.table in
    let there : IsNode c.args.elimination.now.table c.args.elimination.now.result = subst (λ (x : ℕ). IsNode c.args.elimination.now.table x) c.result-root.ensures.value c.result-root.ensures.there in
    let two : 2 ≤ c.args.elimination.now.result = root-two c.args.group.now c.args.elimination.now c.args.bound ok c.border-border.ensures.group c.requires.elimination there c.requires.counts c.requires.bound in
    root-not-none c.args.log.now.state.given c.args.named.now c.args.units.now c.args.elimination.now.result c.get.result c.in-Some.id two c.requires.units
    (c.get.ensures ∙ ap (λ (x : ℕ). unit_of c.args.units.now x) c.result-root.ensures.value) c.in-Some.is c.in_default-id.is

pub unreachable-requires-in_default-get : goal.unreachable-requires-in_default-get
unreachable-requires-in_default-get g c =
    let ok : IsTable c.args.elimination.now.table = subst (λ (d : Table). IsTable d) c.diagrams.ensures.value c.depth-depth.ensures.table in
    let there : IsNode c.args.elimination.now.table c.args.elimination.now.result = subst (λ (x : ℕ). IsNode c.args.elimination.now.table x) c.result-root.ensures.value c.result-root.ensures.there in
    let two : 2 ≤ c.args.elimination.now.result = root-two c.args.group.now c.args.elimination.now c.args.bound ok c.border-border.ensures.group c.requires.elimination there c.requires.counts c.requires.bound in
    root-named c.args.log.now.state.given c.args.named.now c.args.units.now c.args.elimination.now.result c.get.result c.in-Some.id c.get-2.result two c.requires.units
    (c.get.ensures ∙ ap (λ (x : ℕ). unit_of c.args.units.now x) c.result-root.ensures.value) c.in-Some.is (c.get-2.ensures.value ∙ ap (λ (x : ℕ). name_of c.args.named.now x) c.result-root.ensures.value) c.in_default-get.is

pub close-requires-clause-formed : goal.close-requires-clause-formed
close-requires-clause-formed g c = (
  c.new-klause.ensures ∙ ap (λ (x : Bounded). klause x.bound x.lits) (sym c.new-klause.ensures),
  c.var.ensures.counted,
  unit-counted c.args.log.now.state.given c.args.named.now c.args.units.now c.result-root.result c.in-Some-id.unit c.requires.units (sym c.get.ensures ∙ c.in-Some.is ∙ ap Some c.in-Some-id.is),
)

pub close-requires-clause-steps : goal.close-requires-clause-steps
close-requires-clause-steps g c =
    let ok : IsTable c.args.elimination.now.table = subst (λ (d : Table). IsTable d) c.diagrams.ensures.value c.depth-depth.ensures.table in
    let there : IsNode c.args.elimination.now.table c.args.elimination.now.result = subst (λ (x : ℕ). IsNode c.args.elimination.now.table x) c.result-root.ensures.value c.result-root.ensures.there in
    let lits : c.reverse.new.self.items ≡ reverse c.args.group.now.border = c.reverse.ensures.items ∙ ap (λ (xs : List Literal). reverse xs) (c.in_ok-lits.ensures.items ∙ c.border-border.ensures.value) in
    let steps : IsOk (count c.args.log.now.state c.args.bound (reverse c.args.group.now.border) c.in-Some-get.name.lit.variable c.in-Some-id.unit) =
    closing-steps c.args.log.now.state c.args.group.now c.args.elimination.now c.args.named.now c.args.units.now c.args.bound c.in-Some-id.unit c.in-Some-get.name ok c.border-border.ensures.group c.requires.elimination there c.requires.counts c.requires.bound c.requires.known c.requires.right c.requires.units
    (ap (λ (x : ℕ). unit_of c.args.units.now x) (sym c.result-root.ensures.value) ∙ sym c.get.ensures ∙ c.in-Some.is ∙ ap Some c.in-Some-id.is)
    (ap (λ (x : ℕ). name_of c.args.named.now x) (sym c.result-root.ensures.value) ∙ sym c.get-2.ensures.value ∙ c.in-Some-get.is) in
    subst (λ (k : Bounded). IsOk (count c.args.log.now.state k.bound k.lits c.var.result c.in-Some-id.unit)) (sym (c.new-klause.ensures ∙ ap (λ (xs : List Literal). klause c.args.bound xs) lits))
    (subst (λ (x : ℕ). IsOk (count c.args.log.now.state c.args.bound (reverse c.args.group.now.border) x c.in-Some-id.unit)) (sym c.var.ensures.value) steps)
