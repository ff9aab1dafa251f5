use Rattle.std.proofs.Common.{◌≡◌, ◌++◌, ◌∷◌, [], ℕ, List, true, sym, ap, ◌∙◌, subst}
use Rattle.kn_lines.specs.declared.line.Arm.{Arm}
use Rattle.kn_rules.specs.Steps.{is_known_arm}
use Rattle.kn_justify.specs.declared.name.Name.{Name}
use Rattle.kn_justify.specs.Names.{positive_of, arm_at, test_of, IsNamed, AreRight, AreKept, AreOfReached}
use Rattle.kn_justify.proofs.GrowthLemmas.{such-grows}
use Rattle.kn_justify.proofs.NameLemmas.{arm_known, has-name, are-right-grow}
use Rattle.kn_justify.proofs.KeptLemmas.{names-right, last-named, kept-pushed, reached-last, defined-as}
use Rattle.kn_justify.proofs.naming.name_node.Goals as goal

pub define-requires-clause-high : goal.define-requires-clause-high
define-requires-clause-high g c =
    subst (λ (a : Arm). is_known_arm c.args.log.now.state.vars a ≡ true) (sym c.known_arm.ensures)
    (arm_known c.args.log.now.state c.args.d.now c.args.named.now c.args.high (has-name c.args.log.now.state c.args.d.now c.args.named.now c.args.high c.requires.right c.requires.high_named))

pub define-requires-clause-low : goal.define-requires-clause-low
define-requires-clause-low g c =
    subst (λ (a : Arm). is_known_arm c.args.log.now.state.vars a ≡ true) (sym c.known_arm-2.ensures)
    (arm_known c.args.log.now.state c.args.d.now c.args.named.now c.args.low (has-name c.args.log.now.state c.args.d.now c.args.named.now c.args.low c.requires.right c.requires.low_named))

pub returns-in_err-name-clause-right : goal.returns-in_err-name-clause-right
returns-in_err-name-clause-right g c =
    are-right-grow c.args.log.now.state c.define.new.log.state c.args.d.now c.args.named.now (such-grows c.args.log.now c.define.new.log _ _ c.define.result c.define.ensures.lines) c.requires.right

pub returns-in_err-insert-clause-right : goal.returns-in_err-insert-clause-right
returns-in_err-insert-clause-right g c =
    subst (λ (x : List (ℕ × Name)). AreRight c.define.new.log.state c.args.d.now x) (sym c.in_err-insert.ensures.err)
    (are-right-grow c.args.log.now.state c.define.new.log.state c.args.d.now c.args.named.now (such-grows c.args.log.now c.define.new.log _ _ c.define.result c.define.ensures.lines) c.requires.right)

pub returns-clause-named : goal.returns-clause-named
returns-clause-named g c = subst (λ (x : List (ℕ × Name)). IsNamed x c.args.node) (sym c.in_ok-insert.ensures.ok) (last-named c.args.named.now c.args.node c.in_ok-name.name c.requires.absent)

pub returns-clause-right : goal.returns-clause-right
returns-clause-right g c =
    subst (λ (x : List (ℕ × Name)). AreRight c.define.new.log.state c.args.d.now x) (sym c.in_ok-insert.ensures.ok)
    (names-right c.args.log.now.state c.define.new.log.state c.args.d.now c.args.named.now c.args.node c.in_ok-name.name c.requires.right
    (such-grows c.args.log.now c.define.new.log _ _ c.define.result c.define.ensures.lines) c.requires.known
    (subst (λ (x : ℕ). IsNamed c.args.named.now x) c.requires.high c.requires.high_named) (subst (λ (x : ℕ). IsNamed c.args.named.now x) c.requires.low c.requires.low_named)
    (defined-as c.define.new.log.state c.in_ok-name.name c.new-x.result (test_of c.args.d.now c.args.node) c.known_arm.result _ c.known_arm-2.result _ (c.new-x.ensures ∙ ap positive_of c.requires.var)
    (c.known_arm.ensures ∙ ap (λ (x : ℕ). arm_at c.args.named.now x) c.requires.high) (c.known_arm-2.ensures ∙ ap (λ (x : ℕ). arm_at c.args.named.now x) c.requires.low) c.in_ok-name.ensures.defined))

pub returns-clause-kept : goal.returns-clause-kept
returns-clause-kept g c = subst (λ (x : List (ℕ × Name)). AreKept c.args.named.now x) (sym c.in_ok-insert.ensures.ok) (kept-pushed c.args.named.now c.args.node c.in_ok-name.name)

pub returns-clause-reached : goal.returns-clause-reached
returns-clause-reached g c = subst (λ (x : List (ℕ × Name)). AreOfReached c.args.d.now c.args.node c.args.named.now x) (sym c.in_ok-insert.ensures.ok) (reached-last c.args.d.now c.args.named.now c.args.node c.in_ok-name.name)
