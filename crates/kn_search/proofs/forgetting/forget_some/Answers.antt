use Rattle.std.proofs.Common.{◌≡◌, ℕ, List, Ok, refl, sym, ◌∙◌, ap, subst, arith}
use Rattle.std.specs.List.{AllByRecursion}
use Rattle.kn_lines.specs.declared.line.Line.TheVariants.{Delete}
use Rattle.kn_rules.specs.Steps.{step}
use Rattle.kn_search.specs.Searches.{removed_all, IsLiveLearned, IsSplit}
use Rattle.kn_search.proofs.Forgotten.{mirrors-forgotten}
use Rattle.kn_search.proofs.Splits.{part-all, held-rest, kept-rest, deletion-allowed}
use Rattle.kn_search.proofs.Parts.{part-line, line-fails, handed-on}
use Rattle.kn_search.proofs.forgetting.forget_some.Goals as goal

pub delete-requires-clause-learned : goal.delete-requires-clause-learned
delete-requires-clause-learned g c =
    let split = subst (λ (xs : List ℕ). IsSplit c.args.engine.now.trail.made xs c.in_ok-parts.parts.out.items c.in_ok-parts.parts.rest.items) c.deref.ensures.value c.in_ok-parts.ensures in
    subst (AllByRecursion (IsLiveLearned c.args.log.now.state.given)) (sym c.deref-2.ensures.value)
    (part-all (IsLiveLearned c.args.log.now.state.given) c.args.held.now.ids.items c.in_ok-parts.parts.out.items c.requires.held.learned split.out_in)

pub returns-in_err-delete-clause-error : goal.returns-in_err-delete-clause-error
returns-in_err-delete-clause-error g c =
    let split = subst (λ (xs : List ℕ). IsSplit c.args.engine.now.trail.made xs c.in_ok-parts.parts.out.items c.in_ok-parts.parts.rest.items) c.deref.ensures.value c.in_ok-parts.ensures in
    handed-on _ c.from_residual-in_err-delete.result c.in_err-delete.field-0.0 c.from_residual-in_err-delete.ensures.1
    (λ vars. line-fails vars c.args.forget c.args.held.now.deletions 0 c.args.log.now c.delete.new.log _ _ (Delete c.deref-2.result.now) c.in_err-delete.field-0.0 c.requires.whole
    (deletion-allowed vars c.args.forget c.args.held.now.deletions c.args.log.now.state c.args.engine.now.trail.made c.args.held.now.ids.items c.in_ok-parts.parts.out.items c.in_ok-parts.parts.rest.items c.deref-2.result.now (c.is_due.ensures.some c.if-not-is_due.false) (c.is_due.ensures.enough c.if-not-is_due.false) c.requires.held split c.deref-2.ensures.value)
    (omega arith) c.in_err-delete.ensures.logs c.in_err-delete.ensures.spelled)

pub returns-clause-mirrors : goal.returns-clause-mirrors
returns-clause-mirrors g c =
    let (steps, good, got) = c.in_ok-delete.ensures.logs in
    mirrors-forgotten c.args.engine.now.live c.remove_all.new.engine.live c.args.log.now.state c.delete.new.log.state c.deref-2.result.now c.requires.mirrors steps
    (c.remove_all.ensures.live ∙ ap (λ (xs : List ℕ). removed_all xs c.args.engine.now.live) (c.deref-3.ensures.value ∙ sym c.deref-2.ensures.value))

pub returns-clause-held : goal.returns-clause-held
returns-clause-held g c =
    let split = subst (λ (xs : List ℕ). IsSplit c.args.engine.now.trail.made xs c.in_ok-parts.parts.out.items c.in_ok-parts.parts.rest.items) c.deref.ensures.value c.in_ok-parts.ensures in
    let (steps, good, got) = c.in_ok-delete.ensures.logs in
    held-rest c.args.engine.now.trail.made c.args.log.now.state c.delete.new.log.state c.args.held.now.ids.items c.in_ok-parts.parts.out.items c.in_ok-parts.parts.rest.items c.requires.held split
    (subst (λ (xs : List ℕ). step c.args.log.now.state (Delete xs) ≡ Ok c.delete.new.log.state) c.deref-2.ensures.value steps)

pub returns-clause-kept : goal.returns-clause-kept
returns-clause-kept g c = λ first k.
    let split = subst (λ (xs : List ℕ). IsSplit c.args.engine.now.trail.made xs c.in_ok-parts.parts.out.items c.in_ok-parts.parts.rest.items) c.deref.ensures.value c.in_ok-parts.ensures in
    kept-rest c.args.engine.now.trail.made first c.args.engine.now.live c.remove_all.new.engine.live c.args.held.now.ids.items c.in_ok-parts.parts.out.items c.in_ok-parts.parts.rest.items split
    (c.remove_all.ensures.live ∙ ap (λ (xs : List ℕ). removed_all xs c.args.engine.now.live) c.deref-3.ensures.value) k

pub returns-clause-logs : goal.returns-clause-logs
returns-clause-logs g c = λ vars.
    let split = subst (λ (xs : List ℕ). IsSplit c.args.engine.now.trail.made xs c.in_ok-parts.parts.out.items c.in_ok-parts.parts.rest.items) c.deref.ensures.value c.in_ok-parts.ensures in
    let (steps, good, got) = c.in_ok-delete.ensures.logs in (
      1,
      refl,
      part-line vars c.args.forget c.args.held.now.deletions c.args.log.now c.delete.new.log _ _ (Delete c.deref-2.result.now) steps
          (deletion-allowed vars c.args.forget c.args.held.now.deletions c.args.log.now.state c.args.engine.now.trail.made c.args.held.now.ids.items c.in_ok-parts.parts.out.items c.in_ok-parts.parts.rest.items c.deref-2.result.now (c.is_due.ensures.some c.if-not-is_due.false) (c.is_due.ensures.enough c.if-not-is_due.false) c.requires.held split c.deref-2.ensures.value)
          refl good c.in_ok-delete.ensures.spelled got,
    )
