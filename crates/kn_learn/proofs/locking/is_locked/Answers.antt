use Rattle.std.proofs.Common.{◌++◌, ◌∷◌, [], ℕ, List, take, refl, sym, ap, subst, ◌∙◌}
use Rattle.std.specs.List.{AllByRecursion}
use Rattle.std.proofs.lemmas.List.{take_more}
use Rattle.kn_logic.specs.Literals.{Literal}
use Rattle.kn_logic.proofs.Public.{All-push}
use Rattle.kn_watch.specs.Trails.{Trailed}
use Rattle.kn_learn.specs.Analyses.{IsNotBy}
use Rattle.kn_learn.proofs.Locks.{no-reason, none-live}
use Rattle.kn_learn.proofs.locking.is_locked.Goals as goal

pub returns-in_default-clause-free : goal.returns-in_default-clause-free
returns-in_default-clause-free g c = λ h. none-live c.args.engine.now c.args.id c.in_default.ensures.kept c.in_default.ensures.value

pub loop-lit-preserved : goal.loop-lit-preserved
loop-lit-preserved g c =
    let made = c.args.engine.now.trail.made in
    let lits : List Literal = c.in-Some.lits.now in
    let k : ℕ = c.loop-lit.lit-index in
    let lit : Literal = c.lit-item.result in
    subst (AllByRecursion (IsNotBy made c.args.id)) (ap (λ (x : Literal). take k lits ++ x ∷ []) c.lit-item.is ∙ sym (take_more lits k lit c.loop-lit-test.true))
    (All-push (IsNotBy made c.args.id) (take k lits) lit c.loop-lit.invariant (subst (λ (t : Trailed). IsNotBy t.made c.args.id lit) c.trail.ensures.value (c.if-is_reason.ensures.none refl)))

pub returns-clause-free : goal.returns-clause-free
returns-clause-free g c = λ h.
    no-reason c.args.engine.now c.args.id c.in-Some.lits.now c.loop-lit.lit-index c.in-Some.ensures.kept c.in-Some.ensures.value c.loop-lit-test.false c.loop-lit.invariant
