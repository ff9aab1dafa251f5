use Rattle.std.proofs.Common.{◌≡◌, ◌∙◌, Some, sym, ap}
use Rattle.std.proofs.lemmas.Bool.{eqb-true}
use Rattle.kn_watch.specs.declared.trail.Made.{Made}
use Rattle.kn_learn.proofs.Places.{there-is, said-at}
use Rattle.kn_learn.proofs.Locks.{not-by, not-forced, unset-by}
use Rattle.kn_learn.proofs.locking.is_reason.Goals as goal

pub returns-in_default-clause-none : goal.returns-in_default-clause-none
returns-in_default-clause-none c = λ h. unset-by c.args.trail.now.made c.args.lit c.var.result c.args.id c.in_default.ensures.none c.var.ensures.value

pub returns-in-Some-reason_at-clause-yes : goal.returns-in-Some-reason_at-clause-yes
returns-in-Some-reason_at-clause-yes c = λ h.
    let (m, at) = there-is c.args.trail.now.made c.in-Some.place c.in-Some.ensures.inside in
    (c.in-Some.place, m, at, sym (c.in-Some-reason_at.ensures m at) ∙ ap Some (eqb-true c.in-Some-reason_at.reason c.args.id h))

pub returns-in-Some-reason_at-clause-none : goal.returns-in-Some-reason_at-clause-none
returns-in-Some-reason_at-clause-none c = λ h.
    let made = c.args.trail.now.made in
    let (m, at) = there-is made c.in-Some.place c.in-Some.ensures.inside in
    let var = said-at (λ (x : Made). x.lit.variable ≡ c.var.result) made c.in-Some.place m at c.in-Some.ensures.some in
    not-by made c.args.lit c.in-Some.place c.args.id c.in-Some-reason_at.reason m c.in-Some.ensures.kept.different at (var ∙ c.var.ensures.value) (sym (c.in-Some-reason_at.ensures m at)) h

pub returns-in-None-clause-none : goal.returns-in-None-clause-none
returns-in-None-clause-none c = λ h.
    let made = c.args.trail.now.made in
    let (m, at) = there-is made c.in-Some.place c.in-Some.ensures.inside in
    let var = said-at (λ (x : Made). x.lit.variable ≡ c.var.result) made c.in-Some.place m at c.in-Some.ensures.some in
    not-forced made c.args.lit c.in-Some.place c.args.id m c.in-Some.ensures.kept.different at (var ∙ c.var.ensures.value) (sym (c.in-None.ensures m at))
