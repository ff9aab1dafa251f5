use Rattle.std.proofs.Common.{◌≡◌, ◌∙◌, ap, sym, arith}
use Rattle.kn_logic.specs.Literals.{Literal}
use Rattle.kn_watch.specs.declared.trail.Made.{Made}
use Rattle.kn_learn.proofs.Places.{there-is, said-at, one-place, not-open, false-place, no-name}
use Rattle.kn_learn.proofs.reading.false_before.Goals as goal

pub returns-then-is_open-clause-none : goal.returns-then-is_open-clause-none
returns-then-is_open-clause-none c = λ q m less at is. not-open c.args.trail.now.made c.args.lit q m (sym c.is_open.ensures ∙ c.if-is_open.true) at is

pub returns-in-Some-clause-some : goal.returns-in-Some-clause-some
returns-in-Some-clause-some c =
    let made = c.args.trail.now.made in
    let (m, at) = there-is made c.in-Some.place c.in-Some.ensures.inside in
    let var = said-at (λ (x : Made). x.lit.variable ≡ c.var.result) made c.in-Some.place m at c.in-Some.ensures.some in
    (m, c.if-place-before.true, at, false-place made c.args.lit c.in-Some.place m c.in-Some.ensures.kept.different (sym c.is_open.ensures ∙ c.if-is_open.false) at (var ∙ c.var.ensures.value))

pub returns-in_default-clause-none : goal.returns-in_default-clause-none
returns-in_default-clause-none c = λ q x less get is.
    let made = c.args.trail.now.made in
    let (m, at) = there-is made c.in-Some.place c.in-Some.ensures.inside in
    let var = said-at (λ (y : Made). y.lit.variable ≡ c.var.result) made c.in-Some.place m at c.in-Some.ensures.some in
    let one = one-place made c.in-Some.place q m x c.in-Some.ensures.kept.different at get (var ∙ c.var.ensures.value ∙ sym (ap (λ (l : Literal). l.variable) is)) in
    omega (arith, one, less, c.if-place-before.false)

pub returns-in_default-2-clause-none : goal.returns-in_default-2-clause-none
returns-in_default-2-clause-none c = λ q m less at is.
    no-name c.args.trail.now.made c.var.result q m c.in_default.ensures.none at (ap (λ (l : Literal). l.variable) is ∙ sym c.var.ensures.value)
