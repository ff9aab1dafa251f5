use Rattle.std.proofs.Common.{inl, inr, length, ap, subst, arith}
use Rattle.kn_diagram.specs.Diagrams.{function_of}
use Rattle.kn_verdict.specs.Numbers.{AreFewest}
use Rattle.kn_verdict.proofs.Deciding.{cardinal-by}
use Rattle.kn_verdict.proofs.decide.decide.Goals as goal
use Rattle.kn_verdict.proofs.decide.decide.Goals.{else-bound-ge2-via-then-bound-ge2+else-bound-n, else-bound-ge2-via-else-bound-ge2}

pub returns-then-bound-n : goal.returns-then-bound-n
returns-then-bound-n c =
    let g = c.args.group.now in
    let e = c.args.elimination in
    let numbers = c.in_ok-numbers.numbers in
    let f = function_of e.table e.result in
    let measured : AreFewest g.border f numbers =
    subst (λ n. AreFewest g.border (function_of e.table n) numbers) c.root_of.ensures.value
    (subst (λ d. AreFewest g.border (function_of d c.root_of.result) numbers) c.diagrams.ensures.value c.in_ok-numbers.ensures.measured) in
    let long = ap length c.border.ensures.value in (
      c.requires.narrow,
      cardinal-by g f numbers c.border.ensures.group c.requires.elimination.meaning measured (omega (arith, c.if-numbers-n.false, long)),
      (c.if-bound-ge2.true, omega (arith, c.if-bound-n.true, long)),
      c.requires.elimination,
    )

pub returns-else-bound-ge2 : goal.returns-else-bound-ge2
returns-else-bound-ge2 c =
    let g = c.args.group.now in
    let e = c.args.elimination in
    let numbers = c.in_ok-numbers.numbers in
    let f = function_of e.table e.result in
    let measured : AreFewest g.border f numbers =
    subst (λ n. AreFewest g.border (function_of e.table n) numbers) c.root_of.ensures.value
    (subst (λ d. AreFewest g.border (function_of d c.root_of.result) numbers) c.diagrams.ensures.value c.in_ok-numbers.ensures.measured) in
    let long = ap length c.border.ensures.value in (
      c.requires.narrow,
      cardinal-by g f numbers c.border.ensures.group c.requires.elimination.meaning measured (omega (arith, c.if-numbers-n.false, long)),
      elim c.else-bound-ge2.branch [
        | else-bound-ge2-via-then-bound-ge2+else-bound-n w ↦ inr (omega (arith, w.if-bound-n.false, long))
        | else-bound-ge2-via-else-bound-ge2 w ↦ inl (omega (arith, w.if-bound-ge2.false))
      ],
    )
