use Rattle.std.proofs.Common.{◌≡◌, ◌+◌, ◌∙◌, sym, ap, subst, arith}
use Rattle.std.specs.Prelude.{option_copied}
use Rattle.kn_guess.proofs.Marked.{ArePassed, passed-some, passed-none, passed-all}
use Rattle.kn_guess.proofs.marks.marked.Goals as goal
use Rattle.kn_guess.proofs.marks.marked.Goals.{in-Some, in_default}

pub loop-id-preserved : goal.loop-id-preserved
loop-id-preserved c =
    let s = c.args.store.now in
    let n = c.loop-id.id in
    elim c.match-get.branch [
      | in-Some w ↦ passed-some c.args.mark s n c.loop-id.flags c.match-get.flags w.in-Some.c.now c.vars.ensures.stored c.loop-id.invariant (sym c.get.ensures ∙ ap option_copied w.in-Some.is) (w.flags-is ∙ w.raise.ensures)
      | in_default w ↦ subst (ArePassed c.args.mark s (n + 1)) (sym w.flags-is) (passed-none c.args.mark s n c.loop-id.flags c.loop-id.invariant (sym c.get.ensures ∙ ap option_copied w.in_default.is))
    ]

pub returns : goal.returns
returns c =
    let s = c.args.store.now in
    let low = c.loop-id-test.false in let high = c.loop-id.auto.id-end in
    passed-all c.args.mark s c.args.end c.loop-id.flags c.vars.ensures.stored (subst (λ n. ArePassed c.args.mark s n c.loop-id.flags) (let e : c.loop-id.id ≡ c.args.end = omega (arith, low, high) in e) c.loop-id.invariant) c.requires.end
