use Rattle.std.proofs.Common.{◌≡◌, ◌≤◌, ◌+◌, ◌-◌, true, false, subst, sym, ap, ◌∙◌, arith}
use Rattle.kn_store.specs.Stores.{constraints_of}
use Rattle.kn_guess.specs.Deep.{AreReached, IsOneOf, HasChain}
use Rattle.kn_guess.specs.Guesses.{in_klause}
use Rattle.kn_guess.specs.Tables.{AreDeep}
use Rattle.kn_guess.proofs.Chained.{chain-of, fewer, deep-raised, reached-earlier, reached-lifted, not-up}
use Rattle.kn_guess.proofs.deep.deep.Goals as goal
use Rattle.kn_guess.proofs.deep.deep.Goals.{then-many, else-many, then-is_up, else-is_up}

pub loop-behind-preserved : goal.loop-behind-preserved
loop-behind-preserved c =
    let s = c.args.store.now in
    let cs = constraints_of s.live in
    let behind = c.loop-behind.behind in
    let x = c.vars-in-loop-behind.result - behind in
    let at : x ≡ s.vars - behind = ap (λ n. n - behind) c.vars-in-loop-behind.ensures.value in
    let from : 1 ≤ x = omega (arith, at, c.loop-behind-test.true, c.vars-behind-end.ensures.value) in
    let old = c.loop-behind.best.items in
    let ids = c.with_variable-ids.result.now in
    let many = c.saturating_add-many.result in
    let reached : AreReached s x old = subst (λ n. AreReached s n old) (sym at) c.loop-behind.invariant.reached in
    let chain : HasChain cs x many =
    fewer cs x (c.most.result + 1) many (omega (arith, c.saturating_add-many.ensures))
    (chain-of s x c.most.result old ids c.vars.ensures.stored c.with_variable-ids.ensures reached (subst (λ b. IsOneOf b ids c.most.result) c.deref.ensures.value c.most.ensures)) in
    record {
      deep = elim c.if-many.branch [
        | then-many w ↦ deep-raised cs c.loop-behind.deep c.if-many.deep x many from c.loop-behind.invariant.deep (w.deep-is ∙ w.raise.ensures) w.if-many.true chain
        | else-many w ↦ subst (AreDeep cs) (sym w.deep-is) c.loop-behind.invariant.deep
      ];
      reached = elim c.if-is_up.branch [
        | then-is_up w ↦
            let y = s.vars - (behind + 1) in
            let new = w.lift.new.best.items in
            let alone : in_klause cs x ≡ false = not-up (in_klause cs x) (sym (c.requires.says x from (omega (arith, at))) ∙ sym c.is_up.ensures ∙ w.if-is_up.true) in
            subst (λ b. AreReached s y b.items) (sym w.best-is)
            (reached-lifted s x y many old new ids (omega (arith, at, from)) c.with_variable-ids.ensures alone chain reached w.lift.ensures)
        | else-is_up w ↦ subst (λ b. AreReached s (s.vars - (behind + 1)) b.items) (sym w.best-is) (reached-earlier s x (s.vars - (behind + 1)) old (omega (arith, at)) reached)
      ];
    }
