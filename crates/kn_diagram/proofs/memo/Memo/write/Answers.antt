use Rattle.std.proofs.Common.{◌∙◌, sym, [], ◌∷◌, ◌++◌, take, ◌+◌}
use Rattle.kn_diagram.proofs.MemoLemmas.{taken-one_more}
use Rattle.kn_diagram.proofs.memo.Memo.write.Goals as goal

pub loop-place-preserved : goal.loop-place-preserved
loop-place-preserved c =
    c.in_ok-push.ensures.items
    ∙ (λ i. (c.loop-place.invariant ∙ (λ j. take c.loop-place.place (sym c.self.view_is j))) i
    ++ record { u = c.new.ensures i; v = c.new-in-loop-place.ensures i; w = c.new-in-loop-place-2.ensures i } ∷ [])
    ∙ sym (taken-one_more c.self.inside.results.entries c.loop-place.place c.in-Some.pair.now c.in-Some.w.now c.in-Some.ensures.entry)
    ∙ (λ i. take (c.loop-place.place + 1) (c.self.view_is i))
