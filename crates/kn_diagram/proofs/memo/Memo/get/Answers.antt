use Rattle.std.proofs.Common.{◌∙◌, sym, ap, Some}
use Rattle.kn_diagram.specs.Traces.{found}
use Rattle.kn_diagram.proofs.MemoLemmas.{found-lookup}
use Rattle.kn_diagram.proofs.memo.Memo.get.Goals as goal

pub returns-in-Some : goal.returns-in-Some
returns-in-Some c =
    ap Some c.new.ensures ∙ c.in-Some.ensures.value ∙ sym (found-lookup c.number.result c.number-2.result c.self.inside.results.entries)
    ∙ (λ i. found (c.self.view_is i) (c.number.ensures i) (c.number-2.ensures i))

pub returns-in-None : goal.returns-in-None
returns-in-None c =
    c.in-None.ensures.value ∙ sym (found-lookup c.number.result c.number-2.result c.self.inside.results.entries)
    ∙ (λ i. found (c.self.view_is i) (c.number.ensures i) (c.number-2.ensures i))
