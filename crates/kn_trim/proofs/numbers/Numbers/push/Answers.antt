use Rattle.std.proofs.Common.{◌≡◌, ◌++◌, ◌∷◌, [], ◌∙◌, sym, ap, Bool, List, ℕ}
use Rattle.kn_trim.specs.Numbers.{numbers_from, rises}
use Rattle.kn_trim.proofs.NumberLemmas.{more-rises, more-table}
use Rattle.kn_trim.proofs.numbers.Numbers.push.Goals as goal

pub invariant_of-self-2 : goal.invariant_of-self-2
invariant_of-self-2 c =
    let next : c.push.new.self.items ≡ numbers_from 0 (rises c.deref.result.now ++ c.args.kept ∷ []) = c.in_ok-push.ensures.items ∙ ap (λ (ns : List ℕ). ns ++ c.next_in-next.result ∷ []) (sym c.deref.ensures.value) ∙ c.next_in-next.ensures in
    more-table c.deref.result.now c.push.new.self.items c.args.kept next

pub returns-clause-ok : goal.returns-clause-ok
returns-clause-ok c =
    let next : c.push.new.self.items ≡ numbers_from 0 (rises c.deref.result.now ++ c.args.kept ∷ []) = c.in_ok-push.ensures.items ∙ ap (λ (ns : List ℕ). ns ++ c.next_in-next.result ∷ []) (sym c.deref.ensures.value) ∙ c.next_in-next.ensures in
    more-rises c.deref.result.now c.push.new.self.items c.args.kept next
    ∙ ap (λ (ns : List ℕ). rises ns ++ c.args.kept ∷ []) c.deref.ensures.value
    ∙ ap (λ (marks : List Bool). marks ++ c.args.kept ∷ []) c.self.view_is
