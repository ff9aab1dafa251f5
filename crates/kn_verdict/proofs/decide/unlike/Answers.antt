use Rattle.std.proofs.Common.{◌≡◌, ◌∙◌, ℕ, Bool, nat_lt, sym, subst}
use Rattle.kn_diagram.specs.Diagrams.{function_of}
use Rattle.kn_verdict.specs.Cardinals.{DiffersAt}
use Rattle.kn_verdict.specs.Numbers.{IsWitness}
use Rattle.kn_verdict.proofs.Deciding.{unlike-some, differs-by}
use Rattle.kn_verdict.proofs.decide.unlike.Goals as goal

pub witness-requires-clause-some : goal.witness-requires-clause-some
witness-requires-clause-some c =
    let g = c.args.group.now in
    let e = c.args.elimination.now in
    let want = nat_lt c.args.numbers.holding c.only_bound-bound.result in
    subst (λ d. (v : ℕ → Bool) × (function_of d c.root_of-root.result v ≡ want)) (sym c.diagrams-d.ensures.value)
    (subst (λ n. (v : ℕ → Bool) × (function_of e.table n v ≡ want)) (sym c.root_of-root.ensures.value)
    (unlike-some g.border (function_of e.table e.result) c.args.numbers c.only_bound-bound.result c.requires.measured c.requires.less))

pub returns : goal.returns
returns c =
    let g = c.args.group.now in
    let e = c.args.elimination.now in
    let bound = c.only_bound-bound.result in
    let want = nat_lt c.args.numbers.holding bound in
    let values = c.in_ok-values.values.items in
    let w : IsWitness g (function_of e.table e.result) want values =
    subst (λ n. IsWitness g (function_of e.table n) want values) c.root_of-root.ensures.value
    (subst (λ d. IsWitness g (function_of d c.root_of-root.result) want values) c.diagrams-d.ensures.value c.in_ok-values.ensures) in (
      c.requires.narrow,
      c.only_bound-bound.ensures,
      subst (DiffersAt g bound) (sym (c.in_ok-assignment_of.ensures ∙ c.deref.ensures.value))
          (differs-by g (function_of e.table e.result) c.args.numbers bound want values c.requires.elimination.meaning c.requires.measured c.requires.less (λ i. want) w),
    )
