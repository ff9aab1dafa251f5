use Rattle.std.proofs.Common.{◌≤◌, length, arith, ap, ◌∙◌, sym, subst}
use Rattle.kn_logic.specs.Formulas.{Problem, IsUnsatisfiable}
use Rattle.kn_counter.specs.Counters.{counted}
use Rattle.kn_gen.proofs.Adding.{few-constraints, not-large}
use Rattle.kn_gen.proofs.Counting.{variables-few}
use Rattle.kn_gen.proofs.Truth.{generated-refuted}
use Rattle.kn_gen.proofs.Fitting.{blocks-are-formula}
use Rattle.kn_gen.proofs.generate.make_formula.Goals as goal

pub counted-requires-clause-constraints : goal.counted-requires-clause-constraints
counted-requires-clause-constraints c = subst (λ (f : Problem). length f.constraints ≤ 10000000) (sym c.in_ok-klauses.ensures) (few-constraints c.args.blocks c.requires.last)

pub returns-in-Ok-clause-refuted : goal.returns-in-Ok-clause-refuted
returns-in-Ok-clause-refuted c =
    subst IsUnsatisfiable (sym (c.in-Ok.ensures.clauses ∙ ap counted c.in_ok-klauses.ensures)) (generated-refuted c.args.blocks c.requires.first (blocks-are-formula c.args.blocks c.requires.first))

pub want_of_memory-requires : goal.want_of_memory-requires
want_of_memory-requires c =
    let few : (counted c.in_ok-klauses.klauses).vars ≤ 1000000 = subst (λ (f : Problem). (counted f).vars ≤ 1000000) (sym c.in_ok-klauses.ensures) (variables-few c.args.blocks c.requires.last) in
    not-large c.in-Err.e (counted c.in_ok-klauses.klauses).vars (omega (arith, few)) c.in-Err.ensures.large
