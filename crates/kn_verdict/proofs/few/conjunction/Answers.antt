use Rattle.std.proofs.Common.{length, sym, subst, arith, ◌∙◌, ap, map}
use Rattle.kn_tables.specs.Tables.{AreBelow}
use Rattle.kn_verdict.specs.Numbered.{AreAmong, numbered}
use Rattle.kn_verdict.proofs.Indices.{below-among}
use Rattle.kn_verdict.proofs.Tabled.{All-item}
use Rattle.kn_verdict.proofs.few.conjunction.Goals as goal

pub of_clause-requires-clause-below : goal.of_clause-requires-clause-below
of_clause-requires-clause-below c =
    let xs = c.args.variables.now in
    let among : AreAmong xs c.c-item.result.lits =
    All-item (λ x. AreAmong xs x.lits) c.args.taken.now c.loop-c.c-index c.c-item.result c.requires.among (omega (arith, c.loop-c-test.true)) c.c-item.is in
    subst (AreBelow (length xs)) (sym (c.deref.ensures.value ∙ c.in_ok-lits.ensures ∙ ap (map (numbered xs)) c.lits.ensures)) (below-among xs c.c-item.result.lits among)
