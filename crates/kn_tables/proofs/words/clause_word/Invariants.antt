use Rattle.std.proofs.Common.{take}
use Rattle.std.specs.List.{list_any}
use Rattle.kn_tables.specs.Tables.{is_true_at}
use Rattle.kn_tables.specs.Words.{HasValues}
use Rattle.kn_tables.proofs.words.clause_word.Given as goal

abbrev pub invariant-loop-lit : goal.invariant-loop-lit
invariant-loop-lit l = HasValues (λ i. list_any (is_true_at i) (take l.lit-index l.lits)) l.place l.word
