use Rattle.kn_gen.proofs.Counting.{variables-are, clauses-are, variables-few, clauses-few}
use Rattle.kn_gen.proofs.laws.blocks_are_counted.Goals as goal

pub returns : goal.returns
returns c = record { variables = variables-are; clauses = clauses-are; few_variables = variables-few; few_clauses = clauses-few }
