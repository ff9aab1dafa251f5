use Rattle.kn_tables.proofs.Bits.{has_bit-with}
use Rattle.kn_tables.proofs.laws.an_index_with_a_value.Goals as goal

pub returns : goal.returns
returns c = has_bit-with
