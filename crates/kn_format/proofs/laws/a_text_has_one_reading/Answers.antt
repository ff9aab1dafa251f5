use Rattle.kn_format.proofs.First.{one_formula, one_first_fault, spelled_or_faulty}
use Rattle.kn_format.proofs.laws.a_text_has_one_reading.Goals as goal

pub returns : goal.returns
returns c = record { formula = one_formula; fault = one_first_fault; apart = spelled_or_faulty }
