use Rattle.kn_format.proofs.Faulty.{wrong_is_fault, within_is_fault, few_is_fault}
use Rattle.kn_format.proofs.laws.what_leaves_no_formula_is_the_first_fault.Goals as goal

pub returns : goal.returns
returns c = record { word = wrong_is_fault; within = within_is_fault; few = few_is_fault }
