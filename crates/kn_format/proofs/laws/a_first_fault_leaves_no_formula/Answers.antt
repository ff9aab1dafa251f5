use Rattle.kn_format.proofs.Faulty.{header_of_text, causes_behind, wrong_word, unended_text, short_text}
use Rattle.kn_format.proofs.laws.a_first_fault_leaves_no_formula.Goals as goal

pub returns : goal.returns
returns c = record { header = header_of_text; causes = causes_behind; word = wrong_word; within = unended_text; few = short_text }
