use Rattle.kn_text.proofs.Spelled.{literal_of_word, literal_word_is_plain, number_of_literal, literal_word_is_no_end}
use Rattle.kn_text.proofs.laws.written_literals_are_read.Goals as goal

pub returns : goal.returns
returns c = record { same = literal_of_word; plain = literal_word_is_plain; number = number_of_literal; lasting = literal_word_is_no_end }
