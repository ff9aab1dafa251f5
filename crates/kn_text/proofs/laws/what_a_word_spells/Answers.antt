use Rattle.std.proofs.Common.{refl}
use Rattle.kn_text.proofs.Spelled.{number_of_below, literal_of_writable, literal_is_no_end}
use Rattle.kn_text.proofs.laws.what_a_word_spells.Goals as goal

pub returns : goal.returns
returns c = record { number = number_of_below; literal = literal_of_writable; apart = literal_is_no_end; zero = refl }
