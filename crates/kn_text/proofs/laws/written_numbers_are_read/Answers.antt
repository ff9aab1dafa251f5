use Rattle.kn_text.proofs.Spelled.{number_of_decimal, decimal_is_plain, decimal_is_digits, decimal_begins_with_digit}
use Rattle.kn_text.proofs.laws.written_numbers_are_read.Goals as goal

pub returns : goal.returns
returns c = record { same = number_of_decimal; plain = decimal_is_plain; digits = decimal_is_digits; first = decimal_begins_with_digit }
