-- For the crates above: what is read of numbers, literals and lines that were written.
pub use Rattle.kn_text.proofs.Spelled.{number_of_decimal, decimal_is_plain, decimal_not_skipped, literal_of_word, literal_word_is_plain, literal_not_skipped, literal_word_is_no_end, number_of_below, literal_of_writable, literal_is_no_end}
pub use Rattle.kn_text.proofs.Written.{words_of_joined, content_of_lines}
