-- For the crates above: what a line is read as, and what is read of a line that was written.
pub use Rattle.kn_lines.proofs.Spelling.{one_spelling, spelled_is_formed, spelled_is_not_skipped, unread_spells_none}
pub use Rattle.kn_lines.proofs.Written.{written_words_spell, written_is_plain, written_is_content, written_line_is_read, spelled_is_in_range}
