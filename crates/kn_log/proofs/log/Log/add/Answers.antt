use Rattle.kn_lines.proofs.Public.{written_words_spell}
use Rattle.kn_log.proofs.log.Log.add.Goals as goal

pub returns-then-is_err-clause-spelled : goal.returns-then-is_err-clause-spelled
returns-then-is_err-clause-spelled g c = written_words_spell c.args.line c.requires.formed c.in_ok-bytes.ensures.range

pub returns-clause-spelled : goal.returns-clause-spelled
returns-clause-spelled g c = written_words_spell c.args.line c.requires.formed c.in_ok-bytes.ensures.range
