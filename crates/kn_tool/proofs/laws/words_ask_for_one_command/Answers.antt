use Rattle.kn_tool.proofs.Shapes.{one_command}
use Rattle.kn_tool.proofs.laws.words_ask_for_one_command.Goals as goal

pub returns : goal.returns
returns c = one_command
