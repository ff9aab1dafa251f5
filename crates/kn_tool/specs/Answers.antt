-- What the program ends with: the status of each answer, and the text that it prints.
use Rattle.std.specs.Prelude.{ℕ, List, [], ◌++◌, Option, Some, codes, decimal}
use Rattle.kn_tool.specs.declared.answer.Which.{Which}
use Rattle.kn_tool.specs.declared.answer.Which.TheVariants.{Formula, Proof, Out}
use Rattle.kn_tool.specs.declared.answer.Answer.{Answer}
use Rattle.kn_tool.specs.declared.answer.Answer.TheVariants.{Model, Refuted, Unknown, Done, Verified, NotVerified, Refused, TooLong, Usage, ReadFault, WriteFault, NoMemory}

abbrev pub status_of : Answer → ℕ
status_of Model = 10
status_of Refuted = 20
status_of (Unknown learned) = 0
status_of Done = 0
status_of Verified = 0
status_of (NotVerified line why) = 30
status_of (Refused line why) = 1
status_of (TooLong which) = 1
status_of Usage = 2
status_of (ReadFault which) = 3
status_of (WriteFault which) = 4
status_of NoMemory = 5

abbrev pub which_text : Which → List ℕ
which_text Formula = codes "formula"
which_text Proof = codes "proof"
which_text Out = codes "out"

-- a line and a cause
abbrev pub place_text : ℕ → ℕ → List ℕ
place_text line why = codes "line " ++ decimal line ++ codes " cause " ++ decimal why ++ codes "\n"

abbrev pub usage_text : List ℕ
usage_text = codes "c usage: knf check F P | knf solve F P [--conflicts N] [--forget N] | knf extract F | knf convert F | knf work N | knf minimise F P [--conflicts N] | knf assume F P [--conflicts N] | knf trim F P\n"

-- The text of a model goes on with the values; a command that is done prints what it made. The two last answers
-- have no text.
abbrev pub answer_text : Answer → List ℕ
answer_text Model = codes "s SATISFIABLE\n"
answer_text Refuted = codes "s UNSATISFIABLE\n"
answer_text (Unknown learned) = codes "s UNKNOWN\n"
answer_text Done = []
answer_text Verified = codes "s VERIFIED\n"
answer_text (NotVerified line why) = codes "c " ++ place_text line why ++ codes "s NOT VERIFIED\n"
answer_text (Refused line why) = codes "c refused " ++ place_text line why
answer_text (TooLong which) = codes "c too long " ++ which_text which ++ codes "\n"
answer_text Usage = usage_text
answer_text (ReadFault which) = codes "c read fault " ++ which_text which ++ codes "\n"
answer_text (WriteFault which) = []
answer_text NoMemory = []

-- what is told of an answer that has a text of its own
abbrev pub own_text : Answer → Option (List ℕ)
own_text answer = Some (answer_text answer)
