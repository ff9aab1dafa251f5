use Rattle.kn_extract.proofs.Structured.{at-end, clear-at-end}
use Rattle.kn_extract.proofs.laws.groups_stand_apart.Goals as goal

pub returns : goal.returns
returns c = record {
  owned = λ f last found fits e. (at-end f last found fits e).owned;
  others = λ f last found fits e. (at-end f last found fits e).others;
  clear = clear-at-end;
  over = λ f last found fits e. (at-end f last found fits e).over;
  apart = λ f last found fits e. (at-end f last found fits e).apart;
}
