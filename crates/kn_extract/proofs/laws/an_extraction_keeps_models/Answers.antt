use Rattle.kn_extract.proofs.Whole.{onward, back}
use Rattle.kn_extract.proofs.laws.an_extraction_keeps_models.Goals as goal

pub returns : goal.returns
returns c = record {
  onward = onward;
  back = back;
}
