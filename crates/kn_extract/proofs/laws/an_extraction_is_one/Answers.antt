use Rattle.kn_extract.proofs.Unique.{extraction-one, extraction-some}
use Rattle.kn_extract.proofs.laws.an_extraction_is_one.Goals as goal

pub returns : goal.returns
returns c = record {
  groups = λ f last other a b h k. (extraction-one f last other a b h k).0;
  last = λ f last other a b h k. (extraction-one f last other a b h k).1;
  some = extraction-some;
}
