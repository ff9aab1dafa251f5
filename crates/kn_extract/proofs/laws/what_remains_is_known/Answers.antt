use Rattle.kn_extract.proofs.Structured.{remainder, formula-at-end, limits-at-end, klauses-hold, all-hold}
use Rattle.kn_extract.proofs.laws.what_remains_is_known.Goals as goal

pub returns : goal.returns
returns c = record {
  remainder = remainder;
  formula = formula-at-end;
  limits = limits-at-end;
  klauses = klauses-hold;
  hold = all-hold;
}
