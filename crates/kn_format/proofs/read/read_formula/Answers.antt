use Rattle.kn_format.proofs.Whole.{found_spelled, spelled_found, refused_none}
use Rattle.kn_format.proofs.First.{refused_first, first_refused}
use Rattle.kn_format.proofs.read.read_formula.Goals as goal

pub returns : goal.returns
returns c = record {
  found = found_spelled c.args.bytes.now c.read.result c.read.ensures;
  only = spelled_found c.args.bytes.now c.read.result c.read.ensures;
  refused = refused_first c.args.bytes.now c.read.result c.read.ensures;
  first = first_refused c.args.bytes.now c.read.result c.read.ensures;
  none = refused_none c.args.bytes.now c.read.result c.read.ensures;
}
