use Rattle.std.proofs.Common.{sym, subst}
use Rattle.kn_quant.specs.declared.stage.Stage.{Stage}
use Rattle.kn_justify.specs.Names.{IsNamed, IsUnit}
use Rattle.kn_justify.specs.Stages.{left_of, right_of}
use Rattle.kn_justify.proofs.MakingLemmas.{unit-found}
use Rattle.kn_justify.proofs.stages.stage_unit.Goals as goal

pub join-requires-clause-left : goal.join-requires-clause-left
join-requires-clause-left g c =
    subst (λ (s : Stage). IsUnit c.args.log.now.state.given c.args.named.now (left_of s) c.in-Some.first × IsNamed c.args.named.now (left_of s)) (sym c.in-And.is)
    (unit-found c.args.log.now.state.given c.args.named.now c.args.units.now c.in-And.left c.get.result c.in-Some.first c.requires.units c.get.ensures c.in-Some.is)

pub join-requires-clause-other : goal.join-requires-clause-other
join-requires-clause-other g c =
    subst (λ (s : Stage). IsUnit c.args.log.now.state.given c.args.named.now (right_of s) c.in-Some-get.second × IsNamed c.args.named.now (right_of s)) (sym c.in-And.is)
    (unit-found c.args.log.now.state.given c.args.named.now c.args.units.now c.in-And.right c.get-in-And.result c.in-Some-get.second c.requires.units c.get-in-And.ensures c.in-Some-get.is)

pub quantify-requires-clause-from : goal.quantify-requires-clause-from
quantify-requires-clause-from g c =
    subst (λ (s : Stage). IsUnit c.args.log.now.state.given c.args.named.now (left_of s) c.in-Some-get-2.first × IsNamed c.args.named.now (left_of s)) (sym c.in-Exists.is)
    (unit-found c.args.log.now.state.given c.args.named.now c.args.units.now c.in-Exists.from c.get-in-Exists.result c.in-Some-get-2.first c.requires.units c.get-in-Exists.ensures c.in-Some-get-2.is)
