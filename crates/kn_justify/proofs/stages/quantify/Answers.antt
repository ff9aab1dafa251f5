use Rattle.std.proofs.Common.{◌≡◌, sym, subst, ◌||◌, List, [], ◌≤◌}
use Rattle.kn_logic.proofs.Public.{All-append}
use Rattle.kn_diagram.specs.declared.trace.Met.{Met}
use Rattle.kn_quant.specs.declared.stage.Stage.{Stage}
use Rattle.kn_quant.specs.declared.stage.Stage.TheVariants.{Exists}
use Rattle.kn_quant.specs.Eliminations.{node_of}
use Rattle.kn_justify.specs.Growth.{ArePlain}
use Rattle.kn_justify.specs.Names.{IsNamed, IsNamedMet}
use Rattle.kn_justify.specs.Lemmas.{AreNamed}
use Rattle.kn_justify.specs.Stages.{IsExists, traces_of, left_of}
use Rattle.kn_justify.specs.Taken.{AreThere, AreAllNamed}
use Rattle.kn_justify.proofs.GrowthLemmas.{Grown-join, such-grows, plain-behind, plain-behind-not, plain-join}
use Rattle.kn_justify.proofs.SettleLemmas.{error-ends}
use Rattle.kn_justify.proofs.NameLemmas.{are-right-grow}
use Rattle.kn_justify.proofs.KeptLemmas.{kept-join}
use Rattle.kn_justify.proofs.StageLemmas.{exists-halves, exists-accounted}
use Rattle.kn_justify.proofs.KnownLemmas.{named-entries, explained-there, accounted-there, always-ok, order-grows, all-stay}
use Rattle.kn_justify.proofs.MakingLemmas.{unit-moves, exists-last}
use Rattle.kn_justify.proofs.stages.quantify.Goals as goal

pub name_trace-requires-clause-there : goal.name_trace-requires-clause-there
name_trace-requires-clause-there g c =
    let h : IsExists c.args.d.now (Exists c.in-Exists.var c.in-Exists.from c.in-Exists.node c.in-Exists.met c.in-Exists.halves) = subst (λ (s : Stage). IsExists c.args.d.now s) c.in-Exists.is c.requires.stage in
    subst (λ (x : List Met). AreThere c.args.d.now x) (sym c.met.ensures) (accounted-there c.args.d.now c.in-Exists.var c.in-Exists.halves [] c.in-Exists.met (exists-accounted c.args.d.now c.in-Exists.var c.in-Exists.from c.in-Exists.node c.in-Exists.met c.in-Exists.halves h.0))

pub name_trace-requires-2-clause-there : goal.name_trace-requires-2-clause-there
name_trace-requires-2-clause-there g c =
    let h : IsExists c.args.d.now (Exists c.in-Exists.var c.in-Exists.from c.in-Exists.node c.in-Exists.met c.in-Exists.halves) = subst (λ (s : Stage). IsExists c.args.d.now s) c.in-Exists.is c.requires.stage in
    subst (λ (x : List Met). AreThere c.args.d.now x) (sym c.met-2.ensures) (explained-there (λ a b. a || b) c.args.d.now [] c.in-Exists.halves (exists-halves c.args.d.now c.in-Exists.var c.in-Exists.from c.in-Exists.node c.in-Exists.met c.in-Exists.halves h.0))

pub name_trace-requires-2-clause-known : goal.name_trace-requires-2-clause-known
name_trace-requires-2-clause-known g c =
    order-grows c.args.log.now.state.vars c.name_trace.new.log.state.vars c.args.d.now c.requires.known (such-grows c.args.log.now c.name_trace.new.log _ _ c.name_trace.result c.name_trace.ensures.lines).vars

pub returns-in_err-name_trace-2-clause-kept : goal.returns-in_err-name_trace-2-clause-kept
returns-in_err-name_trace-2-clause-kept g c = kept-join c.args.named.now c.name_trace.new.named c.name_trace-2.new.named c.name_trace.ensures.kept c.name_trace-2.ensures.kept

pub returns-in_err-name_trace-2-clause-lines : goal.returns-in_err-name_trace-2-clause-lines
returns-in_err-name_trace-2-clause-lines g c =
    error-ends ArePlain c.args.log.now c.name_trace-2.new.log _ _ c.from_residual-in_err-name_trace-2.result c.in_err-name_trace-2.field-0.0 c.from_residual-in_err-name_trace-2.ensures.1
    (plain-behind-not c.args.log.now c.name_trace.new.log c.name_trace-2.new.log _ _ _ c.in_err-name_trace-2.field-0.0 c.in_ok-name_trace.ensures.lines c.in_err-name_trace-2.ensures.lines)

pub exists_unit-requires-clause-named : goal.exists_unit-requires-clause-named
exists_unit-requires-clause-named g c =
    let h : IsExists c.args.d.now (Exists c.in-Exists.var c.in-Exists.from c.in-Exists.node c.in-Exists.met c.in-Exists.halves) = subst (λ (s : Stage). IsExists c.args.d.now s) c.in-Exists.is c.requires.stage in
    let met : AreAllNamed c.name_trace-2.new.named c.in-Exists.met = all-stay c.name_trace.new.named c.name_trace-2.new.named c.in-Exists.met c.name_trace-2.ensures.kept (subst (λ (x : List Met). AreAllNamed c.name_trace.new.named x) c.met.ensures c.in_ok-name_trace.ensures.named) in
    let halves : AreAllNamed c.name_trace-2.new.named c.in-Exists.halves = subst (λ (x : List Met). AreAllNamed c.name_trace-2.new.named x) c.met-2.ensures c.in_ok-name_trace-2.ensures.named in
    subst (λ (s : Stage). AreNamed c.name_trace-2.new.log.state c.args.d.now c.name_trace-2.new.named (traces_of s)) (sym c.in-Exists.is)
    (All-append (IsNamedMet c.name_trace-2.new.log.state c.args.d.now c.name_trace-2.new.named) c.in-Exists.met c.in-Exists.halves
    (named-entries c.name_trace-2.new.log.state c.args.d.now c.name_trace-2.new.named c.in-Exists.met c.name_trace-2.ensures.right (accounted-there c.args.d.now c.in-Exists.var c.in-Exists.halves [] c.in-Exists.met (exists-accounted c.args.d.now c.in-Exists.var c.in-Exists.from c.in-Exists.node c.in-Exists.met c.in-Exists.halves h.0)) met)
    (named-entries c.name_trace-2.new.log.state c.args.d.now c.name_trace-2.new.named c.in-Exists.halves c.name_trace-2.ensures.right (explained-there (λ a b. a || b) c.args.d.now [] c.in-Exists.halves (exists-halves c.args.d.now c.in-Exists.var c.in-Exists.from c.in-Exists.node c.in-Exists.met c.in-Exists.halves h.0)) halves))

pub exists_unit-requires-clause-from : goal.exists_unit-requires-clause-from
exists_unit-requires-clause-from g c =
    unit-moves c.args.log.now.state c.name_trace-2.new.log.state c.args.named.now c.name_trace-2.new.named (left_of c.args.stage.now) c.args.from
    (Grown-join c.args.log.now.state c.name_trace.new.log.state c.name_trace-2.new.log.state (such-grows c.args.log.now c.name_trace.new.log _ _ c.name_trace.result c.name_trace.ensures.lines) (such-grows c.name_trace.new.log c.name_trace-2.new.log _ _ c.name_trace-2.result c.name_trace-2.ensures.lines))
    (kept-join c.args.named.now c.name_trace.new.named c.name_trace-2.new.named c.name_trace.ensures.kept c.name_trace-2.ensures.kept) c.requires.from.1 c.requires.from.0

pub returns-clause-named : goal.returns-clause-named
returns-clause-named g c =
    let h : IsExists c.args.d.now (Exists c.in-Exists.var c.in-Exists.from c.in-Exists.node c.in-Exists.met c.in-Exists.halves) = subst (λ (s : Stage). IsExists c.args.d.now s) c.in-Exists.is c.requires.stage in
    let met : AreAllNamed c.name_trace-2.new.named c.in-Exists.met = all-stay c.name_trace.new.named c.name_trace-2.new.named c.in-Exists.met c.name_trace-2.ensures.kept (subst (λ (x : List Met). AreAllNamed c.name_trace.new.named x) c.met.ensures c.in_ok-name_trace.ensures.named) in
    let last = exists-last c.args.d.now c.name_trace-2.new.named c.in-Exists.var c.in-Exists.from c.in-Exists.node c.in-Exists.met c.in-Exists.halves h.0 met in
    always-ok c.exists_unit.result (IsNamed c.name_trace-2.new.named (node_of c.args.stage.now))
    (subst (λ (s : Stage). IsNamed c.name_trace-2.new.named (node_of s)) (sym c.in-Exists.is) last.2)

pub returns-clause-right : goal.returns-clause-right
returns-clause-right g c = are-right-grow c.name_trace-2.new.log.state c.exists_unit.new.log.state c.args.d.now c.name_trace-2.new.named c.exists_unit.ensures.grown c.name_trace-2.ensures.right

pub returns-clause-kept : goal.returns-clause-kept
returns-clause-kept g c = kept-join c.args.named.now c.name_trace.new.named c.name_trace-2.new.named c.name_trace.ensures.kept c.name_trace-2.ensures.kept

pub returns-clause-lines : goal.returns-clause-lines
returns-clause-lines g c =
    plain-behind c.args.log.now c.name_trace-2.new.log c.exists_unit.new.log _ _ _ c.exists_unit.result
    (plain-join c.args.log.now c.name_trace.new.log c.name_trace-2.new.log _ _ _ c.in_ok-name_trace.ensures.lines c.in_ok-name_trace-2.ensures.lines) c.exists_unit.ensures.lines
