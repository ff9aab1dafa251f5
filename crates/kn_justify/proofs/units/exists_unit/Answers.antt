use Rattle.std.proofs.Common.{◌≡◌, sym, subst, ap, ◌∙◌, ◌||◌, List, [], refl}
use Rattle.std.specs.Prelude.{option_to_list}
use Rattle.kn_diagram.specs.declared.trace.Met.{Met}
use Rattle.kn_diagram.specs.Traces.{AreExplained}
use Rattle.kn_quant.specs.Quantified.{AreAccounted}
use Rattle.kn_quant.specs.declared.stage.Stage.{Stage}
use Rattle.kn_quant.specs.declared.stage.Stage.TheVariants.{Exists}
use Rattle.kn_justify.specs.Arms.{Settled}
use Rattle.kn_justify.specs.Names.{IsUnit, HasName, IsNamedMet, pair_arms}
use Rattle.kn_justify.specs.Lemmas.{AreNamed, AreCovered}
use Rattle.kn_justify.specs.Stages.{IsExists, traces_of, left_of}
use Rattle.kn_justify.proofs.GrowthLemmas.{Grown-join, such-grows, plain-behind}
use Rattle.kn_justify.proofs.NameLemmas.{is-named, arm_known, has-name-grows}
use Rattle.kn_justify.proofs.UnitLemmas.{unit-grows}
use Rattle.kn_justify.proofs.ReducedLemmas.{not-missing}
use Rattle.kn_justify.proofs.StageLemmas.{All-parts, exists-halves, exists-accounted, exists-named, exists-there, exists-lemma}
use Rattle.kn_justify.proofs.units.exists_unit.Goals as goal

pub quantified-requires-clause-named : goal.quantified-requires-clause-named
quantified-requires-clause-named g c =
    let named = All-parts (IsNamedMet c.args.log.now.state c.args.d.now c.args.named.now) c.in-Exists.met c.in-Exists.halves (subst (λ (s : Stage). AreNamed c.args.log.now.state c.args.d.now c.args.named.now (traces_of s)) c.in-Exists.is c.requires.named) in
    subst (λ (x : List Met). AreNamed c.args.log.now.state c.args.d.now c.args.named.now x) (sym c.met.ensures) named.0

pub quantified-requires-clause-halves_named : goal.quantified-requires-clause-halves_named
quantified-requires-clause-halves_named g c =
    let named = All-parts (IsNamedMet c.args.log.now.state c.args.d.now c.args.named.now) c.in-Exists.met c.in-Exists.halves (subst (λ (s : Stage). AreNamed c.args.log.now.state c.args.d.now c.args.named.now (traces_of s)) c.in-Exists.is c.requires.named) in
    subst (λ (x : List Met). AreNamed c.args.log.now.state c.args.d.now c.args.named.now x) (sym c.met-2.ensures) named.1

pub quantified-requires-clause-explained : goal.quantified-requires-clause-explained
quantified-requires-clause-explained g c =
    let h : IsExists c.args.d.now (Exists c.in-Exists.var c.in-Exists.f c.in-Exists.node c.in-Exists.met c.in-Exists.halves) = subst (λ (s : Stage). IsExists c.args.d.now s) c.in-Exists.is c.requires.stage in
    subst (λ (x : List Met). AreExplained (λ a b. a || b) c.args.d.now [] x) (sym c.met-2.ensures) (exists-halves c.args.d.now c.in-Exists.var c.in-Exists.f c.in-Exists.node c.in-Exists.met c.in-Exists.halves h.0)

pub quantified-requires-clause-accounted : goal.quantified-requires-clause-accounted
quantified-requires-clause-accounted g c =
    let h : IsExists c.args.d.now (Exists c.in-Exists.var c.in-Exists.f c.in-Exists.node c.in-Exists.met c.in-Exists.halves) = subst (λ (s : Stage). IsExists c.args.d.now s) c.in-Exists.is c.requires.stage in
    subst (λ (x : List Met). AreAccounted c.args.d.now c.in-Exists.var x [] c.met.result.now) (sym c.met-2.ensures)
    (subst (λ (x : List Met). AreAccounted c.args.d.now c.in-Exists.var c.in-Exists.halves [] x) (sym c.met.ensures) (exists-accounted c.args.d.now c.in-Exists.var c.in-Exists.f c.in-Exists.node c.in-Exists.met c.in-Exists.halves h.0))

pub returns-in_err-lemmas-clause-grown : goal.returns-in_err-lemmas-clause-grown
returns-in_err-lemmas-clause-grown g c = such-grows c.args.log.now c.quantified.new.log _ _ c.quantified.result c.quantified.ensures.lines

pub unreachable-requires-in_default-get : goal.unreachable-requires-in_default-get
unreachable-requires-in_default-get g c =
    let h : IsExists c.args.d.now (Exists c.in-Exists.var c.in-Exists.f c.in-Exists.node c.in-Exists.met c.in-Exists.halves) = subst (λ (s : Stage). IsExists c.args.d.now s) c.in-Exists.is c.requires.stage in
    let covered : AreCovered c.in_ok-lemmas.lemmas c.in-Exists.met = subst (λ (x : List Met). AreCovered c.in_ok-lemmas.lemmas x) c.met.ensures c.in_ok-lemmas.ensures.covered in
    not-missing c.in_ok-lemmas.lemmas c.in-Exists.f c.in-Exists.f c.in-Exists.f c.in-Exists.f c.get.result (exists-there c.args.d.now c.in-Exists.var c.in-Exists.f c.in-Exists.node c.in-Exists.met c.in-Exists.halves c.in_ok-lemmas.lemmas h.0 covered) refl refl c.get.ensures c.in_default-get.is

pub unit-requires-clause-some : goal.unit-requires-clause-some
unit-requires-clause-some g c =
    let h : IsExists c.args.d.now (Exists c.in-Exists.var c.in-Exists.f c.in-Exists.node c.in-Exists.met c.in-Exists.halves) = subst (λ (s : Stage). IsExists c.args.d.now s) c.in-Exists.is c.requires.stage in
    λ e. h.1 (sym (ap (λ (m : Met). m.w) c.alone.ensures) ∙ e)

pub unit-requires-clause-named : goal.unit-requires-clause-named
unit-requires-clause-named g c =
    let h : IsExists c.args.d.now (Exists c.in-Exists.var c.in-Exists.f c.in-Exists.node c.in-Exists.met c.in-Exists.halves) = subst (λ (s : Stage). IsExists c.args.d.now s) c.in-Exists.is c.requires.stage in
    let named = All-parts (IsNamedMet c.args.log.now.state c.args.d.now c.args.named.now) c.in-Exists.met c.in-Exists.halves (subst (λ (s : Stage). AreNamed c.args.log.now.state c.args.d.now c.args.named.now (traces_of s)) c.in-Exists.is c.requires.named) in
    is-named c.args.log.now.state c.args.d.now c.args.named.now c.alone.result.w
    (subst (λ (m : Met). HasName c.args.log.now.state c.args.d.now c.args.named.now m.w) (sym c.alone.ensures) (exists-named c.args.log.now.state c.args.d.now c.args.named.now c.in-Exists.var c.in-Exists.f c.in-Exists.node c.in-Exists.met c.in-Exists.halves h.0 named.0).w_named)

pub unit-requires-clause-known : goal.unit-requires-clause-known
unit-requires-clause-known g c =
    let h : IsExists c.args.d.now (Exists c.in-Exists.var c.in-Exists.f c.in-Exists.node c.in-Exists.met c.in-Exists.halves) = subst (λ (s : Stage). IsExists c.args.d.now s) c.in-Exists.is c.requires.stage in
    let named = All-parts (IsNamedMet c.args.log.now.state c.args.d.now c.args.named.now) c.in-Exists.met c.in-Exists.halves (subst (λ (s : Stage). AreNamed c.args.log.now.state c.args.d.now c.args.named.now (traces_of s)) c.in-Exists.is c.requires.named) in
    arm_known c.quantified.new.log.state c.args.d.now c.args.named.now c.alone.result.w
    (has-name-grows c.args.log.now.state c.quantified.new.log.state c.args.d.now c.args.named.now c.alone.result.w (such-grows c.args.log.now c.quantified.new.log _ _ c.quantified.result c.quantified.ensures.lines)
    (subst (λ (m : Met). HasName c.args.log.now.state c.args.d.now c.args.named.now m.w) (sym c.alone.ensures) (exists-named c.args.log.now.state c.args.d.now c.args.named.now c.in-Exists.var c.in-Exists.f c.in-Exists.node c.in-Exists.met c.in-Exists.halves h.0 named.0).w_named))

pub unit-requires-clause-left : goal.unit-requires-clause-left
unit-requires-clause-left g c =
    subst (λ (m : Met). IsUnit c.quantified.new.log.state.given c.args.named.now m.u c.args.from) (sym c.alone.ensures)
    (unit-grows c.args.log.now.state c.quantified.new.log.state c.args.named.now c.in-Exists.f c.args.from (such-grows c.args.log.now c.quantified.new.log _ _ c.quantified.result c.quantified.ensures.lines)
    (subst (λ (s : Stage). IsUnit c.args.log.now.state.given c.args.named.now (left_of s) c.args.from) c.in-Exists.is c.requires.from))

pub unit-requires-clause-lemma : goal.unit-requires-clause-lemma
unit-requires-clause-lemma g c =
    let h : IsExists c.args.d.now (Exists c.in-Exists.var c.in-Exists.f c.in-Exists.node c.in-Exists.met c.in-Exists.halves) = subst (λ (s : Stage). IsExists c.args.d.now s) c.in-Exists.is c.requires.stage in
    subst (λ (m : Met). Settled c.quantified.new.log.state.given (option_to_list c.in-Some.lemma) (pair_arms c.args.named.now m)) (sym c.alone.ensures)
    (exists-lemma c.quantified.new.log.state.given c.args.d.now c.args.named.now c.in-Exists.var c.in-Exists.f c.in-Exists.node c.in-Exists.met c.in-Exists.halves c.in_ok-lemmas.lemmas c.get.result c.in-Some.lemma c.depth-depth.ensures.table h.0 c.in_ok-lemmas.ensures.reduced c.get.ensures c.in-Some.is)

pub returns-clause-grown : goal.returns-clause-grown
returns-clause-grown g c =
    Grown-join c.args.log.now.state c.quantified.new.log.state c.unit.new.log.state (such-grows c.args.log.now c.quantified.new.log _ _ c.quantified.result c.quantified.ensures.lines)
    (such-grows c.quantified.new.log c.unit.new.log _ _ c.unit.result c.unit.ensures.lines)

pub returns-clause-lines : goal.returns-clause-lines
returns-clause-lines g c = plain-behind c.args.log.now c.quantified.new.log c.unit.new.log _ _ _ c.unit.result c.in_ok-lemmas.ensures.lines c.unit.ensures.lines
