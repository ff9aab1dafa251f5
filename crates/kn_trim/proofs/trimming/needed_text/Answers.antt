use Rattle.std.proofs.Common.{◌∙◌}
use Rattle.kn_trim.specs.Needed.{AreNeeded}
use Rattle.kn_trim.proofs.Joined.{needed-own, trimmed-by}
use Rattle.kn_trim.proofs.Sound.{trimmed-is-proof}
use Rattle.kn_trim.proofs.trimming.needed_text.Goals as goal

pub kept_text-requires-clause-needed : goal.kept_text-requires-clause-needed
kept_text-requires-clause-needed c =
    needed-own c.args.f.now c.args.bytes.now c.in_ok-lean.lean.lines.items c.deref.result.now c.deref-2.result.now c.in_ok-lean.lean.variables c.in_ok-lean.lean.ids c.in_ok-own.own.items c.deref-3.result.now
    c.in_ok-lean.ensures c.deref.ensures.value c.deref-2.ensures.value c.in_ok-own.ensures c.deref-3.ensures.value

pub returns-clause-trimmed : goal.returns-clause-trimmed
returns-clause-trimmed c =
    let needed : AreNeeded c.args.f.now c.deref-2.result.now c.deref-3.result.now =
    needed-own c.args.f.now c.args.bytes.now c.in_ok-lean.lean.lines.items c.deref.result.now c.deref-2.result.now c.in_ok-lean.lean.variables c.in_ok-lean.lean.ids c.in_ok-own.own.items c.deref-3.result.now
    c.in_ok-lean.ensures c.deref.ensures.value c.deref-2.ensures.value c.in_ok-own.ensures c.deref-3.ensures.value in
    trimmed-by c.args.f.now c.args.bytes.now c.new.result c.in_ok-lean.lean.lines.items c.deref-2.result.now c.in_ok-lean.lean.variables c.in_ok-lean.lean.ids c.deref-3.result.now c.in_ok-lean.ensures c.deref-2.ensures.value needed (c.new.ensures ∙ c.in_ok-text.ensures.text)

pub returns-clause-proof : goal.returns-clause-proof
returns-clause-proof c = trimmed-is-proof c.args.f.now c.args.bytes.now c.new.result c.in_ok-text.ensures.formula c.requires.proof (returns-clause-trimmed c)
