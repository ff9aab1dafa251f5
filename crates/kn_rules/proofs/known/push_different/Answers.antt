use Rattle.std.proofs.Common.{rules, ap, ◌∙◌}
use Rattle.kn_rules.specs.Marks.{AssumedLiterals}
use Rattle.kn_rules.proofs.Different.{different-init, different-step, different-stop}
use Rattle.kn_rules.proofs.known.push_different.Goals as goal

pub loop-lit-init : goal.loop-lit-init
loop-lit-init c = record { value = different-init _ _ c.requires.empty; vars = search rules }

pub loop-lit-preserved : goal.loop-lit-preserved
loop-lit-preserved c = record {
  value = different-step _ _ c.args.lits.now c.loop-lit.lit-index _ _ _ c.lit-item.is c.loop-lit-test.true c.names.ensures c.if-names.false (ap (λ (a : AssumedLiterals). a.lits) c.in_ok-push.ensures.ok) c.loop-lit.invariant.value;
  vars = ap (λ (a : AssumedLiterals). a.vars) c.in_ok-push.ensures.ok ∙ c.loop-lit.invariant.vars;
}

pub returns-then-names : goal.returns-then-names
returns-then-names c = record {
  value = different-stop _ c.args.lits.now c.loop-lit.lit-index _ _ _ c.lit-item.is c.loop-lit-test.true c.names.ensures c.if-names.true c.loop-lit.invariant.value;
  vars = c.loop-lit.invariant.vars;
}
