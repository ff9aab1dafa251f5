use Rattle.kn_justify.specs.Names.{HasNames}
use Rattle.kn_justify.specs.Chains.{Chain}
use Rattle.kn_justify.proofs.clauses.chain_hints.Given as goal

abbrev pub invariant-loop-parts : goal.invariant-loop-parts
invariant-loop-parts l = record {
  chain : Chain l.log.state.given l.d l.named l.c.lits l.fn.f l.node l.hints.items;
  named : HasNames l.log.state l.d l.named l.node;
}

abbrev pub decreases-loop-parts : goal.decreases-loop-parts
decreases-loop-parts l = l.node
