use Rattle.std.proofs.Common.{◌≡◌, ℕ, Bool, map, length}
use Rattle.kn_diagram.specs.Diagrams.{function_of, is_true_by}
use Rattle.kn_verdict.specs.Numbers.{IsAtBorder}
use Rattle.kn_verdict.proofs.Values.{first_truths}
use Rattle.kn_verdict.proofs.walk.starts_at.Given as goal

abbrev pub invariant-loop-parts : goal.invariant-loop-parts
invariant-loop-parts l = record {
  node : IsAtBorder l.group l.d l.at;
  same : (v : ℕ → Bool) → map (is_true_by v) l.group.border ≡ first_truths (length l.group.border) l.first → function_of l.d l.at v ≡ function_of l.d l.fn.node v;
}

abbrev pub decreases-loop-parts : goal.decreases-loop-parts
decreases-loop-parts l = l.at
