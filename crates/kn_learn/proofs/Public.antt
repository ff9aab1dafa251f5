-- For the crates above.
use Rattle.std.proofs.Common.{ℕ, ◌+◌, ◌<◌, List, subst, arith}
use Rattle.kn_logic.specs.Literals.{Literal}
use Rattle.kn_logic.specs.Constraints.{clause}
use Rattle.kn_logic.specs.Propagation.{IsShort}
use Rattle.kn_watch.specs.declared.trail.Made.{Made}
use Rattle.kn_watch.specs.Trails.{literals, below}
use Rattle.kn_watch.proofs.Public.{below_twice}

-- what a learned clause waits for, once the engine has gone back to its level
pub waits-back : (made : List Made) (lits : List Literal) (level : ℕ) → ((k : ℕ) → k < level → IsShort (literals (below (k + 1) made)) (clause lits) → ⊥) → (k : ℕ) → k < level → IsShort (literals (below (k + 1) (below (level + 1) made))) (clause lits) → ⊥
waits-back made lits level waits k less short =
    waits k less (subst (λ (ms : List Made). IsShort (literals ms) (clause lits)) (below_twice made (k + 1) (level + 1) (omega arith)) short)
