-- A clause that is not short below a level, once the trail has gone back to that level.
use Rattle.std.proofs.Common.{◌≡◌, ℕ, ◌+◌, ◌≤◌, ◌<◌, List, ap, ◌∙◌, subst, arith}
use Rattle.kn_logic.specs.Literals.{Literal}
use Rattle.kn_logic.specs.Constraints.{Bounded, clause}
use Rattle.kn_logic.specs.Propagation.{IsShort}
use Rattle.kn_watch.specs.declared.trail.Made.{Made}
use Rattle.kn_watch.specs.Trails.{Trailed, literals, below}
use Rattle.kn_watch.proofs.Public.{below_twice}

pub still-waits : (old new : Trailed) (level : ℕ) (lits : List Literal) (c : Bounded) → c ≡ clause lits → new ≡ (record old { level = level; made = below (level + 1) old.made })
    → ((k : ℕ) → k < level → IsShort (literals (below (k + 1) old.made)) (clause lits) → ⊥) → (k : ℕ) → k < new.level → IsShort (literals (below (k + 1) new.made)) c → ⊥
still-waits old new level lits c is went waits k less short =
    let same : new.level ≡ level = ap (λ (t : Trailed). t.level) went in
    let under : k < level = omega (arith, less, same) in
    let made : below (k + 1) new.made ≡ below (k + 1) old.made = ap (λ (t : Trailed). below (k + 1) t.made) went ∙ below_twice old.made (k + 1) (level + 1) (omega (arith, under)) in
    waits k under (subst (λ (d : Bounded). IsShort (literals (below (k + 1) old.made)) d) is (subst (λ (xs : List Made). IsShort (literals xs) c) made short))

-- and of a lower level
pub waits-lower : (trail : Trailed) (level landing : ℕ) (lits same : List Literal) → landing ≤ level → same ≡ lits
    → ((k : ℕ) → k < level → IsShort (literals (below (k + 1) trail.made)) (clause lits) → ⊥) → (k : ℕ) → k < landing → IsShort (literals (below (k + 1) trail.made)) (clause same) → ⊥
waits-lower trail level landing lits same le is waits k less short =
    waits k (omega (arith, less, le)) (subst (λ (xs : List Literal). IsShort (literals (below (k + 1) trail.made)) (clause xs)) is short)
