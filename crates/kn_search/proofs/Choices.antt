-- A trail with one literal more, which had no value: fewer variables are left.
use Rattle.std.proofs.Common.{◌≡◌, ◌+◌, ◌-◌, ◌<◌, ◌++◌, ◌∷◌, List, [], length, None, ap, ◌∙◌, subst, length-append, arith}
use Rattle.kn_logic.specs.Literals.{Literal}
use Rattle.kn_watch.specs.declared.trail.Made.{Made}
use Rattle.kn_watch.specs.Trails.{Trailed}
use Rattle.kn_watch.proofs.Public.{room}
use Rattle.kn_propagate.specs.Chains.{IsGrown}
use Rattle.kn_search.specs.Deciding.{IsFree}

pub fewer_left : (old mid seen new : Trailed) (l : Literal) → IsGrown old mid → seen ≡ mid → IsFree seen l
    → new ≡ (record mid { level = mid.level + 1; made = mid.made ++ (record { lit = l; level = mid.level + 1; reason = None }) ∷ [] })
    → new.vars - length new.made < old.vars - length old.made
fewer_left old mid seen new l grown same free is =
    let (more, parts, level) = grown.grows in
    let (first, last, unset) = subst (λ (t : Trailed). IsFree t l) same free in
    let m : Made = record { lit = l; level = mid.level + 1; reason = None } in
    omega (arith, ap (λ (t : Trailed). t.vars) is, grown.vars, room mid m grown.kept (first, last) unset, ap (λ (xs : List Made). length xs) parts ∙ length-append old.made more, ap (λ (t : Trailed). length t.made) is ∙ length-append mid.made (m ∷ []))
