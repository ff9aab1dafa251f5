use Rattle.std.proofs.Common.{◌≡◌, ◌*◌, ◌+◌, ℕ, List, [], Option, None, replicate, refl, sym, ap, subst, arith}
use Rattle.std.specs.Prelude.{nat_eq}
use Rattle.std.proofs.lemmas.Grind.{common_steps}
use Rattle.indexmap.specs.IndexMap.{get}
use Rattle.kn_watch.specs.Trails.{Trailed}
use Rattle.kn_propagate.specs.Chains.{Watching, Chained, seen_as, held_bounded, held_watches}
use Rattle.kn_propagate.specs.Wholes.{IsWhole}
use Rattle.kn_propagate.proofs.Empty.{whole_new}
use Rattle.kn_propagate.proofs.engine.Engine.new.Goals as goal

joined : (vars n : ℕ) (find : ℕ → Option ℕ) (t : Trailed) (ws : List Watching) (chains : Chained) (pending : List ℕ) → IsWhole (record { vars = vars; level = 0; made = [] }) [] (record { spots = []; nexts = []; heads = replicate n 0; spare = 0; room = 0 }) 0 None [] find
    → t ≡ (record { vars = vars; level = 0; made = [] }) → ws ≡ [] → chains ≡ (record { spots = []; nexts = []; heads = replicate n 0; spare = 0; room = 0 }) → pending ≡ [] → IsWhole t ws chains 0 None pending find
joined vars n find t ws chains pending w a b c d =
    subst (λ (x : Trailed). IsWhole x ws chains 0 None pending find) (sym a)
    (subst (λ (x : List Watching). IsWhole (record { vars = vars; level = 0; made = [] }) x chains 0 None pending find) (sym b)
    (subst (λ (x : Chained). IsWhole (record { vars = vars; level = 0; made = [] }) [] x 0 None pending find) (sym c)
    (subst (λ (x : List ℕ). IsWhole (record { vars = vars; level = 0; made = [] }) [] (record { spots = []; nexts = []; heads = replicate n 0; spare = 0; room = 0 }) 0 None x find) (sym d) w)))

pub invariant_of-result : goal.invariant_of-result
invariant_of-result g c =
    let count : ℕ = 2 * c.args.vars + 3 in
    let find : ℕ → Option ℕ = get nat_eq c.new-5.result in
    let none : (id : ℕ) → find id ≡ None = λ id. grind (arith, common_steps, c.new-5.ensures.empty) in
    joined c.args.vars count find c.in_ok-new.field-0 (seen_as (held_bounded g.C.Watched.bounded g.K.Watched.bounded) (held_watches g.C.Watched.watches g.K.Watched.watches) c.new-2.result.items) c.in_ok-new-2.field-0 c.new-4.result.items (whole_new c.args.vars count find c.in_ok-new-2.ensures.small refl none)
    c.in_ok-new.ensures (ap (seen_as (held_bounded g.C.Watched.bounded g.K.Watched.bounded) (held_watches g.C.Watched.watches g.K.Watched.watches)) c.new-2.ensures.items) c.in_ok-new-2.ensures.value c.new-4.ensures.items
