use Rattle.std.proofs.Common.{◌≡◌, ℕ, true, take, sym, ap, ◌∙◌}
use Rattle.kn_logic.specs.Propagation.{open_places, has_unset}
use Rattle.kn_watch.specs.Trails.{literals}
use Rattle.kn_watch.specs.Watches.{listed}
use Rattle.kn_watch.proofs.Looks.{take_own, forces_own}
use Rattle.kn_watch.proofs.looking.look.Goals as goal

pub returns-then-has_unset : goal.returns-then-has_unset
returns-then-has_unset g c =
    let b = g.W.Watched.bounded c.args.w.now in
    let trail = literals c.args.trail.now.made in
    let own : take c.own_count-own.result c.lits-lits.result.now ≡ b.lits = ap (take c.own_count-own.result) c.lits-lits.ensures ∙ ap (λ (n : ℕ). take n (listed b)) c.own_count-own.ensures ∙ take_own b in
    let left : open_places trail b.lits ≡ b.bound = sym (ap (open_places trail) own) ∙ sym c.count_open-left.ensures ∙ c.if-left-bound-2.true ∙ c.bound-else-left-bound.ensures in
    let unset : has_unset trail b.lits ≡ true = sym (ap (has_unset trail) own) ∙ sym c.has_unset.ensures ∙ c.if-has_unset.true in
    forces_own trail b (c.is_binding.ensures.0 c.if-not-is_binding.false) left unset
