use Rattle.std.proofs.Common.{◌+◌, ◌≤◌, ◌<◌, ◌++◌, sym, ap, ap₂, subst, ◌∙◌, arith, IfSome, rules}
use Rattle.std.specs.Prelude.{option_to_list, option_copied}
use Rattle.kn_logic.specs.Constraints.{Fits}
use Rattle.kn_store.specs.Stores.{ids_of}
use Rattle.kn_store.proofs.Public.{all-one, rises}
use Rattle.kn_extract.proofs.Stored.{problem, up-next, none-up, all-up, found-fits}
use Rattle.kn_extract.proofs.storing.remainder.Goals as goal

pub loop-place-init : goal.loop-place-init
loop-place-init c =
    let s = c.args.store.now in
    c.new-formula.ensures ∙ ap₂ problem c.vars.ensures.value
    (sym (none-up 0 s.live (all-one (λ p. (1 ≤ p.id) × (p.id ≤ s.added)) (λ p. 0 < p.id) (λ p k. omega (arith, k.0)) s.live c.vars.ensures.stored.counted)))

pub push_copy-requires : goal.push_copy-requires
push_copy-requires c =
    let s = c.args.store.now in
    subst (λ n. IfSome (option_copied c.get.result) (Fits n)) (sym (ap (λ f. f.vars) c.loop-place.invariant))
    (subst (λ o. IfSome o (Fits s.vars)) (sym c.get.ensures) (found-fits s.vars s.live (c.loop-place.place + 1) c.vars.ensures.stored.formula))

pub loop-place-preserved : goal.loop-place-preserved
loop-place-preserved c =
    let s = c.args.store.now in
    c.in_ok-push_copy.ensures
    ∙ ap₂ (λ f o. problem f.vars (f.constraints ++ option_to_list o)) c.loop-place.invariant c.get.ensures
    ∙ ap (problem s.vars) (sym (up-next c.loop-place.place s.live (rises (ids_of s.live) c.vars.ensures.stored.ascending)))

pub returns : goal.returns
returns c =
    let s = c.args.store.now in
    let past : c.args.added ≤ c.loop-place.place = search rules in
    c.loop-place.invariant ∙ ap (problem s.vars) (all-up c.loop-place.place s.live
    (all-one (λ p. (1 ≤ p.id) × (p.id ≤ s.added)) (λ p. p.id ≤ c.loop-place.place) (λ p k. omega (arith, k.1, past, c.requires)) s.live c.vars.ensures.stored.counted))
