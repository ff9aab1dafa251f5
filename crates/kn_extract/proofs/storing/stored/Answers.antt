use Rattle.std.proofs.Common.{◌≤◌, ◌<◌, length, take, sym, ap, subst, ◌∙◌, arith, rules, [], ap₂}
use Rattle.std.specs.List.{AllByRecursion}
use Rattle.std.proofs.lemmas.List.{take_all, length-take}
use Rattle.kn_logic.specs.Constraints.{Fits}
use Rattle.kn_extract.specs.Extractions.{stored_of}
use Rattle.kn_extract.proofs.Stored.{problem, with_one, stored-one, all-item, taken-next}
use Rattle.kn_extract.proofs.storing.stored.Goals as goal

pub loop-c-init : goal.loop-c-init
loop-c-init c = c.in_ok-store.ensures ∙ ap (λ n. stored_of (problem n [])) c.vars.ensures

pub add-requires-clause-fits : goal.add-requires-clause-fits
add-requires-clause-fits c =
    let within : c.loop-c.c-index < length c.constraints-c-items.result.now = search rules in
    let items = c.constraints-c-items.result.now in
    let f = c.args.f.now in
    subst (λ n. Fits n c.in_ok-copy.field-0) (sym (ap (λ s. s.vars) c.loop-c.invariant))
    (subst (Fits f.vars) (sym c.in_ok-copy.ensures)
    (all-item (Fits f.vars) items c.loop-c.c-index c.c-item.result (subst (AllByRecursion (Fits f.vars)) (sym c.constraints-c-items.ensures.value) c.constraints-c-items.ensures.formula) within c.c-item.is))

pub add-requires-clause-room : goal.add-requires-clause-room
add-requires-clause-room c =
    let added = ap (λ s. s.added) c.loop-c.invariant in
    let long = length-take c.loop-c.c-index c.constraints-c-items.result.now in
    let total = ap length c.constraints-c-items.ensures.value in
    omega (arith, added, long, total, c.requires)

pub loop-c-preserved : goal.loop-c-preserved
loop-c-preserved c =
    let within : c.loop-c.c-index < length c.constraints-c-items.result.now = search rules in
    let items = c.constraints-c-items.result.now in
    let i = c.loop-c.c-index in
    c.in_ok-add.ensures.ok
    ∙ ap₂ with_one c.loop-c.invariant c.in_ok-copy.ensures
    ∙ stored-one c.args.f.now.vars (take i items) c.c-item.result
    ∙ ap (λ z. stored_of (problem c.args.f.now.vars z)) (sym (taken-next items i c.c-item.result within c.c-item.is))

pub returns : goal.returns
returns c =
    let past : length c.constraints-c-items.result.now ≤ c.loop-c.c-index = search rules in
    c.loop-c.invariant ∙ ap (λ z. stored_of (problem c.args.f.now.vars z)) (take_all c.loop-c.c-index c.constraints-c-items.result.now past ∙ c.constraints-c-items.ensures.value)
