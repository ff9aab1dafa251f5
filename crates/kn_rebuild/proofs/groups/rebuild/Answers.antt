use Rattle.std.proofs.Common.{length, ◌<◌, ◌≤◌, sym, ap, ◌∙◌, subst, get_or, map, arith}
use Rattle.std.proofs.lemmas.List.Elements.{All-from_recursion}
use Rattle.kn_logic.specs.Constraints.{Holds}
use Rattle.kn_extract.specs.Extractions.{klause_of}
use Rattle.kn_extract.specs.Structure.{IsOver}
use Rattle.kn_extract.specs.Kept.{found_of}
use Rattle.kn_store.proofs.Public.{from-map}
use Rattle.kn_rebuild.proofs.Whole.{step-partly, laws-of, all-done, taken-hold, rules-hold}
use Rattle.kn_rebuild.proofs.groups.rebuild.Goals as goal

pub rebuild_group-requires : goal.rebuild_group-requires
rebuild_group-requires c =
    let e = c.args.e.now in
    let x = c.taken-taken-items.ensures.extracted in
    let t = c.taken-item.result in
    let k = c.loop-taken.taken-index in
    let is = c.taken-item.is ∙ ap (λ l. get_or l k t) c.taken-taken-items.ensures.value in
    let less : k < length e.taken = subst (λ l. k < length l) c.taken-taken-items.ensures.value c.loop-taken-test.true in
    let over = from-map found_of (λ y. IsOver e.original.vars y.group) e.taken (c.groups_stand_apart.ensures.over e.original e.formula (map found_of e.taken) x.original x.extraction) in
    let same = (c.what_remains_is_known.ensures.remainder e.original e.formula (map found_of e.taken) x.original x.extraction).vars in
    subst (λ n. IsOver n t.group) (sym (c.loop-taken.invariant.model.vars ∙ same)) (subst (λ y. IsOver e.original.vars y.group) (sym is) (All-from_recursion (λ y. IsOver e.original.vars y.group) e.taken over k t less))

pub loop-taken-preserved : goal.loop-taken-preserved
loop-taken-preserved c =
    let e = c.args.e.now in
    let x = c.taken-taken-items.ensures.extracted in
    let t = c.taken-item.result in
    let k = c.loop-taken.taken-index in
    let found = map found_of e.taken in
    let is = c.taken-item.is ∙ ap (λ l. get_or l k t) c.taken-taken-items.ensures.value in
    let less : k < length e.taken = subst (λ l. k < length l) c.taken-taken-items.ensures.value c.loop-taken-test.true in
    let stand = c.groups_stand_apart.ensures in
    let known = c.what_remains_is_known.ensures in
    let same = (known.remainder e.original e.formula found x.original x.extraction).vars in
    let laws = laws-of e x (stand.over e.original e.formula found x.original x.extraction) (stand.clear e.original e.formula found x.original x.extraction)
    (stand.apart e.original e.formula found x.original x.extraction) same in
    step-partly e c.args.m.now c.loop-taken.m c.rebuild_group.new.m k t x laws
    (λ values model. from-map found_of (λ y. Holds values (klause_of y)) e.taken (known.klauses e.original e.formula found values x.original x.extraction model))
    c.loop-taken.invariant less is c.rebuild_group.ensures.long c.rebuild_group.ensures.alike

pub returns-clause-model : goal.returns-clause-model
returns-clause-model c =
    let e = c.args.e.now in
    let x = c.taken-taken-items.ensures.extracted in
    let found = map found_of e.taken in
    let k = c.loop-taken.taken-index in
    let end : length e.taken ≤ k = let n = ap (λ l. length l) c.taken-taken-items.ensures.value in omega (arith, n, c.loop-taken-test.false) in
    c.what_remains_is_known.ensures.hold e.original e.formula found c.loop-taken.m x.original x.extraction c.loop-taken.invariant.model
    (taken-hold c.loop-taken.m e.taken x.taken (all-done e c.args.m.now c.loop-taken.m k end c.loop-taken.invariant))

pub returns-clause-rule : goal.returns-clause-rule
returns-clause-rule c =
    let e = c.args.e.now in
    let x = c.taken-taken-items.ensures.extracted in
    let k = c.loop-taken.taken-index in
    let end : length e.taken ≤ k = let n = ap (λ l. length l) c.taken-taken-items.ensures.value in omega (arith, n, c.loop-taken-test.false) in
    rules-hold c.loop-taken.m e.taken x.taken (all-done e c.args.m.now c.loop-taken.m k end c.loop-taken.invariant)
