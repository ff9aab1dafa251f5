use Rattle.std.proofs.Common.{◌++◌, map, ap, ap₂, subst, sym, ◌∙◌, arith}
use Rattle.std.specs.List.{flat_map}
use Rattle.kn_format.specs.Grammar.{Spells}
use Rattle.kn_format.specs.Texts.{knf_text, IsWithinLimits}
use Rattle.kn_extract.specs.Kept.{found_of}
use Rattle.kn_extract.specs.Texts.{group_line}
use Rattle.kn_extract.proofs.Comments.{groups-found, spells-groups}
use Rattle.kn_extract.proofs.text.extraction_text.Goals as goal

pub returns-clause-text : goal.returns-clause-text
returns-clause-text c =
    c.in_ok-extend_from_slice.ensures.items
    ∙ ap₂ (λ a b. a ++ b) (c.in_ok-push_groups.ensures ∙ ap (λ z. z ++ flat_map (λ t. group_line t.group.aux) c.taken.result.now) c.new-out.ensures.items ∙ ap (flat_map (λ t. group_line t.group.aux)) c.taken.ensures.value ∙ sym (groups-found c.args.e.now.taken))
    (c.deref.ensures.value ∙ c.in_ok-knf.ensures.text ∙ ap knf_text c.formula.ensures.value)

pub returns-clause-again : goal.returns-clause-again
returns-clause-again c h =
    let e = c.args.e.now in
    let k = c.formula.ensures.extracted in
    let found = map found_of e.taken in
    let limits = c.what_remains_is_known.ensures.limits e.original e.formula found k.original k.extraction h in
    subst (λ z. Spells z e.formula) (sym (returns-clause-text c))
    (spells-groups c.written_content_is_read.ensures.first c.written_numbers_are_read.ensures.plain e.original.vars found (knf_text e.formula) e.formula
    (omega (arith, h.vars))
    (c.groups_stand_apart.ensures.over e.original e.formula found k.original k.extraction)
    (subst (λ z. Spells z e.formula) (c.in_ok-knf.ensures.text ∙ ap knf_text c.formula.ensures.value)
    (subst (λ z. Spells c.in_ok-knf.knf.items z) c.formula.ensures.value (c.in_ok-knf.ensures.again (subst IsWithinLimits (sym c.formula.ensures.value) limits)))))
