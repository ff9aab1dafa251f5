use Rattle.std.proofs.Common.{ℕ, List, [], ◌∷◌, ◌++◌, Bool, ap, sym, ◌∙◌}
use Rattle.std.specs.Prelude.{codes}
use Rattle.kn_format.specs.Texts.{value_lines, list_words, true_literals, model_text}
use Rattle.kn_format.proofs.Written.{last_value}
use Rattle.kn_format.proofs.write.write_model.Goals as goal

pub returns : goal.returns
returns c =
    c.in_ok-extend_from_slice.ensures.items
    ∙ ap (λ (t : List ℕ). c.push_gap.new.out.items ++ (codes "0" ++ t)) (sym (last_value c.in_ok-push_gap.field-0))
    ∙ c.in_ok-push_gap.ensures (codes "0") []
    ∙ c.in_ok-room.ensures
    ∙ ap (λ (t : List ℕ). t ++ value_lines 10 (list_words (true_literals 1 c.values.result.now))) (c.in_ok-push.ensures.items ∙ ap (λ (t : List ℕ). t ++ 118 ∷ []) c.new-out.ensures.items)
    ∙ ap (λ (vs : List Bool). model_text vs) c.values.ensures
