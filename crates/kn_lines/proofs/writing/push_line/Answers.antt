use Rattle.std.proofs.Common.{◌++◌, [], ◌∷◌, ap, ◌∙◌}
use Rattle.kn_lines.proofs.Text.{written_behind}
use Rattle.kn_lines.proofs.writing.push_line.Goals as goal

pub returns-clause-text : goal.returns-clause-text
returns-clause-text c =
    c.in_ok-push.ensures.items
    ∙ ap (λ t. t ++ 10 ∷ []) c.in_ok-push_content.ensures.text
    ∙ written_behind c.args.out.now.items c.args.line.now
