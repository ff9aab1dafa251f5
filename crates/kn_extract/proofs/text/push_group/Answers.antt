use Rattle.std.proofs.Common.{◌++◌, ap, ◌∙◌, sym}
use Rattle.kn_extract.proofs.Comments.{comment-of, pieces}
use Rattle.kn_extract.proofs.text.push_group.Goals as goal

pub returns : goal.returns
returns c =
    pieces _ _ _ _ _ _ _ c.in_ok-extend_from_slice.ensures.items c.in_ok-push_numbers.ensures c.in_ok-push.ensures.items
    ∙ ap (λ z. c.args.out.now.items ++ z) (sym (comment-of c.args.aux.now c.if-is_empty.ensures))
