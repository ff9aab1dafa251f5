use Rattle.std.proofs.Common.{◌≡◌, ◌+◌, ◌-◌, ◌++◌, ◌∷◌, [], cond, length, get_or, refl, sym, ap, ◌∙◌, arith}
use Rattle.kn_trim.proofs.NumberLemmas.{table_fits, table_more}
use Rattle.kn_trim.proofs.numbers.next_in.Goals as goal

pub overflow_add-result : goal.overflow_add-result
overflow_add-result c = omega (arith, table_fits c.args.table.now (length c.args.table.now) (get_or c.args.table.now (length c.args.table.now - 1) 0) 0 c.requires.table refl refl, c.requires.room)

pub returns-then-kept : goal.returns-then-kept
returns-then-kept c =
    let last = get_or c.args.table.now (length c.args.table.now - 1) 0 in
    ap (λ b. c.args.table.now ++ (last + cond b 1 0) ∷ []) (sym c.if-kept.true) ∙ table_more c.args.table.now (length c.args.table.now) last 0 c.args.kept c.requires.table refl refl

pub returns-else-kept : goal.returns-else-kept
returns-else-kept c =
    let last = get_or c.args.table.now (length c.args.table.now - 1) 0 in
    let none : last ≡ last + 0 = omega arith in
    ap (λ n. c.args.table.now ++ n ∷ []) none ∙ ap (λ b. c.args.table.now ++ (last + cond b 1 0) ∷ []) (sym c.if-kept.false) ∙ table_more c.args.table.now (length c.args.table.now) last 0 c.args.kept c.requires.table refl refl
