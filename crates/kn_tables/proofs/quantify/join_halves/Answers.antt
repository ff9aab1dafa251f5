use Rattle.std.proofs.Common.{◌≤◌, ◌^◌, ap, ◌∙◌, arith}
use Rattle.std.specs.Prelude.{slice_index}
use Rattle.std.proofs.Math.Nat.{pow-le-pow_right}
use Rattle.std.proofs.lemmas.Nat.{one_shl}
use Rattle.kn_tables.specs.Indices.{has_bit}
use Rattle.kn_tables.specs.Words.{folded}
use Rattle.kn_tables.proofs.Places.{folded-is}
use Rattle.kn_tables.proofs.quantify.join_halves.Goals as goal

pub fold_words-requires-clause-shift : goal.fold_words-requires-clause-shift
fold_words-requires-clause-shift c =
    let le : 2 ^ c.args.var ≤ 2 ^ 5 = pow-le-pow_right {n = 2} (omega arith) {i = c.args.var} {j = 5} (omega arith) in
    omega (arith, le, one_shl c.args.var 32 (omega arith))

pub returns : goal.returns
returns c k p h q =
    let old = slice_index c.args.words.now k in
    ap (λ w. has_bit w p) (c.fold_words.ensures k h)
    ∙ ap (λ s. has_bit (folded c.low_mask.result s old) p) (one_shl c.args.var 32 (omega arith))
    ∙ folded-is c.low_mask.result c.args.var old p c.low_mask.ensures q
