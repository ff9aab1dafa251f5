use Rattle.std.proofs.Common.{◌≡◌, ◌+◌, ◌-◌, ◌<◌, ◌++◌, ◌∷◌, [], length, take, slice_index, ap, sym, subst, ◌∙◌, arith}
use Rattle.std.specs.List.{AllByRecursion}
use Rattle.std.proofs.lemmas.List.{take_more, take_all}
use Rattle.kn_tables.specs.Tables.{IsTable}
use Rattle.kn_verdict.specs.Numbered.{variables_of, AreAmong, conjunction, Tells}
use Rattle.kn_verdict.proofs.Tabled.{long, taken-among, tells-all, tells-more, aux-at}
use Rattle.kn_verdict.proofs.few.table_of.Goals as goal

pub conjunction-requires-clause-among : goal.conjunction-requires-clause-among
conjunction-requires-clause-among c =
    let g = c.args.group.now in
    subst (λ xs. AllByRecursion (λ x. AreAmong xs x.lits) c.taken.result.now) (sym c.requires.variables)
    (subst (λ cs. AllByRecursion (λ x. AreAmong (variables_of g) x.lits) cs) (sym c.taken.ensures.value) (taken-among g g.taken c.taken.ensures.group.covered))

pub loop-var-init : goal.loop-var-init
loop-var-init c =
    let g = c.args.group.now in
    let n = length c.border-var.result.now in
    let same : n ≡ length g.border = ap length c.border-var.ensures.value in
    let made : IsTable (length (variables_of g)) (conjunction (variables_of g) g.taken) c.in_ok-table.table =
    subst (λ cs. IsTable (length (variables_of g)) (conjunction (variables_of g) cs) c.in_ok-table.table) c.taken.ensures.value
    (subst (λ xs. IsTable (length xs) (conjunction xs c.taken.result.now) c.in_ok-table.table) c.requires.variables c.in_ok-table.ensures) in
    record {
      past = omega (arith, same);
      tells =
          subst (λ k. Tells g (take k g.aux) c.in_ok-table.table) {x = 0} {y = n - length g.border} (omega (arith, same))
          (tells-all g c.in_ok-table.table c.taken.ensures.group made);
    }

pub loop-var-preserved : goal.loop-var-preserved
loop-var-preserved c =
    let g = c.args.group.now in
    let j = c.loop-var.var in
    let k = j - length g.border in
    let past = c.loop-var.invariant.past in
    let within : j < length (variables_of g) = omega (arith, c.loop-var-test.true, ap length c.requires.variables) in
    let more : take (j + 1 - length g.border) g.aux ≡ take k g.aux ++ slice_index (variables_of g) j ∷ [] =
    ap (λ m. take m g.aux) {x = j + 1 - length g.border} {y = k + 1} (omega (arith, past)) ∙ take_more g.aux k 0 (omega (arith, within, past, long g))
    ∙ ap (λ x. take k g.aux ++ x ∷ []) (sym (aux-at g j past)) in
    record {
      past = omega (arith, past);
      tells = subst (λ ys. Tells g ys c.exists.new.self) (sym more) (tells-more g (take k g.aux) j c.loop-var.table c.exists.new.self c.taken.ensures.group c.loop-var.invariant.tells within c.exists.ensures);
    }

pub returns : goal.returns
returns c =
    let g = c.args.group.now in
    let k = c.loop-var.var - length g.border in
    let all : take k g.aux ≡ g.aux = take_all k g.aux (omega (arith, c.loop-var-test.false, ap length c.requires.variables, long g)) in
    subst (λ ys. Tells g ys c.loop-var.table) all c.loop-var.invariant.tells
