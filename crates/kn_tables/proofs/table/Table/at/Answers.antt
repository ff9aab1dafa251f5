use Rattle.std.proofs.Common.{◌<◌, ◌/◌, ◌%◌, ◌^◌, eqb, ap, ◌∙◌, sym, subst, arith}
use Rattle.std.specs.Prelude.{slice_index}
use Rattle.std.proofs.Math.Nat.{pow-le-pow_right}
use Rattle.std.proofs.lemmas.Nat.Bits.{shr_and_one}
use Rattle.kn_tables.specs.Tables.{value_at}
use Rattle.kn_tables.proofs.Tabled.{value-in}
use Rattle.kn_tables.proofs.table.Table.at.Goals as goal

pub bounds-self-inside-index : goal.bounds-self-inside-index
bounds-self-inside-index c =
    let few : c.args.index < 2 ^ c.self.inside.vars = subst (λ t. c.args.index < 2 ^ t.vars) (sym c.self.view_is) c.requires in
    omega (arith, few, pow-le-pow_right {n = 2} (omega arith) {i = c.self.inside.vars} {j = 12} c.self.invariant)

pub returns : goal.returns
returns c =
    let few : c.args.index < 2 ^ c.self.inside.vars = subst (λ t. c.args.index < 2 ^ t.vars) (sym c.self.view_is) c.requires in
    ap (λ n. eqb n 1) (shr_and_one (slice_index c.self.inside.words (c.args.index / 64)) (c.args.index % 64))
    ∙ sym (value-in c.self.inside.vars c.args.index c.self.inside.words few)
    ∙ ap (λ t. value_at t c.args.index) c.self.view_is
