use Rattle.std.proofs.Common.{◌≡◌, ◌+◌, ◌-◌, ◌∙◌, sym, arith}
use Rattle.kn_diagram.specs.Diagrams.{row_in}
use Rattle.kn_diagram.proofs.PlaceLemmas.{row_in-entry}
use Rattle.kn_diagram.proofs.rows.Rows.row.Goals as goal

pub returns : goal.returns
returns c bottom =
    let n : c.args.node ≡ (c.args.node - 2) + 2 = omega arith in
    (λ i. row_in bottom (sym c.self.view_is i) (n i))
    ∙ row_in-entry bottom c.self.inside.places.entries (c.args.node - 2) c.in-Some.row.now c.in-Some.field-0-1.now c.in-Some.ensures.entry
