use Rattle.std.proofs.Common.{subst, List}
use Rattle.kn_diagram.specs.Diagrams.{Row, HasPlace}
use Rattle.kn_diagram.proofs.PlaceLemmas.{rows_of, has_place}
use Rattle.kn_diagram.proofs.rows.Rows.place_of.Goals as goal

pub returns-clause-ok : goal.returns-clause-ok
returns-clause-ok c =
    let P : List Row → Type 0 = λ old. HasPlace (record { depth = c.args.depth; high = c.args.high; low = c.args.low }) old (rows_of c.insert_full.new.self.entries) c.in_ok-place.place in
    subst P c.self.view_is
    (has_place c.self.inside.places.entries c.insert_full.new.self.entries (c.args.depth, c.args.high, c.args.low) c.in_ok-place.place
    c.in_ok-place.ensures.entries c.in_ok-place.ensures.index)
