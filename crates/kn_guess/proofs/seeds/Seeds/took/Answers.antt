use Rattle.std.proofs.Common.{◌∙◌, map, ap, ap₂}
use Rattle.kn_logic.specs.Literals.{Literal}
use Rattle.kn_guess.specs.Flags.{lowered}
use Rattle.kn_guess.specs.Tables.{SeedTable}
use Rattle.kn_guess.proofs.After.{table-taken}
use Rattle.kn_guess.proofs.seeds.Seeds.took.Goals as goal

pub returns-clause-table : goal.returns-clause-table
returns-clause-table c = λ s seed ids bound stored table guess low.
    let old = c.args.self.now in
    let border = c.args.group.now.border in
    let free = c.lower_lits.ensures ∙ ap₂ (λ f ls. lowered f (map (λ (l : Literal). l.variable) ls)) (ap (λ (t : SeedTable). t.free) c.self.view_is) c.border.ensures.value in
    let seeds = c.lower_lits-2.ensures ∙ ap₂ (λ f ls. lowered f (map (λ (l : Literal). l.variable) ls)) (ap (λ (t : SeedTable). t.seeds) c.self.view_is) c.border-2.ensures.value in
    table-taken s seed bound c.args.group.now ids old (record { from = c.self.inside.from; free = c.lower_lits.new.self; seeds = c.lower_all.new.self; deep = c.clear.new.self; entries = c.self.inside.entries.items; members = c.self.inside.members.items }) stored table guess low c.aux.ensures.group.counted
    (ap (λ (t : SeedTable). t.from) c.self.view_is) (ap (λ (t : SeedTable). t.entries) c.self.view_is) (ap (λ (t : SeedTable). t.members) c.self.view_is) free
    (c.lower_all.ensures ∙ ap₂ lowered seeds c.aux.ensures.value) c.clear.ensures
