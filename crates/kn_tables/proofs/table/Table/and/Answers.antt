use Rattle.std.proofs.Common.{◌≡◌, ◌<◌, ◌&&◌, subst, sym, ap, ◌∙◌}
use Rattle.kn_tables.specs.Tables.{IsTable, value_at}
use Rattle.kn_tables.specs.Words.{table_in}
use Rattle.kn_tables.proofs.Tabled.{table-and}
use Rattle.kn_tables.proofs.table.Table.and.Goals as goal

pub returns : goal.returns
returns c =
    let n = c.self.inside.vars in
    let old = c.self.inside.words in
    let new = c.join.new.words in
    let e : n ≡ c.other.inside.vars = ap (λ t. t.vars) c.self.view_is ∙ c.requires ∙ sym (ap (λ t. t.vars) c.other.view_is) in
    subst (λ t. IsTable t.vars (λ i. value_at t i && value_at c.args.other.now i) (table_in n new)) c.self.view_is
    (subst (λ u. IsTable n (λ i. value_at (table_in n old) i && value_at u i) (table_in n new)) c.other.view_is
    (table-and n c.other.inside.vars old c.other.inside.words new c.self.invariant e
    (λ k h. c.join.ensures k (subst (λ m. k < m) (sym c.word_count-count.ensures.count) h))))
