use Rattle.std.proofs.Common.{◌<◌, subst, sym}
use Rattle.kn_tables.specs.Tables.{IsTable, value_at, some_value_at}
use Rattle.kn_tables.specs.Words.{table_in}
use Rattle.kn_tables.proofs.Tabled.{table-halves, table-partners}
use Rattle.kn_tables.proofs.table.Table.exists.Goals as goal

pub returns-then-var-lt6 : goal.returns-then-var-lt6
returns-then-var-lt6 c =
    let n = c.self.inside.vars in
    let new = c.join_halves.new.words in
    subst (λ t. IsTable t.vars (some_value_at c.args.var (value_at t)) (table_in n new)) c.self.view_is
    (table-halves n c.args.var c.self.inside.words new c.self.invariant (subst (λ t. c.args.var < t.vars) (sym c.self.view_is) c.requires) c.if-var-lt6.true
    (λ k p h q. c.join_halves.ensures k p (subst (λ m. k < m) (sym c.word_count-count.ensures.count) h) q))

pub returns-else-var-lt6 : goal.returns-else-var-lt6
returns-else-var-lt6 c =
    let n = c.self.inside.vars in
    let new = c.join_partners.new.words in
    subst (λ t. IsTable t.vars (some_value_at c.args.var (value_at t)) (table_in n new)) c.self.view_is
    (table-partners n c.args.var c.self.inside.words new c.self.invariant (subst (λ t. c.args.var < t.vars) (sym c.self.view_is) c.requires) c.if-var-lt6.false
    c.join_partners.ensures)
