use Rattle.std.proofs.Common.{ℕ, ◌≡◌, ◌-◌, ◌<◌, ◌∙◌, sym, ap, subst, suc, length, slice_index, arith, rules, lit<, if◌then◌else◌, true, false}
use Rattle.std.proofs.lemmas.Grind.{get_or_default_zero}
use Rattle.kn_diagram.specs.Diagrams.{Table, depth_of, IsTable, asks}
use Rattle.kn_diagram.proofs.NodeLemmas.{Keeps-self, Keeps-along, depth_of-constant}
use Rattle.kn_diagram.proofs.ClauseLemmas.{AreIn, some_from, IsChosen, chosen, some_from-none, some_from-more}
use Rattle.kn_diagram.proofs.diagrams.Diagrams.of_clause.Goals as goal

pub loop-depth-init : goal.loop-depth-init
loop-depth-init c =
    let len : c.len-depth.result ≡ length c.args.self.now.order = (search rules) ∙ (λ i. length (c.self.view_is i).order) in
    record {
      kept = Keeps-self c.args.self.now;
      there = omega arith;
      within = omega arith;
      below = omega (arith, len, depth_of-constant c.args.self.now 0 (lit< tt));
      lits = c.lits-lits.ensures;
      means = λ v. some_from-none c.args.self.now c.args.c.now.lits v c.requires.within ∙ (λ i. some_from c.args.self.now.order (sym len i) c.args.c.now.lits v);
    }

pub make_at-requires-clause-above_high : goal.make_at-requires-clause-above_high
make_at-requires-clause-above_high c =
    (chosen c.loop-depth.self c.loop-depth.node (c.loop-depth.depth - 1) c.true_or-high.result c.asks.result c.true_or-high.ensures
    c.loop-depth.invariant.there (omega (arith, c.loop-depth.invariant.within)) (omega (arith, c.loop-depth.invariant.below))).below

pub make_at-requires-clause-above_low : goal.make_at-requires-clause-above_low
make_at-requires-clause-above_low c =
    (chosen c.loop-depth.self c.loop-depth.node (c.loop-depth.depth - 1) c.true_or-low.result c.asks-in-loop-depth.result c.true_or-low.ensures
    c.loop-depth.invariant.there (omega (arith, c.loop-depth.invariant.within)) (omega (arith, c.loop-depth.invariant.below))).below

pub returns-in_err-node-clause-kept : goal.returns-in_err-node-clause-kept
returns-in_err-node-clause-kept c = Keeps-along _ _ _ c.loop-depth.invariant.kept c.make_at.ensures.kept

pub loop-depth-preserved : goal.loop-depth-preserved
loop-depth-preserved c =
    let k : ℕ = c.loop-depth.depth - 1 in
    let next : c.loop-depth.depth ≡ suc k = omega arith in
    let d : Table = c.loop-depth.self in
    let m = c.in_ok-node.ensures.made in
    let inv = c.loop-depth.invariant in
    let in_order : k < length d.order = omega (arith, inv.within) in
    let below : k < depth_of d c.loop-depth.node = omega (arith, inv.below) in
    let up : IsChosen d c.loop-depth.node k c.true_or-high.result (asks c.args.c.now.lits c.index-var.result.now true) =
    chosen d c.loop-depth.node k c.true_or-high.result (asks c.args.c.now.lits c.index-var.result.now true)
    (c.true_or-high.ensures ∙ (λ i. if (c.asks.ensures ∙ (λ j. asks (inv.lits j) c.index-var.result.now true)) i then 1 else c.loop-depth.node)) inv.there in_order below in
    let down : IsChosen d c.loop-depth.node k c.true_or-low.result (asks c.args.c.now.lits c.index-var.result.now false) =
    chosen d c.loop-depth.node k c.true_or-low.result (asks c.args.c.now.lits c.index-var.result.now false)
    (c.true_or-low.ensures ∙ (λ i. if (c.asks-in-loop-depth.ensures ∙ (λ j. asks (inv.lits j) c.index-var.result.now false)) i then 1 else c.loop-depth.node)) inv.there in_order below in
    let len : length c.self-in-loop-depth.inside.order.items ≡ length d.order = λ i. length (c.self-in-loop-depth.view_is i).order in
    let variable : c.index-var.result.now ≡ slice_index d.order k =
    c.index-var.ensures ∙ get_or_default_zero c.self-in-loop-depth.inside.order.items k c.index-var.result.now (omega (arith, len, in_order))
    ∙ (λ i. slice_index (c.self-in-loop-depth.view_is i).order k) in
    let table : IsTable d = subst IsTable c.self-in-loop-depth.view_is c.self-in-loop-depth.invariant in
    let within : AreIn d.order c.args.c.now.lits = subst (λ o. AreIn o c.args.c.now.lits) (sym inv.kept.order) c.requires.within in
    record {
      kept = Keeps-along _ _ _ inv.kept c.make_at.ensures.kept;
      there = m.there;
      within = omega (arith, inv.within, ap length c.make_at.ensures.kept.order);
      below = m.depth_is;
      lits = inv.lits;
      means = some_from-more d c.make_at.new.self c.args.c.now.lits c.loop-depth.node k c.true_or-high.result c.true_or-low.result c.in_ok-node.node c.index-var.result.now
          table.order within in_order (λ v. inv.means v ∙ (λ i. some_from d.order (next i) c.args.c.now.lits v)) variable up down c.make_at.ensures.kept m;
    }
