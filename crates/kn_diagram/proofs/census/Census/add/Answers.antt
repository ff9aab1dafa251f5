use Rattle.std.proofs.Common.{◌≡◌, ◌+◌, ◌<◌, ◌∙◌, not, sym, subst, arith, length}
use Rattle.std.specs.List.{list_any}
use Rattle.std.proofs.lemmas.List.{length-set}
use Rattle.std.proofs.lemmas.Grind.{get_or_default_zero}
use Rattle.indexmap.specs.IndexSet.{insert_key}
use Rattle.kn_diagram.specs.Censuses.{same_pair, IsCensus}
use Rattle.kn_diagram.proofs.CensusLemmas.{nodes_at-within, census-joined, census-stayed}
use Rattle.kn_diagram.proofs.census.Census.add.Goals.{then-branch, else-branch}
use Rattle.kn_diagram.proofs.census.Census.add.Goals as goal

pub prove-unreachable-requires : goal.prove-unreachable-requires
prove-unreachable-requires c =
    let keys = c.self.inside.nodes.keys in
    omega (
      arith,
      c.if-prove.true,
      c.index.ensures,
      get_or_default_zero c.make_room.new.counts.items c.args.depth c.index.result.now c.in_ok-make_room.ensures.room,
      c.in_ok-make_room.ensures.same c.args.depth,
      c.self.invariant.counts c.args.depth,
      nodes_at-within c.args.depth keys,
      c.len-before.ensures.len,
    )

pub invariant_of-self-2 : goal.invariant_of-self-2
invariant_of-self-2 c =
    let room = c.make_room.new.counts.items in
    let keys : c.insert.new.self.keys ≡ insert_key same_pair c.self.inside.nodes.keys (c.args.depth, c.args.node) =
    c.in_ok-insert.ensures.keys ∙ (λ i. insert_key same_pair c.self.inside.nodes.keys (c.args.depth, c.number.ensures i)) in
    let added : c.in_ok-insert.field-0 ≡ not (list_any (same_pair (c.args.depth, c.args.node)) c.self.inside.nodes.keys) =
    c.in_ok-insert.ensures.added ∙ (λ i. not (list_any (same_pair (c.args.depth, c.number.ensures i)) c.self.inside.nodes.keys)) in
    elim c.if-branch.branch [
      | then-branch w ↦
          subst (λ s. IsCensus s.nodes.keys s.counts.items) (sym w.self-inside-is)
          (census-joined c.self.inside.nodes.keys c.insert.new.self.keys c.self.inside.counts.items room c.args.depth c.args.node w.index_mut.result.now c.in_ok-insert.field-0 c.self.invariant
          c.in_ok-make_room.ensures.same c.in_ok-make_room.ensures.room keys added w.if-branch.true
          (w.index_mut.ensures.value ∙ get_or_default_zero room c.args.depth w.index_mut.result.now c.in_ok-make_room.ensures.room))
      | else-branch w ↦
          subst (λ s. IsCensus s.nodes.keys s.counts.items) (sym w.self-inside-is)
          (census-stayed c.self.inside.nodes.keys c.insert.new.self.keys c.self.inside.counts.items room c.args.depth c.args.node c.in_ok-insert.field-0 c.self.invariant
          c.in_ok-make_room.ensures.same keys added w.if-branch.false)
    ]

pub returns-clause-count : goal.returns-clause-count
returns-clause-count c =
    let room = c.make_room.new.counts.items in
    let within = c.in_ok-make_room.ensures.room in
    let in_room : c.args.depth < length c.if-branch.self-inside.counts.items = elim c.if-branch.branch [
      | then-branch w ↦ subst (λ s. c.args.depth < length s.counts.items) (sym w.self-inside-is) (omega (arith, within, length-set room c.args.depth (w.index_mut.result.now + 1)))
      | else-branch w ↦ subst (λ s. c.args.depth < length s.counts.items) (sym w.self-inside-is) within
    ] in
    c.index-2.ensures ∙ get_or_default_zero c.if-branch.self-inside.counts.items c.args.depth c.index-2.result.now in_room ∙ (invariant_of-self-2 c).counts c.args.depth

pub returns-clause-distinct : goal.returns-clause-distinct
returns-clause-distinct c = (invariant_of-self-2 c).distinct c.args.depth
