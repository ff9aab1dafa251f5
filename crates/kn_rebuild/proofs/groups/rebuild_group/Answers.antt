use Rattle.std.proofs.Common.{length, sym, ap, ◌∙◌, subst}
use Rattle.std.specs.List.{AllByRecursion}
use Rattle.std.specs.Option.{option_copied}
use Rattle.std.proofs.lemmas.List.Elements.{recursion_from_All}
use Rattle.kn_diagram.specs.Diagrams.{IsNode}
use Rattle.kn_rebuild.specs.Rebuilding.{IsBucketWithin}
use Rattle.kn_rebuild.proofs.Whole.{order-within, buckets-within, elimination-of}
use Rattle.kn_rebuild.proofs.groups.rebuild_group.Goals as goal

pub rebuild_buckets-requires-clause-order : goal.rebuild_buckets-requires-clause-order
rebuild_buckets-requires-clause-order c =
    let e = c.in-Some.elimination.now in
    let made = elimination-of c.args.taken.now e c.elimination.ensures.taken (sym c.elimination.ensures.value ∙ ap option_copied c.in-Some.is) in
    order-within (length c.args.m.now) c.args.taken.now.group c.diagrams.result.now c.requires (ap (λ d. d.order) c.diagrams.ensures.value ∙ made.order)

pub rebuild_buckets-requires-clause-buckets : goal.rebuild_buckets-requires-clause-buckets
rebuild_buckets-requires-clause-buckets c =
    let e = c.in-Some.elimination.now in
    let made = elimination-of c.args.taken.now e c.elimination.ensures.taken (sym c.elimination.ensures.value ∙ ap option_copied c.in-Some.is) in
    let there = recursion_from_All (λ b. IsNode e.table b.function) c.buckets.result.now c.buckets.ensures.there in
    subst (λ d. AllByRecursion (IsBucketWithin (length c.args.m.now) d) c.buckets.result.now) (sym c.diagrams.ensures.value)
    (subst (AllByRecursion (IsBucketWithin (length c.args.m.now) e.table)) (sym c.buckets.ensures.value)
    (buckets-within (length c.args.m.now) c.args.taken.now.group e c.requires made (subst (AllByRecursion (λ b. IsNode e.table b.function)) c.buckets.ensures.value there)))
