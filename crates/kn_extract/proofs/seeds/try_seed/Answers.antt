use Rattle.std.proofs.Common.{ℕ, IfSome, IfNone, ap, subst, sym, ◌∙◌, inl, inr, refl}
use Rattle.kn_logic.specs.Constraints.{klause}
use Rattle.kn_guess.specs.Tables.{IsSeedTable}
use Rattle.kn_extract.specs.Extractions.{replaced}
use Rattle.kn_guess.specs.Guesses.{touches, IsSeedGuess}
use Rattle.kn_extract.specs.Taking.{Counts, IsCounted}
use Rattle.kn_extract.proofs.Tried.{after-is, ids-low, seed-fits, seed-none, seed-taken}
use Rattle.kn_extract.proofs.seeds.try_seed.Goals as goal

pub returns-in_default-2-clause-tried : goal.returns-in_default-2-clause-tried
returns-in_default-2-clause-tried c =
    let s = c.args.store.now in
    let g = c.in-Some.guess in
    let guess = subst (λ o. IfSome o (λ g. IsSeedGuess s c.args.seed g.group g.ids)) c.in-Some.is c.in_ok-guess.ensures.some in
    let none = subst (λ o. IfNone o ((bound : ℕ) → Counts c.group.result.now bound → ⊥)) c.in_default-2.is c.in_ok-count.ensures.none in
    inl (seed-none s c.args.seed g.group g.ids guess (subst (λ z. (bound : ℕ) → Counts z bound → ⊥) c.group.ensures none), refl, refl)

pub take-requires-clause-fits : goal.take-requires-clause-fits
take-requires-clause-fits c =
    let s = c.args.store.now in
    let g = c.in-Some.guess in
    let guess = subst (λ o. IfSome o (λ g. IsSeedGuess s c.args.seed g.group g.ids)) c.in-Some.is c.in_ok-guess.ensures.some in
    seed-fits s c.args.seed c.in-Some-2.count.bound g.group g.ids c.vars-vars.ensures.stored guess

pub take-requires-clause-ids : goal.take-requires-clause-ids
take-requires-clause-ids c =
    let s = c.args.store.now in
    let g = c.in-Some.guess in
    let guess = subst (λ o. IfSome o (λ g. IsSeedGuess s c.args.seed g.group g.ids)) c.in-Some.is c.in_ok-guess.ensures.some in
    ids-low s (touches g.group.aux) g.ids c.vars-vars.ensures.stored guess.ids_are

pub returns-clause-tried : goal.returns-clause-tried
returns-clause-tried c =
    let s = c.args.store.now in
    let g = c.in-Some.guess in
    let count = c.in-Some-2.count in
    let guess = subst (λ o. IfSome o (λ g. IsSeedGuess s c.args.seed g.group g.ids)) c.in-Some.is c.in_ok-guess.ensures.some in
    let counted = subst (λ o. IfSome o (IsCounted c.group.result.now)) c.in-Some-2.is c.in_ok-count.ensures.some in
    inr (
      c.in_ok-group.group,
      seed-taken s c.args.seed count.bound g.group g.ids count.elimination c.in_ok-group.group c.take.new.store c.vars-vars.ensures.stored guess (subst (λ z. Counts z count.bound) c.group.ensures counted.0) c.in_ok-group.ensures.value c.in_ok-group.ensures.store,
      c.in_ok-group.ensures.taken,
      c.in_ok-push.ensures.items,
    )

pub returns-clause-table : goal.returns-clause-table
returns-clause-table c =
    let s = c.args.store.now in
    let g = c.in-Some.guess in
    let bound = c.in-Some-2.count.bound in
    let guess = subst (λ o. IfSome o (λ g. IsSeedGuess s c.args.seed g.group g.ids)) c.in-Some.is c.in_ok-guess.ensures.some in
    let counted = subst (λ o. IfSome o (IsCounted c.group.result.now)) c.in-Some-2.is c.in_ok-count.ensures.some in
    let took = c.group-2.ensures.value ∙ ap (λ k. k.group) c.in_ok-group.ensures.value in
    subst (λ u. IsSeedTable u c.took.new.self) (sym (c.in_ok-group.ensures.store ∙ after-is s (touches g.group.aux) g.ids (klause bound g.group.border) c.vars-vars.ensures.stored guess.ids_are))
    (subst (λ z. IsSeedTable (replaced s (touches z.aux) (klause bound z.border)) c.took.new.self) took
    (c.took.ensures.table s c.args.seed g.ids bound c.vars-vars.ensures.stored c.guess_of.ensures.table (subst (λ z. IsSeedGuess s c.args.seed z g.ids) (sym took) guess) counted.0.2.0))
