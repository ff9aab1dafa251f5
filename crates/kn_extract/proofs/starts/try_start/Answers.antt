use Rattle.std.proofs.Common.{◌-◌, length, IfSome, IfNone, ap, subst, sym, ◌∙◌, arith, inl, inr, refl}
use Rattle.kn_logic.specs.Constraints.{klause}
use Rattle.kn_logic.specs.Groups.{IsPairGroup, is_covered}
use Rattle.kn_guess.specs.Guesses.{IsPairGuess, IsNoPairGuess}
use Rattle.kn_guess.specs.Tables.{IsPairTable}
use Rattle.kn_extract.proofs.Tried.{ids-low, after-is, pair-fits, pair-worth, pair-taken}
use Rattle.kn_extract.proofs.starts.try_start.Goals as goal

pub returns-in_default-clause-tried : goal.returns-in_default-clause-tried
returns-in_default-clause-tried c =
    let s = c.args.store.now in
    let never = subst (λ o. IfNone o (IsNoPairGuess s c.args.start)) c.in_default.is c.in_ok-guess.ensures.none in
    inl ((λ x u h. c.refused_starts_have_no_guess.ensures s c.args.start x.group x.ids never h.guess), refl, refl)

pub take-requires-clause-fits : goal.take-requires-clause-fits
take-requires-clause-fits c =
    let s = c.args.store.now in
    let g = c.in-Some.guess in
    let guess = subst (λ o. IfSome o (λ g. IsPairGuess s c.args.start g.group g.ids)) c.in-Some.is c.in_ok-guess.ensures.guess in
    pair-fits s c.args.start (length c.border.result.now - 1) g.group g.ids c.vars-vars.ensures.stored guess

pub take-requires-clause-ids : goal.take-requires-clause-ids
take-requires-clause-ids c =
    let s = c.args.store.now in
    let g = c.in-Some.guess in
    let guess = subst (λ o. IfSome o (λ g. IsPairGuess s c.args.start g.group g.ids)) c.in-Some.is c.in_ok-guess.ensures.guess in
    ids-low s (is_covered g.group.border) g.ids c.vars-vars.ensures.stored guess.ids_are

pub take-requires-clause-worth : goal.take-requires-clause-worth
take-requires-clause-worth c =
    let s = c.args.store.now in
    let g = c.in-Some.guess in
    let guess = subst (λ o. IfSome o (λ g. IsPairGuess s c.args.start g.group g.ids)) c.in-Some.is c.in_ok-guess.ensures.guess in
    let pairs = subst (λ o. IfSome o (λ g. IsPairGroup g.group)) c.in-Some.is c.in_ok-guess.ensures.pairs in
    let long = ap length (c.border.ensures.value ∙ ap (λ g. g.border) c.group.ensures) in
    pair-worth s c.args.start (length c.border.result.now - 1) g.group g.ids guess pairs (omega (arith, long, guess.three))

pub returns-clause-tried : goal.returns-clause-tried
returns-clause-tried c =
    let s = c.args.store.now in
    let g = c.in-Some.guess in
    let guess = subst (λ o. IfSome o (λ g. IsPairGuess s c.args.start g.group g.ids)) c.in-Some.is c.in_ok-guess.ensures.guess in
    let long = ap length (c.border.ensures.value ∙ ap (λ g. g.border) c.group.ensures) in
    inr (
      c.in_ok-group.group,
      pair-taken s c.args.start (length c.border.result.now - 1) g.group g.ids c.in_ok-group.group c.take.new.store c.vars-vars.ensures.stored guess (omega (arith, long, guess.three)) c.in_ok-group.ensures.value c.in_ok-group.ensures.store,
      c.in_ok-group.ensures.taken,
      c.in_ok-push.ensures.items,
    )

pub returns-clause-table : goal.returns-clause-table
returns-clause-table c =
    let s = c.args.store.now in
    let g = c.in-Some.guess in
    let bound = length c.border.result.now - 1 in
    let guess = subst (λ o. IfSome o (λ g. IsPairGuess s c.args.start g.group g.ids)) c.in-Some.is c.in_ok-guess.ensures.guess in
    let long = ap length (c.border.ensures.value ∙ ap (λ g. g.border) c.group.ensures) in
    subst (λ u. IsPairTable u c.args.pairs.now) (sym (c.in_ok-group.ensures.store ∙ after-is s (is_covered g.group.border) g.ids (klause bound g.group.border) c.vars-vars.ensures.stored guess.ids_are))
    (c.pairs_stay.ensures s c.args.start bound g.group g.ids c.args.pairs.now c.vars-vars.ensures.stored c.requires.table guess (omega (arith, long, guess.three)))
