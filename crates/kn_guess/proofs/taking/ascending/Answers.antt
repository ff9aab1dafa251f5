use Rattle.std.proofs.Common.{◌∙◌, ap, sym, subst, eqb}
use Rattle.std.specs.List.Sorted.{IsStrictlyIncreasing}
use Rattle.std.proofs.lemmas.List.Filters.{dedup_is}
use Rattle.std.proofs.lemmas.Map.Keys.{IsStrictlyIncreasing-dedup}
use Rattle.kn_logic.specs.Groups.{is_among}
use Rattle.kn_guess.proofs.Rising.{sorted-same}
use Rattle.kn_guess.proofs.taking.ascending.Goals as goal

pub returns-clause-ascending : goal.returns-clause-ascending
returns-clause-ascending c = subst IsStrictlyIncreasing (sym (dedup_is eqb _ _ c.dedup.ensures.filtered)) (IsStrictlyIncreasing-dedup c.sort_unstable.new.self.items c.sort_unstable.ensures.sorted)

pub returns-clause-same : goal.returns-clause-same
returns-clause-same c = λ x. ap (λ z. is_among z x) (dedup_is eqb _ _ c.dedup.ensures.filtered) ∙ sorted-same c.args.numbers.items c.sort_unstable.new.self.items c.sort_unstable.ensures.permutation x
