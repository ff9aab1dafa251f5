use Rattle.std.proofs.Common.{ap, sym, ◌∙◌, subst, ◌≡◌, ◌+◌, ◌<◌, ◌^◌, ◌++◌, ◌∷◌, [], nat_eq, ℕ, List}
use Rattle.std.specs.List.{AllByRecursion}
use Rattle.kn_logic.proofs.Public.{All-push}
use Rattle.kn_justify.specs.declared.name.Name.{Name}
use Rattle.kn_justify.specs.Names.{name_of}
use Rattle.kn_justify.proofs.LookupLemmas.{insert-last}
use Rattle.kn_justify.proofs.named.Named.insert.Goals as goal

pub invariant_of-self-2 : goal.invariant_of-self-2
invariant_of-self-2 c =
    let is = c.in_ok-insert.ensures.entries ∙ insert-last nat_eq c.args.node c.args.name c.self.inside.names.entries (ap (λ es. name_of es c.args.node) c.self.view_is ∙ c.requires.absent) in
    subst (λ (es : List (ℕ × Name)). AllByRecursion (λ e. e.1.id + 3 < 2 ^ 64) es) (sym is)
    (All-push _ c.self.inside.names.entries (c.args.node, c.args.name) c.self.invariant c.requires.fits)

pub returns-clause-ok : goal.returns-clause-ok
returns-clause-ok c =
    c.in_ok-insert.ensures.entries
    ∙ insert-last nat_eq c.args.node c.args.name c.self.inside.names.entries (ap (λ es. name_of es c.args.node) c.self.view_is ∙ c.requires.absent)
    ∙ ap (λ es. es ++ (c.args.node, c.args.name) ∷ []) c.self.view_is
