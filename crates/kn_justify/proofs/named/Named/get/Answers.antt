use Rattle.std.proofs.Common.{ap, sym, ◌∙◌, subst, ◌+◌, ◌<◌, ◌^◌, nat_eq, IfSome, Option}
use Rattle.kn_justify.specs.declared.name.Name.{Name}
use Rattle.kn_justify.specs.Names.{name_of}
use Rattle.kn_justify.proofs.LookupLemmas.{lookup-if}
use Rattle.kn_justify.proofs.named.Named.get.Goals as goal

pub returns-clause-value : goal.returns-clause-value
returns-clause-value c = c.copied.ensures ∙ c.get.ensures.value ∙ ap (λ es. name_of es c.args.node) c.self.view_is

pub returns-clause-fits : goal.returns-clause-fits
returns-clause-fits c =
    subst (λ (o : Option Name). IfSome o (λ n. n.id + 3 < 2 ^ 64)) (sym (c.copied.ensures ∙ c.get.ensures.value))
    (lookup-if (λ n. n.id + 3 < 2 ^ 64) (nat_eq c.args.node) c.self.inside.names.entries c.self.invariant)
