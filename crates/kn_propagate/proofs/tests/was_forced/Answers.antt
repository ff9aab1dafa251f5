use Rattle.std.proofs.Common.{◌≡◌, ℕ, List, Option, Some, sym, ap, ◌∙◌}
use Rattle.std.specs.Prelude.{slice_get, option_and_then}
use Rattle.std.proofs.lemmas.Bool.{eq-eqb}
use Rattle.std.proofs.lemmas.Option.{slice_get_within}
use Rattle.kn_logic.specs.Literals.{Literal, AreDifferent}
use Rattle.kn_watch.specs.declared.trail.Made.{Made}
use Rattle.kn_watch.specs.Trails.{literals, lit_of, made_of}
use Rattle.kn_watch.proofs.Public.{made_of-at, entry_at}
use Rattle.kn_propagate.proofs.tests.was_forced.Goals as goal

reason_is : (made : List Made) (place var : ℕ) (l : Literal) (m : Made) → AreDifferent (literals made) → slice_get made place ≡ Some m → lit_of made place ≡ l → var ≡ l.variable → option_and_then (λ x. x.reason) (made_of made var) ≡ m.reason
reason_is made place var l m d e is v =
    let n = entry_at made place l (slice_get_within made place m e) is in
    let same : n.0 ≡ m = (let a = sym n.1 ∙ e in cc) in
    let q : m.lit.variable ≡ var = ap (λ (x : Made). x.lit.variable) (sym same) ∙ ap (λ (x : Literal). x.variable) n.2 ∙ sym v in
    ap (λ (k : ℕ). option_and_then (λ (x : Made). x.reason) (made_of made k)) (sym q) ∙ ap (λ (o : Option Made). option_and_then (λ (x : Made). x.reason) o) (made_of-at made place m d e)

pub returns-in-Some : goal.returns-in-Some
returns-in-Some c f m e r =
    let a = reason_is c.args.trail.now.made c.args.place c.var.result c.at.result m c.reason_of.ensures.kept.different e (sym c.at.ensures) c.var.ensures.value in
    let q : c.in-Some.reason ≡ c.args.id = (let b = sym c.in-Some.ensures.reason in let d = sym (a ∙ r) in cc) in
    let t = eq-eqb c.in-Some.reason c.args.id q in
    absurd cc

pub returns-in-None : goal.returns-in-None
returns-in-None c f m e r =
    let a = reason_is c.args.trail.now.made c.args.place c.var.result c.at.result m c.reason_of.ensures.kept.different e (sym c.at.ensures) c.var.ensures.value in
    let b = c.in-None.ensures.reason ∙ a ∙ r in
    absurd cc
