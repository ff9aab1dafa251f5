use Rattle.std.proofs.Common.{◌≡◌, ℕ, Bool, Some, sym, ap, ◌∙◌}
use Rattle.std.specs.Prelude.{option_map}
use Rattle.std.proofs.Math.Bool.{beq}
use Rattle.kn_watch.specs.Trails.{made_of}
use Rattle.kn_watch.proofs.Tabled.{value_read, value_unread}
use Rattle.kn_watch.proofs.trail.Trail.value.Goals as goal

pub returns-in-Some-clause-value : goal.returns-in-Some-clause-value
returns-in-Some-clause-value c =
    let sign : Some c.in-Some.sign ≡ option_map (λ m. m.lit.positive) (made_of c.args.self.now.made c.args.lit.variable) = sym c.in-Some.is ∙ c.sign_of.ensures.sign ∙ ap (λ (n : ℕ). option_map (λ m. m.lit.positive) (made_of c.args.self.now.made n)) c.var.ensures.value in
    ap (λ (b : Bool). Some (beq c.in-Some.sign b)) c.is_positive.ensures ∙ value_read c.args.self.now.made c.args.lit c.in-Some.sign c.sign_of.ensures.kept.different sign

pub returns-in-None-clause-value : goal.returns-in-None-clause-value
returns-in-None-clause-value c =
    value_unread c.args.self.now.made c.args.lit c.sign_of.ensures.kept.different
    (sym c.in-None.is ∙ c.sign_of.ensures.sign ∙ ap (λ (n : ℕ). option_map (λ m. m.lit.positive) (made_of c.args.self.now.made n)) c.var.ensures.value)
