use Rattle.std.proofs.Common.{◌≡◌, ◌+◌, sym, ap, subst}
use Rattle.kn_logic.specs.Literals.{Literal}
use Rattle.kn_logic.specs.Constraints.{Fits}
use Rattle.kn_logic.specs.Formulas.{Problem}
use Rattle.kn_counter.proofs.Numbered.{guarded-fits}
use Rattle.kn_counter.proofs.tests.guarded_count.Goals as goal

pub push-requires : goal.push-requires
push-requires c =
    let vars : c.new-f.result.vars ≡ c.args.n + 1 = ap (λ (f : Problem). f.vars) c.new-f.ensures in
    let number : c.new.result.variable ≡ c.args.n + 1 = ap (λ (l : Literal). l.variable) c.new.ensures in
    let fits = guarded-fits c.args.n c.args.bound c.in_ok-lits.lits.items c.new.result number c.in_ok-lits.ensures.0 c.in_ok-lits.ensures.1 in
    subst (λ n. Fits n c.guarded.result) (sym vars) (subst (Fits (c.args.n + 1)) (sym c.guarded.ensures) fits)
