use Rattle.std.proofs.Common.{◌≡◌, ◌++◌, Bool, true, List, sym, subst, arith}
use Rattle.std.specs.List.{AllByRecursion}
use Rattle.kn_logic.specs.Constraints.{is_clause}
use Rattle.kn_logic.specs.Formulas.{Problem, Satisfies}
use Rattle.kn_counter.specs.Counters.{counted}
use Rattle.kn_counter.proofs.Models.{model-extended, model-cut, all-clauses}
use Rattle.kn_counter.proofs.counting.counted.Goals as goal

is : (c : goal.In_ok-push_all) → c.push_all.new.out ≡ counted c.args.f.now
is c = grind arith

pub returns-clause-all : goal.returns-clause-all
returns-clause-all c = subst (λ (g : Problem). AllByRecursion (λ d. is_clause d ≡ true) g.constraints) (sym (is c)) (all-clauses c.args.f.now.vars c.args.f.now.constraints)

pub returns-clause-extended : goal.returns-clause-extended
returns-clause-extended c values h = subst (λ g. (more : List Bool) × Satisfies (values ++ more) g) (sym (is c)) (model-extended c.args.f.now c.constraints.ensures.formula values h)

pub returns-clause-cut : goal.returns-clause-cut
returns-clause-cut c values h = model-cut c.args.f.now c.constraints.ensures.formula values (subst (Satisfies values) (is c) h)
