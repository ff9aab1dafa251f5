use Rattle.std.proofs.Common.{◌≡◌, refl, subst}
use Rattle.kn_logic.specs.Formulas.{Problem, IsFormula}
use Rattle.kn_tool.specs.Changes.{sink_change}
use Rattle.kn_tool.specs.Replies.{Finds}
use Rattle.kn_tool.proofs.Solved.{solved_reply, unextracted_solved}
use Rattle.kn_tool.proofs.solving.solve_formula.Goals as goal

pub returns-in_default-clause-reply : goal.returns-in_default-clause-reply
returns-in_default-clause-reply g c =
    unextracted_solved c.args.options.conflicts c.args.options.forget c.args.f (sink_change g.P.Sink c.args.proof.now c.args.proof.now) c.short_memory.result c.requires refl c.short_memory.ensures

pub returns-in-Ok-solve_extraction-clause-reply : goal.returns-in-Ok-solve_extraction-clause-reply
returns-in-Ok-solve_extraction-clause-reply g c =
    let p = sink_change g.P.Sink c.args.proof.now c.solve_extraction.new.proof in
    let is : c.in-Ok.e.original ≡ c.args.f = c.in-Ok.ensures.original in
    solved_reply c.args.options.conflicts c.args.options.forget c.args.f p c.in-Ok-solve_extraction.outcome c.reply_of_outcome.result (subst IsFormula is c.in-Ok.ensures.extracted.original)
    (subst (λ (f : Problem). Finds c.args.options.conflicts c.args.options.forget f p c.in-Ok-solve_extraction.outcome) is c.in-Ok-solve_extraction.ensures.found) c.reply_of_outcome.ensures
