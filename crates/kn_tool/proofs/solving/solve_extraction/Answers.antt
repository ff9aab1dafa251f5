use Rattle.std.proofs.Common.{ap, refl, Err}
use Rattle.kn_tool.specs.Changes.{sink_change}
use Rattle.kn_tool.proofs.Solutions.{outcome-found}
use Rattle.kn_tool.proofs.Solved.{memory_row, fault_row}
use Rattle.kn_tool.proofs.solving.solve_extraction.Goals as goal

pub returns-in-Ok-clause-found : goal.returns-in-Ok-clause-found
returns-in-Ok-clause-found g c =
    outcome-found c.args.options c.args.e.now.original (sink_change g.P.Sink c.args.proof.now c.solve.new.sink) c.in-Ok.outcome (record { vars = c.requires.vars; count = c.requires.count })
    c.in-Ok.ensures.ends

pub returns-in-Err-Memory-clause-err : goal.returns-in-Err-Memory-clause-err
returns-in-Err-Memory-clause-err g c =
    memory_row c.args.options c.args.e.now.original (sink_change g.P.Sink c.args.proof.now c.solve.new.sink) (record { vars = c.requires.vars; count = c.requires.count }) (c.in-Err-Memory.ensures.error refl)

pub returns-in-Err-WriteFault-clause-err : goal.returns-in-Err-WriteFault-clause-err
returns-in-Err-WriteFault-clause-err g c =
    fault_row c.args.options c.args.e.now.original (sink_change g.P.Sink c.args.proof.now c.solve.new.sink) (record { vars = c.requires.vars; count = c.requires.count }) (c.in-Err-WriteFault.ensures.error refl)
    (c.in-Err-WriteFault.ensures.fault (ap Err c.in-Err-WriteFault.field-0-is))
