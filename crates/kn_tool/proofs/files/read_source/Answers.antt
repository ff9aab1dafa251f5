use Rattle.std.proofs.Common.{ap, Err}
use Rattle.kn_tool.proofs.Readings.{unread_reply}
use Rattle.kn_tool.proofs.files.read_source.Goals as goal

pub returns-in-Err-clause-err : goal.returns-in-Err-clause-err
returns-in-Err-clause-err g c = unread_reply g.S.Source c.args.source.now c.read_all.new.source c.args.which _ _ c.in-Err.ensures.took (λ is. c.in-Err.ensures.fault (ap Err is)) c.unread.ensures
