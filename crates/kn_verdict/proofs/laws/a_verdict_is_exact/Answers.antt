use Rattle.kn_verdict.proofs.Bounds.{exact-wide, exact-klause, exact-out, exact-not, exact-unlike}
use Rattle.kn_verdict.proofs.laws.a_verdict_is_exact.Goals as goal

pub returns-clause-wide : goal.returns-clause-wide
returns-clause-wide c = exact-wide

pub returns-clause-klause : goal.returns-clause-klause
returns-clause-klause c = exact-klause

pub returns-clause-out : goal.returns-clause-out
returns-clause-out c = exact-out

pub returns-clause-not : goal.returns-clause-not
returns-clause-not c = exact-not

pub returns-clause-unlike : goal.returns-clause-unlike
returns-clause-unlike c = exact-unlike
