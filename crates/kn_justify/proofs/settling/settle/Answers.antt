use Rattle.std.proofs.Common.{◌≡◌, true, false}
use Rattle.kn_lines.specs.declared.line.Line.TheVariants.{Lemma}
use Rattle.kn_log.proofs.Public.{logs-such-not}
use Rattle.kn_justify.specs.Arms.{is_trivial}
use Rattle.kn_justify.specs.Growth.{ArePlain}
use Rattle.kn_justify.proofs.HintLemmas.{trivial-settled}
use Rattle.kn_justify.proofs.SettleLemmas.{trivial-is, has-literal, lemma-formed, lemma-steps, lemma-lives, lemma-settles, adds-one, error-ends}
use Rattle.kn_justify.proofs.settling.settle.Goals as goal

pub returns-then-has_true-has_both-clause-settled : goal.returns-then-has_true-has_both-clause-settled
returns-then-has_true-has_both-clause-settled g c =
    trivial-settled c.args.log.now.state.given c.args.arms.now
    (trivial-is c.args.arms.now c.in_ok-lits.lits.items c.deref.result.now c.has_true.result c.has_both.result true c.in_ok-lits.ensures c.deref.ensures.value c.has_true.ensures c.has_both.ensures c.if-has_true-has_both.true)

pub lemma-requires-clause-formed : goal.lemma-requires-clause-formed
lemma-requires-clause-formed g c = lemma-formed c.args.arms.now c.new.result c.in_ok-lits.lits.items c.args.log.now.state.given c.args.hints.items c.new-2.result c.new.ensures c.new-2.ensures c.requires.hints

pub lemma-requires-clause-steps : goal.lemma-requires-clause-steps
lemma-requires-clause-steps g c =
    let needed : is_trivial c.args.arms.now ≡ false = trivial-is c.args.arms.now c.in_ok-lits.lits.items c.deref.result.now c.has_true.result c.has_both.result false c.in_ok-lits.ensures c.deref.ensures.value c.has_true.ensures c.has_both.ensures c.if-has_true-has_both.false in
    lemma-steps c.args.log.now.state c.args.arms.now c.new.result c.in_ok-lits.lits.items c.args.hints.items c.new-2.result c.new.ensures c.in_ok-lits.ensures c.new-2.ensures needed c.requires.known c.requires.hints

pub returns-in_err-id-clause-lines : goal.returns-in_err-id-clause-lines
returns-in_err-id-clause-lines g c =
    let needed : is_trivial c.args.arms.now ≡ false = trivial-is c.args.arms.now c.in_ok-lits.lits.items c.deref.result.now c.has_true.result c.has_both.result false c.in_ok-lits.ensures c.deref.ensures.value c.has_true.ensures c.has_both.ensures c.if-has_true-has_both.false in
    let plain = has-literal c.args.arms.now c.new.result c.in_ok-lits.lits.items c.requires.filled needed c.new.ensures c.in_ok-lits.ensures in
    error-ends ArePlain c.args.log.now c.lemma.new.self _ _ c.from_residual-in_err-id.result c.in_err-id.field-0.0 c.from_residual-in_err-id.ensures.1
    (logs-such-not ArePlain (Lemma c.new.result c.new-2.result) c.args.log.now c.lemma.new.self _ _ c.in_err-id.field-0.0 c.requires.whole tt (plain, tt) c.in_err-id.ensures.logs c.in_err-id.ensures.spelled)

pub returns-clause-settled : goal.returns-clause-settled
returns-clause-settled g c =
    let needed : is_trivial c.args.arms.now ≡ false = trivial-is c.args.arms.now c.in_ok-lits.lits.items c.deref.result.now c.has_true.result c.has_both.result false c.in_ok-lits.ensures c.deref.ensures.value c.has_true.ensures c.has_both.ensures c.if-has_true-has_both.false in
    lemma-settles c.args.log.now.state c.lemma.new.self.state c.args.arms.now c.new.result c.in_ok-lits.lits.items c.new-2.result c.in_ok-id.id c.new.ensures c.in_ok-lits.ensures needed c.in_ok-id.ensures.id c.in_ok-id.ensures.logs.0

pub returns-clause-told : goal.returns-clause-told
returns-clause-told g c = lemma-lives c.args.log.now.state c.lemma.new.self.state c.args.arms.now c.new.result c.in_ok-lits.lits.items c.new-2.result c.in_ok-id.id c.new.ensures c.in_ok-lits.ensures c.in_ok-id.ensures.id c.in_ok-id.ensures.logs.0

pub returns-clause-lines : goal.returns-clause-lines
returns-clause-lines g c =
    let needed : is_trivial c.args.arms.now ≡ false = trivial-is c.args.arms.now c.in_ok-lits.lits.items c.deref.result.now c.has_true.result c.has_both.result false c.in_ok-lits.ensures c.deref.ensures.value c.has_true.ensures c.has_both.ensures c.if-has_true-has_both.false in
    let plain = has-literal c.args.arms.now c.new.result c.in_ok-lits.lits.items c.requires.filled needed c.new.ensures c.in_ok-lits.ensures in
    adds-one ArePlain (Lemma c.new.result c.new-2.result) c.args.log.now c.lemma.new.self _ _ (plain, tt) c.in_ok-id.ensures.logs c.in_ok-id.ensures.spelled
