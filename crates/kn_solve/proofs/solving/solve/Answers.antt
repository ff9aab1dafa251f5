use Rattle.std.proofs.Common.{◌≡◌, ◌≤◌, ◌+◌, map, sym, ap, subst, ◌∙◌, arith}
use Rattle.std.specs.List.{AllByRecursion}
use Rattle.kn_bytes.specs.Outside.{Got}
use Rattle.kn_logic.specs.Constraints.{IsWithin}
use Rattle.kn_log.specs.Logs.{Logged, fresh, line_bytes, header_of, OpensNot}
use Rattle.kn_log.specs.Written.{AddsSuch, LogsSuchNot}
use Rattle.kn_store.specs.Stores.{constraints_of}
use Rattle.kn_extract.specs.Kept.{found_of}
use Rattle.kn_opening.specs.Openings.{AreOpeningLines, live_behind}
use Rattle.kn_solve.proofs.SolvingLemmas.{error-header, error-opening, error-opened, error-search, opened-within, outcome-of, solved}
use Rattle.kn_solve.proofs.solving.solve.Goals as goal

pub returns-in_err-log-clause-error : goal.returns-in_err-log-clause-error
returns-in_err-log-clause-error g c _ =
    error-header c.args.e.now.original c.args.options.now (g.S.Sink.written c.args.sink.now) (g.S.Sink.written c.new.new.sink) c.in_err-log.field-0.0
    (subst (λ f. OpensNot f (g.S.Sink.written c.args.sink.now) (g.S.Sink.written c.new.new.sink) c.in_err-log.field-0.0) c.original.ensures.value c.in_err-log.ensures.opens)

pub returns-in_err-ids-clause-error : goal.returns-in_err-ids-clause-error
returns-in_err-ids-clause-error g c _ =
    let f = c.args.e.now.original in
    let w = g.S.Sink.written c.args.sink.now in
    let v = g.S.Sink.written c.new.new.sink in
    let u = g.S.Sink.written c.open.new.sink in
    let is : c.original.result.now ≡ f = c.original.ensures.value in
    error-opening f c.args.options.now c.open.new.log w v u c.in_err-ids.field-0.0 (subst (λ z. Got w v (line_bytes (header_of z))) is c.in_ok-log.ensures.opens.1)
    (subst (λ (l : Logged). LogsSuchNot AreOpeningLines l c.open.new.log v u c.in_err-ids.field-0.0) (c.in_ok-log.ensures.opens.0 ∙ ap fresh is) c.in_err-ids.ensures.lines)

pub engine_of-requires-clause-within : goal.engine_of-requires-clause-within
engine_of-requires-clause-within g c =
    subst (λ n. AllByRecursion (IsWithin n) (constraints_of (live_behind 0 c.open.new.log.state.given))) (sym (c.vars.ensures ∙ ap (λ f. f.vars) c.formula.ensures.value))
    (opened-within c.args.e.now c.open.new.log.state c.in_ok-ids.ids.items c.original.ensures.extracted c.in_ok-ids.ensures.opened)

pub returns-in_err-engine-clause-error : goal.returns-in_err-engine-clause-error
returns-in_err-engine-clause-error g c _ =
    let f = c.args.e.now.original in
    let w = g.S.Sink.written c.args.sink.now in
    let v = g.S.Sink.written c.new.new.sink in
    let u = g.S.Sink.written c.open.new.sink in
    let is : c.original.result.now ≡ f = c.original.ensures.value in
    error-opened f c.args.options.now c.open.new.log w v u (subst (λ z. Got w v (line_bytes (header_of z))) is c.in_ok-log.ensures.opens.1)
    (subst (λ (l : Logged). AddsSuch AreOpeningLines l c.open.new.log v u) (c.in_ok-log.ensures.opens.0 ∙ ap fresh is) c.in_ok-ids.ensures.lines)

pub search-requires-clause-known : goal.search-requires-clause-known
search-requires-clause-known g c =
    let e = c.args.e.now in
    let x = c.original.ensures.extracted in
    let same = (c.what_remains_is_known.ensures.remainder e.original e.formula (map found_of e.taken) x.original x.extraction).vars in
    let a = ap (λ t. t.vars) c.in_ok-engine.ensures.trail in
    let b = c.vars.ensures ∙ ap (λ f. f.vars) c.formula.ensures.value ∙ same in
    let d = c.in_ok-ids.ensures.opened.vars in
    omega (arith, a, b, d)

pub returns-in_err-outcome-clause-error : goal.returns-in_err-outcome-clause-error
returns-in_err-outcome-clause-error g c _ =
    let f = c.args.e.now.original in
    let w = g.S.Sink.written c.args.sink.now in
    let v = g.S.Sink.written c.new.new.sink in
    let u = g.S.Sink.written c.open.new.sink in
    let t = g.S.Sink.written c.search.new.sink in
    let is : c.original.result.now ≡ f = c.original.ensures.value in
    error-search f c.args.options.now c.in_ok-engine.engine c.open.new.log c.search.new.log w v u t c.in_err-outcome.field-0.0 (subst (λ z. Got w v (line_bytes (header_of z))) is c.in_ok-log.ensures.opens.1)
    (subst (λ (l : Logged). AddsSuch AreOpeningLines l c.open.new.log v u) (c.in_ok-log.ensures.opens.0 ∙ ap fresh is) c.in_ok-ids.ensures.lines) c.in_err-outcome.ensures.error

pub finished-requires : goal.finished-requires
finished-requires g c =
    let e = c.args.e.now in
    outcome-of e c.args.options.now c.open.new.log.state c.in_ok-ids.ids.items c.in_ok-engine.engine c.open.new.log c.search.new.log (g.S.Sink.written c.open.new.sink) (g.S.Sink.written c.search.new.sink) c.in_ok-outcome.outcome
    c.in_ok-ids.ensures.opened c.in_ok-engine.ensures.mirrors (ap (λ t. t.vars) c.in_ok-engine.ensures.trail ∙ c.vars.ensures ∙ ap (λ f. f.vars) c.formula.ensures.value) c.in_ok-outcome.ensures.ends

pub returns-clause-ends : goal.returns-clause-ends
returns-clause-ends g c =
    let e = c.args.e.now in
    let f = e.original in
    let x = c.original.ensures.extracted in
    let w = g.S.Sink.written c.args.sink.now in
    let v = g.S.Sink.written c.new.new.sink in
    let u = g.S.Sink.written c.open.new.sink in
    let t = g.S.Sink.written c.search.new.sink in
    let is : c.original.result.now ≡ f = c.original.ensures.value in
    let same = (c.what_remains_is_known.ensures.remainder e.original e.formula (map found_of e.taken) x.original x.extraction).vars in
    solved e c.args.options.now c.in_ok-engine.engine c.in_ok-ids.ids.items c.open.new.log c.search.new.log w v u t c.in_ok-outcome.outcome c.finished.result x
    (subst (λ z. Got w v (line_bytes (header_of z))) is c.in_ok-log.ensures.opens.1)
    (subst (λ (l : Logged). AddsSuch AreOpeningLines l c.open.new.log v u) (c.in_ok-log.ensures.opens.0 ∙ ap fresh is) c.in_ok-ids.ensures.lines) c.in_ok-ids.ensures.opened
    (ap (λ t. t.vars) c.in_ok-engine.ensures.trail ∙ c.vars.ensures ∙ ap (λ f. f.vars) c.formula.ensures.value ∙ same) c.in_ok-outcome.ensures.ends c.finished.ensures
