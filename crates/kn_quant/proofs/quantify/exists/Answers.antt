use Rattle.std.proofs.Common.{ℕ, ◌≡◌, ◌∙◌, List, [], ap, subst, slice_index}
use Rattle.std.proofs.lemmas.Result.{err_from_is_err_and}
use Rattle.kn_diagram.specs.Diagrams.{function_of, depth_of}
use Rattle.kn_diagram.specs.Wide.{IsWideAt}
use Rattle.kn_diagram.specs.Censuses.{WouldBeWide}
use Rattle.kn_diagram.proofs.Public.{slice_index-depth_in, if-wide, left-whole}
use Rattle.kn_quant.specs.Quantified.{some_value, Settles}
use Rattle.kn_quant.proofs.SettleLemmas.{quantifies-settled}
use Rattle.kn_quant.proofs.quantify.exists.Goals as goal

pub returns-in_err-w-clause-wide : goal.returns-in_err-w-clause-wide
returns-in_err-w-clause-wide c =
    let d = c.args.d.now in
    let at : slice_index d.order c.place-place.result ≡ c.args.var = ap (slice_index d.order) c.place-place.ensures.place ∙ slice_index-depth_in d.order c.args.var c.requires.within in
    let whole = some_value c.args.var (function_of d c.args.f) in
    let depth = depth_of d c.args.f in
    let p = err_from_is_err_and c.from_residual.result c.from_residual.ensures.1 in
    rw (p.1, p.2) (if-wide c.in_err-w.field-0.0 (WouldBeWide d c.new-census.result (some_value (slice_index d.order c.place-place.result) (function_of d c.args.f)) depth) (λ level. IsWideAt d.order whole level)
    (λ level h. subst (λ (es : List (ℕ × ℕ)). WouldBeWide d es whole depth level) c.new-census.ensures
    (subst (λ z. WouldBeWide d c.new-census.result (some_value z (function_of d c.args.f)) depth level) at h) whole tt (left-whole d.order whole depth)) c.in_err-w.ensures.wide)

pub returns-in_err-refuse_wide-clause-wide : goal.returns-in_err-refuse_wide-clause-wide
returns-in_err-refuse_wide-clause-wide c =
    let old = c.args.d.now in
    let new = c.settle.new.d in
    let at : slice_index old.order c.place-place.result ≡ c.args.var = ap (slice_index old.order) c.place-place.ensures.place ∙ slice_index-depth_in old.order c.args.var c.requires.within in
    let p = err_from_is_err_and c.from_residual-in_err-refuse_wide.result c.from_residual-in_err-refuse_wide.ensures.1 in
    let kept = c.settle.ensures.kept in
    let whole = some_value c.args.var (function_of old c.args.f) in
    let same : function_of new c.in_ok-w.w ≡ whole =
    λ i v. (c.in_ok-w.ensures.settled.right.function v
    ∙ (λ j. some_value (at j) (λ t. (kept.nodes c.args.f c.requires.there).function t j) v)) i in
    rw (p.1, p.2) (if-wide c.in_err-refuse_wide.field-0.0 (λ level. IsWideAt new.order (function_of new c.in_ok-w.w) level) (λ level. IsWideAt old.order whole level)
    (λ level h. subst (λ o. IsWideAt o whole level) kept.order (subst (λ f. IsWideAt new.order f level) same h)) c.in_err-refuse_wide.ensures.wide)

pub returns-clause-function : goal.returns-clause-function
returns-clause-function c v =
    let old = c.args.d.now in
    let at : slice_index old.order c.place-place.result ≡ c.args.var = ap (slice_index old.order) c.place-place.ensures.place ∙ slice_index-depth_in old.order c.args.var c.requires.within in
    c.in_ok-w.ensures.settled.right.function v ∙ (λ j. some_value (at j) (λ t. (c.settle.ensures.kept.nodes c.args.f c.requires.there).function t j) v)

pub returns-clause-traced : goal.returns-clause-traced
returns-clause-traced c =
    let old = c.args.d.now in
    let at : slice_index old.order c.place-place.result ≡ c.args.var = ap (slice_index old.order) c.place-place.ensures.place ∙ slice_index-depth_in old.order c.args.var c.requires.within in
    let s = subst (λ z. Settles c.settle.new.d z [] c.settle.new.memo c.settle.new.joined c.args.f c.in_ok-w.w) at
    (subst (λ before. Settles c.settle.new.d (slice_index old.order c.place-place.result) before c.settle.new.memo c.settle.new.joined c.args.f c.in_ok-w.w) c.new-memo.ensures c.in_ok-w.ensures.settled) in
    quantifies-settled c.settle.new.d c.args.var c.settle.new.memo c.settle.new.joined c.args.trace.now c.write.new.trace c.args.halves.now c.write.new.halves c.args.f c.in_ok-w.w s
    c.in_ok-write.ensures.ok.0 c.in_ok-write.ensures.ok.1
