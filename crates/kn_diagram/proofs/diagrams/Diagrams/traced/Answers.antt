use Rattle.std.proofs.Common.{ℕ, ◌≡◌, ◌∙◌, List, min, subst}
use Rattle.std.proofs.lemmas.Result.{err_from_is_err_and}
use Rattle.kn_diagram.specs.Diagrams.{function_of, depth_of}
use Rattle.kn_diagram.specs.Traces.{connective}
use Rattle.kn_diagram.specs.Wide.{IsWideAt}
use Rattle.kn_diagram.specs.Censuses.{WouldBeWide}
use Rattle.kn_diagram.proofs.PartLemmas.{joined_of, if-wide, left-whole}
use Rattle.kn_diagram.proofs.diagrams.Diagrams.traced.Goals as goal

pub returns-in_err-w-clause-wide : goal.returns-in_err-w-clause-wide
returns-in_err-w-clause-wide c =
    let d = c.args.self.now in
    let whole = joined_of (connective c.args.joint) d c.args.f c.args.g in
    let depth = min (depth_of d c.args.f) (depth_of d c.args.g) in
    let p = err_from_is_err_and c.from_residual.result c.from_residual.ensures.1 in
    rw (p.1, p.2) (if-wide c.in_err-w.field-0.0 (WouldBeWide d c.new-census.result whole depth) (λ level. IsWideAt d.order whole level)
    (λ level h. subst (λ (es : List (ℕ × ℕ)). WouldBeWide d es whole depth level) c.new-census.ensures h whole tt (left-whole d.order whole depth)) c.in_err-w.ensures.wide)

pub returns-in_err-refuse_wide-clause-wide : goal.returns-in_err-refuse_wide-clause-wide
returns-in_err-refuse_wide-clause-wide c =
    let old = c.args.self.now in
    let new = c.join.new.self in
    let joint = c.args.joint in
    let kept = c.join.ensures.kept in
    let whole = joined_of (connective joint) old c.args.f c.args.g in
    let means : function_of new c.in_ok-w.w ≡ whole =
    λ i v. (c.in_ok-w.ensures.joined.right.function v
    ∙ (λ j. connective joint ((kept.nodes c.args.f c.requires.f_there).function v j) ((kept.nodes c.args.g c.requires.g_there).function v j))) i in
    let p = err_from_is_err_and c.from_residual-in_err-refuse_wide.result c.from_residual-in_err-refuse_wide.ensures.1 in
    rw (p.1, p.2) (if-wide c.in_err-refuse_wide.field-0.0 (λ level. IsWideAt new.order (function_of new c.in_ok-w.w) level) (λ level. IsWideAt old.order whole level)
    (λ level h. subst (λ o. IsWideAt o whole level) kept.order (subst (λ f. IsWideAt new.order f level) means h)) c.in_err-refuse_wide.ensures.wide)
