use Rattle.std.proofs.Common.{ℕ, ◌<◌, ◌≤◌, subst, length, IfSome, IfNone}
use Rattle.kn_diagram.specs.Diagrams.{IsTable}
use Rattle.kn_diagram.specs.Widths.{width_at, IsFirstWide}
use Rattle.kn_diagram.proofs.WideLemmas.{level-at, wide-at, not-wide}
use Rattle.kn_diagram.proofs.diagrams.Diagrams.refuse_wide.Goals as goal

pub returns-in-Some-clause-wide : goal.returns-in-Some-clause-wide
returns-in-Some-clause-wide c =
    let d = c.args.self.now in
    let first = subst (λ o. IfSome o (IsFirstWide d c.args.w)) c.in-Some.is c.in_ok-depth.ensures.wide in
    wide-at d c.args.w c.in-Some.depth c.index-level.result.now (subst IsTable c.self.view_is c.self.invariant) c.requires first
    (level-at c.self.inside.order.items d.order c.in-Some.depth c.index-level.result.now (λ i. (c.self.view_is i).order) first.within c.index-level.ensures)

pub returns-clause-narrow : goal.returns-clause-narrow
returns-clause-narrow c =
    let d = c.args.self.now in
    not-wide d c.args.w (subst IsTable c.self.view_is c.self.invariant) c.requires
    (subst (λ o. IfNone o ((k : ℕ) → k < length d.order → width_at d c.args.w k ≤ 256)) c.in_default.is c.in_ok-depth.ensures.narrow)
