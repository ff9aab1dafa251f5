use Rattle.std.proofs.Common.{◌≡◌, if◌then◌else◌, nat_lt, get_or, sym, subst, ap, ◌∙◌}
use mathlib.Core.Bool.{beq}
use Rattle.std.proofs.lemmas.Bool.{ltb-true}
use Rattle.kn_verdict.proofs.Borders.{place-within, node-literal}
use Rattle.kn_verdict.proofs.Values.{value-first}
use Rattle.kn_verdict.proofs.Walks.{border-half, half-function, constant-value}
use Rattle.kn_verdict.proofs.walk.starts_at.Goals as goal

pub loop-parts-preserved : goal.loop-parts-preserved
loop-parts-preserved c =
    let g = c.args.group.now in
    let d = c.args.d.now in
    let node = c.loop-parts.at in
    let p = c.in-Some.parts in
    let place = c.place_of-place.result in
    let l = c.index-border-place.result in
    let b = c.in-Some.ensures.branch in
    let value = beq (nat_lt place c.args.first) l.positive in
    let half_is = c.half-at.ensures ∙ ap (λ s. if beq (nat_lt place c.args.first) s then p.1 else p.2) c.is_positive.ensures in
    let (there, own) = node-literal g d node p.0 p.1 p.2 place l c.border.result.now b c.place_of-place.ensures c.border.ensures.value c.index-border-place.is in
    record {
      node = border-half g d node p.0 p.1 p.2 c.half-at.result value c.loop-parts.invariant.node b half_is;
      same = λ v e.
          half-function d node p.0 p.1 p.2 c.half-at.result value v b half_is
          (ap v (sym own) ∙ value-first v g.border c.args.first place l e (place-within g place _ c.place_of-place.ensures) (subst (λ ls. l ≡ get_or ls place l) c.border.ensures.value c.index-border-place.is))
          ∙ c.loop-parts.invariant.same v e;
    }

pub returns : goal.returns
returns c v e =
    c.eq.ensures ∙ constant-value c.args.d.now c.loop-parts.at v c.requires.node.table (ltb-true c.loop-parts.at 2 (sym c.in_default.ensures.constant))
    ∙ c.loop-parts.invariant.same v e
