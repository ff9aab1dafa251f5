use Rattle.std.proofs.Common.{length, Some, if◌then◌else◌, sym, ap, ◌∙◌, arith}
use Rattle.std.proofs.lemmas.List.{length-map}
use Rattle.std.proofs.lemmas.Bool.{ltb-true}
use Rattle.std.proofs.lemmas.Result.{IfOk-weaker}
use Rattle.kn_logic.specs.Literals.{Literal}
use Rattle.kn_verdict.proofs.Borders.{place-within, node-literal}
use Rattle.kn_verdict.proofs.Walks.{border-half, half-smaller, half-some, witness-constant, witness-half}
use Rattle.kn_verdict.proofs.witness.+witness.Goals as goal

pub returns-in_default : goal.returns-in_default
returns-in_default t c =
    let g = c.args.group.now in
    let d = c.args.d.now in
    IfOk-weaker c.avoiding.result _ _ (λ values e.
    witness-constant g d c.args.node c.args.want values.items c.avoiding.ensures.group c.requires.node.table (ltb-true c.args.node 2 (sym c.in_default.ensures.constant)) c.requires.some e)
    c.avoiding.ensures.values

pub bounds-border-place : goal.bounds-border-place
bounds-border-place t c =
    omega (arith, ap length c.border.ensures.value, place-within c.args.group.now c.place_of-place.result _ c.place_of-place.ensures)

pub offset_bounds-border-place : goal.offset_bounds-border-place
offset_bounds-border-place t c = record {
  fits = omega (arith, c.requires.few, place-within c.args.group.now c.place_of-place.result _ c.place_of-place.ensures);
}

pub witness-requires : goal.witness-requires
witness-requires t c =
    let g = c.args.group.now in
    let d = c.args.d.now in
    let p = c.in-Some.parts in
    let place = c.place_of-place.result in
    let l = c.index-border-place.result in
    let b = c.in-Some.ensures.branch in
    let (there, own) = node-literal g d c.args.node p.0 p.1 p.2 place l c.border.result.now b c.place_of-place.ensures c.border.ensures.value c.index-border-place.is in
    let is = c.half.ensures ∙ ap (λ v. if v then p.1 else p.2) c.is_less-value.ensures in (
      omega (arith, c.decreases, half-smaller d c.args.node p.0 p.1 p.2 c.half.result c.is_less-value.result b c.half.ensures),
      (
        c.requires.few,
        (
          border-half g d c.args.node p.0 p.1 p.2 c.half.result c.is_less-value.result c.requires.node b c.half.ensures,
          (
            c.in_ok-low.ensures.noted,
            half-some g d c.args.node p.0 p.1 p.2 place l c.in_ok-high.high c.in_ok-low.low c.border.ensures.group c.requires.node.table b there own c.in_ok-high.ensures.measured c.in_ok-low.ensures.measured c.args.want c.half.result is c.requires.some,
          ),
        ),
      ),
    )

pub index_mut-requires : goal.index_mut-requires
index_mut-requires t c =
    let w = c.in_ok-values.ensures in
    omega (arith, place-within c.args.group.now c.place_of-place.result _ c.place_of-place.ensures, ap length w.are, length-map c.args.group.now.border (λ (l : Literal). w.all l.variable))

pub returns : goal.returns
returns t c =
    let g = c.args.group.now in
    let d = c.args.d.now in
    let p = c.in-Some.parts in
    let place = c.place_of-place.result in
    let l = c.index-border-place.result in
    let b = c.in-Some.ensures.branch in
    let (there, own) = node-literal g d c.args.node p.0 p.1 p.2 place l c.border.result.now b c.place_of-place.ensures c.border.ensures.value c.index-border-place.is in
    witness-half g d c.args.node p.0 p.1 p.2 place l c.in_ok-high.high c.in_ok-low.low c.border.ensures.group c.requires.node.table b there own c.in_ok-high.ensures.measured c.in_ok-low.ensures.measured
    c.args.want c.is_less-value.result c.half.result c.in_ok-values.values.items c.is_less-value.ensures c.half.ensures c.in_ok-values.ensures (c.place_of-place.ensures ∙ ap Some (sym b.variable_is))
