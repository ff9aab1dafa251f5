use Rattle.std.proofs.Common.{◌∙◌, ◌==◌, ◌&&◌, sym, ap, ap₂}
use Rattle.std.proofs.Math.Bool.{beq}
use Rattle.std.proofs.lemmas.Bool.{not-true, not-false}
use Rattle.kn_guess.specs.Tables.{is_left}
use Rattle.kn_guess.proofs.Entered.{same-eq}
use Rattle.kn_guess.proofs.Meets.{met-none, met-other, met-gone, met-same, place-none, place-some}
use Rattle.kn_guess.proofs.meeting.is_met.Goals as goal

pub returns-in_default : goal.returns-in_default
returns-in_default c = met-none c.args.store.now.live c.args.ys.now c.args.x c.args.at c.requires.ys c.requires.place (place-none c.args.ys.now c.args.at c.in_default.ensures.lookup.3)

pub returns-then-ne : goal.returns-then-ne
returns-then-ne c =
    let look = c.in-Some.ensures.lookup in
    let y = c.in-Some.y.now in
    met-other c.args.store.now.live c.args.ys.now c.args.x y c.args.at c.requires.ys c.requires.place (place-some c.args.ys.now c.args.at y look.3.0 look.1)
    (sym (same-eq y.lit c.args.x.lit) ∙ ap₂ (λ a b. (a.variable == b.variable) && beq a.positive b.positive) (sym c.lit.ensures) (sym c.lit-2.ensures) ∙ not-true _ (sym c.ne.ensures ∙ c.if-ne.true))

pub returns-else-is_left : goal.returns-else-is_left
returns-else-is_left c =
    let look = c.in-Some.ensures.lookup in
    let y = c.in-Some.y.now in
    c.if-is_left.false ∙ met-gone c.args.store.now.live c.args.ys.now c.args.x y c.args.at c.requires.ys c.requires.place (place-some c.args.ys.now c.args.at y look.3.0 look.1) (sym c.is_left.ensures ∙ c.if-is_left.false)

pub returns-then-is_left : goal.returns-then-is_left
returns-then-is_left c =
    let look = c.in-Some.ensures.lookup in
    let y = c.in-Some.y.now in
    c.is_left-then-is_left.ensures ∙ sym (ap (λ t. t && is_left c.args.store.now.live c.args.x) (sym c.is_left.ensures ∙ c.if-is_left.true))
    ∙ met-same c.args.store.now.live c.args.ys.now c.args.x y c.args.at c.requires.ys c.requires.place (place-some c.args.ys.now c.args.at y look.3.0 look.1)
    (sym (same-eq y.lit c.args.x.lit) ∙ ap₂ (λ a b. (a.variable == b.variable) && beq a.positive b.positive) (sym c.lit.ensures) (sym c.lit-2.ensures) ∙ not-false _ (sym c.ne.ensures ∙ c.if-ne.false))
