use Rattle.std.proofs.Common.{ℕ, ◌≡◌, ◌<◌, ◌≤◌, ◌⊎◌, ◌∙◌, inl, inr, Bool, if◌then◌else◌, sym, subst, arith, rules, min, slice_index, None}
use Rattle.std.proofs.lemmas.Bool.{cases_lt}
use Rattle.std.proofs.lemmas.Result.{err_from_is_err_and}
use Rattle.kn_diagram.specs.Diagrams.{function_of, depth_of, depth_in}
use Rattle.kn_diagram.specs.Traces.{found}
use Rattle.kn_diagram.specs.Censuses.{AreParts, WouldBeWide}
use Rattle.kn_diagram.proofs.Public.{Keeps-self, Keeps-along, depth_of-constant, depth_in-slice_index, parts-kept, if-wide}
use Rattle.kn_quant.specs.Quantified.{Settles}
use Rattle.kn_quant.proofs.SettleLemmas.{settles-known, settles-below, settles-own, settles-above, own-branch}
use Rattle.kn_quant.proofs.LeftLemmas.{IsLeftSome, or_of, Stay, Wide, noted-parts, noted-wide, both-parts, both-wide, high-wide, low-parts, low-wide}
use Rattle.kn_quant.proofs.quantify.+settle.Goals as goal

above : (deep goal_deep own place : ℕ) → own ≡ deep → place ≡ goal_deep → own ≤ place → (place ≡ own → ⊥) → deep < goal_deep
above deep goal_deep own place e f a b = omega arith

pub returns-in-Some-clause-settled : goal.returns-in-Some-clause-settled
returns-in-Some-clause-settled t c =
    settles-known c.args.d.now (slice_index c.args.d.now.order c.args.place) c.args.memo.now c.args.joined.now c.args.u c.in-Some.w c.requires.explained c.requires.accounted (sym c.in-Some.ensures)

pub returns-in_err-note-clause-wide : goal.returns-in_err-note-clause-wide
returns-in_err-note-clause-wide t c =
    let d = c.args.d.now in
    let es = c.args.census.now in
    let u = c.args.u in
    let y = slice_index d.order c.args.place in
    let ok = c.depth-own.ensures.table in
    let at = depth_in-slice_index d.order c.args.place ok.order c.requires.within in
    let none : found c.args.memo.now u u ≡ None = search rules in
    let s = settles-below d y c.args.memo.now c.args.joined.now u ok c.requires.there (omega (arith, c.depth-own.ensures.value, at, c.if-place-own.true)) c.requires.explained c.requires.accounted none in
    let p = err_from_is_err_and c.from_residual.result c.from_residual.ensures.1 in
    rw (p.1, p.2) (if-wide c.in_err-note.field-0.0 (WouldBeWide d es (function_of d u) (depth_of d u)) (Wide d es y u)
    (λ level h. noted-wide d d es es y u u level c.requires.there (Keeps-self d) s.right (λ whole parts left. parts) h) c.in_err-note.ensures.wide)

pub returns-then-place-own-clause-settled : goal.returns-then-place-own-clause-settled
returns-then-place-own-clause-settled t c =
    let d = c.args.d.now in
    let es = c.args.census.now in
    let u = c.args.u in
    let y = slice_index d.order c.args.place in
    let ok = c.depth-own.ensures.table in
    let at = depth_in-slice_index d.order c.args.place ok.order c.requires.within in
    let none : found c.args.memo.now u u ≡ None = search rules in
    let s = settles-below d y c.args.memo.now c.args.joined.now u ok c.requires.there (omega (arith, c.depth-own.ensures.value, at, c.if-place-own.true)) c.requires.explained c.requires.accounted none in
    subst (λ after. Settles d y c.args.memo.now after c.args.joined.now u u) (sym c.in_ok-note.ensures.noted) s

pub returns-then-place-own-clause-parts : goal.returns-then-place-own-clause-parts
returns-then-place-own-clause-parts t c =
    let d = c.args.d.now in
    let es = c.args.census.now in
    let u = c.args.u in
    let y = slice_index d.order c.args.place in
    let ok = c.depth-own.ensures.table in
    let at = depth_in-slice_index d.order c.args.place ok.order c.requires.within in
    let none : found c.args.memo.now u u ≡ None = search rules in
    let s = settles-below d y c.args.memo.now c.args.joined.now u ok c.requires.there (omega (arith, c.depth-own.ensures.value, at, c.if-place-own.true)) c.requires.explained c.requires.accounted none in
    noted-parts d d es es c.note.new.census y u u c.requires.there (Keeps-self d) s.right (λ whole parts left. parts) c.in_ok-note.ensures.parts

pub parts_of-high-requires-clause-two : goal.parts_of-high-requires-clause-two
parts_of-high-requires-clause-two t c = by (cases_lt c.args.u 2)
  where
    by : ((c.args.u < 2) ⊎ (2 ≤ c.args.u)) → 2 ≤ c.args.u
    by (inl low) = absurd (omega (arith, depth_of-constant c.args.d.now c.args.u low, c.depth-own.ensures.value, c.requires.within))
    by (inr two) = two

pub returns-in_err-w-clause-wide : goal.returns-in_err-w-clause-wide
returns-in_err-w-clause-wide t c =
    let d = c.args.d.now in
    let es = c.args.census.now in
    let u = c.args.u in
    let y = slice_index d.order c.args.place in
    let ok = c.depth-own.ensures.table in
    let at = depth_in-slice_index d.order c.args.place ok.order c.requires.within in
    let high = c.parts_of-high.result.1 in
    let low = c.parts_of-high.result.2 in
    let b = own-branch d u c.parts_of-high.result.0 high low c.args.place c.depth-own.result c.parts_of-high.ensures c.depth-own.ensures.value c.if-place-own-2.true in
    let p = err_from_is_err_and c.from_residual-in_err-w.result c.from_residual-in_err-w.ensures.1 in
    rw (p.1, p.2) (if-wide c.in_err-w.field-0.0 (WouldBeWide d es (or_of d high low) (min (depth_of d high) (depth_of d low))) (Wide d es y u)
    (λ level h. both-wide d es y u high low level ok b h) c.in_err-w.ensures.wide)

pub returns-in_err-note-2-clause-wide : goal.returns-in_err-note-2-clause-wide
returns-in_err-note-2-clause-wide t c =
    let d = c.args.d.now in
    let es = c.args.census.now in
    let u = c.args.u in
    let y = slice_index d.order c.args.place in
    let ok = c.depth-own.ensures.table in
    let at = depth_in-slice_index d.order c.args.place ok.order c.requires.within in
    let high = c.parts_of-high.result.1 in
    let low = c.parts_of-high.result.2 in
    let b = own-branch d u c.parts_of-high.result.0 high low c.args.place c.depth-own.result c.parts_of-high.ensures c.depth-own.ensures.value c.if-place-own-2.true in
    let none : found c.args.memo.now u u ≡ None = search rules in
    let d1 = c.or_by.new.self in
    let w = c.in_ok-w.w in
    let s = settles-own d d1 y c.args.memo.now c.args.joined.now c.or_by.new.memo u y high low w ok c.requires.there b (omega (arith, c.depth-own.ensures.value, at, c.if-place-own-2.true))
    c.requires.accounted none c.or_by.ensures.kept c.in_ok-w.ensures.joined in
    let before = both-parts d d1 es c.or_by.new.census y u high low ok b c.in_ok-w.ensures.parts in
    let p = err_from_is_err_and c.from_residual-in_err-note-2.result c.from_residual-in_err-note-2.ensures.1 in
    rw (p.1, p.2) (if-wide c.in_err-note-2.field-0.0 (WouldBeWide d1 c.or_by.new.census (function_of d1 w) (depth_of d1 w)) (Wide d es y u)
    (λ level h. noted-wide d d1 es c.or_by.new.census y u w level c.requires.there c.or_by.ensures.kept s.right before h) c.in_err-note-2.ensures.wide)

pub returns-then-place-own-2-clause-settled : goal.returns-then-place-own-2-clause-settled
returns-then-place-own-2-clause-settled t c =
    let d = c.args.d.now in
    let es = c.args.census.now in
    let u = c.args.u in
    let y = slice_index d.order c.args.place in
    let ok = c.depth-own.ensures.table in
    let at = depth_in-slice_index d.order c.args.place ok.order c.requires.within in
    let high = c.parts_of-high.result.1 in
    let low = c.parts_of-high.result.2 in
    let b = own-branch d u c.parts_of-high.result.0 high low c.args.place c.depth-own.result c.parts_of-high.ensures c.depth-own.ensures.value c.if-place-own-2.true in
    let none : found c.args.memo.now u u ≡ None = search rules in
    let d1 = c.or_by.new.self in
    let w = c.in_ok-w.w in
    let s = settles-own d d1 y c.args.memo.now c.args.joined.now c.or_by.new.memo u y high low w ok c.requires.there b (omega (arith, c.depth-own.ensures.value, at, c.if-place-own-2.true))
    c.requires.accounted none c.or_by.ensures.kept c.in_ok-w.ensures.joined in
    let before = both-parts d d1 es c.or_by.new.census y u high low ok b c.in_ok-w.ensures.parts in
    subst (λ after. Settles d1 y c.args.memo.now after c.or_by.new.memo u w) (sym c.in_ok-note-2.ensures.noted) s

pub returns-then-place-own-2-clause-parts : goal.returns-then-place-own-2-clause-parts
returns-then-place-own-2-clause-parts t c =
    let d = c.args.d.now in
    let es = c.args.census.now in
    let u = c.args.u in
    let y = slice_index d.order c.args.place in
    let ok = c.depth-own.ensures.table in
    let at = depth_in-slice_index d.order c.args.place ok.order c.requires.within in
    let high = c.parts_of-high.result.1 in
    let low = c.parts_of-high.result.2 in
    let b = own-branch d u c.parts_of-high.result.0 high low c.args.place c.depth-own.result c.parts_of-high.ensures c.depth-own.ensures.value c.if-place-own-2.true in
    let none : found c.args.memo.now u u ≡ None = search rules in
    let d1 = c.or_by.new.self in
    let w = c.in_ok-w.w in
    let s = settles-own d d1 y c.args.memo.now c.args.joined.now c.or_by.new.memo u y high low w ok c.requires.there b (omega (arith, c.depth-own.ensures.value, at, c.if-place-own-2.true))
    c.requires.accounted none c.or_by.ensures.kept c.in_ok-w.ensures.joined in
    let before = both-parts d d1 es c.or_by.new.census y u high low ok b c.in_ok-w.ensures.parts in
    noted-parts d d1 es c.or_by.new.census c.note-then-place-own-2.new.census y u w c.requires.there c.or_by.ensures.kept s.right before c.in_ok-note-2.ensures.parts

pub returns-in_err-high-clause-wide : goal.returns-in_err-high-clause-wide
returns-in_err-high-clause-wide t c =
    let d = c.args.d.now in
    let es = c.args.census.now in
    let u = c.args.u in
    let y = slice_index d.order c.args.place in
    let ok = c.depth-own.ensures.table in
    let at = depth_in-slice_index d.order c.args.place ok.order c.requires.within in
    let x = c.parts_of-high.result.0 in
    let high = c.parts_of-high.result.1 in
    let low = c.parts_of-high.result.2 in
    let b = c.parts_of-high.ensures in
    let less : depth_of d u < depth_in d.order y =
    above (depth_of d u) (depth_in d.order y) c.depth-own.result c.args.place c.depth-own.ensures.value (sym at) c.if-place-own.false c.if-place-own-2.false in
    let p = err_from_is_err_and c.from_residual-in_err-high.result c.from_residual-in_err-high.ensures.1 in
    rw (p.1, p.2) (if-wide c.in_err-high.field-0.0 (Wide d es y high) (Wide d es y u) (λ level h. high-wide d es y u x high low level ok b less h) c.in_err-high.ensures.wide)

pub returns-in_err-low-clause-kept : goal.returns-in_err-low-clause-kept
returns-in_err-low-clause-kept t c = Keeps-along _ _ _ c.settle.ensures.kept c.settle-2.ensures.kept

pub returns-in_err-low-clause-wide : goal.returns-in_err-low-clause-wide
returns-in_err-low-clause-wide t c =
    let d = c.args.d.now in
    let es = c.args.census.now in
    let u = c.args.u in
    let y = slice_index d.order c.args.place in
    let ok = c.depth-own.ensures.table in
    let at = depth_in-slice_index d.order c.args.place ok.order c.requires.within in
    let x = c.parts_of-high.result.0 in
    let high = c.parts_of-high.result.1 in
    let low = c.parts_of-high.result.2 in
    let b = c.parts_of-high.ensures in
    let less : depth_of d u < depth_in d.order y =
    above (depth_of d u) (depth_in d.order y) c.depth-own.result c.args.place c.depth-own.ensures.value (sym at) c.if-place-own.false c.if-place-own-2.false in
    let d1 = c.settle.new.d in
    let same : slice_index d1.order c.args.place ≡ y = λ i. slice_index (c.settle.ensures.kept.order i) c.args.place in
    let p = err_from_is_err_and c.from_residual-in_err-low.result c.from_residual-in_err-low.ensures.1 in
    rw (p.1, p.2) (if-wide c.in_err-low.field-0.0 (Wide d1 c.settle.new.census (slice_index d1.order c.args.place) low) (Wide d es y u)
    (λ level h. low-wide d d1 es c.settle.new.census y u x high low level ok b less c.settle.ensures.kept c.in_ok-high.ensures.parts
    (subst (λ z. Wide d1 c.settle.new.census z low level) same h)) c.in_err-low.ensures.wide)

pub returns-in_err-w-2-clause-kept : goal.returns-in_err-w-2-clause-kept
returns-in_err-w-2-clause-kept t c = Keeps-along _ _ _ (Keeps-along _ _ _ c.settle.ensures.kept c.settle-2.ensures.kept) c.make_at.ensures.kept

pub returns-in_err-note-3-clause-kept : goal.returns-in_err-note-3-clause-kept
returns-in_err-note-3-clause-kept t c = Keeps-along _ _ _ (Keeps-along _ _ _ c.settle.ensures.kept c.settle-2.ensures.kept) c.make_at.ensures.kept

pub returns-in_err-note-3-clause-wide : goal.returns-in_err-note-3-clause-wide
returns-in_err-note-3-clause-wide t c =
    let d = c.args.d.now in
    let es = c.args.census.now in
    let u = c.args.u in
    let y = slice_index d.order c.args.place in
    let ok = c.depth-own.ensures.table in
    let at = depth_in-slice_index d.order c.args.place ok.order c.requires.within in
    let x = c.parts_of-high.result.0 in
    let high = c.parts_of-high.result.1 in
    let low = c.parts_of-high.result.2 in
    let b = c.parts_of-high.ensures in
    let less : depth_of d u < depth_in d.order y =
    above (depth_of d u) (depth_in d.order y) c.depth-own.result c.args.place c.depth-own.ensures.value (sym at) c.if-place-own.false c.if-place-own-2.false in
    let d1 = c.settle.new.d in
    let d2 = c.settle-2.new.d in
    let d3 = c.make_at.new.self in
    let w = c.in_ok-w-2.w in
    let same : slice_index d1.order c.args.place ≡ y = λ i. slice_index (c.settle.ensures.kept.order i) c.args.place in
    let k02 = Keeps-along d d1 d2 c.settle.ensures.kept c.settle-2.ensures.kept in
    let k03 = Keeps-along d d2 d3 k02 c.make_at.ensures.kept in
    let none : found c.args.memo.now u u ≡ None = search rules in
    let m = c.in_ok-w-2.ensures.made in
    let own_x : slice_index d2.order c.depth-own.result ≡ x = (λ i. slice_index (k02.order i) (c.depth-own.ensures.value i)) ∙ sym b.variable_is in
    let place_x : depth_in d2.order x ≡ c.depth-own.result = (λ i. depth_in (k02.order i) x) ∙ b.depth_is ∙ sym c.depth-own.ensures.value in
    let s = settles-above d d1 d2 d3 y c.args.memo.now c.settle.new.memo c.settle-2.new.memo c.settle.new.joined c.settle-2.new.joined u x high low c.in_ok-high.high c.in_ok-low.low w
    c.requires.there b less c.settle.ensures.kept c.in_ok-high.ensures.settled c.settle-2.ensures.kept
    (subst (λ z. Settles d2 z c.settle.new.memo c.settle-2.new.memo c.settle-2.new.joined low c.in_ok-low.low) same c.in_ok-low.ensures.settled)
    c.make_at.ensures.kept m.there (omega (arith, place_x, m.depth_is))
    (λ v. m.function v ∙ (λ i. if v (own_x i) then function_of d2 c.in_ok-high.high v else function_of d2 c.in_ok-low.low v)) none in
    let before : (whole : (ℕ → Bool) → Bool) → AreParts d whole es → IsLeftSome d whole y u → AreParts d3 whole c.settle-2.new.census =
    λ whole parts left. parts-kept d2 d3 whole c.settle-2.new.census c.make_at.ensures.kept
    (low-parts d d1 d2 es c.settle.new.census c.settle-2.new.census y u x high low ok b less c.settle.ensures.kept c.in_ok-high.ensures.parts
    (subst (λ z. Stay d1 d2 c.settle.new.census c.settle-2.new.census z low) same c.in_ok-low.ensures.parts) whole parts left) in
    let p = err_from_is_err_and c.from_residual-in_err-note-3.result c.from_residual-in_err-note-3.ensures.1 in
    rw (p.1, p.2) (if-wide c.in_err-note-3.field-0.0 (WouldBeWide d3 c.settle-2.new.census (function_of d3 w) (depth_of d3 w)) (Wide d es y u)
    (λ level h. noted-wide d d3 es c.settle-2.new.census y u w level c.requires.there k03 s.right before h) c.in_err-note-3.ensures.wide)

pub returns-clause-kept : goal.returns-clause-kept
returns-clause-kept t c = Keeps-along _ _ _ (Keeps-along _ _ _ c.settle.ensures.kept c.settle-2.ensures.kept) c.make_at.ensures.kept

pub returns-clause-settled : goal.returns-clause-settled
returns-clause-settled t c =
    let d = c.args.d.now in
    let es = c.args.census.now in
    let u = c.args.u in
    let y = slice_index d.order c.args.place in
    let ok = c.depth-own.ensures.table in
    let at = depth_in-slice_index d.order c.args.place ok.order c.requires.within in
    let x = c.parts_of-high.result.0 in
    let high = c.parts_of-high.result.1 in
    let low = c.parts_of-high.result.2 in
    let b = c.parts_of-high.ensures in
    let less : depth_of d u < depth_in d.order y =
    above (depth_of d u) (depth_in d.order y) c.depth-own.result c.args.place c.depth-own.ensures.value (sym at) c.if-place-own.false c.if-place-own-2.false in
    let d1 = c.settle.new.d in
    let d2 = c.settle-2.new.d in
    let d3 = c.make_at.new.self in
    let w = c.in_ok-w-2.w in
    let same : slice_index d1.order c.args.place ≡ y = λ i. slice_index (c.settle.ensures.kept.order i) c.args.place in
    let k02 = Keeps-along d d1 d2 c.settle.ensures.kept c.settle-2.ensures.kept in
    let k03 = Keeps-along d d2 d3 k02 c.make_at.ensures.kept in
    let none : found c.args.memo.now u u ≡ None = search rules in
    let m = c.in_ok-w-2.ensures.made in
    let own_x : slice_index d2.order c.depth-own.result ≡ x = (λ i. slice_index (k02.order i) (c.depth-own.ensures.value i)) ∙ sym b.variable_is in
    let place_x : depth_in d2.order x ≡ c.depth-own.result = (λ i. depth_in (k02.order i) x) ∙ b.depth_is ∙ sym c.depth-own.ensures.value in
    let s = settles-above d d1 d2 d3 y c.args.memo.now c.settle.new.memo c.settle-2.new.memo c.settle.new.joined c.settle-2.new.joined u x high low c.in_ok-high.high c.in_ok-low.low w
    c.requires.there b less c.settle.ensures.kept c.in_ok-high.ensures.settled c.settle-2.ensures.kept
    (subst (λ z. Settles d2 z c.settle.new.memo c.settle-2.new.memo c.settle-2.new.joined low c.in_ok-low.low) same c.in_ok-low.ensures.settled)
    c.make_at.ensures.kept m.there (omega (arith, place_x, m.depth_is))
    (λ v. m.function v ∙ (λ i. if v (own_x i) then function_of d2 c.in_ok-high.high v else function_of d2 c.in_ok-low.low v)) none in
    subst (λ after. Settles d3 y c.args.memo.now after c.settle-2.new.joined u w) (sym c.in_ok-note-3.ensures.noted) s

pub returns-clause-parts : goal.returns-clause-parts
returns-clause-parts t c =
    let d = c.args.d.now in
    let es = c.args.census.now in
    let u = c.args.u in
    let y = slice_index d.order c.args.place in
    let ok = c.depth-own.ensures.table in
    let at = depth_in-slice_index d.order c.args.place ok.order c.requires.within in
    let x = c.parts_of-high.result.0 in
    let high = c.parts_of-high.result.1 in
    let low = c.parts_of-high.result.2 in
    let b = c.parts_of-high.ensures in
    let less : depth_of d u < depth_in d.order y =
    above (depth_of d u) (depth_in d.order y) c.depth-own.result c.args.place c.depth-own.ensures.value (sym at) c.if-place-own.false c.if-place-own-2.false in
    let d1 = c.settle.new.d in
    let d2 = c.settle-2.new.d in
    let d3 = c.make_at.new.self in
    let w = c.in_ok-w-2.w in
    let same : slice_index d1.order c.args.place ≡ y = λ i. slice_index (c.settle.ensures.kept.order i) c.args.place in
    let k02 = Keeps-along d d1 d2 c.settle.ensures.kept c.settle-2.ensures.kept in
    let k03 = Keeps-along d d2 d3 k02 c.make_at.ensures.kept in
    let none : found c.args.memo.now u u ≡ None = search rules in
    let m = c.in_ok-w-2.ensures.made in
    let own_x : slice_index d2.order c.depth-own.result ≡ x = (λ i. slice_index (k02.order i) (c.depth-own.ensures.value i)) ∙ sym b.variable_is in
    let place_x : depth_in d2.order x ≡ c.depth-own.result = (λ i. depth_in (k02.order i) x) ∙ b.depth_is ∙ sym c.depth-own.ensures.value in
    let s = settles-above d d1 d2 d3 y c.args.memo.now c.settle.new.memo c.settle-2.new.memo c.settle.new.joined c.settle-2.new.joined u x high low c.in_ok-high.high c.in_ok-low.low w
    c.requires.there b less c.settle.ensures.kept c.in_ok-high.ensures.settled c.settle-2.ensures.kept
    (subst (λ z. Settles d2 z c.settle.new.memo c.settle-2.new.memo c.settle-2.new.joined low c.in_ok-low.low) same c.in_ok-low.ensures.settled)
    c.make_at.ensures.kept m.there (omega (arith, place_x, m.depth_is))
    (λ v. m.function v ∙ (λ i. if v (own_x i) then function_of d2 c.in_ok-high.high v else function_of d2 c.in_ok-low.low v)) none in
    let before : (whole : (ℕ → Bool) → Bool) → AreParts d whole es → IsLeftSome d whole y u → AreParts d3 whole c.settle-2.new.census =
    λ whole parts left. parts-kept d2 d3 whole c.settle-2.new.census c.make_at.ensures.kept
    (low-parts d d1 d2 es c.settle.new.census c.settle-2.new.census y u x high low ok b less c.settle.ensures.kept c.in_ok-high.ensures.parts
    (subst (λ z. Stay d1 d2 c.settle.new.census c.settle-2.new.census z low) same c.in_ok-low.ensures.parts) whole parts left) in
    noted-parts d d3 es c.settle-2.new.census c.note-2.new.census y u w c.requires.there k03 s.right before c.in_ok-note-3.ensures.parts
