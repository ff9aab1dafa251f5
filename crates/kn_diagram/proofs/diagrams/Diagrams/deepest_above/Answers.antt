use Rattle.std.proofs.Common.{◌≡◌, ◌<◌, ◌≤◌, ◌∙◌, ap, sym, subst, arith, length, slice_index}
use Rattle.kn_diagram.specs.Diagrams.{IsTable}
use Rattle.kn_diagram.proofs.DependLemmas.{depth-depends, depth-ignores}
use Rattle.kn_diagram.proofs.WideLemmas.{level-at}
use Rattle.kn_diagram.proofs.diagrams.Diagrams.deepest_above.Goals as goal

pub returns-in_default-clause-none : goal.returns-in_default-clause-none
returns-in_default-clause-none c k h =
    let d = c.args.self.now in
    let within : k < length d.order = omega (arith, h, c.requires.within) in
    let none = c.in_default.ensures.none k h in
    depth-ignores d c.args.f k (subst IsTable c.self.view_is c.self.invariant) c.requires.there within
    (sym (c.in_ok-widths.ensures.widths k within) ∙ ap (λ ws. slice_index ws k) (sym c.deref.ensures.value) ∙ none)

pub returns-clause-above : goal.returns-clause-above
returns-clause-above c =
    let d = c.args.self.now in
    let place = c.in-Some.place in
    let within : place < length d.order = omega (arith, c.in-Some.ensures.some.0, c.requires.within) in
    let is = level-at c.self.inside.order.items d.order place c.index.result.now (λ i. (c.self.view_is i).order) within c.index.ensures in
    let used : 1 ≤ slice_index c.in_ok-widths.widths.items place = subst (λ ws. 1 ≤ slice_index ws place) c.deref.ensures.value c.in-Some.ensures.some.1 in
    let p = depth-depends d c.args.f place c.index.result.now (subst IsTable c.self.view_is c.self.invariant) c.requires.there within is
    (omega (arith, used, c.in_ok-widths.ensures.widths place within)) in
    omega (arith, p.0, c.in-Some.ensures.some.0)

pub returns-clause-depends : goal.returns-clause-depends
returns-clause-depends c =
    let d = c.args.self.now in
    let place = c.in-Some.place in
    let within : place < length d.order = omega (arith, c.in-Some.ensures.some.0, c.requires.within) in
    let is = level-at c.self.inside.order.items d.order place c.index.result.now (λ i. (c.self.view_is i).order) within c.index.ensures in
    let used : 1 ≤ slice_index c.in_ok-widths.widths.items place = subst (λ ws. 1 ≤ slice_index ws place) c.deref.ensures.value c.in-Some.ensures.some.1 in
    (depth-depends d c.args.f place c.index.result.now (subst IsTable c.self.view_is c.self.invariant) c.requires.there within is
    (omega (arith, used, c.in_ok-widths.ensures.widths place within))).1

pub returns-clause-deepest : goal.returns-clause-deepest
returns-clause-deepest c k past h =
    let d = c.args.self.now in
    let place = c.in-Some.place in
    let inside : place < length d.order = omega (arith, c.in-Some.ensures.some.0, c.requires.within) in
    let is = level-at c.self.inside.order.items d.order place c.index.result.now (λ i. (c.self.view_is i).order) inside c.index.ensures in
    let used : 1 ≤ slice_index c.in_ok-widths.widths.items place = subst (λ ws. 1 ≤ slice_index ws place) c.deref.ensures.value c.in-Some.ensures.some.1 in
    let at = (depth-depends d c.args.f place c.index.result.now (subst IsTable c.self.view_is c.self.invariant) c.requires.there inside is
    (omega (arith, used, c.in_ok-widths.ensures.widths place inside))).0 in
    let within : k < length d.order = omega (arith, h, c.requires.within) in
    let last = c.in-Some.ensures.last k (omega (arith, past, at)) h in
    depth-ignores d c.args.f k (subst IsTable c.self.view_is c.self.invariant) c.requires.there within
    (sym (c.in_ok-widths.ensures.widths k within) ∙ ap (λ ws. slice_index ws k) (sym c.deref.ensures.value) ∙ last)
