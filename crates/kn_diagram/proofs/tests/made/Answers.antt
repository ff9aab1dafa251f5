use Rattle.std.proofs.Common.{◌≡◌, ◌∙◌, ap, length, arith, lit<}
use Rattle.kn_diagram.specs.Diagrams.{depth_in}
use Rattle.kn_diagram.proofs.NodeLemmas.{depth_of-constant}
use Rattle.kn_diagram.proofs.tests.made.Goals as goal

pub make-requires-clause-above_high : goal.make-requires-clause-above_high
make-requires-clause-above_high c =
    let place : depth_in c.args.d.now.order 1 ≡ 3 = ap (λ o. depth_in o 1) c.requires in
    let len : length c.args.d.now.order ≡ 4 = ap length c.requires in
    omega (arith, place, len, depth_of-constant c.args.d.now 1 (lit< tt))

pub make-requires-clause-above_low : goal.make-requires-clause-above_low
make-requires-clause-above_low c =
    let place : depth_in c.args.d.now.order 1 ≡ 3 = ap (λ o. depth_in o 1) c.requires in
    let len : length c.args.d.now.order ≡ 4 = ap length c.requires in
    omega (arith, place, len, depth_of-constant c.args.d.now 0 (lit< tt))

pub make-requires-2-clause-above_high : goal.make-requires-2-clause-above_high
make-requires-2-clause-above_high c =
    let order = c.make.ensures.kept.order ∙ c.requires in
    let place : depth_in c.make.new.self.order 2 ≡ 2 = ap (λ o. depth_in o 2) order in
    let len : length c.make.new.self.order ≡ 4 = ap length order in
    omega (arith, place, len, depth_of-constant c.make.new.self 1 (lit< tt))
