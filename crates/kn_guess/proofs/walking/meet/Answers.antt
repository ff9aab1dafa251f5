use Rattle.std.proofs.Common.{◌-◌, ◌∙◌, ◌==◌, ◌||◌, sym, ap, arith, refl}
use Rattle.kn_logic.specs.Groups.{is_among}
use Rattle.kn_guess.specs.Walks.{is_later}
use Rattle.kn_guess.proofs.Walked.{IsJoin, meeting-start, meeting-drop, meeting-join, meeting-full, meeting-all, meeting-none}
use Rattle.kn_guess.proofs.walking.meet.Goals as goal

pub loop-at-init : goal.loop-at-init
loop-at-init c = meeting-start (is_later c.args.later.now.seed c.args.later.now.free.now) c.args.vars.now c.args.met.now c.args.set.now c.len-at.result c.len-at.ensures c.requires.within c.requires.few

pub loop-at-preserved-then-not-is_later : goal.loop-at-preserved-then-not-is_later
loop-at-preserved-then-not-is_later c =
    let at = c.loop-at.at in let test = c.loop-at-test.true in
    meeting-drop (is_later c.args.later.now.seed c.args.later.now.free.now) c.args.vars.now c.loop-at.vars c.drop_at.new.self c.args.met.now c.loop-at.met c.args.set.now c.loop-at.set at (at - 1) c.at-var.result c.loop-at.found
    c.loop-at.invariant (omega (arith, test)) (sym c.is_later.ensures ∙ c.if-not-is_later.true)
    (λ w. c.drop_at.ensures.among w ∙ ap (λ z. is_among c.drop_at.new.self w || (z == w)) (sym c.at-var.ensures)) c.drop_at.ensures.behind c.drop_at.ensures.len

pub returns-then-len-gt-MOST_AUX-clause-within : goal.returns-then-len-gt-MOST_AUX-clause-within
returns-then-len-gt-MOST_AUX-clause-within c =
    let at = c.loop-at.at in let test = c.loop-at-test.true in
    let join : IsJoin c.loop-at.met c.join.new.met c.loop-at.set c.join.new.set c.at-var.result c.in_ok-found.field-0 = record { new_is = c.in_ok-found.ensures.new; met_is = c.in_ok-found.ensures.met; set_is = c.in_ok-found.ensures.set } in
    (meeting-full (is_later c.args.later.now.seed c.args.later.now.free.now) c.args.vars.now c.loop-at.vars c.args.met.now c.loop-at.met c.join.new.met c.args.set.now c.loop-at.set c.join.new.set at (at - 1) c.at-var.result c.loop-at.found c.in_ok-found.field-0
    c.loop-at.invariant (omega (arith, test)) c.at-var.ensures (sym c.is_later.ensures ∙ c.if-not-is_later.false) join).0

pub returns-then-len-gt-MOST_AUX-clause-met : goal.returns-then-len-gt-MOST_AUX-clause-met
returns-then-len-gt-MOST_AUX-clause-met c =
    let at = c.loop-at.at in let test = c.loop-at-test.true in
    let join : IsJoin c.loop-at.met c.join.new.met c.loop-at.set c.join.new.set c.at-var.result c.in_ok-found.field-0 = record { new_is = c.in_ok-found.ensures.new; met_is = c.in_ok-found.ensures.met; set_is = c.in_ok-found.ensures.set } in
    (meeting-full (is_later c.args.later.now.seed c.args.later.now.free.now) c.args.vars.now c.loop-at.vars c.args.met.now c.loop-at.met c.join.new.met c.args.set.now c.loop-at.set c.join.new.set at (at - 1) c.at-var.result c.loop-at.found c.in_ok-found.field-0
    c.loop-at.invariant (omega (arith, test)) c.at-var.ensures (sym c.is_later.ensures ∙ c.if-not-is_later.false) join).1

pub returns-then-len-gt-MOST_AUX-clause-set : goal.returns-then-len-gt-MOST_AUX-clause-set
returns-then-len-gt-MOST_AUX-clause-set c =
    let at = c.loop-at.at in let test = c.loop-at-test.true in
    let join : IsJoin c.loop-at.met c.join.new.met c.loop-at.set c.join.new.set c.at-var.result c.in_ok-found.field-0 = record { new_is = c.in_ok-found.ensures.new; met_is = c.in_ok-found.ensures.met; set_is = c.in_ok-found.ensures.set } in
    (meeting-full (is_later c.args.later.now.seed c.args.later.now.free.now) c.args.vars.now c.loop-at.vars c.args.met.now c.loop-at.met c.join.new.met c.args.set.now c.loop-at.set c.join.new.set at (at - 1) c.at-var.result c.loop-at.found c.in_ok-found.field-0
    c.loop-at.invariant (omega (arith, test)) c.at-var.ensures (sym c.is_later.ensures ∙ c.if-not-is_later.false) join).2

pub loop-at-preserved : goal.loop-at-preserved
loop-at-preserved c =
    let at = c.loop-at.at in let test = c.loop-at-test.true in
    let long = c.len.ensures in let few = c.if-len-gt-MOST_AUX.false in
    let join : IsJoin c.loop-at.met c.join.new.met c.loop-at.set c.join.new.set c.at-var.result c.in_ok-found.field-0 = record { new_is = c.in_ok-found.ensures.new; met_is = c.in_ok-found.ensures.met; set_is = c.in_ok-found.ensures.set } in
    meeting-join (is_later c.args.later.now.seed c.args.later.now.free.now) c.args.vars.now c.loop-at.vars c.args.met.now c.loop-at.met c.join.new.met c.args.set.now c.loop-at.set c.join.new.set at (at - 1) c.at-var.result c.loop-at.found c.in_ok-found.field-0 _
    c.loop-at.invariant (omega (arith, test)) c.at-var.ensures (sym c.is_later.ensures ∙ c.if-not-is_later.false) join refl (omega (arith, long, few))

pub returns-clause-all : goal.returns-clause-all
returns-clause-all c = λ few v q.
    let end = c.loop-at-test.false in
    c.loop-at.invariant.within v (meeting-all (is_later c.args.later.now.seed c.args.later.now.free.now) c.args.vars.now c.loop-at.vars c.args.met.now c.loop-at.met c.args.set.now c.loop-at.set c.loop-at.at c.loop-at.found c.loop-at.invariant (omega (arith, end)) v q)

pub returns-clause-none : goal.returns-clause-none
returns-clause-none c = λ n.
    let end = c.loop-at-test.false in
    meeting-none (is_later c.args.later.now.seed c.args.later.now.free.now) c.args.vars.now c.loop-at.vars c.args.met.now c.loop-at.met c.args.set.now c.loop-at.set c.loop-at.at c.loop-at.found c.loop-at.invariant (omega (arith, end)) n
