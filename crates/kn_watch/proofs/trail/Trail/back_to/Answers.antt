use Rattle.std.proofs.Common.{◌≡◌, ◌+◌, ◌++◌, Bool, List, Option, take, drop, length, sym, ap, ◌∙◌, subst, arith}
use Rattle.kn_watch.specs.declared.trail.Made.{Made}
use Rattle.kn_watch.specs.Trails.{Trailed, IsTrail, IsFront, IsRising, below}
use Rattle.kn_watch.proofs.Tabled.{tables_back, written_back}
use Rattle.kn_watch.proofs.Cutting.{cut_trail, cut_front}
use Rattle.kn_watch.proofs.trail.Trail.back_to.Goals as goal

pub take_back-count-requires-clause-rising : goal.take_back-count-requires-clause-rising
take_back-count-requires-clause-rising c = (c.self.inside.level, subst (λ (x : List Made). IsRising c.self.inside.level x) (sym c.deref.ensures.value) c.self.invariant.0.rising)

pub invariant_of-self : goal.invariant_of-self
invariant_of-self c =
    let t : Trailed = record { vars = c.self.inside.vars; level = c.self.inside.level; made = c.self.inside.made.items } in
    let cut : take c.take_back-count.result c.self.inside.made.items ≡ below (c.args.level + 1) c.self.inside.made.items = subst (λ (x : List Made). take c.take_back-count.result x ≡ below (c.args.level + 1) x) c.deref.ensures.value c.take_back-count.ensures.below in
    let written = c.take_back-count.new.values in
    let long : c.self.inside.values.len ≡ length written = omega (arith, c.take_back-count.ensures.tables.valued, c.self.invariant.2.valued, c.deref_mut.ensures.len, ap (λ (x : List (Option Bool)). length x) c.deref_mut.ensures.value) in
    let tables = tables_back c.self.inside.vars (take c.take_back-count.result c.deref.result.now) c.truncate.new.self.items written (take c.self.inside.values.len (written ++ drop (length written) c.self.inside.values.items)) c.deref-2.result.now c.self.inside.places.items
    (c.truncate.ensures.items ∙ ap (take c.take_back-count.result) (sym c.deref.ensures.value)) (written_back c.self.inside.values.len written c.self.inside.values.items long) c.deref-2.ensures.value c.take_back-count.ensures.tables in
    (subst (λ (x : List Made). IsTrail (record { vars = c.self.inside.vars; level = c.args.level; made = x })) (sym c.truncate.ensures.items) (cut_trail t c.args.level c.take_back-count.result c.self.invariant.0 cut), omega (arith, c.self.invariant.1, c.truncate.ensures.capacity), tables)

pub returns-clause-front : goal.returns-clause-front
returns-clause-front c = subst (IsFront c.truncate.new.self.items) (ap (λ (x : Trailed). x.made) c.self.view_is) (cut_front c.self.inside.made.items c.truncate.new.self.items c.take_back-count.result c.truncate.ensures.items)

pub returns-clause-kept : goal.returns-clause-kept
returns-clause-kept c =
    let t : Trailed = record { vars = c.self.inside.vars; level = c.self.inside.level; made = c.self.inside.made.items } in
    let cut : take c.take_back-count.result c.self.inside.made.items ≡ below (c.args.level + 1) c.self.inside.made.items = subst (λ (x : List Made). take c.take_back-count.result x ≡ below (c.args.level + 1) x) c.deref.ensures.value c.take_back-count.ensures.below in
    subst (λ (x : List Made). IsTrail (record { vars = c.self.inside.vars; level = c.args.level; made = x })) (sym c.truncate.ensures.items) (cut_trail t c.args.level c.take_back-count.result c.self.invariant.0 cut)
