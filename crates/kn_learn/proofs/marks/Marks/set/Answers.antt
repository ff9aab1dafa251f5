use Rattle.std.proofs.Common.{ℕ, List, sym, subst}
use Rattle.std.specs.Prelude.{slice_set}
use Rattle.kn_learn.specs.Marking.{AreTouched}
use Rattle.kn_learn.proofs.Touching.{touched-set, touched-longer}
use Rattle.kn_learn.proofs.marks.Marks.set.Goals as goal

pub invariant_of-self-2 : goal.invariant_of-self-2
invariant_of-self-2 c =
    let touched : List ℕ = c.self.inside.touched.items in
    subst (λ (ps : List ℕ). AreTouched ps (slice_set c.reach.new.marks.items c.args.place c.args.mark)) (sym c.in_ok-push.ensures.items)
    (touched-set touched c.reach.new.marks.items c.args.place c.args.mark c.in_ok-reach.ensures.long
    (touched-longer touched c.self.inside.marks.items c.reach.new.marks.items c.reach.ensures.longer c.reach.ensures.same c.self.invariant))
