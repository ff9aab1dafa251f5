use Rattle.std.proofs.Common.{◌≡◌, ◌+◌, Bool, List, min, length, ap, ◌∙◌, arith}
use Rattle.kn_logic.specs.Literals.{Literal}
use Rattle.kn_kinds.proofs.Klauses.{klause_starts}
use Rattle.kn_kinds.proofs.guard_watch.GuardWatchWatched.first_watches.Goals as goal

pub returns-clause-means : goal.returns-clause-means
returns-clause-means c =
    let w = c.args.self.now in
    let new = c.choose.new.marks in
    let same = (c.deref.ensures.value ∙ w.listed) in
    let wanted : c.watch_count-wanted.result ≡ min (c.bound.result + 1) (length c.deref.result.now) = c.watch_count-wanted.ensures ∙ ap (min (c.bound.result + 1)) (omega (arith, c.len.ensures, c.deref.ensures.len)) in
    let long : w.marks.len ≡ length new = omega (arith, c.deref_mut.ensures.len, ap (λ (x : List Bool). length x) c.deref_mut.ensures.value, c.choose.ensures.long, w.marked.0, ap (λ (x : List Literal). length x) c.deref.ensures.value) in
    klause_starts c.args.trail.now w.klause c.deref.result.now w.marks.items new w.marks.len c.watch_count-wanted.result c.bound.result c.survey.result c.survey.ensures.kept same long c.bound.ensures wanted c.choose.ensures.count c.choose.ensures.latest c.survey.ensures.means
