use Rattle.std.proofs.Common.{◌≡◌, Bool, List, length, ap, ◌∙◌, arith}
use Rattle.kn_logic.specs.Literals.{Literal}
use Rattle.kn_kinds.proofs.Klauses.{listed_plain, klause_starts}
use Rattle.kn_kinds.proofs.klause_watch.KlauseWatchWatched.first_watches.Goals as goal

pub returns-clause-means : goal.returns-clause-means
returns-clause-means c =
    let w = c.args.self.now in
    let new = c.choose.new.marks in
    let same = (c.lits-lits.ensures ∙ listed_plain w.klause w.plain) in
    let long : w.marks.len ≡ length new = omega (arith, c.deref_mut.ensures.len, ap (λ (x : List Bool). length x) c.deref_mut.ensures.value, c.choose.ensures.long, w.marked.0, ap (λ (x : List Literal). length x) c.lits-lits.ensures) in
    klause_starts c.args.trail.now w.klause c.lits-lits.result.now w.marks.items new w.marks.len c.watch_count-wanted.result c.bound.result c.survey.result c.survey.ensures.kept same long c.bound.ensures c.watch_count-wanted.ensures c.choose.ensures.count c.choose.ensures.latest c.survey.ensures.means
