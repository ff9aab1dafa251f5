use Rattle.std.proofs.Common.{◌≡◌, Bool, List, false, length, sym, ap, ◌∙◌, subst}
use Rattle.kn_logic.specs.Literals.{Literal}
use Rattle.kn_watch.specs.Trails.{literals}
use Rattle.kn_kinds.specs.Kinds.{marked_place, AreFalseUnmarked}
use Rattle.kn_kinds.proofs.Klauses.{klause_moves, klause_stays}
use Rattle.kn_kinds.proofs.guard_watch.GuardWatchWatched.turned_false.Goals as goal

pub returns-in-Some-clause-watches : goal.returns-in-Some-clause-watches
returns-in-Some-clause-watches c =
    let w = c.args.self.now in
    let found = c.in-Some.ensures.some in
    let long = w.marked.0 ∙ ap (λ (x : List Literal). length x) (sym c.deref.ensures.value) in
    let unmarked = subst (λ (x : List Bool). marked_place x c.in-Some.to ≡ false) c.deref-2.ensures.value found.1 in
    klause_moves w.klause c.deref.result.now w.marks.items c.args.place c.in-Some.to (c.deref.ensures.value ∙ w.listed) long c.requires.watches c.requires.within c.requires.watched found.0 unmarked

pub returns-in-None-clause-means : goal.returns-in-None-clause-means
returns-in-None-clause-means c =
    let w = c.args.self.now in
    let shut = subst (λ (x : List Bool). AreFalseUnmarked (literals c.args.trail.now.made) c.deref.result.now x) c.deref-2.ensures.value c.in-None.ensures.none in
    klause_stays (literals c.args.trail.now.made) w.klause c.deref.result.now w.marks.items c.args.place c.survey.result (c.deref.ensures.value ∙ w.listed) c.requires.watches shut c.requires.within c.requires.watched c.requires.is_false c.survey.ensures.means
