use Rattle.std.proofs.Common.{List, sym, ◌∙◌, subst}
use Rattle.kn_logic.specs.Literals.{Literal}
use Rattle.kn_watch.specs.Trails.{literals}
use Rattle.kn_kinds.specs.Kinds.{either_place, ArePlaces}
use Rattle.kn_kinds.specs.Latest.{AreLatest}
use Rattle.kn_kinds.proofs.Clauses.{clause_watches, listed_own}
use Rattle.kn_kinds.proofs.Surveys.{start_means}
use Rattle.kn_kinds.proofs.clause_watch.ClauseWatchWatched.first_watches.Goals as goal

pub returns-clause-watches : goal.returns-clause-watches
returns-clause-watches c =
    let w = c.args.self.now in
    let both = c.two_latest-first.result in
    clause_watches w.clause both.0 both.1 w.is_clause (subst (λ (x : List Literal). ArePlaces both.0 both.1 x) c.lits.ensures c.two_latest-first.ensures.places)

pub returns-clause-means : goal.returns-clause-means
returns-clause-means c =
    let w = c.args.self.now in
    let both = c.two_latest-first.result in
    let watches = clause_watches w.clause both.0 both.1 w.is_clause (subst (λ (x : List Literal). ArePlaces both.0 both.1 x) c.lits.ensures c.two_latest-first.ensures.places) in
    let latest = subst (λ (x : List Literal). AreLatest (literals c.args.trail.now.made) x (either_place both.0 both.1)) (c.lits.ensures ∙ sym (listed_own w.clause w.is_clause)) c.two_latest-first.ensures.latest in
    start_means c.args.trail.now w.clause (either_place both.0 both.1) c.survey.result c.survey.ensures.kept watches latest c.survey.ensures.means
