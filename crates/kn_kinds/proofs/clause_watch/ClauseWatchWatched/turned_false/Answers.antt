use Rattle.std.proofs.Common.{◌≡◌, ◌≢◌, ◌<◌, ℕ, List, true, false, length, sym, ap, ◌∙◌, subst, refl, arith}
use Rattle.kn_logic.specs.Literals.{Literal}
use Rattle.kn_logic.specs.Propagation.{is_open}
use Rattle.kn_watch.specs.declared.watched.Visit.{Visit}
use Rattle.kn_watch.specs.Trails.{literals}
use Rattle.kn_watch.specs.Watches.{lit_at, IsTurn}
use Rattle.kn_kinds.specs.Kinds.{either_place}
use Rattle.kn_kinds.proofs.Clauses.{clause_watches, own_place, visit_satisfied, visit_last, clause_moved, moved_places, only_open}
use Rattle.kn_kinds.proofs.clause_watch.ClauseWatchWatched.turned_false.Goals as goal

pub returns-in-Satisfied-clause-means : goal.returns-in-Satisfied-clause-means
returns-in-Satisfied-clause-means c =
    let w = c.args.self.now in
    let other = c.other_watch-other.result in
    (refl, visit_satisfied (literals c.args.trail.now.made) w.clause other.0 other.1 w.is_clause c.other_watch-other.ensures.lit (sym c.last_visit-last.ensures ∙ c.in-Satisfied.is))

pub returns-in-Some-clause-watches : goal.returns-in-Some-clause-watches
returns-in-Some-clause-watches c =
    let w = c.args.self.now in
    let other = c.other_watch-other.result in
    let found = c.in-Some.ensures.some in
    let places = moved_places c.args.place other.0 c.in-Some.to w.clause.lits c.other_watch-other.ensures.places found.2 (omega (arith, found.0, ap (λ (x : List Literal). length x) c.lits.ensures)) in
    clause_watches w.clause other.0 c.in-Some.to w.is_clause places

pub returns-in-Some-clause-means : goal.returns-in-Some-clause-means
returns-in-Some-clause-means c =
    let w = c.args.self.now in
    let other = c.other_watch-other.result in
    let found = c.in-Some.ensures.some in
    let lt : c.in-Some.to < length w.clause.lits = omega (arith, found.0, ap (λ (x : List Literal). length x) c.lits.ensures) in
    let free = subst (λ (x : List Literal). is_open (literals c.args.trail.now.made) (lit_at x c.in-Some.to) ≡ true) c.lits.ensures found.3 in
    clause_moved (literals c.args.trail.now.made) w.clause w.first w.second c.args.place other.0 c.in-Some.to w.is_clause c.other_watch-other.ensures.both c.other_watch-other.ensures.places.0 lt found.1 found.2 free

pub returns-in-None-clause-means : goal.returns-in-None-clause-means
returns-in-None-clause-means c =
    let w = c.args.self.now in
    let trail = literals c.args.trail.now.made in
    let other = c.other_watch-other.result in
    let rest = subst (λ (x : List Literal). (at : ℕ) → at < length x → at ≢ c.args.place → at ≢ other.0 → is_open trail (lit_at x at) ≡ false) c.lits.ensures c.in-None.ensures.none in
    let only = only_open trail w.clause c.args.place other.0 c.requires.is_false (own_place w.clause c.args.place w.is_clause c.requires.within) rest in
    subst (λ (v : Visit). IsTurn trail w.clause (either_place w.first w.second) (either_place w.first w.second) c.args.place v) (sym c.last_visit-last.ensures)
    (visit_last trail w.clause (either_place w.first w.second) c.args.place other.0 other.1 w.is_clause only c.other_watch-other.ensures.lit)
