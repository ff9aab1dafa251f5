use Rattle.std.proofs.Common.{◌≡◌, ◌∙◌, sym, subst, min, rules, arith, None, List}
use Rattle.std.proofs.lemmas.Result.{err_from_is_err_and}
use Rattle.kn_diagram.specs.declared.trace.Met.{Met}
use Rattle.kn_diagram.specs.Diagrams.{function_of, depth_of}
use Rattle.kn_diagram.specs.Wide.{IsWideAt}
use Rattle.kn_diagram.specs.Traces.{found, connective, Gains}
use Rattle.kn_diagram.specs.Censuses.{WouldBeWide}
use Rattle.kn_diagram.proofs.NodeLemmas.{Keeps-along}
use Rattle.kn_diagram.proofs.JoinLemmas.{Gains-known, Gains-decided, Gains-open, decided-explained, decided-none}
use Rattle.kn_diagram.proofs.PartLemmas.{joined_of, if-wide, IsOpen, decided-wide, decided-parts, high-wide, low-wide, made-parts, made-left}
use Rattle.kn_diagram.proofs.diagrams.Diagrams.+join.Goals as goal

pub returns-in-Some-clause-joined : goal.returns-in-Some-clause-joined
returns-in-Some-clause-joined t c =
    Gains-known (connective c.args.joint) c.args.self.now c.args.memo.now c.args.f c.args.g c.in-Some.w c.requires.explained (sym c.in-Some.ensures)

pub returns-in-Some-decided-clause-joined : goal.returns-in-Some-decided-clause-joined
returns-in-Some-decided-clause-joined t c =
    let P : List Met → Type 0 = λ after. Gains (connective c.args.joint) c.args.self.now c.args.memo.now after c.args.f c.args.g c.in-Some-decided.w in
    let none : found c.args.memo.now c.args.f c.args.g ≡ None = search rules in
    subst P (sym c.in_ok-insert.ensures.ok)
    (Gains-decided c.args.joint c.args.self.now c.args.memo.now c.args.f c.args.g c.in-Some-decided.w c.requires.f_there c.requires.g_there c.requires.explained
    none (sym c.in-Some-decided.ensures))

pub returns-in_err-low-clause-kept : goal.returns-in_err-low-clause-kept
returns-in_err-low-clause-kept t c = Keeps-along _ _ _ c.join.ensures.kept c.join-2.ensures.kept

pub returns-in_err-w-clause-kept : goal.returns-in_err-w-clause-kept
returns-in_err-w-clause-kept t c = Keeps-along _ _ _ (Keeps-along _ _ _ c.join.ensures.kept c.join-2.ensures.kept) c.make_at.ensures.kept

pub returns-in_err-insert-2-clause-kept : goal.returns-in_err-insert-2-clause-kept
returns-in_err-insert-2-clause-kept t c = Keeps-along _ _ _ (Keeps-along _ _ _ c.join.ensures.kept c.join-2.ensures.kept) c.make_at.ensures.kept

pub returns-clause-kept : goal.returns-clause-kept
returns-clause-kept t c = Keeps-along _ _ _ (Keeps-along _ _ _ c.join.ensures.kept c.join-2.ensures.kept) c.make_at.ensures.kept

pub returns-clause-joined : goal.returns-clause-joined
returns-clause-joined t c =
    let P : List Met → Type 0 = λ after. Gains (connective c.args.joint) c.make_at.new.self c.args.memo.now after c.args.f c.args.g c.in_ok-w.w in
    let none : found c.args.memo.now c.args.f c.args.g ≡ None = search rules in
    let at : c.min-depth.result ≡ min (depth_of c.args.self.now c.args.f) (depth_of c.args.self.now c.args.g) = search rules in
    subst P (sym c.in_ok-insert-2.ensures.ok)
    (Gains-open (connective c.args.joint) c.args.self.now c.join.new.self c.join-2.new.self c.make_at.new.self c.args.memo.now c.join.new.memo c.join-2.new.memo
    c.args.f c.args.g c.min-depth.result c.halves-f_high.result.0 c.halves-f_high.result.1 c.halves-g_high.result.0 c.halves-g_high.result.1
    c.in_ok-high.high c.in_ok-low.low c.in_ok-w.w at c.requires.f_there c.requires.g_there c.halves-f_high.ensures c.halves-g_high.ensures
    c.join.ensures.kept c.in_ok-high.ensures.joined c.join-2.ensures.kept c.in_ok-low.ensures.joined c.make_at.ensures.kept c.in_ok-w.ensures.made none)

pub returns-in_err-count_result-clause-wide : goal.returns-in_err-count_result-clause-wide
returns-in_err-count_result-clause-wide t c =
    let d = c.args.self.now in
    let join = connective c.args.joint in
    let w = c.in-Some-decided.w in
    let p = err_from_is_err_and c.from_residual-in_err-count_result.result c.from_residual-in_err-count_result.ensures.1 in
    let right = (decided-explained c.args.joint d c.args.memo.now c.args.f c.args.g w c.requires.f_there c.requires.g_there (sym c.in-Some-decided.ensures)).right in
    rw (p.1, p.2) (if-wide c.in_err-count_result.field-0.0 (WouldBeWide d c.args.census.now (function_of d w) (depth_of d w))
    (WouldBeWide d c.args.census.now (joined_of join d c.args.f c.args.g) (min (depth_of d c.args.f) (depth_of d c.args.g)))
    (λ level h. decided-wide join d c.args.census.now c.args.f c.args.g w level right h) c.in_err-count_result.ensures.wide)

pub returns-in-Some-decided-clause-parts : goal.returns-in-Some-decided-clause-parts
returns-in-Some-decided-clause-parts t c =
    let d = c.args.self.now in
    let w = c.in-Some-decided.w in
    let right = (decided-explained c.args.joint d c.args.memo.now c.args.f c.args.g w c.requires.f_there c.requires.g_there (sym c.in-Some-decided.ensures)).right in
    decided-parts (connective c.args.joint) d c.args.census.now c.count_result.new.census c.args.f c.args.g w right c.in_ok-count_result.ensures.parts

pub returns-in_err-high-clause-wide : goal.returns-in_err-high-clause-wide
returns-in_err-high-clause-wide t c =
    let d = c.args.self.now in
    let join = connective c.args.joint in
    let fh = c.halves-f_high.result.0 in
    let gh = c.halves-g_high.result.0 in
    let p = err_from_is_err_and c.from_residual-in_err-high.result c.from_residual-in_err-high.ensures.1 in
    let at : c.min-depth.result ≡ min (depth_of d c.args.f) (depth_of d c.args.g) = search rules in
    let two = decided-none c.args.joint c.args.f c.args.g (sym c.decided.ensures ∙ c.in_default-decided.is) in
    let o : IsOpen d c.args.f c.args.g c.min-depth.result fh c.halves-f_high.result.1 gh c.halves-g_high.result.1 = record {
      table = c.depth-f_depth.ensures.table;
      f_there = c.requires.f_there;
      g_there = c.requires.g_there;
      within = omega (arith, at, c.depth-f_depth.ensures.value, c.depth-f_depth.ensures.branch two.0);
      at = at;
      left = c.halves-f_high.ensures;
      right = c.halves-g_high.ensures;
    } in
    rw (p.1, p.2) (if-wide c.in_err-high.field-0.0 (WouldBeWide d c.args.census.now (joined_of join d fh gh) (min (depth_of d fh) (depth_of d gh)))
    (WouldBeWide d c.args.census.now (joined_of join d c.args.f c.args.g) (min (depth_of d c.args.f) (depth_of d c.args.g)))
    (λ level h. high-wide join d c.args.census.now c.args.f c.args.g c.min-depth.result fh c.halves-f_high.result.1 gh c.halves-g_high.result.1 level o h) c.in_err-high.ensures.wide)

pub returns-in_err-low-clause-wide : goal.returns-in_err-low-clause-wide
returns-in_err-low-clause-wide t c =
    let d = c.args.self.now in
    let d1 = c.join.new.self in
    let join = connective c.args.joint in
    let fh = c.halves-f_high.result.0 in
    let gh = c.halves-g_high.result.0 in
    let fl = c.halves-f_high.result.1 in
    let gl = c.halves-g_high.result.1 in
    let p = err_from_is_err_and c.from_residual-in_err-low.result c.from_residual-in_err-low.ensures.1 in
    let at : c.min-depth.result ≡ min (depth_of d c.args.f) (depth_of d c.args.g) = search rules in
    let two = decided-none c.args.joint c.args.f c.args.g (sym c.decided.ensures ∙ c.in_default-decided.is) in
    let o : IsOpen d c.args.f c.args.g c.min-depth.result fh fl gh gl = record {
      table = c.depth-f_depth.ensures.table;
      f_there = c.requires.f_there;
      g_there = c.requires.g_there;
      within = omega (arith, at, c.depth-f_depth.ensures.value, c.depth-f_depth.ensures.branch two.0);
      at = at;
      left = c.halves-f_high.ensures;
      right = c.halves-g_high.ensures;
    } in
    rw (p.1, p.2) (if-wide c.in_err-low.field-0.0 (WouldBeWide d1 c.join.new.census (joined_of join d1 fl gl) (min (depth_of d1 fl) (depth_of d1 gl)))
    (WouldBeWide d c.args.census.now (joined_of join d c.args.f c.args.g) (min (depth_of d c.args.f) (depth_of d c.args.g)))
    (λ level h. low-wide join d d1 c.args.census.now c.join.new.census c.args.f c.args.g c.min-depth.result fh fl gh gl level o c.join.ensures.kept c.in_ok-high.ensures.parts h) c.in_err-low.ensures.wide)

pub returns-in_err-count_result-2-clause-kept : goal.returns-in_err-count_result-2-clause-kept
returns-in_err-count_result-2-clause-kept t c = Keeps-along _ _ _ (Keeps-along _ _ _ c.join.ensures.kept c.join-2.ensures.kept) c.make_at.ensures.kept

pub returns-in_err-count_result-2-clause-wide : goal.returns-in_err-count_result-2-clause-wide
returns-in_err-count_result-2-clause-wide t c =
    let d = c.args.self.now in
    let d3 = c.make_at.new.self in
    let join = connective c.args.joint in
    let fh = c.halves-f_high.result.0 in
    let gh = c.halves-g_high.result.0 in
    let fl = c.halves-f_high.result.1 in
    let gl = c.halves-g_high.result.1 in
    let w = c.in_ok-w.w in
    let p = err_from_is_err_and c.from_residual-in_err-count_result-2.result c.from_residual-in_err-count_result-2.ensures.1 in
    let at : c.min-depth.result ≡ min (depth_of d c.args.f) (depth_of d c.args.g) = search rules in
    let none : found c.args.memo.now c.args.f c.args.g ≡ None = search rules in
    let two = decided-none c.args.joint c.args.f c.args.g (sym c.decided.ensures ∙ c.in_default-decided.is) in
    let o : IsOpen d c.args.f c.args.g c.min-depth.result fh fl gh gl = record {
      table = c.depth-f_depth.ensures.table;
      f_there = c.requires.f_there;
      g_there = c.requires.g_there;
      within = omega (arith, at, c.depth-f_depth.ensures.value, c.depth-f_depth.ensures.branch two.0);
      at = at;
      left = c.halves-f_high.ensures;
      right = c.halves-g_high.ensures;
    } in
    let kept = Keeps-along _ _ _ (Keeps-along _ _ _ c.join.ensures.kept c.join-2.ensures.kept) c.make_at.ensures.kept in
    let gained = Gains-open join d c.join.new.self c.join-2.new.self d3 c.args.memo.now c.join.new.memo c.join-2.new.memo
    c.args.f c.args.g c.min-depth.result fh fl gh gl c.in_ok-high.high c.in_ok-low.low w at c.requires.f_there c.requires.g_there c.halves-f_high.ensures c.halves-g_high.ensures
    c.join.ensures.kept c.in_ok-high.ensures.joined c.join-2.ensures.kept c.in_ok-low.ensures.joined c.make_at.ensures.kept c.in_ok-w.ensures.made none in
    rw (p.1, p.2) (if-wide c.in_err-count_result-2.field-0.0 (WouldBeWide d3 c.join-2.new.census (function_of d3 w) (depth_of d3 w))
    (WouldBeWide d c.args.census.now (joined_of join d c.args.f c.args.g) (min (depth_of d c.args.f) (depth_of d c.args.g)))
    (λ level h whole parts left. subst (λ z. IsWideAt z whole level) kept.order
    (h whole (made-parts join d c.join.new.self c.join-2.new.self d3 c.args.census.now c.join.new.census c.join-2.new.census whole c.args.f c.args.g c.min-depth.result fh fl gh gl o
    c.join.ensures.kept c.in_ok-high.ensures.parts c.in_ok-low.ensures.parts c.make_at.ensures.kept parts left)
    (made-left join d d3 whole c.args.f c.args.g w c.requires.f_there c.requires.g_there kept gained.right left))) c.in_err-count_result-2.ensures.wide)

pub returns-clause-parts : goal.returns-clause-parts
returns-clause-parts t c whole parts left =
    let d = c.args.self.now in
    let d3 = c.make_at.new.self in
    let join = connective c.args.joint in
    let fh = c.halves-f_high.result.0 in
    let gh = c.halves-g_high.result.0 in
    let fl = c.halves-f_high.result.1 in
    let gl = c.halves-g_high.result.1 in
    let w = c.in_ok-w.w in
    let at : c.min-depth.result ≡ min (depth_of d c.args.f) (depth_of d c.args.g) = search rules in
    let none : found c.args.memo.now c.args.f c.args.g ≡ None = search rules in
    let two = decided-none c.args.joint c.args.f c.args.g (sym c.decided.ensures ∙ c.in_default-decided.is) in
    let o : IsOpen d c.args.f c.args.g c.min-depth.result fh fl gh gl = record {
      table = c.depth-f_depth.ensures.table;
      f_there = c.requires.f_there;
      g_there = c.requires.g_there;
      within = omega (arith, at, c.depth-f_depth.ensures.value, c.depth-f_depth.ensures.branch two.0);
      at = at;
      left = c.halves-f_high.ensures;
      right = c.halves-g_high.ensures;
    } in
    let kept = Keeps-along _ _ _ (Keeps-along _ _ _ c.join.ensures.kept c.join-2.ensures.kept) c.make_at.ensures.kept in
    let gained = Gains-open join d c.join.new.self c.join-2.new.self d3 c.args.memo.now c.join.new.memo c.join-2.new.memo
    c.args.f c.args.g c.min-depth.result fh fl gh gl c.in_ok-high.high c.in_ok-low.low w at c.requires.f_there c.requires.g_there c.halves-f_high.ensures c.halves-g_high.ensures
    c.join.ensures.kept c.in_ok-high.ensures.joined c.join-2.ensures.kept c.in_ok-low.ensures.joined c.make_at.ensures.kept c.in_ok-w.ensures.made none in
    c.in_ok-count_result-2.ensures.parts whole
    (made-parts join d c.join.new.self c.join-2.new.self d3 c.args.census.now c.join.new.census c.join-2.new.census whole c.args.f c.args.g c.min-depth.result fh fl gh gl o
    c.join.ensures.kept c.in_ok-high.ensures.parts c.in_ok-low.ensures.parts c.make_at.ensures.kept parts left)
    (made-left join d d3 whole c.args.f c.args.g w c.requires.f_there c.requires.g_there kept gained.right left)
