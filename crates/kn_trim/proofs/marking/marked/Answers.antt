use Rattle.std.proofs.Common.{◌≡◌, ◌-◌, ◌∷◌, Bool, List, cond, drop, length, eqb, refl, sym, ap, ◌∙◌, subst, arith}
use Rattle.std.proofs.lemmas.List.{length-set}
use Rattle.kn_trim.specs.Needed.{Kept, named_variables, named_ids}
use Rattle.kn_trim.specs.Marking.{AreBefore, Place, Marked, marked, none_of, place_at, place_of, with_line}
use Rattle.kn_trim.proofs.Walk.{Facts, facts, room, drop-back, marked-back, place-zero}
use Rattle.kn_trim.proofs.marking.marked.Goals as goal

pub overflow_sub-variables : goal.overflow_sub-variables
overflow_sub-variables c =
    let h = facts (place_of c.args.f.now) c.args.lines.now c.loop-at.at c.index-lines-at.result c.loop-at-test.true c.loop-at.invariant.within c.index-lines-at.is in
    omega (arith, h.variables, c.loop-at.invariant.variables, c.variables_given-variables.ensures)

pub overflow_sub-ids : goal.overflow_sub-ids
overflow_sub-ids c =
    let h = facts (place_of c.args.f.now) c.args.lines.now c.loop-at.at c.index-lines-at.result c.loop-at-test.true c.loop-at.invariant.within c.index-lines-at.is in
    omega (arith, h.ids, c.loop-at.invariant.ids, c.ids_given-ids.ensures)

pub take-requires-clause-variables : goal.take-requires-clause-variables
take-requires-clause-variables c =
    let h = facts (place_of c.args.f.now) c.args.lines.now c.loop-at.at c.index-lines-at.result c.loop-at-test.true c.loop-at.invariant.within c.index-lines-at.is in
    let r = (room c.args.all_variables c.args.all_ids (place_at (place_of c.args.f.now) c.args.lines.now c.loop-at.at) (drop c.loop-at.at c.args.lines.now)).0 in
    let len : length c.loop-at.needs.variables ≡ c.args.all_variables = ap (λ (k : Kept). length k.variables) c.loop-at.invariant.needs ∙ r in
    omega (arith, h.variables, c.loop-at.invariant.variables, c.variables_given-variables.ensures, len, c.loop-at.invariant.room.0)

pub take-requires-clause-ids : goal.take-requires-clause-ids
take-requires-clause-ids c =
    let h = facts (place_of c.args.f.now) c.args.lines.now c.loop-at.at c.index-lines-at.result c.loop-at-test.true c.loop-at.invariant.within c.index-lines-at.is in
    let r = (room c.args.all_variables c.args.all_ids (place_at (place_of c.args.f.now) c.args.lines.now c.loop-at.at) (drop c.loop-at.at c.args.lines.now)).1 in
    let len : length c.loop-at.needs.ids ≡ c.args.all_ids = ap (λ (k : Kept). length k.ids) c.loop-at.invariant.needs ∙ r in
    omega (arith, h.ids, c.loop-at.invariant.ids, c.ids_given-ids.ensures, len, c.loop-at.invariant.room.1)

pub take-requires-clause-named : goal.take-requires-clause-named
take-requires-clause-named c =
    let h = facts (place_of c.args.f.now) c.args.lines.now c.loop-at.at c.index-lines-at.result c.loop-at-test.true c.loop-at.invariant.within c.index-lines-at.is in
    let same : (place_at (place_of c.args.f.now) c.args.lines.now (c.loop-at.at - 1)).variables ≡ c.loop-at.variables - c.variables_given-variables.result = omega (arith, h.variables, c.loop-at.invariant.variables, c.variables_given-variables.ensures) in
    subst (λ n. AreBefore n (named_variables c.index-lines-at.result)) same (h.named c.requires.named).0

pub take-requires-clause-hints : goal.take-requires-clause-hints
take-requires-clause-hints c =
    let h = facts (place_of c.args.f.now) c.args.lines.now c.loop-at.at c.index-lines-at.result c.loop-at-test.true c.loop-at.invariant.within c.index-lines-at.is in
    let same : (place_at (place_of c.args.f.now) c.args.lines.now (c.loop-at.at - 1)).ids ≡ c.loop-at.ids - c.ids_given-ids.result = omega (arith, h.ids, c.loop-at.invariant.ids, c.ids_given-ids.ensures) in
    subst (λ n. AreBefore n (named_ids c.index-lines-at.result)) same (h.named c.requires.named).1

pub loop-at-preserved : goal.loop-at-preserved
loop-at-preserved c =
    let l = c.loop-at in
    let lines = c.args.lines.now in
    let line = c.index-lines-at.result in
    let none : Kept = none_of c.args.all_variables c.args.all_ids in
    let h : Facts (place_of c.args.f.now) lines l.at line = facts (place_of c.args.f.now) lines l.at line c.loop-at-test.true l.invariant.within c.index-lines-at.is in
    let v : (place_at (place_of c.args.f.now) lines (l.at - 1)).variables ≡ l.variables - c.variables_given-variables.result = omega (arith, h.variables, l.invariant.variables, c.variables_given-variables.ensures) in
    let i : (place_at (place_of c.args.f.now) lines (l.at - 1)).ids ≡ l.ids - c.ids_given-ids.result = omega (arith, h.ids, l.invariant.ids, c.ids_given-ids.ensures) in
    let ends : eqb (l.at - 1) c.first_end-end.result ≡ _ = ap (eqb (l.at - 1)) c.first_end-end.ensures ∙ sym (h.ends refl) in
    let made = marked-back none (place_of c.args.f.now) lines l.at line _ _ (eqb (l.at - 1) c.first_end-end.result) c.take.result l.needs h v i ends l.invariant.needs c.take.ensures.needed in
    record {
      room = (omega (arith, l.invariant.room.0), omega (arith, l.invariant.room.1));
      within = omega (arith, l.invariant.within);
      variables = v;
      ids = i;
      needs = c.take.ensures.needs ∙ ap (λ (k : Kept). cond c.take.result (with_line k line) k) l.invariant.needs ∙ sym (ap (λ (m : Marked). m.need) made);
      own = drop-back l.own.items l.at c.take.result c.loop-at-test.true (omega (arith, l.invariant.within, l.invariant.length))
          ∙ ap (λ (ms : List Bool). c.take.result ∷ ms) l.invariant.own ∙ sym (ap (λ (m : Marked). m.own) made);
      length = length-set l.own.items (l.at - 1) c.take.result ∙ l.invariant.length;
    }

pub returns : goal.returns
returns c =
    let l = c.loop-at in
    let at : l.at ≡ 0 = omega (arith, c.loop-at-test.false) in
    let own : drop 0 l.own.items ≡ (marked (none_of c.args.all_variables c.args.all_ids) (place_at (place_of c.args.f.now) c.args.lines.now 0) (drop 0 c.args.lines.now)).own =
    subst (λ n. drop n l.own.items ≡ (marked (none_of c.args.all_variables c.args.all_ids) (place_at (place_of c.args.f.now) c.args.lines.now n) (drop n c.args.lines.now)).own) at l.invariant.own in
    own ∙ ap (λ (q : Place). (marked (none_of c.args.all_variables c.args.all_ids) q c.args.lines.now).own) (place-zero (place_of c.args.f.now) c.args.lines.now)
