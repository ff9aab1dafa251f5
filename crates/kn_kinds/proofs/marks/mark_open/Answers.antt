use Rattle.std.proofs.Common.{◌≡◌, ◌≤◌, ◌<◌, ◌+◌, ℕ, Bool, List, true, false, length, sym, ap, ◌∙◌, subst, arith}
use Rattle.std.specs.Prelude.{slice_set}
use Rattle.std.proofs.lemmas.List.{length-replicate}
use Rattle.kn_logic.specs.Literals.{Literal}
use Rattle.kn_logic.specs.Propagation.{is_open}
use Rattle.kn_watch.specs.Trails.{literals}
use Rattle.kn_watch.specs.Watches.{lit_at, count_watched}
use Rattle.kn_kinds.specs.Kinds.{marked_place}
use Rattle.kn_kinds.proofs.Marking.{unmarked_all, count_none, mark_step}
use Rattle.kn_kinds.proofs.marks.mark_open.Goals as goal
use Rattle.kn_kinds.proofs.marks.mark_open.Goals.{then-is_open, else-is_open}

pub loop-place-init : goal.loop-place-init
loop-place-init c =
    let n = length c.args.lits.now in
    let none : (q : ℕ) → marked_place c.args.marks.now q ≡ false = λ q. subst (λ (x : List Bool). marked_place x q ≡ false) (sym c.requires) (unmarked_all n q) in
    record {
      long = ap (λ (x : List Bool). length x) c.requires ∙ length-replicate n false;
      most = omega arith;
      counted = count_none (marked_place c.args.marks.now) 0 n none;
      open_ = λ q lt m. (let u = none q in absurd cc);
      rest = λ q le. none q;
    }

-- what the loop keeps of the marks
abbrev AreKept : List Literal → List Literal → List Bool → ℕ → ℕ → ℕ → Type 0
AreKept trail lits marks count wanted place =
    (length marks ≡ length lits) × (count ≤ wanted) × (count_watched (marked_place marks) 0 (length lits) ≡ count)
    × ((q : ℕ) → q < length lits → marked_place marks q ≡ true → is_open trail (lit_at lits q) ≡ true) × ((q : ℕ) → place ≤ q → marked_place marks q ≡ false)

pub loop-place-preserved : goal.loop-place-preserved
loop-place-preserved c =
    let trail = literals c.args.trail.now.made in
    let lits = c.args.lits.now in
    let kept = c.loop-place.invariant in
    let less : c.loop-place.count < c.args.wanted = omega (arith, c.if-count-wanted.false, kept.most) in
    let all : AreKept trail lits c.if-is_open.marks c.if-is_open.count c.args.wanted (c.loop-place.place + 1) = elim c.if-is_open.branch [
      | then-is_open w ↦ (
          let s = mark_step trail lits c.loop-place.marks c.loop-place.count c.args.wanted c.loop-place.place c.index-lits-place.result kept.long less kept.counted kept.open_ kept.rest c.loop-place-test.true c.index-lits-place.is (sym c.is_open.ensures ∙ w.if-is_open.true) in
          subst (λ (x : List Bool). AreKept trail lits x c.if-is_open.count c.args.wanted (c.loop-place.place + 1)) (sym w.marks-is)
          (subst (λ (k : ℕ). AreKept trail lits (slice_set c.loop-place.marks c.loop-place.place true) k c.args.wanted (c.loop-place.place + 1)) (sym w.count-is)
          (s.0, omega (arith, less), s.1, s.2, s.3)))
      | else-is_open w ↦ (
          subst (λ (x : List Bool). AreKept trail lits x c.if-is_open.count c.args.wanted (c.loop-place.place + 1)) (sym w.marks-is)
          (subst (λ (k : ℕ). AreKept trail lits c.loop-place.marks k c.args.wanted (c.loop-place.place + 1)) (sym w.count-is)
          (kept.long, kept.most, kept.counted, kept.open_, λ q le. kept.rest q (omega (arith, le)))))
    ] in
    record { long = all.0; most = all.1; counted = all.2; open_ = all.3; rest = all.4 }
