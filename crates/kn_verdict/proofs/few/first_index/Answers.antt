use Rattle.std.proofs.Common.{◌≡◌, ◌-◌, not, if◌then◌else◌, nat_lt, length, ap, sym, ◌∙◌, arith}
use Rattle.std.proofs.lemmas.Bool.{cond-true, cond-false, lt-ltb, le-ltb}
use Rattle.std.proofs.lemmas.Nat.{pow-add}
use mir.Val.{bool_byte}
use Rattle.kn_verdict.specs.Numbered.{index_of}
use Rattle.kn_verdict.proofs.Indices.{byte-is, byte-small}
use Rattle.kn_verdict.proofs.Tabled.{drop-last, first-item}
use Rattle.kn_verdict.proofs.few.first_index.Goals as goal
use Rattle.kn_verdict.proofs.few.first_index.Goals.{then-place-first, else-place-first}

pub loop-behind-init : goal.loop-behind-init
loop-behind-init c = record {
  index = ap index_of (sym (drop-last c.args.border.now c.args.first));
  low = omega arith;
}

pub loop-behind-preserved : goal.loop-behind-preserved
loop-behind-preserved c =
    let lits = c.args.border.now in
    let first = c.args.first in
    let behind = c.loop-behind.behind in
    let place = length lits - 1 - behind in
    let l = c.index-border-place.result in
    let value : c.if-place-first.value ≡ (if nat_lt place first then l.positive else not l.positive) =
    elim c.if-place-first.branch [
      | then-place-first w ↦ w.value-is ∙ c.is_positive-positive.ensures ∙ sym (cond-true (nat_lt place first) l.positive (not l.positive) (lt-ltb place first w.if-place-first.true))
      | else-place-first w ↦ w.value-is ∙ ap not c.is_positive-positive.ensures ∙ sym (cond-false (nat_lt place first) l.positive (not l.positive) (le-ltb place first w.if-place-first.false))
    ] in
    let byte = c.from.ensures ∙ ap bool_byte value in
    record {
      index =
          omega (
            arith,
            byte,
            byte-is (if nat_lt place first then l.positive else not l.positive),
            c.loop-behind.invariant.index,
            ap index_of (first-item lits first behind l c.loop-behind-test.true c.index-border-place.is),
          );
      low = omega (arith, c.from.ensures, byte-small c.if-place-first.value, c.loop-behind.invariant.low, pow-add 2 behind 1);
    }
