use Rattle.std.proofs.Common.{◌≡◌, ◌+◌, ◌-◌, ◌&&◌, ◌∙◌, Bool, false, length, slice_index_or, ap, ap₂, arith}
use Rattle.std.proofs.lemmas.List.{length_push}
use Rattle.kn_store.specs.Stores.{constraints_of}
use Rattle.kn_guess.specs.Guesses.{is_seed}
use Rattle.kn_guess.proofs.Marked.{seed-tested, table-push}
use Rattle.kn_guess.proofs.marks.seeds.Goals as goal

pub loop-place-preserved : goal.loop-place-preserved
loop-place-preserved c =
    let s = c.args.store.now in
    let n = c.loop-place.place in
    let items = c.in_ok-push.ensures.items in
    let up : Bool = c.is_up-in-loop-place-2.result && (c.is_up-in-loop-place-3.result && (c.is_up.result && c.is_up-in-loop-place.result)) in
    let test = c.loop-place-test.true in
    let vars = c.vars-place-end.ensures.value in
    let is : up ≡ is_seed (constraints_of s.live) (n + 1) =
    ap₂ (λ a r. a && r) c.is_up-in-loop-place-2.ensures (ap₂ (λ a r. a && r) c.is_up-in-loop-place-3.ensures (ap₂ (λ a r. a && r) c.is_up.ensures c.is_up-in-loop-place.ensures))
    ∙ seed-tested s c.args.free.now c.in_ok-binary.binary c.in_ok-positive.positive c.in_ok-negative.negative (n + 1) c.requires.free c.in_ok-binary.ensures c.in_ok-positive.ensures c.in_ok-negative.ensures (omega arith) (omega (arith, test, vars)) in
    let tested = table-push (is_seed (constraints_of s.live)) c.loop-place.seeds.items n up c.loop-place.invariant.long c.loop-place.invariant.tested is in
    record {
      long = ap length items ∙ length_push c.loop-place.seeds.items up ∙ ap (λ m. m + 1) c.loop-place.invariant.long;
      tested = λ x low high. ap (λ z. slice_index_or z (x - 1) false) items ∙ tested x low high;
    }
