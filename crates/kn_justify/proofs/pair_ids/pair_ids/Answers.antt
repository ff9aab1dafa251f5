use Rattle.std.proofs.Common.{◌+◌, List, ℕ, sym, subst, take, get_or}
use Rattle.kn_justify.specs.PairIds.{AreNoted}
use Rattle.kn_justify.proofs.PairIdLemmas.{skips-noted, next-noted, take-next}
use Rattle.kn_justify.proofs.pair_ids.pair_ids.Goals.{in-Some+in_ok-note, in_default}
use Rattle.kn_justify.proofs.pair_ids.pair_ids.Goals as goal

pub loop-id-preserved : goal.loop-id-preserved
loop-id-preserved c =
    let next = take-next c.args.ids.now c.loop-id.id-index c.loop-id-test.true in
    elim c.match-live.branch [
      | in-Some+in_ok-note w ↦ subst (λ (pairs : List ((ℕ × ℕ) × ℕ)). AreNoted c.args.log.now.state (take (c.loop-id.id-index + 1) c.args.ids.now) pairs) (sym w.pairs-is)
          (next-noted c.args.log.now.state (take c.loop-id.id-index c.args.ids.now) (take (c.loop-id.id-index + 1) c.args.ids.now) (get_or c.args.ids.now c.loop-id.id-index 0) w.in-Some.c.now c.loop-id.pairs w.note.new.self next
          (sym w.in-Some.ensures.value) w.in-Some.ensures.within w.in_ok-note.ensures.right w.in_ok-note.ensures.kept w.in_ok-note.ensures.noted c.loop-id.invariant)
      | in_default w ↦ subst (λ (pairs : List ((ℕ × ℕ) × ℕ)). AreNoted c.args.log.now.state (take (c.loop-id.id-index + 1) c.args.ids.now) pairs) (sym w.pairs-is)
          (skips-noted c.args.log.now.state (take c.loop-id.id-index c.args.ids.now) (take (c.loop-id.id-index + 1) c.args.ids.now) (get_or c.args.ids.now c.loop-id.id-index 0) c.loop-id.pairs next (sym w.in_default.ensures.value) c.loop-id.invariant)
    ]
