use Rattle.std.proofs.Common.{◌≡◌, ◌+◌, ◌*◌, length, drop}
use Rattle.kn_store.specs.Stores.{ids_of, naming}
use Rattle.kn_guess.specs.Pairing.{all_entered}
use Rattle.kn_guess.proofs.rows.enter_all.Given as goal

abbrev pub invariant-loop-id : goal.invariant-loop-id
invariant-loop-id l = record {
  rest : all_entered l.store.live l.lit l.rows (drop l.id-index l.id-items) ≡ all_entered l.store.live l.lit l.fn.rows (ids_of (naming l.lit.variable l.store.live));
  long : length l.rows ≡ 2 * l.store.vars + 2;
}
