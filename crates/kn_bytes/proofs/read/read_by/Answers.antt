-- The source gave what was read before, and then the first bytes of the piece.
use Rattle.std.proofs.Common.{◌≡◌, ℕ, ◌+◌, ◌≤◌, ◌++◌, length, take, arith, length-append}
use Rattle.std.proofs.lemmas.List.{length-take, length-take-le}
use Rattle.std.proofs.lemmas.Result.{err_from_is_err_and}
use Rattle.kn_bytes.proofs.Public.{Gave-append, RoseBy-take}
use Rattle.kn_bytes.proofs.read.read_by.Goals as goal

pub returns-then-size-room-clause-took : goal.returns-then-size-room-clause-took
returns-then-size-room-clause-took g c =
    let within : c.in-Ok.size ≤ length c.take.new.into = omega (arith, c.take.auto.into, c.in-Ok.ensures.bound) in
    let one_past : c.in-Ok.size ≡ c.loop-size.room + 1 = omega (arith, length-take {A = ℕ}, c.in-Ok.ensures.bound) in
    record {
      bytes = c.loop-size.all.items ++ take c.in-Ok.size c.take.new.into;
      gave = Gave-append _ _ _ _ _ c.loop-size.invariant.gave c.in-Ok.ensures.bytes;
      count = RoseBy-take _ _ _ _ _ _ within c.loop-size.invariant.count c.in-Ok.ensures.count;
      answer = simp (length-append, length-take-le _ _ within) (omega arith);
    }

pub returns-in_err-extend_from_slice-clause-took :
    goal.returns-in_err-extend_from_slice-clause-took
returns-in_err-extend_from_slice-clause-took g c =
    let within : c.in-Ok.size ≤ length c.take.new.into = omega (arith, c.take.auto.into, c.in-Ok.ensures.bound) in
    let error = err_from_is_err_and c.from_residual.result c.from_residual.ensures.1 in
    record {
      bytes = c.loop-size.all.items ++ take c.in-Ok.size c.take.new.into;
      gave = Gave-append _ _ _ _ _ c.loop-size.invariant.gave c.in-Ok.ensures.bytes;
      count = RoseBy-take _ _ _ _ _ _ within c.loop-size.invariant.count c.in-Ok.ensures.count;
      answer = rw (error.1, error.2) (simp (length-append, length-take-le _ _ within) (omega arith));
    }
