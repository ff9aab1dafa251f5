use Rattle.std.proofs.Common.{length, ap, arith, List, ℕ}
use Rattle.kn_propagate.proofs.Releasing.{found_inside, before_inside, long_nexts}
use Rattle.kn_propagate.proofs.chains.Chains.release.Goals as goal

pub unlink-requires-clause-entry : goal.unlink-requires-clause-entry
unlink-requires-clause-entry c = found_inside c.args.self.now c.args.chain c.args.spot c.find-found.result c.find-found.ensures

pub unlink-requires-clause-before : goal.unlink-requires-clause-before
unlink-requires-clause-before c = before_inside c.args.self.now c.args.chain c.args.spot c.find-found.result c.find-found.ensures

pub retire-requires : goal.retire-requires
retire-requires c =
    omega (arith, found_inside c.args.self.now c.args.chain c.args.spot c.find-found.result c.find-found.ensures, ap (λ (x : List ℕ). length x) c.unlink.ensures.nexts, long_nexts c.args.self.now c.find-found.result.entry c.find-found.result.before)
