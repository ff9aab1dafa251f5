use Rattle.kn_verdict.proofs.witness.+witness.Given as goal

abbrev pub decreases-witness : goal.decreases-witness
decreases-witness l = l.node
