use Rattle.kn_quant.proofs.quantify.+settle.Given as goal

abbrev pub decreases-settle : goal.decreases-settle
decreases-settle l = l.u
