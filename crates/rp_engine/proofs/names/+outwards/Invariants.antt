use Rattle.rp_engine.proofs.names.+outwards.Given as goal

abbrev pub decreases-outwards : goal.decreases-outwards
decreases-outwards l = l.n
