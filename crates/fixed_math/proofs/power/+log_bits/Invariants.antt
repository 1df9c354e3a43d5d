use Rattle.fixed_math.proofs.power.+log_bits.Given as goal

abbrev pub decreases-log_bits : goal.decreases-log_bits
decreases-log_bits l = l.k
