use Rattle.butterfly.proofs.+listed.Given as goal

abbrev pub decreases-listed : goal.decreases-listed
decreases-listed l = l.levels.count
