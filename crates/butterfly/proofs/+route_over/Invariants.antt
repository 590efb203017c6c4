use Rattle.butterfly.proofs.+route_over.Given as goal

abbrev pub decreases-route_over : goal.decreases-route_over
decreases-route_over l = l.levels.count
