-- `averaging::printing::print_places`: each call has one place fewer. Assumes nothing.
use Rattle.averaging.proofs.printing.+print_places.Given as goal

abbrev pub decreases-print_places : goal.decreases-print_places
decreases-print_places g l = l.k
