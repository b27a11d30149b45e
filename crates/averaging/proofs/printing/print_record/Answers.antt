-- `averaging::printing::print_record` meets its contract. Assumes nothing.
use Rattle.averaging.proofs.Printed.{print_claims}
use Rattle.averaging.proofs.printing.print_record.Goals as goal

pub returns-clause-claims : goal.returns-clause-claims
returns-clause-claims g c = print_claims
