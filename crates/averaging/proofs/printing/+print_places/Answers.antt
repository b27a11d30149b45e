-- `averaging::printing::print_places` meets its contract. Assumes nothing.
use Rattle.std.proofs.Common.{rules}
use Rattle.averaging.proofs.Placed.{no_place, last_place, appends_more}
use Rattle.averaging.proofs.printing.+print_places.Goals as goal

pub returns-then-k-eq0 : goal.returns-then-k-eq0
returns-then-k-eq0 g t c = rw (no_place c.args.k c.args.n c.if-k-eq0.true) (search rules)

pub returns : goal.returns
returns g t c =
    appends_more _ _ _ _ _ _ _ (last_place c.args.k c.args.n c.if-k-eq0.false) c.in_ok-print_places.ensures c.write.ensures.bytes
