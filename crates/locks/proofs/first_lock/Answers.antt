use Rattle.std.proofs.Common.{sym, ◌∙◌, rules, tests}
use Rattle.std.proofs.lemmas.Iterator.{YieldsList-from_slice}
use Rattle.std.proofs.lemmas.Iterator.Adapters.{option_map_id}
use Rattle.std.proofs.lemmas.Iterator.Consumers.{YieldsList-from_copied}
use Rattle.std.proofs.lemmas.Iterator.Search.{find_from_yields_List}
use Rattle.locks.proofs.Stands.{stands_exactly}
use Rattle.locks.proofs.First.{first_exactly}
use Rattle.locks.specs.Locks.{in_order, first_standing}
use Rattle.locks.specs.State.{standing_of, first_lock}
use Rattle.locks.proofs.first_lock.Goals as goal

pub returns-clause-answer : goal.returns-clause-answer
unfolding first_lock first_standing
returns-clause-answer c =
    sym (option_map_id c.find.result) ∙
    find_from_yields_List (standing_of c.args.validity c.args.limit c.args.k c.args.now) _ _ c.find.result c.find.ensures.ran
    (YieldsList-from_copied (YieldsList-from_slice in_order cc))
    (λ x b q k. search (rules, tests))

pub returns-clause-claims : goal.returns-clause-claims
returns-clause-claims c = stands_exactly

pub returns-clause-first : goal.returns-clause-first
returns-clause-first c = first_exactly
