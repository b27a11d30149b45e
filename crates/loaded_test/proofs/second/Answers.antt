-- `second` gives a refused test back as it was, in an attempt too. Assumes nothing.
use Rattle.std.proofs.Common.{rules, ◌≡◌}
use Rattle.loaded_test.specs.Steps.{second, second_at}
use Rattle.loaded_test.proofs.Refusing.{second_back_as}
use Rattle.loaded_test.proofs.second.Goals as goal

pub returns-in-Settling-clause-back : goal.returns-in-Settling-clause-back
unfolding second second_at
returns-in-Settling-clause-back c =
    let e : c.in_attempt.result ≡ second c.args.test c.args.s = search rules in second_back_as _ _ _ e

pub returns-in-Measuring-clause-back : goal.returns-in-Measuring-clause-back
unfolding second second_at
returns-in-Measuring-clause-back c =
    let e : c.in_attempt-in-Measuring.result ≡ second c.args.test c.args.s = search rules in second_back_as _ _ _ e
