use Rattle.std.proofs.Common.{rules}
use Rattle.coast_down.proofs.Exact.{whole_passed, passed_whole, run_claims}
use Rattle.coast_down.specs.Passing.{whole_nominal}
use Prim.Native.Nat.{◌*◌}
use mathlib.Core.Path.{◌≡◌, sym, ◌∙◌}
use Rattle.coast_down.proofs.run_passed.Goals as goal

pub returns : goal.returns
returns c =
    let told : c.contains.result ≡ whole_passed (whole_nominal c.args.run.speeds c.args.run.inertia) (8100 * c.args.run.power * c.args.run.milliseconds) = search rules in
    (told ∙ sym (passed_whole c.args.run), run_claims)
