-- `averaging::averages` meets its contract: at most 15 roundings. Assumes nothing.
use Rattle.std.proofs.Common.{rules}
use Rattle.averaging.proofs.Averaged.{all_near}
use Rattle.averaging.proofs.averages.Goals as goal

pub returns : goal.returns
returns c = all_near c.args.x c.args.w _ _ (search rules) c.sums_of-sums.ensures c.humidity_correction-k.ensures
