-- `averaging::averages_of_counts` meets its contract. Assumes nothing.
use Rattle.averaging.proofs.Answering.{counts_within, counts_outside}
use Rattle.averaging.proofs.averages_of_counts.Goals as goal

pub returns-then-not-conditions_fit-all_undiluted : goal.returns-then-not-conditions_fit-all_undiluted
returns-then-not-conditions_fit-all_undiluted c =
    counts_outside c.args.x c.args.w _ _ _ c.conditions_fit.ensures c.all_undiluted.ensures c.if-not-conditions_fit-all_undiluted.true
    c.no_averages.ensures

pub returns : goal.returns
returns c =
    counts_within c.args.x c.args.w _ _ _ c.conditions_fit.ensures c.all_undiluted.ensures c.if-not-conditions_fit-all_undiluted.false
    c.averages.ensures
