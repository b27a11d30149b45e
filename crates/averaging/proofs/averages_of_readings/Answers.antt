-- `averaging::averages_of_readings` meets its contract. Assumes nothing.
use mathlib.Core.Path.{sym, ap, subst, ◌∙◌}
use mathlib.Core.List.{List, map}
use Rattle.std.specs.List.{list_all}
use Rattle.vehicle.specs.Driving.{conditions_of}
use Rattle.vehicle.specs.declared.Conditions.{Conditions}
use Rattle.window.specs.declared.Counts.{Counts}
use Rattle.averaging.specs.Exact.{exact_averages}
use Rattle.averaging.specs.Premise.{second_meets, counts_of_reading}
use Rattle.averaging.specs.Answers.{AllNear}
use Rattle.averaging.proofs.Answering.{refused_unfit, conditions_met, unfit_outside, readings_outside, readings_within}
use Rattle.averaging.proofs.Claimed.{averages_claims}
use Rattle.averaging.proofs.averages_of_readings.Goals as goal

pub returns-in_default : goal.returns-in_default
returns-in_default c =
    record {
      answer =
          unfit_outside c.args.settings c.args.saturation c.args.w _
          (refused_unfit c.args.settings c.args.saturation c.in_default.field-0 (sym c.checked_of.ensures.0 ∙ c.in_default.is))
          c.no_averages.ensures;
      claims = averages_claims;
    }

pub returns-then-not-all_meet : goal.returns-then-not-all_meet
returns-then-not-all_meet c =
    record {
      answer =
          readings_outside c.args.settings c.args.saturation c.args.w _ c.in-Ok.vehicle
          (c.checked_of.ensures.1 c.args.settings c.args.saturation c.in-Ok.vehicle (sym c.checked_of.ensures.0 ∙ c.in-Ok.is))
          c.all_meet.result
          (c.all_meet.ensures ∙ ap (list_all second_meets) c.seconds_of-seconds.ensures)
          c.if-not-all_meet.true
          c.no_averages-then-not-all_meet.ensures;
      claims = averages_claims;
    }

pub averages-requires : goal.averages-requires
averages-requires c =
    rw c.conditions_of.ensures
    (conditions_met c.args.settings c.args.saturation c.in-Ok.vehicle
    (c.checked_of.ensures.1 c.args.settings c.args.saturation c.in-Ok.vehicle (sym c.checked_of.ensures.0 ∙ c.in-Ok.is)))

pub returns : goal.returns
returns c =
    record {
      answer =
          readings_within c.args.settings c.args.saturation c.args.w _ c.in-Ok.vehicle
          (c.checked_of.ensures.1 c.args.settings c.args.saturation c.in-Ok.vehicle (sym c.checked_of.ensures.0 ∙ c.in-Ok.is))
          c.all_meet.result
          (c.all_meet.ensures ∙ ap (list_all second_meets) c.seconds_of-seconds.ensures)
          c.if-not-all_meet.false
          (subst (λ (l : List Counts). AllNear (exact_averages (conditions_of c.in-Ok.vehicle) l) c.averages.result)
          (c.counts_of_readings.ensures ∙ ap (map counts_of_reading) c.seconds_of-seconds.ensures)
          (subst (λ (k : Conditions). AllNear (exact_averages k c.counts_of_readings.result) c.averages.result) c.conditions_of.ensures c.averages.ensures));
      claims = averages_claims;
    }
