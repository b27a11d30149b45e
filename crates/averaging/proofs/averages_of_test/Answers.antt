-- `averaging::averages_of_test` meets its contract. Assumes nothing.
use mathlib.Core.Path.{sym, ap, subst, ◌∙◌}
use mathlib.Core.List.{List}
use Rattle.vehicle.specs.Driving.{conditions_of}
use Rattle.vehicle.specs.declared.Conditions.{Conditions}
use Rattle.window.specs.declared.Counts.{Counts}
use Rattle.averaging.specs.Answers.{Answered, exact_of_counts, exact_of_test}
use Rattle.averaging.proofs.LastWindow.{windows_meet}
use Rattle.averaging.proofs.averages_of_test.Goals as goal

pub returns-in_default : goal.returns-in_default
unfolding exact_of_test
returns-in_default c =
    rw (sym c.last_window.ensures ∙ c.in_default.is) (record { answer = c.no_averages.ensures; claims = windows_meet })

pub returns : goal.returns
unfolding exact_of_test
returns c =
    rw (sym c.last_window.ensures ∙ c.in-Some.is)
    (record {
      answer =
          subst (λ (l : List Counts). Answered (exact_of_counts (conditions_of c.args.x.vehicle) l) c.averages_of_counts.result)
          c.counts_of_window.ensures
          (subst (λ (k : Conditions). Answered (exact_of_counts k c.counts_of_window.result) c.averages_of_counts.result)
          (c.conditions_of-conditions.ensures ∙ ap conditions_of c.vehicle_of.ensures)
          c.averages_of_counts.ensures);
      claims = windows_meet;
    })
