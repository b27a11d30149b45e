-- `vehicle::checked_of` meets its contract. Assumes nothing.
use mathlib.Core.Path.{◌∙◌, sym}
use Rattle.std.proofs.lemmas.Result.{err_from_is_err_and}
use Rattle.vehicle.proofs.FitVehicle.{checked_fit}
use Rattle.vehicle.proofs.Fitness.{setting_refused, checked_none, checked_some}
use Rattle.vehicle.proofs.checked_of.Goals as goal

pub returns-in_err-settings_checked : goal.returns-in_err-settings_checked
returns-in_err-settings_checked c =
    let p = err_from_is_err_and c.from_residual.result c.from_residual.ensures.1 in
    (rw (p.1, p.2) (sym (setting_refused _ _ _ (sym c.settings_checked.ensures ∙ c.in_err-settings_checked.was))), checked_fit)

pub returns-in_default : goal.returns-in_default
returns-in_default c =
    (checked_none _ _ (sym c.settings_checked.ensures ∙ c.in_ok-settings_checked.was) (sym c.humidity_factor.ensures.0 ∙ c.in_default.is), checked_fit)

pub returns : goal.returns
returns c = (
  checked_some _ _ (sym c.settings_checked.ensures ∙ c.in_ok-settings_checked.was) _ _ _ _ _
      c.is_automatic.ensures c.limits_for.ensures c.aim_for.ensures c.aim_for-2.ensures
      (sym c.humidity_factor.ensures.0 ∙ c.in-Some.is),
  checked_fit,
)
