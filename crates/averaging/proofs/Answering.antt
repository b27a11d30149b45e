-- What is answered within the premise and outside it. Assumes nothing.
use mathlib.Core.Bool.{Bool, true, false, ◌&&◌}
use mathlib.Core.Path.{◌≡◌, refl, sym, ap, subst, subst⁻¹, ◌∙◌}
use mathlib.Core.List.{List, map}
use Prim.Native.Nat.{ℕ}
use native.Mathlib.Omega.{arith}
use borrow.Author.Tests.{eq-eqb}
use Rattle.std.specs.Prelude.{Ok, Err, Result, Some, None, Option}
use Rattle.std.specs.List.{list_all}
use Rattle.refusal.specs.Choice.{pick}
use Rattle.refusal.specs.declared.Refusal.{Refusal}
use Rattle.reading.specs.Kind.{Readings}
use Rattle.correction.specs.Humidity.{saturation_fit}
use Rattle.correction.proofs.Ranges.{both_true}
use Rattle.vehicle.specs.Checked.{vehicle_of, checked_of}
use Rattle.vehicle.specs.Claims.{FitFor}
use Rattle.vehicle.specs.Driving.{conditions_of}
use Rattle.vehicle.specs.Settings.{unfit_place}
use Rattle.vehicle.specs.declared.Conditions.{Conditions}
use Rattle.vehicle.specs.declared.Settings.{Settings}
use Rattle.vehicle.specs.declared.Vehicle.{Vehicle}
use Rattle.vehicle.proofs.Fitness.{humidity_fit_of, pressure_fit_of}
use Rattle.window.specs.declared.Counts.{Counts}
use Rattle.averaging.specs.Exact.{ExactAverages, exact_averages}
use Rattle.averaging.specs.Premise.{undiluted, conditions_fit, settings_fit, second_meets, counts_of_reading, conditions_in}
use Rattle.averaging.specs.Answers.{AllNear, no_averages, Answered, seconds_of, exact_of_readings, exact_of_counts}
use Rattle.averaging.specs.declared.FloatAverages.{FloatAverages}

-- By a test: averages where it holds, -1 each where it does not.
module _ (b : Bool) (e : ExactAverages) (x : FloatAverages) where
  abbrev chosen : Option ExactAverages
  chosen = pick b (Some e) None

  within_answered : b ≡ true → AllNear e x → Answered chosen x
  unfolding pick
  within_answered h n = subst⁻¹ (λ (t : Bool). Answered (pick t (Some e) None) x) h n

  outside_answered : b ≡ false → x ≡ no_averages → Answered chosen x
  unfolding pick
  outside_answered h n = subst⁻¹ (λ (t : Bool). Answered (pick t (Some e) None) x) h n

-- Of a window's counts.
module _ (c : Conditions) (l : List Counts) (x : FloatAverages) (a b : Bool) (ea : a ≡ conditions_fit c) (eb : b ≡ list_all undiluted l) where
  pub counts_within : a && b ≡ true → AllNear (exact_averages c l) x → Answered (exact_of_counts c l) x
  unfolding exact_of_counts
  counts_within h n = within_answered _ (exact_averages c l) x (rw (← ea, ← eb) h) n

  pub counts_outside : a && b ≡ false → x ≡ no_averages → Answered (exact_of_counts c l) x
  unfolding exact_of_counts
  counts_outside h n = outside_answered _ (exact_averages c l) x (rw (← ea, ← eb) h) n

-- Fit settings and p give a vehicle, and no others do.
fit_checked : (s : Settings) (p : ℕ) → settings_fit s p ≡ true → checked_of s p ≡ Ok (vehicle_of s p)
unfolding checked_of pick
fit_checked s p h = let (a, b) = both_true _ (saturation_fit p) h in rw (a, b)

pub refused_unfit : (s : Settings) (p : ℕ) (r : Refusal) → checked_of s p ≡ Err r → settings_fit s p ≡ false
refused_unfit s p r e = go (settings_fit s p) refl
  where
    never : (v : Vehicle) → ◌≡◌ {A = Result Vehicle Refusal} (Ok v) (Err r) → ⊥
    never v z = let y : ◌≡◌ {A = ℕ} 0 1 = cc in omega arith

    go : (t : Bool) → settings_fit s p ≡ t → t ≡ false
    go true h = absurd (never _ (sym (fit_checked s p h) ∙ e))
    go false h = refl

-- What a vehicle that was checked tells of its settings.
module _ (s : Settings) (p : ℕ) (v : Vehicle) (h : FitFor s p v) where
  pub fit_settings : settings_fit s p ≡ true
  fit_settings = rw (eq-eqb (unfit_place s) 0 h.settings_are_fit, h.saturation_is_fit)

  pub conditions_kept : conditions_of v ≡ conditions_in s p
  unfolding vehicle_of
  conditions_kept = ap conditions_of h.derived

  pub conditions_met : conditions_fit (conditions_of v) ≡ true
  conditions_met =
      ap conditions_fit conditions_kept ∙
      rw (humidity_fit_of s h.settings_are_fit, pressure_fit_of s h.settings_are_fit, h.saturation_is_fit)

-- Of ten seconds as readings.
module _ (s : Settings) (p : ℕ) (w : List Readings) (x : FloatAverages) where
  pub unfit_outside : settings_fit s p ≡ false → x ≡ no_averages → Answered (exact_of_readings s p w) x
  unfolding exact_of_readings
  unfit_outside h n = outside_answered _ _ x (ap (λ (t : Bool). t && list_all second_meets (seconds_of s w)) h) n

  module _ (v : Vehicle) (h : FitFor s p v) (all : Bool) (same : all ≡ list_all second_meets (seconds_of s w)) where
    tested : settings_fit s p && list_all second_meets (seconds_of s w) ≡ all
    tested = ap (λ (t : Bool). t && list_all second_meets (seconds_of s w)) (fit_settings s p v h) ∙ sym same

    pub readings_outside : all ≡ false → x ≡ no_averages → Answered (exact_of_readings s p w) x
    unfolding exact_of_readings
    readings_outside a n = outside_answered _ _ x (tested ∙ a) n

    pub readings_within :
        all ≡ true →
        AllNear (exact_averages (conditions_of v) (map counts_of_reading (seconds_of s w))) x →
        Answered (exact_of_readings s p w) x
    unfolding exact_of_readings
    readings_within a n =
        within_answered _ _ x (tested ∙ a)
        (subst (λ (c : Conditions). AllNear (exact_averages c (map counts_of_reading (seconds_of s w))) x) (conditions_kept s p v h) n)
