-- What the two functions answer (document 02, A.11): "Each must lie within 2^-45 times the exact average of that average, zero giving exactly
-- zero", and outside the premise "each of the three is -1".
use Rattle.std.specs.Prelude.{ℕ, true, ◌&&◌, ◌≡◌, List, map, pos, Float, Result, Option, Some, None, IsSome}
use Rattle.std.specs.List.{list_all}
use Rattle.std.specs.Option.{option_and_then}
use Rattle.std.specs.Float.{fin}
use Rattle.refusal.specs.Choice.{pick}
use Rattle.refusal.specs.declared.Refusal.{Refusal}
use Rattle.nearness.specs.Ratio.{Ratio, Approximates}
use Rattle.reading.specs.Kind.{Readings}
use Rattle.reading.specs.Units.{second_of}
use Rattle.reading.specs.declared.Second.{Second}
use Rattle.vehicle.specs.Driving.{conditions_of}
use Rattle.vehicle.specs.Settings.{automatic}
use Rattle.vehicle.specs.declared.Conditions.{Conditions}
use Rattle.vehicle.specs.declared.Settings.{Settings}
use Rattle.window.specs.Measuring.{counts_of}
use Rattle.window.specs.declared.Counts.{Counts}
use Rattle.loaded_test.specs.State.{last_window}
use Rattle.loaded_test.specs.declared.Test.{Test}
use Rattle.averaging.specs.Exact.{ExactAverages, exact_averages}
use Rattle.averaging.specs.Premise.{undiluted, conditions_fit, settings_fit, second_meets, counts_of_reading, conditions_in}
use Rattle.averaging.specs.Decimals.{billionths}
use Rattle.averaging.specs.declared.FloatAverages.{FloatAverages}

-- A float lies near its exact average, and has its digits (Decimals.antt).
pub record Answers (v : Ratio) (x : Float) : Type 0 where
  pub near : Approximates x v
  pub digits : IsSome (billionths x)

-- So does each of the three.
pub record AllNear (e : ExactAverages) (x : FloatAverages) : Type 0 where
  pub hc : Answers e.hc x.hc
  pub co : Answers e.co x.co
  pub nitric : Answers e.no x.no

-- -1
abbrev pub minus_one : Float
minus_one = fin true 1 (pos 0)

-- "outside it each of the three is -1"
abbrev pub no_averages : FloatAverages
no_averages = record { hc = minus_one; co = minus_one; no = minus_one }

-- An answer where there are exact averages, and where there are none.
abbrev pub Answered : Option ExactAverages → FloatAverages → Type 0
Answered (Some e) x = AllNear e x
Answered None x = x ≡ no_averages

-- Ten seconds as they were read.
abbrev pub seconds_of : Settings → List Readings → List (Result Second Refusal)
seconds_of s w = map (λ r. second_of r (automatic s)) w

-- The exact averages of ten seconds as readings, with settings and p; none outside the premise.
unfoldable pub exact_of_readings : Settings → ℕ → List Readings → Option ExactAverages
exact_of_readings s p w =
    pick (settings_fit s p && list_all second_meets (seconds_of s w))
    (Some (exact_averages (conditions_in s p) (map counts_of_reading (seconds_of s w))))
    None

-- The exact averages of a window's counts; none outside the premise. A window of a test that was driven is never outside (Claims.antt).
unfoldable pub exact_of_counts : Conditions → List Counts → Option ExactAverages
exact_of_counts x l = pick (conditions_fit x && list_all undiluted l) (Some (exact_averages x l)) None

-- The exact averages of a test's last valid window; none where there is no window.
unfoldable pub exact_of_test : Test → Option ExactAverages
exact_of_test x = option_and_then (λ w. exact_of_counts (conditions_of x.vehicle) (map counts_of w)) (last_window x)
