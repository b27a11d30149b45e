-- What holds of the exact averages besides their definition; the contracts of the two functions carry it.
use Rattle.std.specs.Prelude.{ℕ, ◌+◌, ◌*◌, ◌^◌, ◌≤◌, ◌<◌, Bool, true, false, ◌≡◌, ◌↔◌, List, [], ◌∷◌, map, Ok, Some, None, IsSome}
use Rattle.nearness.specs.Ratio.{whole}
use Rattle.reading.specs.Kind.{Readings}
use Rattle.reading.specs.Units.{second_of}
use Rattle.reading.specs.declared.Second.{Second}
use Rattle.correction.specs.Annex.{Same, ratio, annex_dcf, annex_k}
use Rattle.correction.specs.Dilution.{dilution_divisor}
use Rattle.vehicle.specs.Checked.{checked_of}
use Rattle.vehicle.specs.Settings.{unfit_place, automatic}
use Rattle.vehicle.specs.declared.Conditions.{Conditions}
use Rattle.vehicle.specs.declared.Settings.{Settings}
use Rattle.vehicle.specs.declared.Vehicle.{Vehicle}
use Rattle.window.specs.declared.Counts.{Counts}
use Rattle.loaded_test.specs.Log.{Input, replay, log_of}
use Rattle.loaded_test.specs.Sheet.{last_valid_in}
use Rattle.averaging.specs.Exact.{exact_dcf, exact_k, exact_averages}
use Rattle.averaging.specs.Premise.{conditions_fit, counts_of_second, conditions_in}
use Rattle.averaging.specs.Answers.{exact_of_readings, exact_of_test}
use Rattle.averaging.specs.Whole.{WholesNear}

-- A second within the premise: accepted, not over range in codes 4 to 7, and with "a CO and CO2 sum of 6 percent or more".
pub record Meets (automatic : Bool) (r : Readings) : Type 0 where
  pub second : Second
  pub accepted : second_of r automatic ≡ Ok second
  pub in_range : second.over ≡ false
  pub undiluted : 600 ≤ second.co2.0 + second.co.0

-- Each of these seconds is.
abbrev pub AllMeet : Bool → List Readings → Type 0
AllMeet automatic [] = Unit {0}
AllMeet automatic (r ∷ w) = Meets automatic r × AllMeet automatic w

-- "fit settings and saturation", and each second within the premise
pub record Premise (s : Settings) (p : ℕ) (w : List Readings) : Type 0 where
  pub settings : unfit_place s ≡ 0
  pub least : 500 ≤ p
  pub greatest : p ≤ 4300
  pub seconds : AllMeet (automatic s) w

-- There are exact averages exactly within the premise: "outside it each of the three is -1".
abbrev pub WithinPremise : Type 0
WithinPremise = (s : Settings) (p : ℕ) (w : List Readings) → IsSome (exact_of_readings s p w) ↔ Premise s p w

-- "DCF still held within 1 and 3": at both ends, and between them annex AB1's fraction, wherever that is defined.
pub record DcfHeld (c : Counts) : Type 0 where
  pub least : 10 ^ 7 < dilution_divisor c.co2 c.co → exact_dcf c ≡ whole 1
  pub greatest : 3 * dilution_divisor c.co2 c.co < 10 ^ 7 → exact_dcf c ≡ whole 3
  pub between :
      dilution_divisor c.co2 c.co ≤ 10 ^ 7 →
      10 ^ 7 ≤ 3 * dilution_divisor c.co2 c.co →
      0 < c.co2.0 →
      Same (annex_dcf c.co2 c.co) (ratio (exact_dcf c).top (exact_dcf c).bottom)

-- "by annex AB"
pub record ByAnnex : Type 0 where
  pub dcf : (c : Counts) → DcfHeld c
  -- k_H is annex AB2's fraction
  pub k :
      (x : Conditions) →
      conditions_fit x ≡ true →
      Same (annex_k x.humidity x.pressure x.saturation) (ratio (exact_k x).top (exact_k x).bottom)

-- A test of fit settings and p, after every list of seconds and stops: "Every valid window meets the premise", so that its averages are those
-- of the ten seconds of the last valid window; without one there are none.
pub record OfLastWindow (s : Settings) (p : ℕ) (v : Vehicle) (l : List Input) : Type 0 where
  pub meets :
      (last_valid_in v (log_of v l) ≡ [] → ⊥) →
      exact_of_test (replay v l) ≡
      Some (exact_averages (conditions_in s p) (map counts_of_second (last_valid_in v (log_of v l))))
  pub none : last_valid_in v (log_of v l) ≡ [] → exact_of_test (replay v l) ≡ None

abbrev pub WindowsMeet : Type 0
WindowsMeet = (s : Settings) (p : ℕ) (v : Vehicle) → checked_of s p ≡ Ok v → (l : List Input) → OfLastWindow s p v l

-- What the contract of `averages_of_readings` carries beside its answer.
pub record AveragesClaims : Type 0 where
  pub premise : WithinPremise
  pub annex : ByAnnex
  -- the whole averages that a sheet prints lie near these
  pub whole : WholesNear
