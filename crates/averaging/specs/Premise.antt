-- "The premise is ten accepted seconds, no gas of codes 4 to 7 over range, each with a CO and CO2 sum of 6 percent or more, and fit settings and
-- saturation" (document 02, A.11). That there are ten is the type's.
use Rattle.std.specs.Prelude.{ℕ, Bool, false, not, ◌&&◌, leb, eqb, Ok, Err, Result}
use Rattle.refusal.specs.declared.Refusal.{Refusal}
use Rattle.reading.specs.declared.Second.{Second}
use Rattle.correction.specs.Dilution.{dilution_sum}
use Rattle.correction.specs.Humidity.{humidity_fit, pressure_fit, saturation_fit}
use Rattle.vehicle.specs.Settings.{unfit_place}
use Rattle.vehicle.specs.declared.Conditions.{Conditions}
use Rattle.vehicle.specs.declared.Settings.{Settings}
use Rattle.window.specs.declared.Counts.{Counts}

-- "a CO and CO2 sum of 6 percent or more", in hundredths of a percent
abbrev pub undiluted : Counts → Bool
undiluted c = leb 600 (dilution_sum c.co2 c.co)

-- Humidity, pressure and saturation pressure are fit.
abbrev pub conditions_fit : Conditions → Bool
conditions_fit x = humidity_fit x.humidity && (pressure_fit x.pressure && saturation_fit x.saturation)

-- "fit settings and saturation"
abbrev pub settings_fit : Settings → ℕ → Bool
settings_fit s p = eqb (unfit_place s) 0 && saturation_fit p

-- The four counts of a second that was accepted.
abbrev pub counts_of_second : Second → Counts
counts_of_second s = record { hc = s.hc; co = s.co; no = s.no; co2 = s.co2 }

-- A second meets the premise: it is accepted, no gas of codes 4 to 7 is over range, and it is not diluted.
unfoldable pub second_meets : Result Second Refusal → Bool
second_meets (Ok s) = not s.over && undiluted (counts_of_second s)
second_meets (Err r) = false

-- Its counts; one that is not accepted has none, and 0 stands for each.
unfoldable pub counts_of_reading : Result Second Refusal → Counts
counts_of_reading (Ok s) = counts_of_second s
counts_of_reading (Err r) = record { hc = 0; co = record { 0 = 0 }; no = 0; co2 = record { 0 = 0 } }

-- What k_H is worked out from, of settings and p.
abbrev pub conditions_in : Settings → ℕ → Conditions
conditions_in s p = record { humidity = s.humidity; pressure = s.pressure; saturation = p }
