-- The dilution sum, D and the dilution correction DCF (document 01, "Corrections"; document 02, A.9; 004, annex AB1).
use Rattle.std.specs.Prelude.{ℕ, ◌+◌, ◌*◌, ◌^◌, min, max, eqb}
use Rattle.refusal.specs.Choice.{pick}
use Rattle.reading.specs.declared.Hundredths.{Hundredths}
use Rattle.correction.specs.Rounding.{half_up}

-- CO2 = a and CO = b in units, "the dilution sum a + b".
abbrev pub dilution_sum : Hundredths → Hundredths → ℕ
dilution_sum co2 co = co2.0 + co.0

-- "With CO2 = a and CO = b in units, AB1 reduces to 10^7/D", "D becomes 6,524a + 4,644b".
abbrev pub dilution_divisor : Hundredths → Hundredths → ℕ
dilution_divisor co2 co = 6524 * co2.0 + 4644 * co.0

-- "held within 1,000,000 and 3,000,000"
abbrev pub held : ℕ → ℕ
held x = max 1000000 (min 3000000 x)

-- "DCF is 10^13/D in millionths, rounded half up, held within 1,000,000 and 3,000,000; D = 0 gives 3,000,000."
unfoldable pub dcf_of : Hundredths → Hundredths → ℕ
dcf_of co2 co = pick (eqb (dilution_divisor co2 co) 0) 3000000 (held (half_up (10 ^ 13) (dilution_divisor co2 co)))
