-- The exact averages of a window, in units, each a fraction of two whole numbers by annex AB (document 02, A.11; document 01, "Corrections";
-- 004, annex AB): from the unit counts, with DCF and k_H as the fractions that document 01 reduces them to. Nothing is rounded.
use Rattle.std.specs.Prelude.{ℕ, ◌*◌, ◌^◌, List, [], ◌∷◌, leb}
use Rattle.refusal.specs.Choice.{pick}
use Rattle.nearness.specs.Ratio.{Ratio, whole, times, over, plus}
use Rattle.correction.specs.Dilution.{dilution_divisor}
use Rattle.correction.specs.Humidity.{dry_pressure, humidity_divisor}
use Rattle.vehicle.specs.declared.Conditions.{Conditions}
use Rattle.window.specs.declared.Counts.{Counts}

-- "AB1 reduces to 10^7/D"
unfoldable pub dilution_fraction : Counts → Ratio
dilution_fraction c = over (whole (10 ^ 7)) (whole (dilution_divisor c.co2 c.co))

-- The lesser of a fraction and n.
unfoldable pub at_most : ℕ → Ratio → Ratio
at_most n x = pick (leb x.top (n * x.bottom)) x (whole n)

-- The greater of a fraction and n.
unfoldable pub at_least : ℕ → Ratio → Ratio
at_least n x = pick (leb (n * x.bottom) x.top) x (whole n)

-- "DCF still held within 1 and 3"
unfoldable pub exact_dcf : Counts → Ratio
exact_dcf c = at_least 1 (at_most 3 (dilution_fraction c))

-- k_H, as 10^6·E/(1,352,359E − 20,434,190rp)
unfoldable pub exact_k : Conditions → Ratio
exact_k x =
    over (whole (10 ^ 6 * dry_pressure x.humidity x.pressure x.saturation))
    (whole (humidity_divisor x.humidity x.pressure x.saturation))

-- A second's counts of HC, CO and NO in units.
abbrev pub hc_in : Counts → ℕ
hc_in c = c.hc

-- CO in hundredths of a percent.
abbrev pub co_in : Counts → ℕ
co_in c = c.co.0

-- NO in units.
abbrev pub no_in : Counts → ℕ
no_in c = c.no

-- A second's count times its DCF.
abbrev pub corrected : (Counts → ℕ) → Counts → Ratio
corrected count c = times (whole (count c)) (exact_dcf c)

-- "the sum of HC·DCF", and of CO·DCF and NO·DCF, over seconds
unfoldable pub exact_sum : (Counts → ℕ) → List Counts → Ratio
exact_sum count [] = whole 0
exact_sum count (c ∷ l) = plus (corrected count c) (exact_sum count l)

-- The average over a window's ten seconds.
abbrev pub exact_average : (Counts → ℕ) → List Counts → Ratio
exact_average count l = over (exact_sum count l) (whole 10)

-- The three averages of a window.
pub record ExactAverages : Type 0 where
  pub hc : Ratio
  pub co : Ratio
  pub no : Ratio

-- NO has k besides.
unfoldable pub exact_averages : Conditions → List Counts → ExactAverages
exact_averages x l =
    record {
      hc = exact_average hc_in l;
      co = exact_average co_in l;
      no = times (exact_average no_in l) (exact_k x);
    }
