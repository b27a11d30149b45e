-- How far the whole averages that are printed of a window (window/specs/Judging.antt) lie from its exact ones (Exact.antt): no farther than the
-- rounding to the unit, and that of DCF and of k_H to millionths, explain. Proofs are in proofs/.
use Rattle.std.specs.Prelude.{ℕ, ◌+◌, ◌*◌, ◌^◌, ◌≤◌, ◌<◌, ◌≡◌, List, map, length, Ok}
use Rattle.std.specs.List.{sum_by}
use Rattle.nearness.specs.Ratio.{Ratio, distance}
use Rattle.reading.specs.declared.Second.{Second}
use Rattle.vehicle.specs.Checked.{checked_of}
use Rattle.vehicle.specs.declared.Settings.{Settings}
use Rattle.vehicle.specs.declared.Vehicle.{Vehicle}
use Rattle.vehicle.specs.declared.Mode.{Mode}
use Rattle.window.specs.Bounds.{AllConverted}
use Rattle.window.specs.Judging.{Averages, averages_of}
use Rattle.window.specs.Measuring.{measured_of}
use Rattle.averaging.specs.Exact.{ExactAverages, exact_averages}
use Rattle.averaging.specs.Premise.{counts_of_second, conditions_in}

-- |n − v| ≤ 1/2 + c·(1/2)·10^-6/10: half a unit, and a tenth of half a millionth for each of c. Both sides are multiplied by 2·10^7·bottom. The
-- fraction is one: its bottom is above 0.
pub record NearWhole (n : ℕ) (v : Ratio) (c : ℕ) : Type 0 where
  pub divides : 0 < v.bottom
  pub near : distance (n * v.bottom) v.top * (2 * 10 ^ 7) ≤ v.bottom * (10 ^ 7 + c)

-- The three averages of these seconds. DCF in millionths is off by half a millionth at most, and so is its product with each count of HC and of CO.
-- For NO, k_H in millionths is off by as much: as DCF is at most 3 and k_H below 6, their product is off by 9 halves of a millionth at most.
pub record WholeNear (l : List Second) (e : ExactAverages) (a : Averages) : Type 0 where
  pub hc : NearWhole a.hc e.hc (sum_by (λ s. s.hc) l)
  pub co : NearWhole a.co e.co (sum_by (λ s. s.co.0) l)
  pub nitric : NearWhole a.no e.no (9 * sum_by (λ s. s.no) l)

-- So it is for any ten converted seconds with a checked vehicle: the averages that a sheet prints, and those of annex AB, exact.
abbrev pub WholesNear : Type 0
WholesNear =
    (s : Settings) (p : ℕ) (v : Vehicle) →
    checked_of s p ≡ Ok v →
    (mode : Mode) (l : List Second) →
    AllConverted l →
    length l ≡ 10 →
    WholeNear l (exact_averages (conditions_in s p) (map counts_of_second l)) (averages_of v (map (measured_of v mode) l))
