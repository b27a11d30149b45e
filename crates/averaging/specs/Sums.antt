-- What the sums of a window are in floats: an error that is carried, for the proofs alone.
use Rattle.std.specs.Prelude.{ℕ, suc, ◌+◌, ◌*◌, ◌^◌, List, length, Float}
use Rattle.nearness.specs.Near.{Sound}
use Rattle.vehicle.specs.declared.Gases.{Gases}
use Rattle.window.specs.declared.Counts.{Counts}
use Rattle.averaging.specs.Exact.{hc_in, co_in, no_in, exact_sum}

-- A sum over so many seconds is two roundings from the exact one, and one more for each second. A count is below 2^16 and DCF at most 4.
abbrev pub SumSound : (Counts → ℕ) → List Counts → Float → Type 0
SumSound count l x = Sound x (2 + length l) (2 ^ 18 * suc (length l)) (exact_sum count l)

-- So are the three.
pub record SumsSound (l : List Counts) (x : Gases Float) : Type 0 where
  pub hc : SumSound hc_in l x.hc
  pub co : SumSound co_in l x.co
  pub nitric : SumSound no_in l x.no
