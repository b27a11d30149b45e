-- Every valid window of a test that was driven meets the premise. Assumes nothing.
use mathlib.Core.Bool.{true}
use mathlib.Core.Path.{◌≡◌, refl, ap}
use mathlib.Core.List.{List, [], ◌∷◌, map}
use Prim.Native.Nat.{ℕ, ◌+◌}
use native.Mathlib.Omega.{arith}
use borrow.Author.Tests.{le-leb}
use Rattle.std.specs.Prelude.{Some, None}
use Rattle.std.specs.List.{list_all}
use Rattle.refusal.specs.Choice.{pick}
use Rattle.reading.specs.declared.Second.{Second}
use Rattle.vehicle.specs.Claims.{FitFor}
use Rattle.vehicle.specs.Driving.{conditions_of}
use Rattle.vehicle.specs.declared.Conditions.{Conditions}
use Rattle.vehicle.specs.declared.Settings.{Settings}
use Rattle.vehicle.specs.declared.Vehicle.{Vehicle}
use Rattle.vehicle.specs.declared.Mode.{Mode}
use Rattle.vehicle.proofs.FitVehicle.{checked_fit}
use Rattle.window.specs.Measuring.{measured_of, counts_of}
use Rattle.window.specs.declared.Counts.{Counts}
use Rattle.loaded_test.specs.Claim.{AllClean, and_clean, mode_in}
use Rattle.loaded_test.specs.Log.{Input, replay, log_of}
use Rattle.loaded_test.specs.Sheet.{last_valid_in, WindowTold}
use Rattle.loaded_test.specs.State.{last_window}
use Rattle.loaded_test.specs.declared.Test.{Test}
use Rattle.loaded_test.proofs.Passing.{stands}
use Rattle.loaded_test.proofs.Shown.{sheet_told}
use Rattle.averaging.specs.Exact.{exact_averages}
use Rattle.averaging.specs.Premise.{undiluted, counts_of_second, conditions_in}
use Rattle.averaging.specs.Answers.{exact_of_counts, exact_of_test}
use Rattle.averaging.specs.Claims.{OfLastWindow, WindowsMeet}
use Rattle.averaging.proofs.Answering.{conditions_kept, conditions_met}

-- What is kept of measured seconds has their counts.
counts_kept : (v : Vehicle) (mode : Mode) (l : List Second) → map counts_of (map (measured_of v mode) l) ≡ map counts_of_second l
unfolding measured_of
counts_kept v mode [] = refl
counts_kept v mode (s ∷ l) = ap (λ (r : List Counts). counts_of_second s ∷ r) (counts_kept v mode l)

-- No clean second is diluted.
all_undiluted : (l : List Second) → AllClean l → list_all undiluted (map counts_of_second l) ≡ true
all_undiluted [] h = refl
all_undiluted (s ∷ l) (and_clean c h) = rw (le-leb 600 (s.co2.0 + s.co.0) (omega (arith, c.undiluted)), all_undiluted l h)

module _ (s : Settings) (p : ℕ) (v : Vehicle) (fit : FitFor s p v) where
  -- A window of clean seconds meets the premise.
  clean_exact :
      (l : List Second) →
      AllClean l →
      exact_of_counts (conditions_of v) (map counts_of_second l) ≡ Some (exact_averages (conditions_in s p) (map counts_of_second l))
  unfolding exact_of_counts pick
  clean_exact l h =
      rw (conditions_met s p v fit, all_undiluted l h)
      (ap (λ (c : Conditions). Some (exact_averages c (map counts_of_second l))) (conditions_kept s p v fit))

  module _ (l : List Input) where
    abbrev x : Test
    x = replay v l

    abbrev last : List Second
    last = last_valid_in v (log_of v l)

    window_exact :
        WindowTold v (log_of v l) x →
        exact_of_test x ≡ Some (exact_averages (conditions_in s p) (map counts_of_second last))
    unfolding exact_of_test
    window_exact w =
        rw (w.window, counts_kept v (mode_in (log_of v l)) last, (stands v l).vehicle) (clean_exact last w.clean)

    none_exact : last_window x ≡ None → exact_of_test x ≡ None
    unfolding exact_of_test
    none_exact e = rw e refl

    of_last_window : OfLastWindow s p v l
    of_last_window =
        let told = sheet_told v l in
        record { meets = λ h. window_exact (told.some h); none = λ h. none_exact (told.none h).0 }

pub windows_meet : WindowsMeet
windows_meet s p v e l = of_last_window s p v (checked_fit s p v e) l
