-- What a checked vehicle is: its settings and p are fit, it holds what document 01's tables give for them, and k is at most
-- 5,218,329. Assumes nothing.
use mathlib.Core.Path.{◌≡◌, refl, subst}
use mathlib.Core.Bool.{true}
use Prim.Native.Nat.{ℕ, ◌≤◌}
use native.Mathlib.Omega.{arith}
use borrow.Author.Tests.{eqb-true}
use Rattle.std.specs.Prelude.{Ok, Err, Result}
use Rattle.refusal.specs.declared.Refusal.{Refusal}
use Rattle.refusal.proofs.Answers.{ok_same}
use Rattle.refusal.proofs.Picked.{on_pick}
use Rattle.correction.specs.Humidity.{saturation_fit}
use Rattle.correction.proofs.Ranges.{in_range_lem, k_within}
use Rattle.vehicle.specs.Settings.{unfit_place}
use Rattle.vehicle.specs.Loads.{load_for, target_for}
use Rattle.vehicle.specs.Checked.{vehicle_of, checked_of}
use Rattle.vehicle.specs.Driving.{aim_of, set_load, target_of}
use Rattle.vehicle.specs.Claims.{FitFor, CheckedFit}
use Rattle.vehicle.specs.declared.Settings.{Settings}
use Rattle.vehicle.specs.declared.Vehicle.{Vehicle}
use Rattle.vehicle.specs.declared.Mode.{Mode}
use Rattle.vehicle.specs.declared.Mode.TheVariants.{One, Two}
use Rattle.vehicle.proofs.Fitness.{humidity_fit_of, pressure_fit_of}

-- Set load and target speed are those of the tables.
pub load_derived : (s : Settings) (p : ℕ) (mode : Mode) → set_load (vehicle_of s p) mode ≡ load_for s.displacement mode
unfolding vehicle_of aim_of
load_derived s p One = refl
load_derived s p Two = refl

pub target_derived : (s : Settings) (p : ℕ) (mode : Mode) → target_of (vehicle_of s p) mode ≡ target_for s.kind mode
unfolding vehicle_of aim_of
target_derived s p One = refl
target_derived s p Two = refl

k_most : (s : Settings) (p : ℕ) → unfit_place s ≡ 0 → saturation_fit p ≡ true → (vehicle_of s p).k ≤ 5218329
unfolding vehicle_of
k_most s p f g =
    k_within s.humidity s.pressure p (in_range_lem _ _ _ (humidity_fit_of s f) (pressure_fit_of s f) g)

derived_fit : (s : Settings) (p : ℕ) → unfit_place s ≡ 0 → saturation_fit p ≡ true → FitFor s p (vehicle_of s p)
derived_fit s p f g =
    record {
      settings_are_fit = f;
      saturation_is_fit = g;
      derived = refl;
      target = target_derived s p;
      load = load_derived s p;
      most = k_most s p f g;
    }

never : (r : Refusal) (v : Vehicle) → ◌≡◌ {A = Result Vehicle Refusal} (Err r) (Ok v) → ⊥
never r v e = let z : ◌≡◌ {A = ℕ} 0 1 = cc in omega arith

pub checked_fit : CheckedFit
unfolding checked_of
checked_fit s p v =
    on_pick (λ (x : Result Vehicle Refusal). x ≡ Ok v → FitFor s p v) _ _ _
    (λ a. on_pick (λ (x : Result Vehicle Refusal). x ≡ Ok v → FitFor s p v) _ _ _
    (λ b e. subst (FitFor s p) (ok_same (vehicle_of s p) v e) (derived_fit s p (eqb-true _ _ a) b))
    (λ b e. absurd (never _ v e)))
    (λ a e. absurd (never _ v e))
