-- Where all seven settings are fit, k_H is there exactly where p is fit; so `checked_of` by the cases of `humidity_factor`.
-- Assumes nothing.
use mathlib.Core.Path.{◌≡◌, refl, ◌∙◌, sym, ap}
use mathlib.Core.Bool.{Bool, true, false}
use mathlib.Core.List.{List, [], ◌∷◌}
use Prim.Native.Nat.{ℕ, zero, suc, ◌+◌, ◌<◌}
use native.Mathlib.Omega.{arith}
use lib.Dec.{leb, eqb}
use lib.ListN.{get_or}
use borrow.Author.Tests.{eq-eqb, eqb-true}
use Rattle.refusal.specs.declared.Refusal.TheVariants.{SettingUnfit, SaturationUnfit}
use Rattle.std.specs.Prelude.{Some, None, Ok, Err, Result}
use Rattle.refusal.specs.declared.Refusal.{Refusal}
use Rattle.vehicle.specs.declared.Vehicle.{Vehicle}
use Rattle.refusal.specs.Choice.{pick, first_unfit}
use Rattle.refusal.specs.Checking.{fine}
use Rattle.refusal.proofs.Checks.{need_true, need_refused}
use Rattle.correction.specs.Humidity.{humidity_fit, pressure_fit, saturation_fit, k_h, humidity_factor}
use Rattle.correction.proofs.Ranges.{both_true}
use Rattle.vehicle.specs.Settings.{automatic, setting_fit, settings_fit, unfit_place, settings_checked, range_at, ranges}
use Rattle.vehicle.specs.Limits.{Limits, limits_for}
use Rattle.vehicle.specs.Loads.{aim_for}
use Rattle.vehicle.specs.Checked.{vehicle_of, checked_of}
use Rattle.vehicle.specs.declared.Aim.{Aim}
use Rattle.vehicle.specs.declared.Settings.{Settings}
use Rattle.vehicle.specs.declared.Mode.TheVariants.{One, Two}

-- No place is unfit where the first unfit one is 0.
all_fit : (n : ℕ) (l : List Bool) → 0 < n → first_unfit n l ≡ 0 → (i : ℕ) → get_or l i true ≡ true
unfolding first_unfit
all_fit n [] h e i = refl
all_fit n (true ∷ l) h e zero = refl
all_fit n (true ∷ l) h e (suc i) = all_fit (n + 1) l (omega arith) e i
all_fit n (false ∷ l) h e i = absurd (omega arith)

module _ (s : Settings) (fit : unfit_place s ≡ 0) where
  pub humidity_fit_of : humidity_fit s.humidity ≡ true
  unfolding unfit_place setting_fit range_at ranges pick
  humidity_fit_of = (both_true (leb 0 s.humidity) _ (all_fit 1 (settings_fit s) (omega arith) fit 4)).1

  pub pressure_fit_of : pressure_fit s.pressure ≡ true
  unfolding unfit_place setting_fit range_at ranges pick
  pressure_fit_of = all_fit 1 (settings_fit s) (omega arith) fit 6

  factor_of :
      (p : ℕ) →
      humidity_factor s.humidity s.pressure p ≡
      pick (saturation_fit p) (Some (k_h s.humidity s.pressure p)) None
  unfolding humidity_factor
  factor_of p = rw (humidity_fit_of, pressure_fit_of)

  checked_as :
      (p : ℕ) → checked_of s p ≡ pick (saturation_fit p) (Ok (vehicle_of s p)) (Err (SaturationUnfit 0))
  unfolding checked_of pick
  checked_as p = rw (eq-eqb (unfit_place s) 0 fit)

-- The answer goes by the factor's case.
none_refused :
    (t : Bool) (k : ℕ) (x y : Result Vehicle Refusal) → pick t (Some k) None ≡ None → y ≡ pick t x y
unfolding pick
none_refused true k x y e = cc
none_refused false k x y e = refl

some_fit : (t : Bool) (k q : ℕ) (x y : Result Vehicle Refusal) → pick t (Some k) None ≡ Some q → pick t x y ≡ x
unfolding pick
some_fit true k q x y e = refl
some_fit false k q x y e = cc

some_is : (t : Bool) (k q : ℕ) → pick t (Some k) None ≡ Some q → q ≡ k
unfolding pick
some_is true k q e = cc
some_is false k q e = cc

module _ (s : Settings) (p : ℕ) where
  -- The first unfit setting is the answer.
  pub setting_refused : (r : Refusal) → settings_checked s ≡ Err r → checked_of s p ≡ Err r
  unfolding checked_of pick
  setting_refused r e =
      let n = need_refused (eqb (unfit_place s) 0) (SettingUnfit (unfit_place s)) r e in
      simp n.0 (ap Err n.1)

  module _ (fine_settings : settings_checked s ≡ fine) where
    fit : unfit_place s ≡ 0
    fit = eqb-true _ 0 (need_true _ _ fine_settings)

    pub checked_none : humidity_factor s.humidity s.pressure p ≡ None → Err (SaturationUnfit 0) ≡ checked_of s p
    checked_none e = none_refused (saturation_fit p) _ _ _ (sym (factor_of s fit p) ∙ e) ∙ sym (checked_as s fit p)

    pub checked_some :
        (auto : Bool) (l : Limits) (a b : Aim) (q : ℕ) →
        auto ≡ automatic s →
        l ≡ limits_for s.kind s.year →
        a ≡ aim_for s.kind s.displacement One →
        b ≡ aim_for s.kind s.displacement Two →
        humidity_factor s.humidity s.pressure p ≡ Some q →
        Ok
        (record {
          automatic = auto;
          limits = l;
          first = a;
          second = b;
          k = q;
          humidity = s.humidity;
          pressure = s.pressure;
          saturation = p;
        }) ≡
        checked_of s p
    unfolding vehicle_of
    checked_some auto l a b q eg el ea eb e =
        let f = sym (factor_of s fit p) ∙ e in
        rw (eg, el, ea, eb, some_is (saturation_fit p) _ q f)
        (sym (some_fit (saturation_fit p) _ q (Ok (vehicle_of s p)) _ f) ∙ sym (checked_as s fit p))
