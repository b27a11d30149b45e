-- The claims about the exact averages. Assumes nothing.
use mathlib.Core.Bool.{Bool, true, false, true≢false, not}
use mathlib.Core.Path.{◌≡◌, refl, sym}
use mathlib.Core.List.{List, [], ◌∷◌, map}
use Prim.Native.Nat.{ℕ, ◌*◌, ◌^◌}
use native.Mathlib.Nat.{mul-one, one-mul}
use borrow.Author.Tests.{eqb-true, leb-true, le-leb, eq-eqb, not-true}
use lib.Dec.{leb, eqb}
use Rattle.std.specs.Prelude.{Ok, Err, Result, Some, None, IsSome}
use Rattle.std.specs.List.{list_all}
use Rattle.refusal.specs.Choice.{pick}
use Rattle.refusal.specs.declared.Refusal.{Refusal}
use Rattle.nearness.specs.Ratio.{whole, over}
use Rattle.reading.specs.Kind.{Readings}
use Rattle.reading.specs.Units.{second_of}
use Rattle.reading.specs.declared.Second.{Second}
use Rattle.correction.specs.Annex.{Fraction, Same, ratio, annex_dcf, annex_k}
use Rattle.correction.specs.Dilution.{dilution_divisor}
use Rattle.correction.specs.Humidity.{humidity_fit, pressure_fit, saturation_fit, dry_pressure, humidity_divisor}
use Rattle.correction.proofs.Ranges.{both_true}
use Rattle.correction.proofs.Reduced.{dilution_reduced, humidity_reduced}
use Rattle.vehicle.specs.Settings.{unfit_place, automatic}
use Rattle.window.specs.declared.Counts.{Counts}
use Rattle.averaging.specs.Exact.{dilution_fraction, exact_dcf, exact_k}
use Rattle.averaging.specs.Premise.{settings_fit, second_meets}
use Rattle.averaging.specs.Answers.{exact_of_readings}
use Rattle.averaging.specs.Claims.{Meets, AllMeet, Premise, WithinPremise, DcfHeld, ByAnnex, AveragesClaims}
use Rattle.averaging.proofs.Held.{held_least, held_greatest, held_between}
use Rattle.averaging.proofs.Whole.{wholes_near}

-- Each second that meets the premise, and only such.
meets_one : (a : Bool) (r : Readings) (x : Result Second Refusal) → second_of r a ≡ x → second_meets x ≡ true → Meets a r
unfolding second_meets
meets_one a r (Ok s) e h =
    let (o, u) = both_true (not s.over) _ h in
    record { second = s; accepted = e; in_range = not-true _ o; undiluted = leb-true 600 _ u }
meets_one a r (Err f) e h = absurd (true≢false (sym h))

meets_back : (a : Bool) (r : Readings) → Meets a r → second_meets (second_of r a) ≡ true
unfolding second_meets
meets_back a r m = rw m.accepted (rw (m.in_range, le-leb 600 _ m.undiluted))

meets_all : (a : Bool) (w : List Readings) → list_all second_meets (map (λ r. second_of r a) w) ≡ true → AllMeet a w
meets_all a [] h = tt
meets_all a (r ∷ w) h =
    let (m, k) = both_true (second_meets (second_of r a)) _ h in
    (meets_one a r (second_of r a) refl m, meets_all a w k)

all_back : (a : Bool) (w : List Readings) → AllMeet a w → list_all second_meets (map (λ r. second_of r a) w) ≡ true
all_back a [] h = refl
all_back a (r ∷ w) (m, k) = rw (meets_back a r m, all_back a w k)

-- Something is picked exactly if the test holds.
some_picked : {A : Type 0} (b : Bool) (x : A) → IsSome (pick b (Some x) None) → b ≡ true
unfolding pick
some_picked true x h = refl
some_picked false x h = h

picked_some : {A : Type 0} (b : Bool) (x : A) → b ≡ true → IsSome (pick b (Some x) None)
unfolding pick
picked_some b x h = rw h refl

within_premise : WithinPremise
unfolding exact_of_readings
within_premise s p w = (to, from)
  where
    to : IsSome (exact_of_readings s p w) → Premise s p w
    to h =
        let (fit, all) = both_true (settings_fit s p) _ (some_picked _ _ h) in
        let (settings, saturation) = both_true (eqb (unfit_place s) 0) (saturation_fit p) fit in
        let (least, greatest) = both_true (leb 500 p) (leb p 4300) saturation in
        record {
          settings = eqb-true (unfit_place s) 0 settings;
          least = leb-true 500 p least;
          greatest = leb-true p 4300 greatest;
          seconds = meets_all (automatic s) w all;
        }

    from : Premise s p w → IsSome (exact_of_readings s p w)
    from h =
        picked_some _ _
        (rw (eq-eqb (unfit_place s) 0 h.settings, le-leb 500 p h.least, le-leb p 4300 h.greatest, all_back (automatic s) w h.seconds))

-- A quotient of two whole numbers, as the annex's fractions have it.
as_quotient : (x : Fraction) (a b : ℕ) → Same x (ratio a b) → Same x (ratio (over (whole a) (whole b)).top (over (whole a) (whole b)).bottom)
unfolding over whole
as_quotient x a b h = rw (mul-one a, one-mul b) h

dcf_is_held : (c : Counts) → DcfHeld c
unfolding exact_dcf dilution_fraction
dcf_is_held c =
    let d = dilution_divisor c.co2 c.co in
    record {
      least = λ h. held_least (λ r. r ≡ whole 1) d h refl;
      greatest = λ h. held_greatest (λ r. r ≡ whole 3) d h refl;
      between = λ h g p.
          held_between (λ r. Same (annex_dcf c.co2 c.co) (ratio r.top r.bottom)) d h g
          (as_quotient (annex_dcf c.co2 c.co) (10 ^ 7) d (dilution_reduced c.co2 c.co p));
    }

by_annex : ByAnnex
unfolding exact_k
by_annex =
    record {
      dcf = dcf_is_held;
      k = λ x h.
          let (r, rest) = both_true (humidity_fit x.humidity) _ h in
          let (b, p) = both_true (pressure_fit x.pressure) (saturation_fit x.saturation) rest in
          as_quotient (annex_k x.humidity x.pressure x.saturation)
          (10 ^ 6 * dry_pressure x.humidity x.pressure x.saturation) (humidity_divisor x.humidity x.pressure x.saturation)
          (humidity_reduced x.humidity x.pressure x.saturation r b p);
    }

pub averages_claims : AveragesClaims
averages_claims = record { premise = within_premise; annex = by_annex; whole = wholes_near }
