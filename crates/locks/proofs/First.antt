-- The first lock that stands is the one of the least number. Assumes nothing.
use Prim.Native.Nat.{◌<◌}
use native.Mathlib.Omega.{arith}
use mathlib.Core.Bool.{Bool, true, false}
use mathlib.Core.Path.{◌≡◌}
use Rattle.std.specs.Prelude.{Some, None}
use Rattle.locks.specs.declared.Lock.{Lock}
use Rattle.locks.specs.declared.Lock.TheVariants.{NotWarm, Inactive, NotCalibrated, NotSignedIn, Password, Authority, Unsent, Unprepared}
use Rattle.locks.specs.Locks.{lock_number, first_standing}
use Rattle.locks.specs.Claims.{FirstClaims}

first_stands : (stands : Lock → Bool) (k : Lock) → first_standing stands ≡ Some k → stands k ≡ true
unfolding first_standing
first_stands stands k h = grind arith

none_before :
    (stands : Lock → Bool) (j k : Lock) → first_standing stands ≡ Some k → lock_number j < lock_number k → stands j ≡ false
unfolding first_standing
none_before stands j k h less = grind arith

none_standing : (stands : Lock → Bool) (k : Lock) → first_standing stands ≡ None → stands k ≡ false
unfolding first_standing
none_standing stands k h = grind arith

no_first : (stands : Lock → Bool) → ((k : Lock) → stands k ≡ false) → first_standing stands ≡ None
unfolding first_standing
no_first stands h = rw (h NotWarm, h Inactive, h NotCalibrated, h NotSignedIn, h Password, h Authority, h Unsent, h Unprepared)

is_first :
    (stands : Lock → Bool) (k : Lock) →
    stands k ≡ true →
    ((j : Lock) → lock_number j < lock_number k → stands j ≡ false) →
    first_standing stands ≡ Some k
unfolding first_standing
is_first stands k here before = grind (arith, before NotWarm, before Inactive, before NotCalibrated, before NotSignedIn, before Password, before Authority, before Unsent)

pub first_exactly : FirstClaims
first_exactly stands = record {
  first = λ k. ((λ h. (first_stands stands k h, λ j. none_before stands j k h)), (λ h. is_first stands k h.0 h.1));
  none = ((λ h k. none_standing stands k h), no_first stands);
}
