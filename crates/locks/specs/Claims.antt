-- Each lock stands exactly if its plain proposition holds, and the first is the one of the least number; the contract of `first_lock`
-- carries both.
use Rattle.std.specs.Prelude.{ℕ, ◌<◌, Bool, true, false, ◌≡◌, List, ◌↔◌, Some, None}
use Rattle.locks.specs.declared.Lock.{Lock}
use Rattle.locks.specs.Accepted.{Accepted}
use Rattle.locks.specs.Locks.{not_warm, inactive, not_calibrated, not_signed_in, password_lock, authority_lock, unsent_lock, not_prepared, lock_number, first_standing}
use Rattle.locks.specs.Plain.{NotWarm, Inactive, NotCalibrated, NotSignedIn, PasswordLocked, AuthorityLocked, Unsent, NotPrepared}

-- For a start at this clock after these accepted events, with V and U.
pub record StandsExactly (validity limit now : ℕ) (l : List Accepted) : Type 0 where
  pub warm_up : (not_warm l ≡ true) ↔ NotWarm l
  pub activity : (inactive now l ≡ true) ↔ Inactive now l
  pub calibration : (not_calibrated validity now l ≡ true) ↔ NotCalibrated validity now l
  pub sign_in : (not_signed_in now l ≡ true) ↔ NotSignedIn now l
  pub password : (password_lock l ≡ true) ↔ PasswordLocked l
  pub authority : (authority_lock l ≡ true) ↔ AuthorityLocked l
  pub unsent : (unsent_lock limit l ≡ true) ↔ Unsent limit l
  pub prepare : (not_prepared now l ≡ true) ↔ NotPrepared now l

-- For every V, U, clock and list of accepted events.
abbrev pub LockClaims : Type 0
LockClaims = (validity limit now : ℕ) (l : List Accepted) → StandsExactly validity limit now l

-- "A start is locked by the first standing one": that lock stands, and none of a lower number; where none stands, none is the first.
pub record FirstExactly (stands : Lock → Bool) : Type 0 where
  pub first :
      (k : Lock) →
      (first_standing stands ≡ Some k) ↔
      ((stands k ≡ true) × ((j : Lock) → lock_number j < lock_number k → stands j ≡ false))
  pub none : (first_standing stands ≡ None) ↔ ((k : Lock) → stands k ≡ false)

-- Whichever of the eight stand.
abbrev pub FirstClaims : Type 0
FirstClaims = (stands : Lock → Bool) → FirstExactly stands
