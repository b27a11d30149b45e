-- Runs about the locks: which start is locked, and by which lock.
use Rattle.refusal.specs.declared.Refusal.TheVariants.{StartLocked}
use Rattle.std.specs.Prelude.{ℕ, List, [], ◌∷◌}
use Rattle.reading.specs.declared.Reading.TheVariants.{Over}
use Rattle.loaded_test.specs.declared.Word.TheVariants.{Incomplete}
use Rattle.locks.specs.declared.Calibration.TheVariants.{Failed}
use Rattle.locks.specs.declared.Try.TheVariants.{Good, Wrong}
use Rattle.locks.specs.declared.Event.TheVariants.{PowerOn, ClockSetting, WarmUp, Calibration, Try, AuthorityLock, AuthorityUnlock, Upload, Stop}
use Rattle.worked.specs.Events.{times, signed_out, sign_in, ready, start, clean, at_one}
use Rattle.worked.specs.Answers.{Exchange, accepts, refuses, judges, accepted}
use Rattle.worked.specs.Tests.{started, resting}

-- The third void is a stop 1,801 s after the last second: a stop does not renew lock 2.
abbrev pub stop_renews_nothing : List Exchange
stop_renews_nothing =
    started
    (accepts (at_one Over)
    ∷ resting
    (accepts (at_one Over)
    ∷ resting
    (accepts (at_one clean) ∷ judges (Stop 1803 1) Incomplete 0 0 0 0 ∷ refuses (start 1803) (StartLocked 2) ∷ [])))

-- The start is locked until warm-up, calibration and sign-in have come again, in front of a run.
abbrev pub voided : ℕ → List Exchange → List Exchange
voided now run =
    refuses (start now) (StartLocked 1)
    ∷ accepts (WarmUp now)
    ∷ refuses (start now) (StartLocked 3)
    ∷ accepted (signed_out now) (refuses (start now) (StartLocked 4) ∷ run)

-- A clock setting voids warm-up, calibration and sign-in, and so does a power-on.
abbrev pub session_voided : List Exchange
session_voided =
    accepted (ready 5)
    (accepts (ClockSetting 6 3)
    ∷ voided 3
    (accepted (ready 4) (accepts (PowerOn 5) ∷ voided 5 (accepts (sign_in 5) ∷ accepts (start 5) ∷ []))))

-- A passed and then a failed calibration: the latest decides.
abbrev pub failed_last : List Exchange
failed_last = accepted (ready 0) (accepts (Calibration 1 Failed) ∷ refuses (start 2) (StartLocked 3) ∷ [])

-- Four wrong tries across a power-on and a clock setting: lock 5, behind lock 4 until a good try.
abbrev pub four_wrong : List Exchange
four_wrong =
    accepts (Try 1 Wrong)
    ∷ accepts (Try 2 Wrong)
    ∷ accepts (PowerOn 3)
    ∷ accepts (Try 4 Wrong)
    ∷ accepts (ClockSetting 4 5)
    ∷ accepts (Try 5 Wrong)
    ∷ accepted (ready 6)
    (refuses (start 6) (StartLocked 5)
    ∷ accepts (Try 7 Wrong)
    ∷ refuses (start 7) (StartLocked 4)
    ∷ accepts (sign_in 8)
    ∷ refuses (start 8) (StartLocked 5)
    ∷ [])

-- Three wrong tries, an unlock, one more: lock 4, and no lock 5 behind it, since the unlock clears the row.
abbrev pub unlocked_between : List Exchange
unlocked_between =
    accepted (ready 0)
    (times 3 (accepts (Try 1 Wrong))
    (accepts (AuthorityUnlock 2)
    ∷ accepts (Try 3 Wrong)
    ∷ refuses (start 4) (StartLocked 4)
    ∷ accepts (sign_in 5)
    ∷ accepts (start 5)
    ∷ []))

-- Three wrong tries, a good one that has expired, one more: lock 4, and no lock 5 behind it, since a good try of any expiry ends the row.
abbrev pub expired_between : List Exchange
expired_between =
    accepted (ready 0)
    (times 3 (accepts (Try 2 Wrong))
    (accepts (Try 2 (Good 1))
    ∷ refuses (start 2) (StartLocked 4)
    ∷ accepts (Try 3 Wrong)
    ∷ refuses (start 4) (StartLocked 4)
    ∷ accepts (sign_in 5)
    ∷ accepts (start 5)
    ∷ []))

-- Lock 6 stands from an authority lock to an unlock.
abbrev pub locked_by_authority : List Exchange
locked_by_authority =
    accepted (ready 0)
    (accepts (AuthorityLock 1)
    ∷ refuses (start 2) (StartLocked 6)
    ∷ accepts (AuthorityUnlock 3)
    ∷ accepts (start 3)
    ∷ [])

-- Three voids of one second each, with the rests between them: a verdict.
abbrev pub incomplete : List Exchange → List Exchange
incomplete run =
    accepts (start 2)
    ∷ accepts (at_one Over)
    ∷ resting (accepts (at_one Over) ∷ resting (judges (at_one Over) Incomplete 0 0 0 0 ∷ run))

-- Lock 7 stands at two verdicts (U is 2), and until an upload; an unlock does not lift it.
abbrev pub unsent : List Exchange
unsent =
    accepted (ready 2)
    (incomplete
    (accepted (ready 2)
    (incomplete
    (accepted (ready 2)
    (refuses (start 2) (StartLocked 7)
    ∷ accepts (AuthorityUnlock 2)
    ∷ refuses (start 2) (StartLocked 7)
    ∷ accepts (Upload 2)
    ∷ accepts (start 2)
    ∷ [])))))
