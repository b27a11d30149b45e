-- Runs about prepares (document 02, A.5): what they do to lock 8, and which are refused.
use Rattle.refusal.specs.declared.Refusal.TheVariants.{SettingUnfit, SaturationUnfit, ClockEarlier, TestRunning, StartLocked, BackgroundUnfit}
use Rattle.std.specs.Prelude.{List, [], ◌∷◌}
use Rattle.locks.specs.declared.Event.TheVariants.{PowerOn, ClockSetting, AuthorityLock, AuthorityUnlock, Start}
use Rattle.worked.specs.Events.{preparing, prepared, sign_in, unprepared, ready, motorcycle, start}
use Rattle.worked.specs.Answers.{Exchange, accepts, refuses, accepted}
use Rattle.worked.specs.Locking.{incomplete}

-- Prepare, start, verdict, start again: lock 8, until the next prepare.
abbrev pub used_up : List Exchange
used_up =
    accepted (unprepared 2)
    (refuses (start 2) (StartLocked 8)
    ∷ accepts (prepared 2)
    ∷ incomplete (refuses (start 2) (StartLocked 8) ∷ accepts (prepared 2) ∷ accepts (start 2) ∷ []))

-- A test that power-on ends gives no prepare back.
abbrev pub used_up_by_power_on : List Exchange
used_up_by_power_on =
    accepted (ready 0)
    (accepts (start 0) ∷ accepts (PowerOn 1) ∷ accepted (unprepared 1) (refuses (start 1) (StartLocked 8) ∷ []))

-- A start that is refused, by 14, 4, 5 or 11, leaves the prepare.
abbrev pub refused_start : List Exchange
refused_start =
    accepted (ready 5)
    (accepts (AuthorityLock 6)
    ∷ refuses (start 6) (StartLocked 6)
    ∷ accepts (AuthorityUnlock 6)
    ∷ refuses (Start 6 (motorcycle 0 2) 2339) (SettingUnfit 3)
    ∷ refuses (Start 6 (motorcycle 125 2) 499) (SaturationUnfit 0)
    ∷ refuses (start 5) (ClockEarlier 6)
    ∷ accepts (start 6)
    ∷ [])

-- Clock setting and power-on void a prepare.
abbrev pub prepare_voided : List Exchange
prepare_voided =
    accepted (ready 5)
    (accepts (ClockSetting 6 6)
    ∷ accepted (unprepared 6)
    (refuses (start 6) (StartLocked 8)
    ∷ accepts (prepared 6)
    ∷ accepts (PowerOn 7)
    ∷ accepted (unprepared 7) (refuses (start 7) (StartLocked 8) ∷ accepts (prepared 7) ∷ accepts (start 7) ∷ [])))

-- 121 s after a prepare a start is locked, 120 s after it is admitted.
abbrev pub two_minutes : List Exchange
two_minutes = accepted (ready 0) (accepts (sign_in 100) ∷ refuses (start 121) (StartLocked 8) ∷ accepts (start 120) ∷ [])

-- One that does not stand, by each value alone, takes the place of one that did; the residues are 8, -1 and -32,768.
abbrev pub failed_prepare_last : List Exchange
failed_prepare_last =
    accepted (ready 0)
    (accepts (preparing 1 15 1 24 7)
    ∷ refuses (start 1) (StartLocked 8)
    ∷ accepts (preparing 1 14 2 24 7)
    ∷ refuses (start 1) (StartLocked 8)
    ∷ accepts (preparing 1 14 1 25 7)
    ∷ refuses (start 1) (StartLocked 8)
    ∷ accepts (preparing 1 14 1 24 8)
    ∷ refuses (start 1) (StartLocked 8)
    ∷ accepts (preparing 1 14 1 24 65535)
    ∷ refuses (start 1) (StartLocked 8)
    ∷ accepts (preparing 1 14 1 24 32768)
    ∷ refuses (start 1) (StartLocked 8)
    ∷ accepts (preparing 1 0 0 0 0)
    ∷ accepts (start 1)
    ∷ [])

-- 11, then 12, then 18 at the lowest code; a refused prepare leaves the standing one, and the greatest values are accepted.
abbrev pub prepares_refused : List Exchange
prepares_refused =
    accepted (ready 5)
    (refuses (preparing 4 10000 0 0 0) (ClockEarlier 5)
    ∷ refuses (preparing 6 10000 2001 5001 0) (BackgroundUnfit 4)
    ∷ refuses (preparing 6 9999 2001 5001 65535) (BackgroundUnfit 5)
    ∷ refuses (preparing 6 9999 2000 5001 65535) (BackgroundUnfit 6)
    ∷ accepts (start 5)
    ∷ refuses (preparing 4 10000 0 0 0) (ClockEarlier 5)
    ∷ refuses (preparing 6 10000 0 0 0) TestRunning
    ∷ accepts (PowerOn 6)
    ∷ accepts (preparing 6 9999 2000 5000 65535)
    ∷ [])

-- A prepare does not renew lock 2.
abbrev pub prepare_renews_nothing : List Exchange
prepare_renews_nothing = accepted (ready 0) (accepts (prepared 1801) ∷ refuses (start 1801) (StartLocked 2) ∷ [])
