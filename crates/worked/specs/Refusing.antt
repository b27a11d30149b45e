-- Runs about the refusal table and the clock: which event is refused, by which number and at which place.
use Rattle.refusal.specs.declared.Refusal.TheVariants.{SettingUnfit, SaturationUnfit, ReadingUnfit, ClockEarlier, TestRunning, NoTest, StartLocked, CauseUnfit}
use Rattle.std.specs.Prelude.{List, [], ◌∷◌}
use Rattle.loaded_test.specs.declared.Word.TheVariants.{Pass}
use Rattle.locks.specs.declared.Event.TheVariants.{PowerOn, ClockSetting, WarmUp, Upload, Start, Second, Stop}
use Rattle.reading.specs.declared.Reading.TheVariants.{Missing}
use Rattle.worked.specs.Events.{times, ready, motorcycle, start, one, clean, unfit}
use Rattle.worked.specs.Answers.{Exchange, accepts, refuses, judges, accepted}

-- One event refused by each of 4, 5, 13, 11, 12, 8 and 15, with its place; then the test passes as if they had not been given.
abbrev pub one_of_each : List Exchange
one_of_each =
    accepted (ready 5)
    (refuses (Start 6 (motorcycle 0 2) 2339) (SettingUnfit 3)
    ∷ refuses (Start 6 (motorcycle 125 2) 499) (SaturationUnfit 0)
    ∷ refuses (Second 6 (one Missing clean)) NoTest
    ∷ refuses (PowerOn 4) (ClockEarlier 5)
    ∷ accepts (start 5)
    ∷ refuses (Upload 6) TestRunning
    ∷ refuses (Second 6 unfit) (ReadingUnfit 5)
    ∷ refuses (Stop 6 5) CauseUnfit
    ∷ times 35 (accepts (Second 5 (one Missing clean))) (judges (Second 5 (one Missing clean)) Pass 25 16 0 0 ∷ []))

-- Where several rows of the table stand, the first in the order 11, 12 or 13, 4, 5, 15 or 8, 14 refuses.
abbrev pub first_of_several : List Exchange
first_of_several =
    accepts (WarmUp 5)
    ∷ refuses (Start 4 (motorcycle 0 3) 499) (ClockEarlier 5)
    ∷ refuses (Start 5 (motorcycle 0 3) 499) (SettingUnfit 3)
    ∷ refuses (Start 5 (motorcycle 125 2) 499) (SaturationUnfit 0)
    ∷ refuses (start 5) (StartLocked 3)
    ∷ refuses (Second 4 unfit) (ClockEarlier 5)
    ∷ refuses (Second 5 unfit) NoTest
    ∷ refuses (Stop 4 0) (ClockEarlier 5)
    ∷ refuses (Stop 5 0) NoTest
    ∷ accepted (ready 5)
    (accepts (start 5)
    ∷ refuses (Start 4 (motorcycle 0 3) 499) (ClockEarlier 5)
    ∷ refuses (Start 5 (motorcycle 0 3) 499) TestRunning
    ∷ refuses (Second 4 unfit) (ClockEarlier 5)
    ∷ refuses (Second 5 unfit) (ReadingUnfit 5)
    ∷ [])

-- An upload refused 12 does not move the clock: a second with an earlier clock than its own is accepted.
abbrev pub clock_kept : List Exchange
clock_kept =
    accepted (ready 0)
    (accepts (start 0)
    ∷ refuses (Upload 50) TestRunning
    ∷ accepts (Second 2 (one Missing clean))
    ∷ refuses (Stop 1 1) (ClockEarlier 2)
    ∷ [])

-- 32 bits of clock: the calibration's with V, the warm-up's with 1,800 and the prepare's with 120 lie beyond 2^32, and nothing wraps;
-- after the greatest clock a smaller one is earlier, until a clock setting.
abbrev pub greatest_clocks : List Exchange
greatest_clocks =
    accepted (ready 4294967180)
    (accepts (start 4294967190)
    ∷ accepts (Second 4294967295 (one Missing clean))
    ∷ refuses (Second 0 (one Missing clean)) (ClockEarlier 4294967295)
    ∷ accepts (PowerOn 4294967295)
    ∷ accepts (ClockSetting 4294967295 3)
    ∷ accepted (ready 3) (accepts (start 3) ∷ []))
