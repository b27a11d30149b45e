-- Document 01's refusal table with the rows that document 02 adds: the cause's number, and what is returned as the place.
use Rattle.std.specs.Prelude.{ℕ, List, ◌++◌, codes}
use Rattle.std.specs.Fmt.{decimal}
use Rattle.refusal.specs.declared.Refusal.{Refusal}
use Rattle.refusal.specs.declared.Refusal.TheVariants.{EndsEarly, CountNotAllowed, CodeUnfit, SettingUnfit, SaturationUnfit, StopUnfit, BytesLeft, ReadingUnfit, AfterVerdict, OutputShort, ClockEarlier, TestRunning, NoTest, StartLocked, CauseUnfit, InertiaUnfit, PowerUnfit, BackgroundUnfit, WideNotNeeded, EventUnfit, RowsNotAllowed}

-- A row's number.
abbrev pub number_of : Refusal → ℕ
number_of (EndsEarly size) = 1
number_of (CountNotAllowed offset) = 2
number_of (CodeUnfit offset) = 3
number_of (SettingUnfit place) = 4
number_of (SaturationUnfit place) = 5
number_of (StopUnfit offset) = 6
number_of (BytesLeft offset) = 7
number_of (ReadingUnfit place) = 8
number_of (AfterVerdict offset) = 9
number_of (OutputShort needed) = 10
number_of (ClockEarlier last) = 11
number_of TestRunning = 12
number_of NoTest = 13
number_of (StartLocked lock) = 14
number_of CauseUnfit = 15
number_of InertiaUnfit = 16
number_of PowerUnfit = 17
number_of (BackgroundUnfit code) = 18
number_of (WideNotNeeded offset) = 19
number_of (EventUnfit offset) = 20
number_of (RowsNotAllowed offset) = 21

-- "place returned"; 0 where the row has none.
abbrev pub place_of : Refusal → ℕ
-- record ends too early: its length
place_of (EndsEarly size) = size
-- count not allowed: offset of count
place_of (CountNotAllowed offset) = offset
-- code bad, twice, or required one absent: offset of code, or of count
place_of (CodeUnfit offset) = offset
-- setting out of range: offset, or 1 to 7 in a start
place_of (SettingUnfit place) = place
-- saturation value unfit: offset, or 0 in a start
place_of (SaturationUnfit place) = place
-- stop unfit: offset of its entry
place_of (StopUnfit offset) = offset
-- bytes left: offset of first
place_of (BytesLeft offset) = offset
-- reading unfit: offset (absent: row's start), or code in an event
place_of (ReadingUnfit place) = place
-- row or stop after verdict: its offset
place_of (AfterVerdict offset) = offset
-- output too short: length needed
place_of (OutputShort needed) = needed
-- clock earlier than the last: last clock
place_of (ClockEarlier last) = last
-- test running (all but power-on, second, stop)
place_of TestRunning = 0
-- second or stop, no test
place_of NoTest = 0
-- start locked: lock number
place_of (StartLocked lock) = lock
-- stop cause, V or U unfit
place_of CauseUnfit = 0
-- inertia of a coast-down run out of range (document 02, A.2)
place_of InertiaUnfit = 0
-- power of a coast-down run out of range (document 02, A.2)
place_of PowerUnfit = 0
-- background value of a prepare above its channel's greatest: the lowest such code (document 02, A.5)
place_of (BackgroundUnfit code) = code
-- wide form of the channels not needed: the count's offset (document 02, A.6)
place_of (WideNotNeeded offset) = offset
-- unknown kind of event in a journal, or a yes-or-no byte above 1: its offset (document 02, A.7)
place_of (EventUnfit offset) = offset
-- row count of a record to be salvaged more than is allowed: its offset (document 02, A.10)
place_of (RowsNotAllowed offset) = offset

-- "refused, number, place", with single spaces between.
abbrev pub refusal_text : Refusal → List ℕ
refusal_text r = codes "refused " ++ (decimal (number_of r) ++ (codes " " ++ decimal (place_of r)))
