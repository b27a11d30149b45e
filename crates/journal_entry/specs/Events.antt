-- What a bench is given: the event of an entry.
use Rattle.reading.specs.Kind.{reading_of, readings_by}
use Rattle.locks.specs.declared.Event.{Event}
use Rattle.locks.specs.declared.Event.TheVariants as event
use Rattle.journal_entry.specs.declared.Entry.{Entry}
use Rattle.journal_entry.specs.declared.Fields.{Fields}
use Rattle.journal_entry.specs.declared.Fields.TheVariants.{PowerOn, ClockSetting, WarmUp, Calibration, Try, AuthorityLock, AuthorityUnlock, Upload, Start, Second, Stop, CoastDown, Prepare}
use Rattle.std.specs.Prelude.{ℕ}

-- What an event of this clock is that carries these fields: a second's bits are its readings.
abbrev pub event_with : ℕ → Fields → Event
event_with clock PowerOn = event.PowerOn clock
event_with clock (ClockSetting new) = event.ClockSetting clock new
event_with clock WarmUp = event.WarmUp clock
event_with clock (Calibration outcome) = event.Calibration clock outcome
event_with clock (Try outcome) = event.Try clock outcome
event_with clock AuthorityLock = event.AuthorityLock clock
event_with clock AuthorityUnlock = event.AuthorityUnlock clock
event_with clock Upload = event.Upload clock
event_with clock (Start settings p) = event.Start clock settings p
event_with clock (Second bits) = event.Second clock (readings_by reading_of bits)
event_with clock (Stop cause) = event.Stop clock cause
event_with clock (CoastDown run) = event.CoastDown clock run
event_with clock (Prepare check) = event.Prepare clock check

-- The event of an entry.
abbrev pub event_of : Entry → Event
event_of e = event_with e.clock e.fields
