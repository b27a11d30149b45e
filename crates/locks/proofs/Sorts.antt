-- An event is a start, a second, a stop, or none of these. Assumes nothing.
use Prim.Native.Nat.{ℕ}
use mathlib.Core.Bool.{false, ◌||◌}
use mathlib.Core.Path.{◌≡◌, refl}
use Rattle.reading.specs.Kind.{Readings}
use Rattle.vehicle.specs.declared.Settings.{Settings}
use Rattle.locks.specs.declared.Event.{Event}
use Rattle.locks.specs.declared.Event.TheVariants.{Start, Second, Stop}
use Rattle.locks.specs.declared.Service.{Service}
use Rattle.locks.specs.declared.Carried.TheVariants as carried
use Rattle.locks.specs.declared.Kind.TheVariants as kind
use Rattle.locks.specs.Events.{kind_of, same_kind, carried_by}

-- What holds of an event that is none of the three.
pub record Serves (e : Event) : Type 0 where
  pub service : Service
  pub carries : carried_by e ≡ carried.Service service
  pub not_start : same_kind (kind_of e) kind.Start ≡ false
  pub not_inside : same_kind (kind_of e) kind.Second || same_kind (kind_of e) kind.Stop ≡ false

pub data Sort : Event → Type 0 where
  serves : (e : Event) → Serves e → Sort e
  starts : (clock : ℕ) (settings : Settings) (p : ℕ) → Sort (Start clock settings p)
  measures : (clock : ℕ) (readings : Readings) → Sort (Second clock readings)
  stops : (clock cause : ℕ) → Sort (Stop clock cause)

serving :
    (e : Event) (x : Service) →
    carried_by e ≡ carried.Service x →
    same_kind (kind_of e) kind.Start ≡ false →
    same_kind (kind_of e) kind.Second || same_kind (kind_of e) kind.Stop ≡ false →
    Sort e
serving e x c n i = serves e (record { service = x; carries = c; not_start = n; not_inside = i })

pub sort_of : (e : Event) → Sort e
sort_of (Start clock settings p) = starts clock settings p
sort_of (Second clock readings) = measures clock readings
sort_of (Stop clock cause) = stops clock cause
sort_of e = serving e _ refl refl refl
