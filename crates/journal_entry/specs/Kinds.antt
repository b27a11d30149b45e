-- The kinds of event by their numbers: "20 unknown event kind".
use Rattle.std.specs.Prelude.{ℕ, Bool, List, [], ◌∷◌, find, eqb, Option}
use Rattle.locks.specs.declared.Kind.{Kind}
use Rattle.locks.specs.declared.Kind.TheVariants.{PowerOn, ClockSetting, WarmUp, Calibration, Try, AuthorityLock, AuthorityUnlock, Upload, Start, Second, Stop, CoastDown, Prepare}
use Rattle.locks.specs.Events.{kind_number}

-- The kinds that are known, in the order of their numbers.
abbrev pub kinds : List Kind
kinds =
    PowerOn
    ∷ ClockSetting
    ∷ WarmUp
    ∷ Calibration
    ∷ Try
    ∷ AuthorityLock
    ∷ AuthorityUnlock
    ∷ Upload
    ∷ Start
    ∷ Second
    ∷ Stop
    ∷ CoastDown
    ∷ Prepare
    ∷ []

-- Whether a kind has this number.
abbrev pub has_number : ℕ → Kind → Bool
has_number number kind = eqb (kind_number kind) number

-- The kind of a number, if there is one.
unfoldable pub kind_of : ℕ → Option Kind
kind_of number = find (has_number number) kinds
