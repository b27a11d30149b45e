-- "Sum 600: neither ready nor void; 599: void." Assumes nothing.
use mathlib.Core.Bool.{false}
use mathlib.Core.Path.{◌≡◌}
use Rattle.std.proofs.Math.Bool.{and-false}
use Rattle.reading.specs.declared.Second.{Second}
use Rattle.correction.specs.Dilution.{dilution_sum}
use Rattle.vehicle.specs.declared.Vehicle.{Vehicle}
use Rattle.vehicle.specs.declared.Mode.{Mode}
use Rattle.attempt.specs.Laws.{SixHundred}
use Rattle.attempt.specs.Ready.{ready}

six_hundred_unready :
    (v : Vehicle) (mode : Mode) (s : Second) → dilution_sum s.co2 s.co ≡ 600 → ready v mode s ≡ false
unfolding ready
six_hundred_unready v mode s e = rw (e, and-false)

pub six_hundred : SixHundred
six_hundred = record { clear = λ s e. rw e; unready = six_hundred_unready; below = λ s e. rw e }
