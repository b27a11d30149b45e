-- Runs about the speed drop (document 02, A.4), in mode 1 at 25.0 km/h. Measuring begins after 11 seconds.
use Rattle.std.specs.Prelude.{ℕ, false, ◌≡◌, List, [], ◌∷◌, negsuc}
use Rattle.std.specs.Float.{fin}
use Rattle.reading.specs.declared.Reading.{Reading}
use Rattle.reading.specs.declared.Reading.TheVariants.{Value}
use Rattle.loaded_test.specs.declared.Word.TheVariants.{Pass}
use Rattle.loaded_test.specs.declared.Stage.TheVariants.{Measuring}
use Rattle.loaded_test.specs.declared.Progress.{Progress}
use Rattle.loaded_test.specs.Log.{Input, replay}
use Rattle.worked.specs.Events.{times, whole, clean, at_one, at_speed, at_two}
use Rattle.worked.specs.Answers.{Exchange, accepts, judges}
use Rattle.worked.specs.Tests.{started}
use Rattle.worked.specs.Voiding.{vehicle, units}

-- 193/8 km/h, which is 241 units: 9 below second 1.
abbrev pub nine_below : Reading
nine_below = Value (fin false 193 (negsuc 2))

-- 387/16 km/h, which is 242 units: 8 below.
abbrev pub eight_below : Reading
eight_below = Value (fin false 387 (negsuc 3))

-- 49/2 km/h, which is 245 units: 5 below.
abbrev pub five_below : Reading
five_below = Value (fin false 49 (negsuc 0))

-- n seconds at the target, in front of a run.
abbrev pub steady : ℕ → List Exchange → List Exchange
steady n run = times n (accepts (at_one clean)) run

-- A start, n seconds measured at the target and one at this speed, in front of a run.
abbrev pub dip_after : ℕ → Reading → List Exchange → List Exchange
dip_after n speed run = started (steady 11 (steady n (accepts (at_speed speed) ∷ run)))

-- A pass at the 25th second, with all 16 windows.
abbrev pub early : List Exchange
early = judges (at_one clean) Pass 25 16 0 0 ∷ []

-- A pass at the 90th, with all 81.
abbrev pub late : List Exchange
late = judges (at_one clean) Pass 90 81 0 0 ∷ []

-- "A dip at second 6 alone then keeps the test running": it passes at t = 90.
abbrev pub dip_of_nine : List Exchange
dip_of_nine = dip_after 5 nine_below (steady 83 late)

-- A dip of 8 does not.
abbrev pub dip_of_eight : List Exchange
dip_of_eight = dip_after 5 eight_below (steady 18 early)

-- Nor does a dip at second 11; one at second 10 does.
abbrev pub dip_at_eleven : List Exchange
dip_at_eleven = dip_after 10 nine_below (steady 13 early)

-- The last second that counts.
abbrev pub dip_at_ten : List Exchange
dip_at_ten = dip_after 9 nine_below (steady 79 late)

-- A dip before a restart is forgotten: three seconds out, and t begins anew.
abbrev pub dip_forgotten : List Exchange
dip_forgotten = dip_after 5 nine_below (times 3 (accepts (at_two clean)) (steady 24 early))

-- 5 below and then 9 below: the drop counts from second 1, not from the second before.
abbrev pub slow_fall : List Exchange
slow_fall = dip_after 1 five_below (accepts (at_speed nine_below) ∷ steady 86 late)

-- A rise is free, and so is the fall back to second 1's speed.
abbrev pub rise_free : List Exchange
rise_free = dip_after 1 (whole 26) (steady 22 early)

-- 25 measured seconds, the sixth at 241 units; newest first, with the 11 before them.
abbrev pub dipped : List Input
dipped = times 19 (units 250 85 100) (units 241 85 100 ∷ times 16 (units 250 85 100) [])

-- The counts after these.
abbrev pub progress : Progress
progress = (replay vehicle dipped).progress

-- At t = 25 with 16 passing windows the test with a dip of 9 at second 6 is still measuring.
pub record KeptRunning : Type 0 where
  pub stage : progress.stage ≡ Measuring
  pub t : progress.measuring.seconds ≡ 25
  pub passing : progress.measuring.windows.passing ≡ 16
