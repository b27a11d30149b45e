-- Step 4: the counts of settling, n, g, u and w, in mode 1 and in mode 2.
use Rattle.std.specs.Prelude.{Bool, ◌&&◌, ◌||◌, not, leb, eqb}
use Rattle.refusal.specs.Choice.{pick}
use Rattle.reading.specs.declared.Second.{Second}
use Rattle.vehicle.specs.declared.Vehicle.{Vehicle}
use Rattle.vehicle.specs.declared.Mode.TheVariants.{One, Two}
use Rattle.vehicle.specs.Driving.{target_of}
use Rattle.attempt.specs.declared.SettlingCounts.{SettlingCounts}
use Rattle.attempt.specs.Counting.{bump, in_row, in_all}
use Rattle.attempt.specs.Ready.{within, ready}

-- n, g, u, w at 0.
abbrev pub no_settling : SettlingCounts
no_settling = record { seconds = 0; ready = 0; row = 0; all = 0 }

-- "g counts ready seconds in a row." It is read in settling alone, and counted there alone.
abbrev pub ready_counted : Bool → SettlingCounts → SettlingCounts
ready_counted is_ready k = record k { ready = in_row is_ready k.ready }

-- n grows by 1.
abbrev pub grown : SettlingCounts → SettlingCounts
grown k = record k { seconds = bump k.seconds }

-- "u counts out seconds in a row and w in all"
abbrev pub out_counted : Bool → SettlingCounts → SettlingCounts
out_counted out k = record k { row = in_row out k.row; all = in_all out k.all }

-- "at u = 2 or w = 5, n, u, w become 0"
unfoldable pub begun_anew : SettlingCounts → SettlingCounts
begun_anew k =
    pick (eqb k.row 2 || eqb k.all 5) (record k { seconds = 0; row = 0; all = 0 }) k

-- "While n ≤ 20, u counts out seconds in a row and w in all"
unfoldable pub watched : Bool → SettlingCounts → SettlingCounts
watched out k = pick (leb k.seconds 20) (begun_anew (out_counted out k)) k

-- "While n = 0 an out second does nothing; otherwise n grows by 1."
unfoldable pub settled_one : Bool → SettlingCounts → SettlingCounts
settled_one out k = pick (eqb k.seconds 0 && out) k (watched out (grown k))

-- "n starts at the first second within 15 of target, then counts all."
unfoldable pub settled_two : Bool → SettlingCounts → SettlingCounts
settled_two near k = pick (eqb k.seconds 0 && not near) k (grown k)

-- A counted second of settling in mode 1: "\"out\" is speed more than 50 from target."
unfoldable pub second_one : Vehicle → Second → SettlingCounts → SettlingCounts
second_one v s k = settled_one (not (within 50 s.speed (target_of v One))) (ready_counted (ready v One s) k)

-- A counted second of settling in mode 2.
unfoldable pub second_two : Vehicle → Second → SettlingCounts → SettlingCounts
second_two v s k = settled_two (within 15 s.speed (target_of v Two)) (ready_counted (ready v Two s) k)
