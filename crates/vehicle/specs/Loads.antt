-- Set load and target speed of the two modes (document 01, "Limits and loads"; 004, tables A.1 and A.2).
use Rattle.std.specs.Prelude.{ℕ, suc, List, [], ◌∷◌, leb, get_or}
use Rattle.refusal.specs.Choice.{pick}
use Rattle.vehicle.specs.Limits.{moped}
use Rattle.vehicle.specs.declared.Aim.{Aim}
use Rattle.vehicle.specs.declared.Mode.{Mode}
use Rattle.vehicle.specs.declared.Mode.TheVariants.{One, Two}

-- The row of a table whose rows are "up to" the bounds, and above the last.
unfoldable pub row_up_to : ℕ → List ℕ → ℕ
row_up_to x [] = 0
row_up_to x (bound ∷ bounds) = pick (leb x bound) 0 (suc (row_up_to x bounds))

-- "by displacement up to 50, 100, 125, 200, 250 ml, above"
unfoldable pub displacement_bounds : List ℕ
displacement_bounds = 50 ∷ 100 ∷ 125 ∷ 200 ∷ 250 ∷ []

-- "Set load P in 0.01 kW .. mode 1: 25, 35, 85, 120, 180, 225; mode 2: 20, 27, 69, 100, 150, 187"
unfoldable pub loads : Mode → List ℕ
loads One = 25 ∷ 35 ∷ 85 ∷ 120 ∷ 180 ∷ 225 ∷ []
loads Two = 20 ∷ 27 ∷ 69 ∷ 100 ∷ 150 ∷ 187 ∷ []

-- P by the displacement's row and the mode.
unfoldable pub load_for : ℕ → Mode → ℕ
load_for displacement mode = get_or (loads mode) (row_up_to displacement displacement_bounds) 0

-- "Target speed: motorcycle 250 then 400, moped 200 then 300."
unfoldable pub target_for : ℕ → Mode → ℕ
target_for kind One = pick (moped kind) 200 250
target_for kind Two = pick (moped kind) 300 400

-- What a mode asks of a vehicle: its target speed and set load.
abbrev pub aim_for : ℕ → ℕ → Mode → Aim
aim_for kind displacement mode = record { speed = target_for kind mode; load = load_for displacement mode }
