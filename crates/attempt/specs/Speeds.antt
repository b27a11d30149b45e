-- The speed drop (document 02, A.4): "the drop counts at every second from 1 to 10." The speeds are those of the seconds of this t, newest first.
use Rattle.std.specs.Prelude.{ℕ, suc, ◌+◌, ◌-◌, ◌≤◌, Bool, List, [], ◌∷◌, leb, eqb, length, drop}
use Rattle.std.specs.List.{list_all}
use Rattle.refusal.specs.Choice.{pick}

-- The speed of measured second k, 0 where the run is shorter.
unfoldable pub speed_at : ℕ → List ℕ → ℕ
speed_at k [] = 0
speed_at k (speed ∷ l) = pick (eqb (suc (length l)) k) speed (speed_at k l)

-- The speeds of measured seconds 1 to 10: the oldest ten.
unfoldable pub first_ten : List ℕ → List ℕ
first_ten speeds = drop (length speeds - 10) speeds

-- A speed "at most 0.8 km/h below second 1's": 8 units.
abbrev pub held_at : ℕ → ℕ → Bool
held_at first speed = leb first (speed + 8)

-- Each of these speeds is at most 8 below.
unfoldable pub all_held : ℕ → List ℕ → Bool
all_held first l = list_all (held_at first) l

-- "An early pass now needs each of those ten speeds to be at most 0.8 km/h below second 1's."
unfoldable pub speed_held : List ℕ → Bool
speed_held speeds = all_held (speed_at 1 speeds) (first_ten speeds)

-- The same in numbers: of each of seconds 1 to 10, as far as there are so many.
abbrev pub SpeedHeld : List ℕ → Type 0
SpeedHeld speeds =
    (k : ℕ) → 1 ≤ k → k ≤ 10 → k ≤ length speeds → speed_at 1 speeds ≤ speed_at k speeds + 8
